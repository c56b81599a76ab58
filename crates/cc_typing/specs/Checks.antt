-- Rules on the value of an expression that stands by itself: C32 and C38.
use Rattle.std.specs.Prelude.{ℕ, Bool, Option, Some, None, if◌then◌else◌}
use Rattle.cc_base.specs.declared.place.Spot.{Spot}
use Rattle.cc_tree.specs.Trees.{ExprTree}
use Rattle.cc_tree_notes.specs.declared.note.Counted.{Counted}
use Rattle.cc_tree_walks.specs.Notes.{expr_note}
use Rattle.cc_symbols.specs.declared.findings.Findings.{Findings}
use Rattle.cc_symbols.specs.declared.offence.Offence.{Offence}
use Rattle.cc_symbols.specs.declared.symbols.Symbols.{Symbols}
use Rattle.cc_types.specs.declared.expr_type.ExprType.{ExprType}
use Rattle.cc_types.specs.Asked.{value_in}
use Rattle.cc_types.specs.Structs.{fits_in}
use Rattle.cc_judging.specs.Asking.{is_integer, is_scalar}
use Rattle.cc_typing.specs.Forms.{is_null}
use Rattle.cc_typing.specs.Noting.{kept}

-- an offence, unless a test holds
abbrev pub unless : Bool → Spot → ℕ → Option Offence
unless holds spot rule = if holds then None else Some (record { spot = spot; rule = rule })

-- the value of an expression fits a type, or it offends
abbrev pub fitted : Symbols → ExprType → ExprTree Counted → ExprType → Findings → Findings
fitted s target e t f =
    kept (unless (fits_in s.types s.structs (value_in s.types t) (is_null s e) target) (expr_note e).spot 38) f

-- the same, if both have a type
abbrev pub fit_checked : Symbols → Option ExprType → ExprTree Counted → Option ExprType → Findings → Findings
fit_checked s (Some target) e (Some t) f = fitted s target e t f
fit_checked s target e t f = f

-- a condition, of this type if it has one
abbrev pub scalar_checked : Symbols → ExprTree Counted → Option ExprType → Findings → Findings
scalar_checked s e (Some t) f = kept (unless (is_scalar s.types (value_in s.types t)) (expr_note e).spot 32) f
scalar_checked s e None f = f

-- what a `switch` at this place asks
abbrev pub integer_checked : Symbols → Spot → Option ExprType → Findings → Findings
integer_checked s spot (Some t) f = kept (unless (is_integer s.types (value_in s.types t)) spot 32) f
integer_checked s spot None f = f
