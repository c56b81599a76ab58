-- Initialisers of scalars.
use Rattle.std.specs.Prelude.{ℕ, ◌+◌, nat_eq, Bool, true, false, ◌&&◌, if◌then◌else◌, Option, Some, None}
use Rattle.std.specs.Option.{is_none}
use Rattle.cc_tree.specs.Trees.{ExprTree, ValueTree, single, braces, ValueTrees, no_values, more_values}
use Rattle.cc_tree_notes.specs.declared.note.Counted.{Counted}
use Rattle.cc_tree_walks.specs.Notes.{expr_note}
use Rattle.cc_types.specs.declared.shape.Shape.{Shape}
use Rattle.cc_types.specs.declared.expr_type.ExprType.{ExprType}
use Rattle.cc_types.specs.declared.expr_type.ExprType.TheVariants.{Plain}
use Rattle.cc_symbols.specs.declared.declared.Life.{Life}
use Rattle.cc_symbols.specs.declared.declared.Life.TheVariants.{Static}
use Rattle.cc_symbols.specs.declared.findings.Findings.{Findings}
use Rattle.cc_symbols.specs.declared.symbols.Symbols.{Symbols}
use Rattle.cc_judging.specs.Asking.{is_integer}
use Rattle.cc_typing.specs.Noting.{offended}
use Rattle.cc_typing.specs.Checks.{fit_checked}
use Rattle.cc_constants.specs.Values.{constant}
use Rattle.cc_check_values.specs.Typed.{type_of, misshapen}
use Rattle.cc_check_values.specs.Statics.{is_static_value}

abbrev pub is_single : ValueTree Counted → Bool
is_single (single e) = true
is_single v = false

-- from this number on there is none but the first, which is an expression
abbrev pub is_lone : ℕ → ValueTrees Counted → Bool
is_lone i no_values = true
is_lone i (more_values v vs) = (nat_eq i 0 && is_single v) && is_lone (1 + i) vs

-- C26
abbrev pub form_checked : Symbols → ExprTree Counted → Findings → Findings
form_checked st e f = if is_static_value st f e then f else offended (expr_note e).spot 26 f

-- C27
abbrev pub constant_checked : Symbols → Shape → ExprTree Counted → Findings → Findings
constant_checked st a e f =
    if is_integer st.types (Plain a) && is_none (constant st f e) then offended (expr_note e).spot 27 f else f

abbrev pub static_checked : Symbols → Life → Shape → ExprTree Counted → Findings → Findings
static_checked st Static a e f = constant_checked st a e (form_checked st e f)
static_checked st life a e f = f

-- what a scalar begins with, which has this type
abbrev pub typed_checked : Symbols → Life → Shape → ExprTree Counted → Option ExprType → Findings → Findings
typed_checked st life a e (Some t) f = fit_checked st (Some (Plain a)) e (Some t) (static_checked st life a e f)
typed_checked st life a e None f = f

abbrev pub only_checked : Symbols → Life → Shape → ValueTree Counted → Findings → Findings
only_checked st life a (single e) f = typed_checked st life a e (type_of f e) f
only_checked st life a v f = f

abbrev pub each_checked : Symbols → Life → Shape → ValueTrees Counted → Findings → Findings
each_checked st life a no_values f = f
each_checked st life a (more_values v vs) f = each_checked st life a vs (only_checked st life a v f)

-- an initialiser with these in its braces: one expression
abbrev pub lone_checked : Symbols → Life → Shape → ValueTree Counted → ValueTrees Counted → Findings → Findings
lone_checked st life a v vs f = if is_lone 0 vs then each_checked st life a vs f else misshapen v f
