-- What is asked of the functions that read what stands inside: each gives what the reader one level deeper gives. Where no depth is
-- left, nothing is asked of them.
use Rattle.std.specs.Prelude.{ℕ, ◌-◌, ◌<◌, List, Result}
use Rattle.std.specs.declared.alloc.Global.{Global}
use denote.Ref.{Bor, MutBor}
use Rattle.cc_base.specs.declared.place.Spot.{Spot}
use Rattle.cc_lex.specs.declared.token.Token.{Token}
use Rattle.cc_tree.specs.declared.expr.Expr.{Expr}
use Rattle.cc_tree.specs.declared.expr.Spec.{Spec}
use Rattle.cc_tree.specs.declared.expr.Declarator.{Declarator}
use Rattle.cc_tree.specs.Views.{view, view_declarator, specs_of}
use Rattle.cc_grammar.specs.Names.{Names}
use Rattle.cc_grammar.specs.Reading.{readers}
use Rattle.cc_parse_tokens.specs.declared.fault.Fault.{Fault}
use Rattle.cc_parse_tokens.specs.Gives.{Gives}
use Rattle.cc_parse_expr.specs.declared.grammar.Grammar.{Grammar}
use Rattle.cc_parse_expr.specs.declared.mode.Mode.{Mode}
use Rattle.cc_parse_expr.specs.Modes.{mode_of}

pub record Nests {E S D : Type 0} (rules : Grammar E S D)
    (expr_pre : E → Global → MutBor (List Token) → Bor Names → ℕ → ℕ → Type 0)
    (expr_post : E → Global → MutBor (List Token) → Bor Names → ℕ → ℕ → Result (Expr Spot) Fault → MutBor (List Token) → Type 0)
    (specs_pre : S → Global → MutBor (List Token) → Bor Names → ℕ → Type 0)
    (specs_post : S → Global → MutBor (List Token) → Bor Names → ℕ → Result (List (Spec Spot)) Fault → MutBor (List Token) → Type 0)
    (declarator_pre : D → Global → MutBor (List Token) → Bor Names → ℕ → Mode → Type 0)
    (declarator_post : D → Global → MutBor (List Token) → Bor Names → ℕ → Mode → Result (Declarator Spot) Fault → MutBor (List Token) → Type 0) : Type 0 where
  pub expr_callable : 0 < rules.depth → (alloc : Global) (old : MutBor (List Token)) (names : Bor Names) (least : ℕ) → expr_pre rules.expr alloc old names (rules.depth - 1) least
  pub expr_gives : 0 < rules.depth → (alloc : Global) (old new : MutBor (List Token)) (names : Bor Names) (least : ℕ) (r : Result (Expr Spot) Fault)
      → expr_post rules.expr alloc old names (rules.depth - 1) least r new → Gives view ((readers names.now (rules.depth - 1)).expr least old.now) r new.now
  pub specs_callable : 0 < rules.depth → (alloc : Global) (old : MutBor (List Token)) (names : Bor Names) → specs_pre rules.specs alloc old names (rules.depth - 1)
  pub specs_gives : 0 < rules.depth → (alloc : Global) (old new : MutBor (List Token)) (names : Bor Names) (r : Result (List (Spec Spot)) Fault)
      → specs_post rules.specs alloc old names (rules.depth - 1) r new → Gives specs_of ((readers names.now (rules.depth - 1)).specs old.now) r new.now
  pub declarator_callable : 0 < rules.depth → (alloc : Global) (old : MutBor (List Token)) (names : Bor Names) (mode : Mode) → declarator_pre rules.declarator alloc old names (rules.depth - 1) mode
  pub declarator_gives : 0 < rules.depth → (alloc : Global) (old new : MutBor (List Token)) (names : Bor Names) (mode : Mode) (r : Result (Declarator Spot) Fault)
      → declarator_post rules.declarator alloc old names (rules.depth - 1) mode r new → Gives view_declarator ((readers names.now (rules.depth - 1)).declarator (mode_of mode) old.now) r new.now
