-- The modes of declarators, and the readers of what stands inside.
use Rattle.std.specs.Prelude.{ℕ, zero, suc}
use Rattle.cc_grammar.specs.Names.{Names}
use Rattle.cc_grammar.specs.Reading as spec
use Rattle.cc_parse_expr.specs.declared.grammar.Grammar.{Grammar}
use Rattle.cc_parse_expr.specs.declared.mode.Mode.{Mode}
use Rattle.cc_parse_expr.specs.declared.mode.Mode.TheVariants as the_mode

abbrev pub mode_of : Mode → spec.Mode
mode_of the_mode.Named = spec.with_name
mode_of the_mode.Abstract = spec.without_name
mode_of the_mode.Either = spec.with_or_without

-- the readers of what stands in a counted node, where that may be as deep as the number
abbrev pub inner_at : Names → ℕ → spec.Inner
inner_at names zero = spec.no_inner
inner_at names (suc d) = spec.readers names d

module _ {E S D : Type 0} where
  -- the readers of what stands inside
  abbrev pub inner_of : Grammar E S D → spec.Inner
  inner_of rules = inner_at rules.names.now rules.depth

  -- a rule of the grammar with these names, over those readers, at this depth
  abbrev pub by : {A : Type 0} → Grammar E S D → (Names → spec.Inner → ℕ → A) → A
  by rules rule = rule rules.names.now (inner_of rules) rules.depth
