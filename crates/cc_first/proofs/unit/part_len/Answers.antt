use Rattle.std.proofs.Common.{◌≡◌, ◌+◌, ◌*◌, ◌∙◌, ap, ℕ, length, map, arith}
use Rattle.std.proofs.lemmas.List.{length-map}
use Rattle.cc_first.specs.Unit.{part_tokens}
use Rattle.cc_first.specs.Views.{name_view, part_view}
use Rattle.cc_first.proofs.UnitReads.{definition_len}
use Rattle.cc_first.proofs.unit.part_len.Goals as goal

len_is : (c : goal.After-len) → length (part_tokens (part_view c.args.part.now)) ≡ 7 + 4 * c.len.result
len_is c =
    let n : length (map name_view c.in-Definition.calls.items) ≡ c.len.result = omega (arith, length-map c.in-Definition.calls.items name_view, c.in-Definition.calls.ok, c.len.ensures) in
    rw c.in-Definition.is (definition_len (name_view c.in-Definition.field-0) (map name_view c.in-Definition.calls.items) ∙ ap (λ (k : ℕ). 7 + 4 * k) n)

pub overflow_mul-result : goal.overflow_mul-result
overflow_mul-result c = omega (arith, len_is c, c.requires)

pub overflow_add-result-in-Definition-2 : goal.overflow_add-result-in-Definition-2
overflow_add-result-in-Definition-2 c = omega (arith, len_is c, c.requires)

pub returns-in-Definition : goal.returns-in-Definition
returns-in-Definition c = omega (arith, len_is c)
