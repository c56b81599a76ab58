use Rattle.std.proofs.Common.{[], ◌∷◌, ◌++◌, ap, ◌∙◌, rules}
use Rattle.std.proofs.lemmas.Int.{to_z-of_z}
use mir.Syntax.{w64}
use Rattle.cc_project.specs.Values.{integer_of}
use Rattle.cc_project.proofs.Copies.{copied_more, copied_all}
use Rattle.cc_project.proofs.content.integers.Goals as goal

pub loop-item-preserved : goal.loop-item-preserved
loop-item-preserved c = copied_more integer_of c.loop-item.item-index c.loop-item.list c.push.new.self _ c.args.items.now c.item-item.result
    c.loop-item-test.true c.item-item.is c.loop-item.invariant (c.in_ok-push.ensures.ok ∙ ap (λ x. c.loop-item.list ++ x ∷ []) (to_z-of_z w64 c.integer.result (search rules) ∙ c.integer.ensures))

pub returns : goal.returns
returns c = copied_all integer_of c.loop-item.item-index _ _ c.args.items.now c.loop-item-test.false c.loop-item.invariant
