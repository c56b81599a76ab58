use Rattle.std.proofs.Common.{ap, ◌∙◌}
use Rattle.cc_project.proofs.Copies.{files_more, files_all, one_file}
use Rattle.cc_project.proofs.content.add_files.Goals as goal

pub loop-item-preserved : goal.loop-item-preserved
loop-item-preserved c = files_more c.args.i c.loop-item.item-index c.loop-item.list c.push.new.self _ c.args.items.now c.item-item.result
    c.loop-item-test.true c.item-item.is c.loop-item.invariant (c.in_ok-push.ensures.ok ∙ ap (λ name. one_file c.args.i c.loop-item.list name) (c.in_ok-name.ensures ∙ c.text_of.ensures))

pub returns : goal.returns
returns c = files_all c.args.i c.loop-item.item-index _ _ c.args.items.now c.loop-item-test.false c.loop-item.invariant
