use Rattle.std.proofs.Common.{◌++◌, map, ap, ◌∙◌}
use Rattle.cc_project.specs.Project.{files_in}
use Rattle.cc_project.specs.Values.{text_of, items_in}
use Rattle.cc_project.proofs.Copies.{all_files_more, all_files}
use Rattle.cc_project.proofs.content.files.Goals as goal

pub loop-i-preserved : goal.loop-i-preserved
loop-i-preserved c = all_files_more c.loop-i.i c.loop-i.list c.add_files.new.list _ c.args.items.now c.index-items-i.result
    c.loop-i-test.true c.index-items-i.is c.loop-i.invariant
    (c.in_ok-add_files.ensures ∙ ap (λ ds. c.loop-i.list ++ files_in c.loop-i.i (map text_of ds)) (c.items_in.ensures ∙ ap items_in c.at_key.ensures))

pub returns : goal.returns
returns c = all_files c.loop-i.i _ _ c.args.items.now c.loop-i-test.false c.loop-i.invariant
