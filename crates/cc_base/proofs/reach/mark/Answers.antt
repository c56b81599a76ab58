use Rattle.std.proofs.Common.{rules, ◌≡◌, true, false, ap, ◌∙◌, Some, refl, length}
use Rattle.std.proofs.lemmas.Option.{slice_get_read}
use Rattle.cc_base.proofs.Marks.{marks_new, marks_old}
use Rattle.cc_base.proofs.reach.mark.Goals as goal

pub returns-in_ok-push : goal.returns-in_ok-push
returns-in_ok-push c =
    let at = slice_get_read c.args.marks.now.items (length c.args.marks.now.items) c.args.point c.index.result.now refl c.requires c.index.ensures in
    let is : c.index.result.now ≡ false = search rules in
    rw c.in_ok-push.ensures.items (marks_new _ _ _ (at ∙ ap Some is) c.requires)

pub returns-else-not-index : goal.returns-else-not-index
returns-else-not-index c =
    let at = slice_get_read c.args.marks.now.items (length c.args.marks.now.items) c.args.point c.index.result.now refl c.requires c.index.ensures in
    let is : c.index.result.now ≡ true = search rules in
    marks_old _ _ _ (at ∙ ap Some is)
