use Rattle.std.proofs.Common.{◌≡◌, ◌++◌, ◌∷◌, [], length, refl, true, false}
use Rattle.std.proofs.lemmas.Option.{slice_get_read}
use Rattle.std.proofs.lemmas.Bool.{false≢true}
use Rattle.cc_blocks.proofs.Passing.{pass_new, pass_old}
use Rattle.cc_blocks.proofs.sweeping.pass.Goals as goal

pub returns-in_ok-push : goal.returns-in_ok-push
returns-in_ok-push c =
    let reach = c.args.reach.now.items in
    let at = slice_get_read reach (length reach) c.args.point c.index.result.now refl c.requires c.index.ensures in
    rw c.in_ok-push.ensures.items (pass_new reach c.args.work.now.items c.args.point c.index.result.now c.unite.new.self c.args.block.now at c.requires c.unite.ensures.bits (c.unite.ensures.grew.0 c.if-unite.true))

pub returns-else-unite : goal.returns-else-unite
returns-else-unite c =
    let reach = c.args.reach.now.items in
    let at = slice_get_read reach (length reach) c.args.point c.index.result.now refl c.requires c.index.ensures in
    pass_old reach c.args.work.now.items c.args.point c.index.result.now c.unite.new.self c.args.block.now at c.requires c.unite.ensures.bits (λ more. let t = c.unite.ensures.grew.1 more in let f = c.if-unite.false in cc)
