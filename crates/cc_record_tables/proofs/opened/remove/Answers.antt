use Rattle.std.proofs.Common.{◌≡◌, Some, arith}
use Rattle.cc_record_tables.specs.Opened.{place_from}
use Rattle.cc_record_tables.proofs.OpenFacts.{removed_first}
use Rattle.cc_record_tables.proofs.opened.remove.Goals as goal

pub remove-requires : goal.remove-requires
remove-requires c =
    let at : place_from 0 c.loop-i.acts.items c.args.act ≡ Some c.in-Some.i = (let a = c.deref.ensures.value in let b = c.place.ensures in let d = c.in-Some.is in cc) in
    omega (arith, (removed_first c.args.act c.in-Some.i c.loop-i.acts.items at).0, c.loop-i.acts.ok.0)
