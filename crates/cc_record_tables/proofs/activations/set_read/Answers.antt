use Rattle.std.proofs.Common.{◌≡◌, Some, None, arith}
use Rattle.cc_record_tables.specs.ActivationTable.{place_from}
use Rattle.cc_record_tables.proofs.ActivationFacts.{read_set_first, read_set_none, place_none}
use Rattle.cc_record_tables.proofs.activations.set_read.Goals as goal

pub index_mut-requires : goal.index_mut-requires
index_mut-requires c =
    let at : place_from 0 c.args.reads.now.items c.args.occ ≡ Some c.in-Some.i = (let a = c.deref.ensures.value in let b = c.place.ensures in let d = c.in-Some.is in cc) in
    omega (arith, (read_set_first c.args.reads.now.items c.args.occ c.in-Some.i c.args.definition at).0, c.args.reads.now.ok.0)

pub returns-in-Some : goal.returns-in-Some
returns-in-Some c =
    let at : place_from 0 c.args.reads.now.items c.args.occ ≡ Some c.in-Some.i = (let a = c.deref.ensures.value in let b = c.place.ensures in let d = c.in-Some.is in cc) in
    (read_set_first c.args.reads.now.items c.args.occ c.in-Some.i c.args.definition at).1

pub returns-in_default : goal.returns-in_default
returns-in_default c =
    let at : place_from 0 c.args.reads.now.items c.args.occ ≡ None = (let a = c.deref.ensures.value in let b = c.place.ensures in let d = c.in_default.is in cc) in
    read_set_none c.args.reads.now.items c.args.occ c.args.definition (place_none c.args.reads.now.items 0 c.args.occ at)
