use Rattle.std.proofs.Common.{refl}
use Rattle.cc_record_tables.proofs.ActivationFacts.{place_is_some, read_behind, place_behind}
use Rattle.cc_record_tables.proofs.activations.make_read_place.Goals as goal

pub returns-then-is_some-clause-room : goal.returns-then-is_some-clause-room
returns-then-is_some-clause-room c =
    place_is_some c.args.reads.now.items c.args.occ (let a = c.deref.ensures.value in let b = c.place.ensures in let d = c.is_some.ensures in let e = c.if-is_some.true in cc)

pub returns-clause-same : goal.returns-clause-same
returns-clause-same c = λ u. rw c.in_ok-push.ensures.items (read_behind c.args.reads.now.items _ refl u)

pub returns-clause-room : goal.returns-clause-room
returns-clause-room c = rw c.in_ok-push.ensures.items (place_behind c.args.reads.now.items _)
