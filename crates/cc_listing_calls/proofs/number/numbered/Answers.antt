use Rattle.std.proofs.Common.{slice_index_or, subst}
use Rattle.std.proofs.lemmas.Option.{slice_get-get_or}
use Rattle.std.proofs.lemmas.List.{take_all}
use Rattle.cc_listed.specs.declared.table.Access.{Access}
use Rattle.cc_listing_calls.specs.Numbered.{AreNumbered}
use Rattle.cc_listing_calls.proofs.Numbering.{numbered_next}
use Rattle.cc_listing_calls.proofs.number.numbered.Goals as goal

pub loop-i-preserved : goal.loop-i-preserved
loop-i-preserved c =
    let items = c.args.accesses.now in
    let k = c.loop-i.i in
    let a : Access = slice_index_or items k (record { point = 0; slot = 0; occurrence = 0 }) in
    rw c.in_ok-push.ensures.items (numbered_next items k c.in-Some.number a c.loop-i.out.items (slice_get-get_or items k (record { point = 0; slot = 0; occurrence = 0 }) c.loop-i-test.true) c.in-Some.ensures c.loop-i.invariant)

pub returns : goal.returns
returns c = subst (λ xs. AreNumbered xs c.loop-i.out.items) (take_all c.loop-i.i c.args.accesses.now c.loop-i-test.false) c.loop-i.invariant
