use Rattle.std.proofs.Common.{ℕ, Option, None, slice_index_or, subst}
use Rattle.std.proofs.lemmas.Option.{slice_get-get_or}
use Rattle.std.proofs.lemmas.List.{take_all}
use Rattle.cc_listing_calls.specs.Numbered.{AreItems}
use Rattle.cc_listing_calls.proofs.Numbering.{items_next}
use Rattle.cc_listing_calls.proofs.number.numbered_items.Goals as goal

pub loop-i-preserved : goal.loop-i-preserved
loop-i-preserved c =
    let items = c.args.items.now in
    let k = c.loop-i.i in
    let item : Option ℕ = slice_index_or items k None in
    rw c.in_ok-put_item.ensures (items_next items k c.in-Some.number item c.loop-i.out.items (slice_get-get_or items k None c.loop-i-test.true) c.in-Some.ensures c.loop-i.invariant)

pub returns : goal.returns
returns c = subst (λ xs. AreItems xs c.loop-i.out.items) (take_all c.loop-i.i c.args.items.now c.loop-i-test.false) c.loop-i.invariant
