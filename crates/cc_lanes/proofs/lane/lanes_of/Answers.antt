use Rattle.std.proofs.Common.{◌≡◌, List, length, sym, ap, ◌∙◌, subst}
use Rattle.cc_lanes.specs.Rows.{Pair}
use Rattle.cc_lanes.specs.Lanes.{AreNumbered}
use Rattle.cc_lanes.proofs.Pairing.{slot_rows}
use Rattle.cc_lanes.proofs.lane.lanes_of.Goals as goal

pub returns : goal.returns
returns c =
    let pairs = c.arrange.new.rows.items in
    let numbers = c.in_ok-numbers.numbers.items in
    let numbered : AreNumbered pairs c.as_slice-2.result.now = subst (λ (ns : List Pair). AreNumbered pairs ns) (sym c.as_slice-2.ensures.value) (subst (λ (ps : List Pair). AreNumbered ps numbers) c.as_slice.ensures.value c.in_ok-numbers.ensures) in
    record {
      has = λ p is. (c.arrange.ensures.same p).1 is;
      rows = slot_rows (length c.args.tables.now.slots) pairs c.as_slice-2.result.now c.in_ok-by_slot.by_slot.items
          (c.in_ok-by_slot.ensures.long ∙ ap (λ xs. length xs) c.as_slice-slots.ensures) c.in_ok-by_slot.ensures.exact numbered;
    }
