use Rattle.std.proofs.Common.{◌≡◌, ℕ, ◌+◌, ◌<◌, ◌≤◌, List, ◌++◌, Some, Bool, false, length, replicate, ap, sym, ◌∙◌, subst, arith}
use Rattle.std.specs.Prelude.{not, ◌&&◌, ◌||◌}
use Rattle.std.proofs.lemmas.List.{append-nil}
use Rattle.cc_score.specs.Firsts.{exercises}
use Rattle.cc_tables.specs.Records.{record_text, written}
use Rattle.cc_tables.proofs.Put.{written_more}
use Rattle.cc_reduce.specs.Rows.{at, count_to}
use Rattle.cc_reduce.specs.Texts.{order_header, places_to}
use Rattle.cc_reduce.proofs.Looked.{spliced}
use Rattle.cc_reduce.proofs.More.{places_more}
use Rattle.cc_reduce.proofs.Placed.{IsPlaced, place_same, placed_added, placed_init, placed_more, placed_most, placed_total}
use Rattle.cc_reduce.proofs.tables.order_csv.Goals as goal

pub loop-place-init : goal.loop-place-init
loop-place-init c =
    let put = c.in_ok-put_four.ensures in
    let rows = length c.args.scores.now.marks in
    let blank : c.in_ok-covered.covered.items ≡ replicate (length c.args.scores.now.marks) false = c.in_ok-covered.ensures.items_if_clones_equal (λ y e. e) ∙ ap (λ n. replicate n false) c.len.ensures in
    record {
      fresh = put.0;
      text = put.1 ∙ (ap (λ text. text ++ record_text order_header) c.no_records-records.ensures.empty ∙ sym (append-nil (record_text order_header)));
      placed = subst (λ (l : List Bool). IsPlaced c.args.scores.now.exercised (length c.args.scores.now.marks) c.args.order.now 0 l 0) (sym blank)
          (placed_init c.args.scores.now.exercised rows c.args.order.now);
    }

pub overflow_add-total : goal.overflow_add-total
overflow_add-total c =
    let sets = c.args.scores.now.exercised in
    let rows = length c.args.scores.now.marks in
    let order = c.args.order.now in
    let place = c.loop-place.place in
    let covered = c.loop-place.covered.items in
    let marks = subst (λ (l : List Bool). (row : ℕ) → row < length l → at c.cover-added.new.covered row ≡ at l row || exercises (Some c.rows_of.result.now) row) c.deref_mut.ensures.value c.cover-added.ensures.covered in
    let sum = subst (λ (l : List Bool). count_to (λ row. at c.cover-added.new.covered row) (length l) ≡ count_to (λ row. at l row) (length l) + c.cover-added.result) c.deref_mut.ensures.value c.cover-added.ensures.total in
    let next = placed_more sets rows order place covered c.loop-place.total c.get.result.now c.rows_of.result.now c.loop-place.invariant.placed c.get.ensures c.rows_of.ensures
    c.cover-added.new.covered c.cover-added.result (omega arith) marks sum in
    let most : c.loop-place.total + c.cover-added.result ≤ length c.args.scores.now.marks =
    placed_most sets rows order (place + 1) c.cover-added.new.covered (c.loop-place.total + c.cover-added.result) next in
    omega arith

pub loop-place-preserved : goal.loop-place-preserved
loop-place-preserved c =
    let scores = c.args.scores.now in
    let sets = c.args.scores.now.exercised in
    let rows = length c.args.scores.now.marks in
    let order = c.args.order.now in
    let tests = c.args.tests.now in
    let place = c.loop-place.place in
    let covered = c.loop-place.covered.items in
    let new = c.cover-added.new.covered in
    let marks = subst (λ (l : List Bool). (row : ℕ) → row < length l → at c.cover-added.new.covered row ≡ at l row || exercises (Some c.rows_of.result.now) row) c.deref_mut.ensures.value c.cover-added.ensures.covered in
    let sum = subst (λ (l : List Bool). count_to (λ row. at c.cover-added.new.covered row) (length l) ≡ count_to (λ row. at l row) (length l) + c.cover-added.result) c.deref_mut.ensures.value c.cover-added.ensures.total in
    let more = subst (λ (l : List Bool). c.cover-added.result ≡ count_to (λ row. exercises (Some c.rows_of.result.now) row && not (at l row)) (length l)) c.deref_mut.ensures.value c.cover-added.ensures.added in
    let next = placed_more sets rows order place covered c.loop-place.total c.get.result.now c.rows_of.result.now c.loop-place.invariant.placed c.get.ensures c.rows_of.ensures
    new c.cover-added.result (omega arith) marks sum in
    let added_is = placed_added sets rows order place covered c.loop-place.total c.get.result.now c.rows_of.result.now c.loop-place.invariant.placed c.get.ensures c.rows_of.ensures
    c.cover-added.result more in
    let total_is = placed_total sets rows order (place + 1) new (c.loop-place.total + c.cover-added.result) next in
    let put = c.in_ok-put_place.ensures in
    let text = place_same scores order tests place c.get.result.now c.name_of.result.now c.cover-added.result (c.loop-place.total + c.cover-added.result) c.get.ensures
    c.name_of.ensures added_is total_is in
    record {
      fresh = put.0;
      text = written_more (record_text order_header) (written c.loop-place.records) (written c.put_place.new.records) (places_to scores order tests place) _ _
          (put.1 ∙ ap (λ t. written c.loop-place.records ++ t) text) c.loop-place.invariant.text (places_more scores order tests place);
      placed = subst (λ (l : List Bool). IsPlaced c.args.scores.now.exercised (length c.args.scores.now.marks) c.args.order.now (c.loop-place.place + 1) l (c.loop-place.total + c.cover-added.result))
          (sym (spliced c.loop-place.covered.len new covered (omega arith))) next;
    }
