use Rattle.std.proofs.Common.{ℕ, ◌≡◌, [], List, length, replicate, take, slice_index_or, sym, ◌∙◌, subst}
use Rattle.std.proofs.lemmas.Option.{slice_get-get_or}
use Rattle.std.proofs.lemmas.List.{length-replicate, take_all}
use Rattle.cc_lanes.specs.Rows.{Pair, put, Holds}
use Rattle.cc_lanes.proofs.Listing.{take_next}
use Rattle.cc_lanes.proofs.Pairing.{empty_row, put_long, holds_none, holds_on}
use Rattle.cc_lanes.proofs.table.table_of.Goals as goal

pub loop-pair-init : goal.loop-pair-init
loop-pair-init c = record {
  long = rw c.in_ok-rows.ensures (length-replicate {A = List ℕ} c.args.count []);
  exact = rw c.in_ok-rows.ensures (holds_none (replicate c.args.count []) (empty_row c.args.count));
}

pub loop-pair-preserved : goal.loop-pair-preserved
loop-pair-preserved c =
    let pairs = c.args.pairs.now in
    let k = c.loop-pair.pair-index in
    let p : Pair = slice_index_or pairs k (0, 0) in
    let at = slice_get-get_or pairs k (0, 0) c.loop-pair-test.true in
    let rows = c.loop-pair.rows.items in
    record {
      long = rw c.in_ok-put.ensures (put_long rows p.0 p.1 ∙ c.loop-pair.invariant.long);
      exact = rw (c.in_ok-put.ensures, take_next pairs k p at) (holds_on rows (take k pairs) p c.loop-pair.invariant.exact);
    }

pub returns-clause-exact : goal.returns-clause-exact
returns-clause-exact c = subst (λ xs. Holds c.loop-pair.rows.items xs) (take_all c.loop-pair.pair-index c.args.pairs.now c.loop-pair-test.false) c.loop-pair.invariant.exact
