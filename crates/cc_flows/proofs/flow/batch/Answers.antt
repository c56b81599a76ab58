use Rattle.std.proofs.Common.{◌≡◌, ◌∙◌, ℕ, List, subst}
use Rattle.std.specs.Prelude.{◌↔◌}
use Rattle.cc_flows.specs.Sweeping.{bit_at_point}
use Rattle.cc_flows.specs.Masks.{IsOf}
use Rattle.cc_rows.specs.Gains.{Gains, Or}
use Rattle.cc_flows.specs.Flows.{IsGathered, AreReached, Reaches, found_cmp}
use Rattle.cc_rows.proofs.Gained.{gains_as_ok, more_as, or_as}
use Rattle.cc_flows.proofs.Flowing.{to_found, from_found}
use Rattle.cc_flows.proofs.flow.batch.Goals as goal

pub returns-clause-found : goal.returns-clause-found
returns-clause-found c =
    let next = c.args.ways.next.now in
    let wipes = c.args.ways.wipes.now in
    let reads = c.args.reads.now in
    let ds = c.args.definitions.now in
    let masks = c.in_ok-masks.masks.items in
    let reach = c.in_ok-reach.reach.items in
    let reached : AreReached next wipes masks ds reach = subst (λ ms. AreReached next wipes ms ds reach) c.as_slice.ensures.value c.in_ok-reach.ensures in
    gains_as_ok c.gather_all.result c.args.found.now.items c.gather_all.new.found.items (IsGathered ds reads c.as_slice-2.result.now c.as_slice-3.result.now) (Reaches next wipes reads ds)
    (λ f. rw (c.as_slice-2.ensures.value, c.as_slice-3.ensures.value) (to_found next wipes ds masks reach c.in_ok-masks.ensures.exact reached reads f))
    (λ f. rw (c.as_slice-2.ensures.value, c.as_slice-3.ensures.value) (from_found next wipes ds masks reach c.in_ok-masks.ensures.exact reached reads f))
    c.gather_all.ensures.found

pub returns-clause-many : goal.returns-clause-many
returns-clause-many c = λ is.
    let next = c.args.ways.next.now in
    let wipes = c.args.ways.wipes.now in
    let reads = c.args.reads.now in
    let ds = c.args.definitions.now in
    let masks = c.in_ok-masks.masks.items in
    let reach = c.in_ok-reach.reach.items in
    let reached : AreReached next wipes masks ds reach = subst (λ ms. AreReached next wipes ms ds reach) c.as_slice.ensures.value c.in_ok-reach.ensures in
    more_as found_cmp c.args.most (Or c.args.found.now.items (IsGathered ds reads c.as_slice-2.result.now c.as_slice-3.result.now)) (Or c.args.found.now.items (Reaches next wipes reads ds))
    (or_as found_cmp c.args.most c.args.found.now.items (IsGathered ds reads c.as_slice-2.result.now c.as_slice-3.result.now) (Reaches next wipes reads ds)
    (λ f. rw (c.as_slice-2.ensures.value, c.as_slice-3.ensures.value) (to_found next wipes ds masks reach c.in_ok-masks.ensures.exact reached reads f)))
    (c.gather_all.ensures.many is)
