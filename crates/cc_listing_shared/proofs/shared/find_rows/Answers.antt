use Rattle.std.proofs.Common.{ℕ, ◌≡◌, ◌<◌, List, length, subst, arith}
use Rattle.std.specs.Prelude.{Contains}
use Rattle.cc_rows.specs.Gains.{Or}
use Rattle.cc_rows.proofs.Gained.{gains_as_ok, more_as, or_as}
use Rattle.cc_flows.specs.declared.mask.Touch.{Touch}
use Rattle.cc_flows.specs.Flows.{Reaches, found_cmp}
use Rattle.cc_listing_shared.specs.SharedRows.{IsRow}
use Rattle.cc_listing_shared.proofs.Rowing.{to_row, from_row, starts_within}
use Rattle.cc_listing_shared.proofs.shared.find_rows.Goals as goal

pub flows-requires-clause-definitions : goal.flows-requires-clause-definitions
flows-requires-clause-definitions c = λ x is.
    let w = starts_within c.args.tables.now c.args.lanes.now c.args.reads.now c.args.live.now c.in_ok-starts.starts.items (length c.args.routes.next.now) c.requires.lanes c.in_ok-starts.ensures c.requires.live x
    (subst (λ (xs : List Touch). Contains xs x) c.as_slice-3.ensures.value is) in
    (omega (arith, w.0, c.len.ensures), w.1)

pub returns-clause-found : goal.returns-clause-found
returns-clause-found c =
    let T = c.args.tables.now in
    let next = c.args.routes.next.now in
    let lanes = c.args.lanes.now in
    gains_as_ok c.flows.result c.args.found.now.items c.flows.new.found.items (Reaches next c.as_slice.result.now c.as_slice-2.result.now c.as_slice-3.result.now)
    (IsRow next T c.args.uses.writes.now c.args.uses.reads.now c.args.live.now c.args.reads.now)
    (λ f. rw (c.as_slice.ensures.value, c.as_slice-2.ensures.value, c.as_slice-3.ensures.value) (to_row next T lanes c.args.uses.writes.now c.args.uses.reads.now c.args.reads.now c.args.live.now c.in_ok-wipes.wipes.items c.in_ok-starts.starts.items c.in_ok-targets.targets.items c.requires.lanes c.in_ok-wipes.ensures.exact c.in_ok-starts.ensures c.in_ok-targets.ensures f))
    (λ f. rw (c.as_slice.ensures.value, c.as_slice-2.ensures.value, c.as_slice-3.ensures.value) (from_row next T lanes c.args.uses.writes.now c.args.uses.reads.now c.args.reads.now c.args.live.now c.in_ok-wipes.wipes.items c.in_ok-starts.starts.items c.in_ok-targets.targets.items c.requires.lanes c.in_ok-wipes.ensures.exact c.in_ok-starts.ensures c.in_ok-targets.ensures f))
    c.flows.ensures.found

pub returns-clause-many : goal.returns-clause-many
returns-clause-many c = λ is.
    let T = c.args.tables.now in
    let next = c.args.routes.next.now in
    let lanes = c.args.lanes.now in
    let P = Reaches next c.as_slice.result.now c.as_slice-2.result.now c.as_slice-3.result.now in
    let Q = IsRow next T c.args.uses.writes.now c.args.uses.reads.now c.args.live.now c.args.reads.now in
    more_as found_cmp c.args.most (Or c.args.found.now.items P) (Or c.args.found.now.items Q)
    (or_as found_cmp c.args.most c.args.found.now.items P Q
    (λ f. rw (c.as_slice.ensures.value, c.as_slice-2.ensures.value, c.as_slice-3.ensures.value) (to_row next T lanes c.args.uses.writes.now c.args.uses.reads.now c.args.reads.now c.args.live.now c.in_ok-wipes.wipes.items c.in_ok-starts.starts.items c.in_ok-targets.targets.items c.requires.lanes c.in_ok-wipes.ensures.exact c.in_ok-starts.ensures c.in_ok-targets.ensures f)))
    (c.flows.ensures.many is)
