use Rattle.std.proofs.Common.{ℕ, ◌≡◌, ◌<◌, List, length, subst, arith}
use Rattle.std.specs.Prelude.{Contains, map}
use Rattle.cc_rows.specs.Gains.{Or}
use Rattle.cc_rows.proofs.Gained.{gains_as_ok, more_as, or_as}
use Rattle.cc_flows.specs.declared.mask.Touch.{Touch}
use Rattle.cc_flows.specs.Flows.{Reaches, found_cmp}
use Rattle.cc_lanes.specs.Lanes.{AreLanes}
use Rattle.cc_lanes.specs.Connections.{IsConnected, plain_lane}
use Rattle.cc_lanes.proofs.Connecting.{to_connected, from_connected, begins_within}
use Rattle.cc_lanes.proofs.connected.connect.Goals as goal

pub flows-requires-clause-definitions : goal.flows-requires-clause-definitions
flows-requires-clause-definitions c = λ x is.
    let T = c.args.tables.now in
    let lanes = c.in_ok-lanes.lanes in
    let are : AreLanes T (map plain_lane c.args.targets.now) lanes = subst (λ ps. AreLanes T ps lanes) c.in_ok-pairs.ensures c.in_ok-lanes.ensures in
    let w = begins_within T (map plain_lane c.args.targets.now) lanes c.args.starts.now c.in_ok-begins.begins.items (length c.args.next.now) are c.in_ok-begins.ensures c.requires.starts x
    (subst (λ (xs : List Touch). Contains xs x) c.as_slice-3.ensures.value is) in
    (omega (arith, w.0, c.len.ensures), w.1)

pub returns-clause-found : goal.returns-clause-found
returns-clause-found c =
    let T = c.args.tables.now in
    let next = c.args.next.now in
    let lanes = c.in_ok-lanes.lanes in
    let are : AreLanes T (map plain_lane c.args.targets.now) lanes = subst (λ ps. AreLanes T ps lanes) c.in_ok-pairs.ensures c.in_ok-lanes.ensures in
    gains_as_ok c.flows.result c.args.found.now.items c.flows.new.found.items (Reaches next c.as_slice.result.now c.as_slice-2.result.now c.as_slice-3.result.now) (IsConnected next T c.args.cutters.now c.args.starts.now c.args.targets.now)
    (λ f. rw (c.as_slice.ensures.value, c.as_slice-2.ensures.value, c.as_slice-3.ensures.value) (to_connected next T lanes c.args.cutters.now c.args.starts.now c.args.targets.now c.in_ok-wipes.wipes.items c.in_ok-begins.begins.items c.in_ok-ends.ends.items are c.in_ok-wipes.ensures.exact c.in_ok-begins.ensures c.in_ok-ends.ensures f))
    (λ f. rw (c.as_slice.ensures.value, c.as_slice-2.ensures.value, c.as_slice-3.ensures.value) (from_connected next T lanes c.args.cutters.now c.args.starts.now c.args.targets.now c.in_ok-wipes.wipes.items c.in_ok-begins.begins.items c.in_ok-ends.ends.items are c.in_ok-wipes.ensures.exact c.in_ok-begins.ensures c.in_ok-ends.ensures f))
    c.flows.ensures.found

pub returns-clause-many : goal.returns-clause-many
returns-clause-many c = λ is.
    let T = c.args.tables.now in
    let next = c.args.next.now in
    let lanes = c.in_ok-lanes.lanes in
    let are : AreLanes T (map plain_lane c.args.targets.now) lanes = subst (λ ps. AreLanes T ps lanes) c.in_ok-pairs.ensures c.in_ok-lanes.ensures in
    let P = Reaches next c.as_slice.result.now c.as_slice-2.result.now c.as_slice-3.result.now in
    let Q = IsConnected next T c.args.cutters.now c.args.starts.now c.args.targets.now in
    more_as found_cmp c.args.most (Or c.args.found.now.items P) (Or c.args.found.now.items Q)
    (or_as found_cmp c.args.most c.args.found.now.items P Q
    (λ f. rw (c.as_slice.ensures.value, c.as_slice-2.ensures.value, c.as_slice-3.ensures.value) (to_connected next T lanes c.args.cutters.now c.args.starts.now c.args.targets.now c.in_ok-wipes.wipes.items c.in_ok-begins.begins.items c.in_ok-ends.ends.items are c.in_ok-wipes.ensures.exact c.in_ok-begins.ensures c.in_ok-ends.ensures f)))
    (c.flows.ensures.many is)
