use Rattle.std.proofs.Common.{ℕ, ◌≡◌, List, Err, sym, ap, ◌∙◌, subst}
use Rattle.std.specs.Prelude.{map}
use Rattle.std.proofs.lemmas.Result.{err_from_is_err_and}
use Rattle.cc_listed.specs.declared.table.Access.{Access}
use Rattle.cc_lanes.specs.Rows.{Pair}
use Rattle.cc_lanes.specs.Lanes.{AreLanes, lane_of}
use Rattle.cc_rows.specs.declared.stop.Stop.TheVariants.{TooMany}
use Rattle.cc_listing_shared.proofs.Truth.{error_is}
use Rattle.cc_listing_shared.proofs.Law.{listed_all, more_listed, picked_within}
use Rattle.cc_listing_shared.proofs.shared.found_rows.Goals as goal

pub find_rows-requires-clause-live : goal.find_rows-requires-clause-live
find_rows-requires-clause-live c = picked_within c.args.routes.next.now c.args.routes.root c.args.tables.now c.args.reach.now c.args.uses.writes.now c.args.uses.given.now c.in_ok-live.live.items c.as_slice-2.result.now
    c.requires.next c.requires.root c.requires.reach c.as_slice-2.ensures.value c.in_ok-live.ensures

pub find_rows-requires-clause-lanes : goal.find_rows-requires-clause-lanes
find_rows-requires-clause-lanes c =
    let T = c.args.tables.now in
    subst (λ (ps : List Pair). AreLanes T ps c.in_ok-lanes.lanes) (c.in_ok-pairs.ensures ∙ ap (map (lane_of T)) (c.as_slice.ensures.value ∙ sym c.as_slice-3.ensures.value)) c.in_ok-lanes.ensures

pub returns-clause-listed : goal.returns-clause-listed
returns-clause-listed c = listed_all c.args.routes.next.now c.args.routes.root c.args.tables.now c.args.reach.now c.args.uses.writes.now c.args.uses.given.now c.args.uses.passed.now c.args.uses.reads.now
    c.in_ok-reads.reads.items c.as_slice-3.result.now c.in_ok-live.live.items c.as_slice-2.result.now c.requires.reach c.in_ok-live.ensures c.in_ok-reads.ensures c.as_slice-2.ensures.value c.as_slice-3.ensures.value
    c.new-found.result.items c.find_rows.new.found.items c.new-found.ensures.items c.in_ok-find_rows.ensures.found

pub returns-in_err-find_rows-clause-many : goal.returns-in_err-find_rows-clause-many
returns-in_err-find_rows-clause-many c = λ is.
    let p = err_from_is_err_and c.from_residual-in_err-find_rows.result c.from_residual-in_err-find_rows.ensures.1 in
    more_listed c.args.routes.next.now c.args.routes.root c.args.tables.now c.args.reach.now c.args.uses.writes.now c.args.uses.given.now c.args.uses.passed.now c.args.uses.reads.now
    c.in_ok-reads.reads.items c.as_slice-3.result.now c.in_ok-live.live.items c.as_slice-2.result.now c.requires.reach c.in_ok-live.ensures c.in_ok-reads.ensures c.as_slice-2.ensures.value c.as_slice-3.ensures.value
    c.new-found.result.items c.args.most c.new-found.ensures.items (c.in_err-find_rows.ensures.many (ap Err (error_is c.from_residual-in_err-find_rows.result p.0 c.in_err-find_rows.field-0.0 TooMany p.1 p.2 is)))
