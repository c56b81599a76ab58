-- From the path of a run to the positions of its events.
use Rattle.std.proofs.Common.{◌≡◌, ℕ, zero, suc, List, [], ◌∷◌, ◌++◌, Some, sym, ap, ◌∙◌, subst, take}
use Rattle.std.specs.Prelude.{slice_get}
use Rattle.std.proofs.lemmas.Option.{same_Some}
use Rattle.cc_base.specs.Paths.{Start, More}
use Rattle.cc_base.proofs.Paths.{Reaches-weaker}
use Rattle.cc_first_runs.specs.Program.{Function, Program, IsSite}
use Rattle.cc_first_runs.specs.Points.{Point, Root, Entry, At, Steps, Across, Inside, Into, IsReachable}
use Rattle.cc_first_runs.specs.Events.{Site, Event, Enter}
use Rattle.cc_first_runs.specs.Runs.{run}
use Rattle.cc_first_runs.specs.Walks.{Activation, active_after, active_after_all, point_before, point_after, Happens, HappenFrom}
use Rattle.cc_first_runs.specs.Laws.{EventsAreReached, ExercisedAreCouplings, ListedLeavesNoneOut, MoreEventsExerciseMore}
use Rattle.cc_first_runs.proofs.Along.{reaches_on, runs_are_paths}

-- where a path across leads from the root to the point, one leads to the event behind it
reaches_event : (program : Program) (entry : ℕ) (active : List Activation) (point : Point) (event : Event) → IsReachable program entry point → Happens program entry active point event → IsReachable program entry (point_before active event)
reaches_event program entry active point event path happens =
    reaches_on _ path (Reaches-weaker (Steps program) (Across program entry) point (λ a b. Inside) _ happens.steps)

-- an event of the path, and a point that is reached before it
record IsOnPath (program : Program) (entry : ℕ) (active : List Activation) (event : Event) : Type 0 where
  point : Point
  path : IsReachable program entry point
  happens : Happens program entry active point event

at_position : (program : Program) (entry : ℕ) (active : List Activation) (point : Point) (events : List Event) (position : ℕ) (event : Event) → IsReachable program entry point → HappenFrom program entry active point events → slice_get events position ≡ Some event → IsOnPath program entry (active_after_all active (take position events)) event
at_position program entry active point [] position event path h at = absurd cc
at_position program entry active point (e ∷ events) zero event path h at =
    let here : e ≡ event = same_Some _ _ at in
    record { point = point; path = path; happens = subst (Happens program entry active point) here h.0 }
at_position program entry active point (e ∷ events) (suc position) event path h at =
    at_position program entry (active_after active e) (point_after active e) events position event (More (reaches_event program entry active point e path h.0) h.0.crosses) h.1 at

pub events_are_reached : EventsAreReached
events_are_reached program entry calls of turns position event at =
    let on = at_position program entry [] Root (run program calls turns).events position event Start (runs_are_paths program entry calls of turns) at in
    let before = reaches_event program entry _ on.point event on.path on.happens in
    record { before = before; after = More before on.happens.crosses }

-- what leads across from a call into a function is this call of the function
site_of : (program : Program) (entry f i g : ℕ) → Across program entry (At f i) (Entry g) → IsSite program f i g
site_of program entry f i g (Inside steps) = elim steps [ ]
site_of program entry f i g (Into live site) = site

pub exercised_are_couplings : ExercisedAreCouplings
exercised_are_couplings program entry calls of turns row x =
    let site_here : Site = record { f = row.f; i = row.i } in
    let on = at_position program entry [] Root (run program calls turns).events x.entered.0 (Enter (Some site_here) row.g x.entered.1) Start (runs_are_paths program entry calls of turns) x.entered.2 in
    let site = site_of program entry row.f row.i row.g on.happens.crosses in
    let same_caller : site.caller ≡ x.caller = same_Some _ _ (sym site.is_caller ∙ x.is_caller) in
    let same_callee : site.callee ≡ x.callee = same_Some _ _ (sym site.is_callee ∙ x.is_callee) in
    record {
      site = site;
      apart = λ same. x.apart (ap (λ (f : Function). f.file) (sym same_caller) ∙ same ∙ ap (λ (f : Function). f.file) same_callee);
      reachable = reaches_event program entry _ on.point _ on.path on.happens;
    }

pub listed_leaves_none_out : ListedLeavesNoneOut
listed_leaves_none_out program entry rows are calls of turns row x = are.complete row (exercised_are_couplings program entry calls of turns row x)

get_append : {X : Type 0} (xs ys : List X) (k : ℕ) (x : X) → slice_get xs k ≡ Some x → slice_get (xs ++ ys) k ≡ Some x
get_append [] ys k x at = absurd cc
get_append (y ∷ xs) ys zero x at = at
get_append (y ∷ xs) ys (suc k) x at = get_append xs ys k x at

pub more_events_exercise_more : MoreEventsExerciseMore
more_events_exercise_more program events rest row x = record {
  entered = (x.entered.0, x.entered.1, get_append events rest x.entered.0 _ x.entered.2);
  caller = x.caller;
  callee = x.callee;
  is_caller = x.is_caller;
  is_callee = x.is_callee;
  apart = x.apart;
}
