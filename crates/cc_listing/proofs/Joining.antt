-- From what was gathered to the program, its graph and its facts.
use Rattle.std.proofs.Common.{◌≡◌, ℕ, List, Vec, Global, Option, Some, None, Result, Ok, Err, IfOk, IfSome, sym, ap, subst, ◌∙◌}
use Rattle.std.specs.List.Sorted.{IsStrictlySortedBy}
use Rattle.cc_rows.specs.Order.{row_cmp}
use Rattle.cc_rows.specs.declared.stop.Stop.{Stop}
use Rattle.cc_across.specs.Calling.{AreCalls}
use Rattle.cc_across.specs.declared.calls.Calls.{Calls as Across}
use Rattle.cc_base.specs.declared.memory.Memory.{Memory}
use Rattle.std.specs.Prelude.{Contains}
use Rattle.std.proofs.lemmas.Bool.{ltb-true}
use Rattle.cc_facts.specs.declared.facts.Facts.{Facts}
use Rattle.cc_handing.specs.Sites.{formals}
use Rattle.cc_handing.specs.declared.site.Site.{Site}
use Rattle.cc_lanes.proofs.Listing.{filter_only}
use Rattle.cc_listed.specs.declared.calls.Formal.{Formal}
use Rattle.cc_graph.specs.declared.graph.Graph.{Graph}
use Rattle.cc_listed.specs.declared.calls.Calls.{Calls}
use Rattle.cc_listed.specs.declared.table.Access.{Access}
use Rattle.cc_listed.specs.declared.table.Tables.{Tables}
use Rattle.cc_listed.specs.Stretches.{Accesses as Uses, accesses, steps}
use Rattle.cc_listing_rows.specs.ListedRows.{AreListed, HasMoreListed}
use Rattle.cc_program.specs.declared.program.Program.{Program}
use Rattle.cc_rows.specs.declared.row.Row.{Row}
use Rattle.cc_uses.specs.Giving.{given_of}
use Rattle.cc_uses.specs.Reading.{reads_of}
use Rattle.cc_uses.specs.Tabling.{tables_of}
use Rattle.cc_handing.specs.Passing.{passed}
use Rattle.cc_listing.specs.declared.callings.Callings.{Callings}
use Rattle.cc_listing.specs.declared.gathered.Accesses.{Accesses}
use Rattle.cc_listing.specs.declared.gathered.Handings.{Handings}
use Rattle.cc_listing.specs.Callings.{AreCallings, AreCallingsBy}
use Rattle.cc_listing.specs.Gathered as by
use Rattle.cc_listing.specs.Listing as spec
use Rattle.cc_listing.specs.Sites.{pairs_of}

handings : (P : Program) (G : Graph) (F : Facts) (c : Callings) (C : AreCallings P G F c) (h : Handings) (calls : Calls) → by.AreHandings P G F c.sites.items c.pairs.items h → by.AreOf h calls
    → spec.AreHandings P G F C.0.sites.items (pairs_of C.0) calls
handings P G F c C h calls are of =
    let moved : by.AreHandings P G F C.0.sites.items (pairs_of C.0) h =
    subst (λ s. by.AreHandings P G F s (pairs_of C.0) h) C.2.sites (subst (λ p. by.AreHandings P G F c.sites.items p h) C.2.pairs are) in
    record {
      calls = of.calls ∙ moved.calls;
      formals = of.formals ∙ moved.formals;
      arguments = of.arguments ∙ ap (λ x. x.arguments) moved.handed;
      returns = of.returns ∙ ap (λ x. x.returns) moved.handed;
      named = of.named ∙ ap (λ x. x.named) moved.handed;
    }

-- what is said of the lists that were gathered is said of those of the program
uses_moved : (P : Program) (G : Graph) (F : Facts) (c : Callings) (C : AreCallings P G F c) (a : Accesses) (S : Uses → Type 0) → by.AreAccesses P G F c.reach.items c.pairs.items a
    → S (accesses a.writes.items a.given.items a.passed.items a.reads.items) → S (spec.accesses_in P G F c.reach.items (pairs_of C.0))
uses_moved P G F c C a S are s =
    let moved : by.AreAccesses P G F c.reach.items (pairs_of C.0) a = subst (λ p. by.AreAccesses P G F c.reach.items p a) C.2.pairs are in
    let given = given_of P G F.parts in
    let handed = passed P G F.parts c.reach.items 0 (pairs_of C.0) in
    let reads = reads_of P G F in
    subst (λ (w : List Access). S (accesses w given handed reads)) moved.writes
    (subst (λ (g : List Access). S (accesses a.writes.items g handed reads)) moved.given
    (subst (λ (p : List Access). S (accesses a.writes.items a.given.items p reads)) moved.passed
    (subst (λ (r : List Access). S (accesses a.writes.items a.given.items a.passed.items r)) moved.reads s)))

steps_are : (P : Program) (G : Graph) (F : Facts) (c : Callings) (C : AreCallings P G F c) → spec.AreSteps P G F C.0 c.next.items c.reach.items
steps_are P G F c C = record { are_calls = C.1; are_next = C.2.are_next; is_reach = C.2.is_reach }

pub rows_are : (P : Program) (G : Graph) (F : Facts) (c : Callings) (a : Accesses) (h : Handings) (T : Tables) (rows : List Row) → AreCallings P G F c → by.AreAccesses P G F c.reach.items c.pairs.items a
    → by.AreHandings P G F c.sites.items c.pairs.items h → T ≡ tables_of P F.parts → by.AreRowsBy G c a h T rows → spec.AreRows P G F rows
rows_are P G F c a h T rows C uses hands table is = record {
  callings = C.0;
  next = c.next.items;
  reach = c.reach.items;
  are_steps = steps_are P G F c C;
  calls = is.calls;
  are_handings = handings P G F c C h is.calls hands is.are;
  listed =
      subst (λ t. AreListed (steps c.next.items G.next 0) t (spec.accesses_in P G F c.reach.items (pairs_of C.0)) is.calls rows) table
      (uses_moved P G F c C a (λ u. AreListed (steps c.next.items G.next 0) T u is.calls rows) uses is.listed);
  ascending = is.ascending;
}

pub rows_are_more : (P : Program) (G : Graph) (F : Facts) (c : Callings) (a : Accesses) (h : Handings) (T : Tables) (most : ℕ) → AreCallings P G F c → by.AreAccesses P G F c.reach.items c.pairs.items a
    → by.AreHandings P G F c.sites.items c.pairs.items h → T ≡ tables_of P F.parts → by.AreMoreRowsBy G c a h T most → spec.AreMoreRows P G F most
rows_are_more P G F c a h T most C uses hands table is = record {
  callings = C.0;
  next = c.next.items;
  reach = c.reach.items;
  are_steps = steps_are P G F c C;
  calls = is.calls;
  are_handings = handings P G F c C h is.calls hands is.are;
  more =
      subst (λ t. HasMoreListed (steps c.next.items G.next 0) t (spec.accesses_in P G F c.reach.items (pairs_of C.0)) is.calls most) table
      (uses_moved P G F c C a (λ u. HasMoreListed (steps c.next.items G.next 0) T u is.calls most) uses is.more);
}

enter_below : (points : ℕ) (all fs : List Formal) → fs ≡ spec.formals_in points all → by.EnterBelow points fs
enter_below points all fs is = λ f has.
    let kept = filter_only (spec.enters_below points) all f (subst (λ l. Contains l f) is has) in
    ltb-true f.entry points kept.1

-- the entries of the formals' functions are below the number of points
pub formals_below : (P : Program) (G : Graph) (F : Facts) (sites : List ℕ) (pairs : List Site) (h : Handings) (n : ℕ) → by.AreHandings P G F sites pairs h → n ≡ G.points
    → by.EnterBelow n h.formals.items
formals_below P G F sites pairs h n are is = subst (λ m. by.EnterBelow m h.formals.items) (sym is) (enter_below G.points (formals P G F.parts) h.formals.items are.formals)

-- ---- From what is said of the rows by slices to what is said by the lists

pub rows_by : (G : Graph) (c : Callings) (a : Accesses) (h : Handings) (T : Tables) (C : Calls) (r : Result (Vec Row Global) Stop)
    → C.calls.now ≡ h.calls.items → C.formals.now ≡ h.formals.items → C.arguments.now ≡ h.handed.arguments → C.returns.now ≡ h.handed.returns → C.named.now ≡ h.handed.named
    → IfOk r (λ rows. AreListed (steps c.next.items G.next 0) T (accesses a.writes.items a.given.items a.passed.items a.reads.items) C rows.items)
    → IfOk r (λ rows. IsStrictlySortedBy row_cmp rows.items) → IfOk r (λ rows. by.AreRowsBy G c a h T rows.items)
rows_by G c a h T C (Ok rows) calls formals arguments returns named listed ascending = record {
  calls = C;
  are = record { calls = calls; formals = formals; arguments = arguments; returns = returns; named = named };
  listed = listed;
  ascending = ascending;
}
rows_by G c a h T C (Err e) calls formals arguments returns named listed ascending = tt

pub more_by : (G : Graph) (c : Callings) (a : Accesses) (h : Handings) (T : Tables) (C : Calls) (most : ℕ)
    → C.calls.now ≡ h.calls.items → C.formals.now ≡ h.formals.items → C.arguments.now ≡ h.handed.arguments → C.returns.now ≡ h.handed.returns → C.named.now ≡ h.handed.named
    → HasMoreListed (steps c.next.items G.next 0) T (accesses a.writes.items a.given.items a.passed.items a.reads.items) C most → by.AreMoreRowsBy G c a h T most
more_by G c a h T C most calls formals arguments returns named more = record {
  calls = C;
  are = record { calls = calls; formals = formals; arguments = arguments; returns = returns; named = named };
  more = more;
}

-- what is made of the calls that the facts give
pub callings_made : (P : Program) (G : Graph) (F : Facts) (C : Across) (r : Result (Option Callings) Memory) → AreCalls P G F C → IfOk r (λ made. IfSome made (AreCallingsBy P G C))
    → IfOk r (λ made. IfSome made (AreCallings P G F))
callings_made P G F C (Ok None) are h = tt
callings_made P G F C (Ok (Some c)) are h = (C, are, h)
callings_made P G F C (Err e) are h = tt
