-- All steps are those over calls and returns.
use Rattle.std.proofs.Common.{ℕ, ◌≡◌, ◌+◌, ◌<◌, ◌⊎◌, inl, inr, Bool, true, false, if◌then◌else◌, List, [], ◌∷◌, Some, length, refl, sym, ap, ◌∙◌, subst, arith}
use Rattle.std.specs.Prelude.{Contains, ◌↔◌, slice_get}
use Rattle.std.proofs.lemmas.Bool.{false≢true}
use Rattle.cc_arena.specs.Arenas.{node_of}
use Rattle.cc_arena.specs.declared.arena.Placed.{Placed}
use Rattle.cc_flows.specs.Sweeping.{StaysWithin}
use Rattle.cc_graph.specs.Across.{IsAsked}
use Rattle.cc_graph.specs.declared.graph.Graph.{Graph}
use Rattle.cc_graph.specs.declared.position.Position.TheVariants.{At, After}
use Rattle.cc_graph.specs.Graphs.{entry_of, exit_of}
use Rattle.cc_graph.specs.Linking.{row_of}
use Rattle.cc_graph.specs.Order.{IsAscending}
use Rattle.cc_graph.specs.Points.{number}
use Rattle.cc_program.specs.declared.function.FuncId.{FuncId}
use Rattle.cc_program.specs.declared.program.Program.{Program}
use Rattle.cc_rows.specs.Gains.{Gains, Each}
use Rattle.cc_rows.proofs.Gained.{gains_none, gains_on, gains_as, gains_all}
use Rattle.cc_across.specs.declared.calls.Calls.{Calls}
use Rattle.cc_across.specs.Calling.{callees_of}
use Rattle.cc_across.specs.Crossing.{Begun, Done, Entered, Left, Asked, Inner, IsStep, AreNext}
use Rattle.cc_across.specs.Pairs.{Pair, joined, IsJoin, AreRows}
use Rattle.cc_across.specs.Reaching.{the_function}
use Rattle.cc_across.specs.Stepping.{entry_steps, callee_steps, site_steps, is_asked, asked_step, asked_steps, is_at, row_steps, point_steps, inner_steps, all_steps}
use Rattle.cc_across.proofs.Asking.{to_asked, asked_there}
use Rattle.cc_across.proofs.Joining.{some_is, joined_gains}
use Rattle.cc_across.proofs.Lists.{each_nil, each_cons, Numbered, numbered_nil, numbered_cons, row_there, row_is}

pub gains_two : (a b c : List Pair) (P Q : Pair → Type 0) → Gains a b P → Gains b c Q → Gains a c (λ x. P x ⊎ Q x)
gains_two a b c P Q g h = gains_on a b c P Q (λ x. P x ⊎ Q x) g h (λ x r. r) (λ x p. inl p) (λ x q. inr q)

module _ (G : Graph) where
  abbrev EntryStep : FuncId → Pair → Type 0
  EntryStep f x = IsJoin G.points (Some 0) (entry_of G f) x ⊎ IsJoin G.points (exit_of G f) (Some 0) x

  entry_gains : (fs : List FuncId) (ps : List Pair) → Gains ps (entry_steps G fs ps) (Each fs EntryStep)
  entry_gains [] ps = each_nil EntryStep ps
  entry_gains (f ∷ fs) ps =
      let mid = joined G.points (Some 0) (entry_of G f) ps in
      let new = joined G.points (exit_of G f) (Some 0) mid in
      each_cons EntryStep f fs ps new (entry_steps G fs new)
      (gains_two ps mid new (IsJoin G.points (Some 0) (entry_of G f)) (IsJoin G.points (exit_of G f) (Some 0)) (joined_gains G.points (Some 0) (entry_of G f) ps) (joined_gains G.points (exit_of G f) (Some 0) mid))
      (entry_gains fs new)

  abbrev CalleeStep : ℕ → ℕ → Pair → Type 0
  CalleeStep s g x = IsJoin G.points (number G.rows (At s)) (entry_of G (the_function g)) x ⊎ IsJoin G.points (exit_of G (the_function g)) (number G.rows (After s)) x

  callee_gains : (s : ℕ) (gs : List ℕ) (ps : List Pair) → Gains ps (callee_steps G s gs ps) (Each gs (CalleeStep s))
  callee_gains s [] ps = each_nil (CalleeStep s) ps
  callee_gains s (g ∷ gs) ps =
      let at = number G.rows (At s) in
      let after = number G.rows (After s) in
      let entry = entry_of G (the_function g) in
      let exit = exit_of G (the_function g) in
      let mid = joined G.points at entry ps in
      let new = joined G.points exit after mid in
      each_cons (CalleeStep s) g gs ps new (callee_steps G s gs new)
      (gains_two ps mid new (IsJoin G.points at entry) (IsJoin G.points exit after) (joined_gains G.points at entry ps) (joined_gains G.points exit after mid))
      (callee_gains s gs new)

  abbrev SiteStep : Calls → ℕ → Pair → Type 0
  SiteStep C s x = Each (callees_of C s) (CalleeStep s) x

  site_gains : (C : Calls) (sites : List ℕ) (ps : List Pair) → Gains ps (site_steps G C sites ps) (Each sites (SiteStep C))
  site_gains C [] ps = each_nil (SiteStep C) ps
  site_gains C (s ∷ sites) ps =
      let new = callee_steps G s (callees_of C s) ps in
      each_cons (SiteStep C) s sites ps new (site_steps G C sites new) (callee_gains s (callees_of C s) ps) (site_gains C sites new)

  abbrev AskedStep : Program → ℕ → Placed → Pair → Type 0
  AskedStep P s y x = (is_asked P y.node ≡ true) × IsJoin G.points (number G.rows (At s)) (number G.rows (After s)) x

  asked_if : (P : Program) (s : ℕ) (y : Placed) (b : Bool) (ps : List Pair) → is_asked P y.node ≡ b → Gains ps (asked_step G b s ps) (AskedStep P s y)
  asked_if P s y true ps e =
      let at = number G.rows (At s) in
      let after = number G.rows (After s) in
      gains_as ps (joined G.points at after ps) (IsJoin G.points at after) (AskedStep P s y) (λ x j. (e, j)) (λ x w. w.1) (joined_gains G.points at after ps)
  asked_if P s y false ps e = gains_none ps (AskedStep P s y) (λ x w. false≢true (sym e ∙ w.0))

  asked_gains : (P : Program) (ys : List Placed) (s : ℕ) (ps : List Pair) → Gains ps (asked_steps P G ys s ps) (Numbered (AskedStep P) ys s)
  asked_gains P [] s ps = numbered_nil (AskedStep P) s ps
  asked_gains P (y ∷ ys) s ps =
      let new = asked_step G (is_asked P y.node) s ps in
      numbered_cons (AskedStep P) y ys s ps new (asked_steps P G ys (s + 1) new) (asked_if P s y (is_asked P y.node) ps refl) (asked_gains P ys (s + 1) new)

  abbrev RowStep : ℕ → ℕ → Pair → Type 0
  RowStep p q x = IsJoin G.points (Some p) (Some q) x

  row_gains : (p : ℕ) (qs : List ℕ) (ps : List Pair) → Gains ps (row_steps G.points p qs ps) (Each qs (RowStep p))
  row_gains p [] ps = each_nil (RowStep p) ps
  row_gains p (q ∷ qs) ps =
      let new = joined G.points (Some p) (Some q) ps in
      each_cons (RowStep p) q qs ps new (row_steps G.points p qs new) (joined_gains G.points (Some p) (Some q) ps) (row_gains p qs new)

  abbrev PointStep : ℕ → List ℕ → Pair → Type 0
  PointStep p row x = (is_at (slice_get G.positions p) ≡ false) × Each row (RowStep p) x

  point_if : (p : ℕ) (row : List ℕ) (b : Bool) (ps : List Pair) → is_at (slice_get G.positions p) ≡ b → Gains ps (if b then ps else row_steps G.points p row ps) (PointStep p row)
  point_if p row true ps e = gains_none ps (PointStep p row) (λ x w. false≢true (sym w.0 ∙ e))
  point_if p row false ps e = gains_as ps (row_steps G.points p row ps) (Each row (RowStep p)) (PointStep p row) (λ x j. (e, j)) (λ x w. w.1) (row_gains p row ps)

  inner_gains : (rows : List (List ℕ)) (p : ℕ) (ps : List Pair) → Gains ps (inner_steps G rows p ps) (Numbered PointStep rows p)
  inner_gains [] p ps = numbered_nil PointStep p ps
  inner_gains (row ∷ rows) p ps =
      let new = point_steps G p row ps in
      numbered_cons PointStep row rows p ps new (inner_steps G rows (p + 1) new) (point_if p row (is_at (slice_get G.positions p)) ps refl) (inner_gains rows (p + 1) new)

module _ (P : Program) (G : Graph) (C : Calls) where
  abbrev Entering : Pair → Type 0
  Entering x = Each P.entries (EntryStep G) x ⊎ Each C.sites.items (SiteStep G C) x

  abbrev Skipping : Pair → Type 0
  Skipping x = Entering x ⊎ Numbered (AskedStep G P) P.arena.nodes 0 x

  abbrev Stepping : Pair → Type 0
  Stepping x = Skipping x ⊎ Numbered (PointStep G) G.next 0 x

  all_gains : (x : Pair) → Contains (all_steps P G C) x ↔ Stepping x
  all_gains =
      let one = entry_steps G P.entries [] in
      let two = site_steps G C C.sites.items one in
      let three = asked_steps P G P.arena.nodes 0 two in
      let four = inner_steps G G.next 0 three in
      gains_all [] four Stepping refl
      (gains_two [] three four Skipping (Numbered (PointStep G) G.next 0)
      (gains_two [] two three Entering (Numbered (AskedStep G P) P.arena.nodes 0)
      (gains_two [] one two (Each P.entries (EntryStep G)) (Each C.sites.items (SiteStep G C)) (entry_gains G P.entries []) (site_gains G C C.sites.items one))
      (asked_gains G P P.arena.nodes 0 two))
      (inner_gains G G.next 0 three))

  to_step : (x : Pair) → Stepping x → IsStep P G C x
  to_step x (inl (inl (inl (f, is, inl j)))) = (j.2, j.3, Begun f is (sym (some_is 0 x.0 j.0)) j.1)
  to_step x (inl (inl (inl (f, is, inr j)))) = (j.2, j.3, Done f is j.0 (sym (some_is 0 x.1 j.1)))
  to_step x (inl (inl (inr (s, is, (g, has, inl j))))) = (j.2, j.3, Entered s g is has j.0 j.1)
  to_step x (inl (inl (inr (s, is, (g, has, inr j))))) = (j.2, j.3, Left s g is has j.0 j.1)
  to_step x (inl (inr (i, y, at, (e, j)))) =
      let same : 0 + i ≡ i = omega arith in
      let k = subst (λ m. IsJoin G.points (number G.rows (At m)) (number G.rows (After m)) x) same j in
      (k.2, k.3, Asked i (subst (λ o. IsAsked P (node_of o)) (sym at) (to_asked P y.node e)) k.0 k.1)
  to_step x (inr (i, row, at, (e, (q, has, j)))) =
      let from : 0 + i ≡ x.0 = some_is (0 + i) x.0 j.0 in
      let same : i ≡ x.0 = omega (arith, from) in
      let to : q ≡ x.1 = some_is q x.1 j.1 in (
        j.2,
        j.3,
        Inner
            (subst (λ m. is_at (slice_get G.positions m) ≡ false) from e)
            (subst (λ m. Contains (row_of G.next m) x.1) same (subst (λ (xs : List ℕ). Contains xs x.1) (sym (row_is G.next i row at)) (subst (λ m. Contains row m) to has))),
      )

  from_step : (x : Pair) → IsStep P G C x → Stepping x
  from_step x (l, m, Begun f is e en) = inl (inl (inl (f, is, inl (ap Some (sym e), en, l, m))))
  from_step x (l, m, Done f is ex e) = inl (inl (inl (f, is, inr (ex, ap Some (sym e), l, m))))
  from_step x (l, m, Entered s g is has at en) = inl (inl (inr (s, is, (g, has, inl (at, en, l, m)))))
  from_step x (l, m, Left s g is has ex af) = inl (inl (inr (s, is, (g, has, inr (ex, af, l, m)))))
  from_step x (l, m, Asked s asks at af) =
      let w = asked_there P (slice_get P.arena.nodes s) asks in
      let same : s ≡ 0 + s = omega arith in
      inl (inr (s, w.0, w.1, (w.2, subst (λ k. IsJoin G.points (number G.rows (At k)) (number G.rows (After k)) x) same (at, af, l, m))))
  from_step x (l, m, Inner e has) =
      let same : x.0 ≡ 0 + x.0 = omega arith in
      inr (
        x.0,
        row_of G.next x.0,
        row_there G.next x.0 x.1 has,
        (subst (λ k. is_at (slice_get G.positions k) ≡ false) same e, (x.1, has, (ap Some (sym same), refl, l, m))),
      )

  module _ (pairs : List Pair) (next : List (List ℕ)) (are : pairs ≡ all_steps P G C) (points : ℕ) (same : points ≡ G.points)
      (long : length next ≡ points) (exact : AreRows next points pairs) (up : (r : ℕ) → IsAscending (row_of next r)) where
    pub next_exact : (p q : ℕ) → Contains (row_of next p) q ↔ IsStep P G C (p, q)
    next_exact p q = (
      λ is. to_step (p, q) ((all_gains (p, q)).0 (subst (λ (xs : List Pair). Contains xs (p, q)) are ((exact p q).0 is).1)),
      λ s. (exact p q).1 (subst (λ n. p < n) (sym same) s.0, subst (λ (xs : List Pair). Contains xs (p, q)) (sym are) ((all_gains (p, q)).1 (from_step (p, q) s))),
    )

    pub are_next : AreNext P G C next
    are_next = record { long = long ∙ same; exact = next_exact; ascends = up }

    pub next_stays : StaysWithin next
    next_stays a b edge =
        let has = subst (λ (xs : List ℕ). Contains xs b) (sym (row_is next a edge.row edge.at)) edge.has in
        let s = (next_exact a b).0 has in
        subst (λ n. b < n) (sym (long ∙ same)) s.1
