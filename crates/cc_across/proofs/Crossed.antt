-- The lists of points are those of the program, by its facts.
use Rattle.std.proofs.Common.{ℕ, ◌≡◌, ◌+◌, ◌-◌, ◌<◌, inl, inr, Bool, true, false, if◌then◌else◌, List, [], ◌∷◌, ◌++◌, Option, Some, None, map, refl, sym, ap, ◌∙◌, subst, arith}
use Rattle.std.specs.Prelude.{Contains, nat_le, slice_get, option_map}
use Rattle.std.proofs.lemmas.Bool.{le-leb, false≢true}
use Rattle.std.proofs.lemmas.List.{map_push}
use Rattle.std.proofs.lemmas.Option.{slice_get_within, slice_get-map}
use Rattle.cc_arena.specs.Arenas.{parent_of}
use Rattle.cc_arena.specs.declared.arena.Arena.{Arena}
use Rattle.cc_arena.specs.declared.arena.Placed.{Placed}
use Rattle.cc_arena.specs.declared.node.Node.{Node}
use Rattle.cc_arena.specs.declared.node.Node.TheVariants as node
use Rattle.cc_arena_rules.specs.Inherited.{answer_at, inherited_from}
use Rattle.cc_facts.specs.declared.facts.Facts.{Facts}
use Rattle.cc_facts.specs.Told.{may_call}
use Rattle.cc_graph.specs.Across.{definition, IsSite, Live, CallsLive, IsInner, Across}
use Rattle.cc_graph.specs.Across as across
use Rattle.cc_graph.specs.declared.graph.Graph.{Graph}
use Rattle.cc_graph.specs.declared.position.Position.{Position}
use Rattle.cc_graph.specs.declared.position.Position.TheVariants.{Root, Entry, Exit, At, After}
use Rattle.cc_graph.specs.declared.position.Row.{Row}
use Rattle.cc_graph.specs.declared.scope.Scope.{Scope}
use Rattle.cc_graph.specs.Graphs.{defined_by, entry_by, entry_of, exit_by, exit_of, IsGraph}
use Rattle.cc_graph.specs.Points.{number, source, after, plain_after, rows_of}
use Rattle.cc_graph.specs.Scopes.{scope_or_none, scope_step, scopes_of, scope_at}
use Rattle.cc_graph.specs.Scopes as scopes
use Rattle.cc_graph.specs.Succession.{FollowsAt}
use Rattle.cc_program.specs.Programs.{or_none}
use Rattle.cc_program.specs.declared.program.Program.{Program}
use Rattle.cc_across.specs.declared.calls.Calls.{Calls}
use Rattle.cc_across.specs.Calling.{LiveBy, IsLiveSite, AreCalls}
use Rattle.cc_across.specs.Calling as calling
use Rattle.cc_across.specs.Crossing.{Leads, IsStep, AreNext, AcrossAt, AreAcross}
use Rattle.cc_across.specs.Crossing as crossing
use Rattle.cc_across.specs.Reaching.{the_function}
use Rattle.cc_across.specs.Sites.{handed, owners_from, owners_of, owner_by, body_of, StandsIn}
use Rattle.cc_across.specs.Stepping.{is_at}
use Rattle.cc_across.proofs.Joining.{some_is}
use Rattle.cc_across.proofs.Owning.{owned_within}

-- the function in which parts stand, by their scope

abbrev function_in : Scope → Option ℕ
function_in s = s.function

handed_function : (n : ℕ) (what : Node) (own : Scope) → (scopes.handed n what own).function ≡ handed n what own.function
handed_function n (node.Definition d block) own = refl
handed_function n what own = refl

answer_is : (done : List Scope) (up : ℕ) → answer_at done 0 up ≡ slice_get done up
answer_is done up = go (nat_le 0 up) (le-leb 0 up (omega arith))
  where
    go : (b : Bool) → b ≡ true → (if b then slice_get done (up - 0) else None) ≡ slice_get done up
    go true e = ap (slice_get done) (let same : up - 0 ≡ up = omega arith in same)
    go false e = absurd (false≢true e)

flat_function : (o : Option Scope) → (scope_or_none o).function ≡ or_none (option_map function_in o)
flat_function (Some s) = refl
flat_function None = refl

own_function : (done : List Scope) (owners : List (Option ℕ)) (up : ℕ) → map function_in done ≡ owners → (scope_or_none (answer_at done 0 up)).function ≡ or_none (slice_get owners up)
own_function done owners up same =
    ap (λ o. (scope_or_none o).function) (answer_is done up) ∙ flat_function (slice_get done up) ∙ ap or_none (sym (slice_get-map function_in done up) ∙ ap (λ os. slice_get os up) same)

same_owners : (xs : List Placed) (n : ℕ) (done : List Scope) (owners : List (Option ℕ)) → map function_in done ≡ owners → map function_in (inherited_from scope_step 0 xs n done) ≡ owners_from xs n owners
same_owners [] n done owners same = same
same_owners (x ∷ xs) n done owners same =
    let own = scope_or_none (answer_at done 0 x.parent) in
    let one : (scopes.handed n x.node own).function ≡ handed n x.node (or_none (slice_get owners x.parent)) = handed_function n x.node own ∙ ap (handed n x.node) (own_function done owners x.parent same) in
    same_owners xs (n + 1) (done ++ scope_step n x (answer_at done 0 x.parent) ∷ []) (owners ++ handed n x.node (or_none (slice_get owners x.parent)) ∷ [])
    (map_push function_in done (scope_step n x (answer_at done 0 x.parent)) ∙ ap (λ os. os ++ function_in (scopes.handed n x.node own) ∷ []) same ∙ ap (λ o. owners ++ o ∷ []) one)

scope_is : (A : Arena) (up : ℕ) → (scope_at (scopes_of A) up).function ≡ or_none (slice_get (owners_of A) up)
scope_is A up = own_function (scopes_of A) (owners_of A) up (same_owners A.nodes 0 [] [] refl)

-- numbers of points

plain : (o : Option Row) (k : ℕ) → plain_after o ≡ Some k → after o ≡ Some k
plain (Some r) k e = go r.jumps (after (Some r)) e
  where
    go : (b : Bool) (o : Option ℕ) → (if b then None else o) ≡ Some k → o ≡ Some k
    go true o h = absurd (let g = h in cc)
    go false o h = h
plain None k e = absurd (let h = e in cc)

source_number : (rows : List Row) (p : Position) (k : ℕ) → source rows p ≡ Some k → number rows p ≡ Some k
source_number rows (After n) k e = plain (slice_get rows n) k e
source_number rows p k e = e

inner_at : (p : Position) → IsInner p → is_at (Some p) ≡ false
inner_at (At n) h = absurd h
inner_at p h = refl

at_inner : (p : Position) → is_at (Some p) ≡ false → IsInner p
at_inner (At n) e = absurd (false≢true (sym e))
at_inner p e = tt

module _ (P : Program) (G : Graph) (F : Facts) (g : IsGraph P G) where
  abbrev May : ℕ → ℕ → Type 0
  May s f = may_call F s f ≡ true

  same_definition : (f : ℕ) → definition P f ≡ body_of G f
  same_definition f = ap (λ ds. defined_by (slice_get ds f)) (sym g.definitions)

  same_number : (p : Position) → number (rows_of P) p ≡ number G.rows p
  same_number p = ap (λ rows. number rows p) (sym g.rows)

  to_site : (s f : ℕ) → StandsIn P.arena G s f → IsSite P s f
  to_site s f h =
      let w = owned_within P.arena (owners_of P.arena) s h.body h.stands in
      record {
        point = h.evaluated.0;
        evaluated = same_number (At s) ∙ h.evaluated.1;
        placed = w.0;
        there = w.1;
        body = h.body;
        stands = scope_is P.arena w.0.parent ∙ w.2;
        defines = same_definition f ∙ h.defines;
      }

  from_site : (s f : ℕ) → IsSite P s f → StandsIn P.arena G s f
  from_site s f h = record {
    evaluated = (h.point, sym (same_number (At s)) ∙ h.evaluated);
    body = h.body;
    stands = ap (λ o. owner_by (owners_of P.arena) (parent_of o)) h.there ∙ sym (scope_is P.arena h.placed.parent) ∙ h.stands;
    defines = sym (same_definition f) ∙ h.defines;
  }

  to_live : (f : ℕ) → LiveBy P G F f → Live P May f
  to_live f (calling.Begins is) = across.Begins is
  to_live f (calling.Called {f = c} {s = s} l h may) = across.Called (to_live c l) (to_site s c h) may

  from_live : (f : ℕ) → Live P May f → LiveBy P G F f
  from_live f (across.Begins is) = calling.Begins is
  from_live f (across.Called {f = c} {s = s} l h may) = calling.Called (from_live c l) (from_site s c h) may

  entry_some : (f k : ℕ) → entry_of G (the_function f) ≡ Some k → (d : ℕ) × (definition P f ≡ Some d) × (number G.rows (Entry d) ≡ Some k)
  entry_some f k e = go (body_of G f) refl e
    where
      go : (o : Option ℕ) → body_of G f ≡ o → entry_by G.rows o ≡ Some k → (d : ℕ) × (definition P f ≡ Some d) × (number G.rows (Entry d) ≡ Some k)
      go (Some d) is h = (d, same_definition f ∙ is, h)
      go None is h = absurd (let i = h in cc)

  exit_some : (f k : ℕ) → exit_of G (the_function f) ≡ Some k → (d : ℕ) × (definition P f ≡ Some d) × (number G.rows (Exit d) ≡ Some k)
  exit_some f k e = go (body_of G f) refl e
    where
      go : (o : Option ℕ) → body_of G f ≡ o → exit_by G.rows o ≡ Some k → (d : ℕ) × (definition P f ≡ Some d) × (number G.rows (Exit d) ≡ Some k)
      go (Some d) is h = (d, same_definition f ∙ is, h)
      go None is h = absurd (let i = h in cc)

  entry_from : (f d k : ℕ) → definition P f ≡ Some d → number G.rows (Entry d) ≡ Some k → entry_of G (the_function f) ≡ Some k
  entry_from f d k is e = ap (entry_by G.rows) (sym (same_definition f) ∙ is) ∙ e

  exit_from : (f d k : ℕ) → definition P f ≡ Some d → number G.rows (Exit d) ≡ Some k → exit_of G (the_function f) ≡ Some k
  exit_from f d k is e = ap (exit_by G.rows) (sym (same_definition f) ∙ is) ∙ e

  follows_number : (p q : Position) (k j : ℕ) → FollowsAt P.arena G.rows (scopes_of P.arena) p q k j → (number G.rows p ≡ Some k) × (number G.rows q ≡ Some j)
  follows_number p q k j (n, x, inl (s, e), f) = (source_number G.rows p k e, f)
  follows_number p q k j (n, x, inr (s, e), f) = (e, f)

  module _ (C : Calls) (are : AreCalls P G F C) where
    to_call : (s f d : ℕ) → Contains (calling.callees_of C s) f → definition P f ≡ Some d → CallsLive P May s f d
    to_call s f d has is =
        let w = (are.callees s f).0 has in
        record { caller = w.0.caller; live = to_live w.0.caller w.0.live; site = to_site s w.0.caller w.0.stands; may = w.1; defines = is }

    from_call : (s f d : ℕ) → CallsLive P May s f d → Contains C.sites.items s × Contains (calling.callees_of C s) f
    from_call s f d h =
        let w : IsLiveSite P G F s = record { caller = h.caller; live = from_live h.caller h.live; stands = from_site s h.caller h.site } in
        ((are.sites s).1 w, (are.callees s f).1 (w, h.may))

    to_across : (k j : ℕ) → IsStep P G C (k, j) → AcrossAt P F G k j
    to_across k j (l, m, crossing.Begun f is e en) =
        let w = entry_some f.0 j en in
        (Root, Entry w.0, ap Some (sym e), w.2, across.Begun {f = f.0} is w.1)
    to_across k j (l, m, crossing.Done f is ex e) =
        let w = exit_some f.0 k ex in
        (Exit w.0, Root, w.2, ap Some (sym e), across.Done {f = f.0} is w.1)
    to_across k j (l, m, crossing.Entered s f is has at en) =
        let w = entry_some f j en in
        (At s, Entry w.0, at, w.2, across.Entered (to_call s f w.0 has w.1))
    to_across k j (l, m, crossing.Left s f is has ex af) =
        let w = exit_some f k ex in
        (Exit w.0, After s, w.2, af, across.Left (to_call s f w.0 has w.1))
    to_across k j (l, m, crossing.Asked s asks at af) = (At s, After s, at, af, across.Asked asks (same_number (At s) ∙ at))
    to_across k j (l, m, crossing.Inner e has) =
        let w = g.next.only k j l has in
        let numbers = follows_number w.0 w.1 k j w.2 in
        let here = g.named.told w.0 k numbers.0 in (
          w.0,
          w.1,
          numbers.0,
          numbers.1,
          across.Inner (at_inner w.0 (sym (ap is_at here) ∙ e)) (k, j, subst (λ rows. FollowsAt P.arena rows (scopes_of P.arena) w.0 w.1 k j) g.rows w.2),
        )

    there : (p : Position) (k : ℕ) → number G.rows p ≡ Some k → k < G.points
    there p k e = let lt = slice_get_within G.positions k p (g.named.told p k e) in omega (arith, lt, g.counted)

    leads : (k j : ℕ) (p q : Position) → number G.rows p ≡ Some k → number G.rows q ≡ Some j → Across P May p q → Leads P G C (k, j)
    leads k j p q a b (across.Begun {f = f} {d = d} is e) = crossing.Begun (the_function f) is (sym (some_is 0 k a)) (entry_from f d j e b)
    leads k j p q a b (across.Done {f = f} {d = d} is e) = crossing.Done (the_function f) is (exit_from f d k e a) (sym (some_is 0 j b))
    leads k j p q a b (across.Entered {s = s} {g = f} {d = d} call) = let w = from_call s f d call in crossing.Entered s f w.0 w.1 a (entry_from f d j call.defines b)
    leads k j p q a b (across.Left {s = s} {g = f} {d = d} call) = let w = from_call s f d call in crossing.Left s f w.0 w.1 (exit_from f d k call.defines a) b
    leads k j p q a b (across.Asked {s = s} asks e) = crossing.Asked s asks a b
    leads k j p q a b (across.Inner inner (n, m, follows)) =
        let now = subst (λ rows. FollowsAt P.arena rows (scopes_of P.arena) p q n m) (sym g.rows) follows in
        let numbers = follows_number p q n m now in
        let from : n ≡ k = some_is n k (sym numbers.0 ∙ a) in
        let to : m ≡ j = some_is m j (sym numbers.1 ∙ b) in
        let at_k = subst (λ i. FollowsAt P.arena G.rows (scopes_of P.arena) p q i m) from now in
        let at_j = subst (λ i. FollowsAt P.arena G.rows (scopes_of P.arena) p q k i) to at_k in
        crossing.Inner (ap is_at (g.named.told p k a) ∙ inner_at p inner) (g.next.each k j (there p k a) (p, q, at_j))

    pub are_across : (next : List (List ℕ)) → AreNext P G C next → AreAcross P F G next
    are_across next h k j = (
      λ is. to_across k j ((h.exact k j).0 is),
      λ w. (h.exact k j).1 (there w.0 k w.2, there w.1 j w.3, leads k j w.0 w.1 w.2 w.3 w.4),
    )
