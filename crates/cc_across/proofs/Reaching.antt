-- The functions that are reached in the graph of functions are those that are live.
use Rattle.std.proofs.Common.{ℕ, zero, suc, ◌≡◌, ◌+◌, ◌<◌, ◌⊎◌, inl, inr, Bool, true, List, [], ◌∷◌, Some, map, take, refl, sym, ap, subst, arith}
use Rattle.std.specs.Prelude.{Contains, ◌↔◌, All}
use Rattle.std.specs.List.{AllByRecursion}
use Rattle.std.proofs.lemmas.Bool.{false≢true}
use Rattle.std.proofs.lemmas.List.Elements.{All-from_recursion}
use Rattle.cc_arena.specs.declared.arena.Arena.{Arena}
use Rattle.cc_base.specs.declared.reach.Edge.{Edge}
use Rattle.cc_base.specs.Edges.{Leads, AreBelow, IsMarked}
use Rattle.cc_base.specs.Paths.{Reaches, Start, More}
use Rattle.cc_program.specs.declared.function.FuncId.{FuncId}
use Rattle.cc_rows.specs.Gains.{Gains, Each}
use Rattle.cc_rows.proofs.Gained.{gains_all}
use Rattle.cc_across.specs.declared.owners.Owners.{Owners}
use Rattle.cc_across.specs.Pairs.{Pair, joined, IsJoin}
use Rattle.cc_across.specs.Sites.{functions_of}
use Rattle.cc_across.specs.Reaching.{the_function, callers_joined, calls_joined, entries_joined, IsCallEdge, call_pairs, edge_of, live_at, IsLiveIn, Begins, Called, AreLive}
use Rattle.cc_across.proofs.Joining.{some_is, joined_gains}
use Rattle.cc_across.proofs.Lists.{here, later, each_nil, each_cons, map_only, map_new}
use Rattle.cc_across.proofs.Stepped.{gains_two}
use Rattle.cc_across.proofs.Tabling.{pair, pair_is}

abbrev an_edge : ℕ → ℕ → Edge
an_edge f g = record { from = f; to = g }

all_from : {X : Type 0} (P : X → Type 0) (xs : List X) → ((x : X) → Contains xs x → P x) → All P xs
all_from {X} P xs each = All-from_recursion P xs (go xs each)
  where
    go : (ys : List X) → ((x : X) → Contains ys x → P x) → AllByRecursion P ys
    go [] every = tt
    go (y ∷ ys) every = (every y (here y ys), go ys (λ x is. every x (later y ys x is)))

take_live : (n : ℕ) (marks : List Bool) (f : ℕ) → live_at (take n marks) f ≡ true → (f < n) × IsMarked marks f
take_live zero marks f e = absurd (false≢true e)
take_live (suc n) [] f e = absurd (false≢true e)
take_live (suc n) (b ∷ marks) zero e = (omega arith, ap Some e)
take_live (suc n) (b ∷ marks) (suc f) e = let w = take_live n marks f e in (omega (arith, w.0), w.1)

live_take : (n : ℕ) (marks : List Bool) (f : ℕ) → f < n → IsMarked marks f → live_at (take n marks) f ≡ true
live_take zero marks f lt e = absurd (omega arith)
live_take (suc n) [] f lt e = absurd (let h = e in cc)
live_take (suc n) (b ∷ marks) zero lt e = (let h = e in cc)
live_take (suc n) (b ∷ marks) (suc f) lt e = live_take n marks f (omega arith) e

module _ (n : ℕ) where
  abbrev CallerStep : ℕ → ℕ → Pair → Type 0
  CallerStep g f x = IsJoin n (Some f) (Some g) x

  callers_gains : (fs : List ℕ) (g : ℕ) (ps : List Pair) → Gains ps (callers_joined n fs g ps) (Each fs (CallerStep g))
  callers_gains [] g ps = each_nil (CallerStep g) ps
  callers_gains (f ∷ fs) g ps =
      let new = joined n (Some f) (Some g) ps in
      each_cons (CallerStep g) f fs ps new (callers_joined n fs g new) (joined_gains n (Some f) (Some g) ps) (callers_gains fs g new)

  abbrev CallStep : Arena → Owners → Pair → Pair → Type 0
  CallStep A it c x = Each (functions_of A it c.0) (CallerStep c.1) x

  calls_gains : (A : Arena) (it : Owners) (calls ps : List Pair) → Gains ps (calls_joined A it n calls ps) (Each calls (CallStep A it))
  calls_gains A it [] ps = each_nil (CallStep A it) ps
  calls_gains A it (c ∷ calls) ps =
      let new = callers_joined n (functions_of A it c.0) c.1 ps in
      each_cons (CallStep A it) c calls ps new (calls_joined A it n calls new) (callers_gains (functions_of A it c.0) c.1 ps) (calls_gains A it calls new)

  abbrev RootStep : ℕ → FuncId → Pair → Type 0
  RootStep root f x = IsJoin n (Some root) (Some f.0) x

  roots_gains : (root : ℕ) (fs : List FuncId) (ps : List Pair) → Gains ps (entries_joined n root fs ps) (Each fs (RootStep root))
  roots_gains root [] ps = each_nil (RootStep root) ps
  roots_gains root (f ∷ fs) ps =
      let new = joined n (Some root) (Some f.0) ps in
      each_cons (RootStep root) f fs ps new (entries_joined n root fs new) (joined_gains n (Some root) (Some f.0) ps) (roots_gains root fs new)

module _ (A : Arena) (it : Owners) (n : ℕ) (entries : List FuncId) (calls : List Pair) where
  all : (x : Pair) → Contains (call_pairs A it n entries calls) x ↔ (Each calls (CallStep n A it) x ⊎ Each entries (RootStep (n + 1) n) x)
  all =
      let mid = calls_joined A it n calls [] in
      gains_all [] (entries_joined (n + 1) n entries mid) (λ x. Each calls (CallStep n A it) x ⊎ Each entries (RootStep (n + 1) n) x) refl
      (gains_two [] mid (entries_joined (n + 1) n entries mid) (Each calls (CallStep n A it)) (Each entries (RootStep (n + 1) n)) (calls_gains n A it calls []) (roots_gains (n + 1) n entries mid))

  only_edge : (f g : ℕ) → (Each calls (CallStep n A it) (f, g) ⊎ Each entries (RootStep (n + 1) n) (f, g)) → IsCallEdge A it n entries calls f g
  only_edge f g (inl (c, is, (h, has, j))) =
      let from : h ≡ f = some_is h f j.0 in
      let to : c.1 ≡ g = some_is c.1 g j.1 in
      inl (j.2, j.3, (c.0, subst (λ m. Contains (functions_of A it c.0) m) from has, subst (λ (q : Pair). Contains calls q) (pair_is c c.0 g refl to) is))
  only_edge f g (inr (e, is, j)) =
      let from : n ≡ f = some_is n f j.0 in
      let to : e.0 ≡ g = some_is e.0 g j.1 in
      inr (sym from, j.3, subst (λ m. Contains entries (the_function m)) to is)

  each_edge : (f g : ℕ) → IsCallEdge A it n entries calls f g → (Each calls (CallStep n A it) (f, g) ⊎ Each entries (RootStep (n + 1) n) (f, g))
  each_edge f g (inl (lf, lg, (s, has, is))) = inl ((s, g), is, (f, has, (refl, refl, lf, lg)))
  each_edge f g (inr (same, lg, is)) = inr (the_function g, is, (ap Some (sym same), refl, omega arith, lg))

  edge_below : (f g : ℕ) → IsCallEdge A it n entries calls f g → (f < n + 1) × (g < n + 1)
  edge_below f g (inl (lf, lg, w)) = (omega arith, omega arith)
  edge_below f g (inr (same, lg, w)) = (omega arith, lg)

  module _ (edges : List Edge) (are : edges ≡ map edge_of (call_pairs A it n entries calls)) where
    to_edge : (f g : ℕ) → Leads edges f g → IsCallEdge A it n entries calls f g
    to_edge f g is =
        let w = map_only edge_of (call_pairs A it n entries calls) (an_edge f g) (subst (λ (xs : List Edge). Contains xs (an_edge f g)) are is) in
        let from : w.0.0 ≡ f = ap (λ (e : Edge). e.from) w.2 in
        let to : w.0.1 ≡ g = ap (λ (e : Edge). e.to) w.2 in
        only_edge f g ((all (f, g)).0 (subst (λ (q : Pair). Contains (call_pairs A it n entries calls) q) (pair_is w.0 f g from to) w.1))

    from_edge : (f g : ℕ) → IsCallEdge A it n entries calls f g → Leads edges f g
    from_edge f g edge = subst (λ (xs : List Edge). Contains xs (an_edge f g)) (sym are) (map_new edge_of (call_pairs A it n entries calls) (pair f g) ((all (f, g)).1 (each_edge f g edge)))

    pub edges_below : AreBelow (n + 1) edges
    edges_below = all_from (λ (e : Edge). (e.from < n + 1) × (e.to < n + 1)) edges (λ e is. edge_below e.from e.to (to_edge e.from e.to is))

    by_edge : (a f : ℕ) → f < n → IsCallEdge A it n entries calls a f → (a < n → IsLiveIn A it n entries calls a) → IsLiveIn A it n entries calls f
    by_edge a f lt (inl (l, m, w)) before = Called (before l) m w
    by_edge a f lt (inr (e, m, is)) before = Begins lt is

    to_live : (f : ℕ) → f < n → Reaches (Leads edges) n f → IsLiveIn A it n entries calls f
    to_live f lt Start = absurd (omega arith)
    to_live f lt (More {a = a} path edge) = by_edge a f lt (to_edge a f edge) (λ l. to_live a l path)

    from_live : (f : ℕ) → IsLiveIn A it n entries calls f → (f < n) × Reaches (Leads edges) n f
    from_live f (Begins lt is) = (lt, More Start (from_edge n f (inr (refl, omega arith, is))))
    from_live g (Called {f = f} l lt w) = let p = from_live f l in (lt, More p.1 (from_edge f g (inl (p.0, lt, w))))

    pub are_live : (marks : List Bool) → ((f : ℕ) → IsMarked marks f ↔ Reaches (Leads edges) n f) → AreLive A it n entries calls (take n marks)
    are_live marks exact f = (
      λ e. let w = take_live n marks f e in to_live f w.0 ((exact f).0 w.1),
      λ l. let w = from_live f l in live_take n marks f w.0 ((exact f).1 w.1),
    )
