-- In which functions nodes stand.
use Rattle.std.proofs.Common.{ℕ, zero, suc, ◌≡◌, ◌+◌, ◌<◌, ◌⊎◌, inl, inr, ⊎_elim, List, [], ◌∷◌, ◌++◌, Option, Some, None, length, refl, sym, ap, ◌∙◌, subst, arith}
use Rattle.std.specs.Prelude.{Contains, ◌↔◌, slice_get, Result, Ok, Err, IfOk}
use Rattle.std.specs.declared.vec.Vec.{Vec}
use Rattle.std.specs.declared.alloc.Global.{Global}
use Rattle.cc_base.specs.declared.memory.Memory.{Memory}
use Rattle.std.proofs.lemmas.Option.{slice_get_within}
use Rattle.cc_arena.specs.Arenas.{parent_of}
use Rattle.cc_arena.specs.declared.arena.Arena.{Arena}
use Rattle.cc_arena.specs.declared.arena.Placed.{Placed}
use Rattle.cc_arena.specs.declared.node.Node.{Node}
use Rattle.cc_arena.specs.declared.node.Node.TheVariants as node
use Rattle.cc_graph.specs.declared.graph.Graph.{Graph}
use Rattle.cc_graph.specs.Graphs.{defined_by}
use Rattle.cc_program.specs.Programs.{or_none}
use Rattle.cc_rows.specs.Gains.{Gains}
use Rattle.cc_rows.proofs.Gained.{gains_none, gains_push, gains_all}
use Rattle.cc_across.specs.declared.owners.Owners.{Owners}
use Rattle.cc_across.specs.Pairs.{Pair, AreRows}
use Rattle.cc_across.specs.Sites.{handed, owners_from, owners_of, owner_by, owner_of, IsEvaluated, body_of, StandsIn, body_pair, body_pairs, AreBodies, AreOwners, functions_by, functions_of}
use Rattle.cc_across.proofs.Joining.{some_is}
use Rattle.cc_across.proofs.Lists.{Numbered, numbered_nil, numbered_cons, none}
use Rattle.cc_across.proofs.Tabling.{pair, pair_is}

-- each function that stands there is defined by a node below n
abbrev AreBelow : List (Option ℕ) → ℕ → Type 0
AreBelow owners n = (k d : ℕ) → slice_get owners k ≡ Some (Some d) → d < n

push_at : {X : Type 0} (xs : List X) (y : X) (i : ℕ) (x : X) → slice_get (xs ++ y ∷ []) i ≡ Some x → (slice_get xs i ≡ Some x) ⊎ (y ≡ x)
push_at [] y zero x at = inr (let e = at in cc)
push_at [] y (suc i) x at = absurd (let e = at in cc)
push_at (z ∷ xs) y zero x at = inl at
push_at (z ∷ xs) y (suc i) x at = push_at xs y i x at

flat_is : (o : Option (Option ℕ)) (d : ℕ) → or_none o ≡ Some d → o ≡ Some (Some d)
flat_is (Some o) d e = ap (λ (x : Option ℕ). Some x) e
flat_is None d e = absurd (let h = e in cc)

handed_below : (n : ℕ) (what : Node) (own : Option ℕ) (d : ℕ) → ((e : ℕ) → own ≡ Some e → e < n) → handed n what own ≡ Some d → d < n + 1
handed_below n (node.Definition a b) own d below e = (let same : n ≡ d = some_is n d e in omega (arith, same))
handed_below n what own d below e = (let lt : d < n = below d e in omega (arith, lt))

owners_below : (xs : List Placed) (n : ℕ) (done : List (Option ℕ)) → AreBelow done n → AreBelow (owners_from xs n done) (n + length xs)
owners_below [] n done below k d at = (let lt : d < n = below k d at in omega (arith, lt))
owners_below (x ∷ xs) n done below k d at =
    let own = or_none (slice_get done x.parent) in
    let new = handed n x.node own in
    let more : AreBelow (done ++ new ∷ []) (n + 1) = λ i e here. ⊎_elim
    (λ old. (let lt : e < n = below i e old in omega (arith, lt)))
    (λ (is : new ≡ Some e). handed_below n x.node own e (λ f same. below x.parent f (flat_is (slice_get done x.parent) f same)) is)
    (push_at done new i (Some e) here) in
    let lt : d < n + 1 + length xs = owners_below xs (n + 1) (done ++ new ∷ []) more k d at in
    omega (arith, lt)

owner_below : (A : Arena) (up : Option ℕ) (d : ℕ) → owner_by (owners_of A) up ≡ Some d → d < length A.nodes
owner_below A (Some up) d e =
    let lt : d < 0 + length A.nodes = owners_below A.nodes 0 [] (λ k f at. absurd (let h = at in cc)) up d (flat_is (slice_get (owners_of A) up) d e) in
    omega (arith, lt)
owner_below A None d e = absurd (let h = e in cc)

-- what stands somewhere is there
pub owned_within : (A : Arena) (owners : List (Option ℕ)) (s d : ℕ) → owner_of A owners s ≡ Some d → (x : Placed) × (slice_get A.nodes s ≡ Some x) × (or_none (slice_get owners x.parent) ≡ Some d)
owned_within A owners s d e = there (slice_get A.nodes s) e
  where
    there : (o : Option Placed) → owner_by owners (parent_of o) ≡ Some d → (x : Placed) × (o ≡ Some x) × (or_none (slice_get owners x.parent) ≡ Some d)
    there (Some x) h = (x, refl, h)
    there None h = absurd (let g = h in cc)

abbrev BodyStep : ℕ → Option ℕ → Pair → Type 0
BodyStep f d x = (d ≡ Some x.0) × (f ≡ x.1)

body_gains : (d : Option ℕ) (f : ℕ) (ps : List Pair) → Gains ps (body_pair d f ps) (BodyStep f d)
body_gains (Some d) f ps = gains_push ps (pair d f) (BodyStep f (Some d)) (refl, refl) (λ x w. sym (pair_is x d f (sym (some_is d x.0 w.0)) (sym w.1)))
body_gains None f ps = gains_none ps (BodyStep f None) (λ x w. let e = w.0 in cc)

bodies_gains : (ds : List (Option ℕ)) (f : ℕ) (ps : List Pair) → Gains ps (body_pairs ds f ps) (Numbered BodyStep ds f)
bodies_gains [] f ps = numbered_nil BodyStep f ps
bodies_gains (d ∷ ds) f ps =
    let new = body_pair d f ps in
    numbered_cons BodyStep d ds f ps new (body_pairs ds (f + 1) new) (body_gains d f ps) (bodies_gains ds (f + 1) new)

defined_at : (ds : List (Option ℕ)) (f d : ℕ) → defined_by (slice_get ds f) ≡ Some d → slice_get ds f ≡ Some (Some d)
defined_at ds f d e = there (slice_get ds f) e
  where
    there : (o : Option (Option ℕ)) → defined_by o ≡ Some d → o ≡ Some (Some d)
    there (Some x) h = ap (λ (y : Option ℕ). Some y) h
    there None h = absurd (let g = h in cc)

-- a function with a body is below the number of functions
pub defined_below : (G : Graph) (f d : ℕ) → body_of G f ≡ Some d → f < length G.definitions
defined_below G f d e = slice_get_within G.definitions f (Some d) (defined_at G.definitions f d e)

pub are_bodies : (n : ℕ) (G : Graph) (pairs : List Pair) (rows : List (List ℕ)) → pairs ≡ body_pairs G.definitions 0 [] → AreRows rows n pairs → AreBodies n G rows
are_bodies n G pairs rows are exact d f = (
  λ is. (let w = (exact d f).0 is in
      let b = (all (d, f)).0 (subst (λ (xs : List Pair). Contains xs (d, f)) are w.1) in
      let same : b.0 ≡ f = (let e : 0 + b.0 ≡ f = b.3.1 in omega (arith, e)) in
      (w.0, ap defined_by (subst (λ i. slice_get G.definitions i ≡ Some b.1) same b.2) ∙ b.3.0)),
  λ w. (exact d f).1 (w.0, subst (λ (xs : List Pair). Contains xs (d, f)) (sym are) ((all (d, f)).1 (f, Some d, defined_at G.definitions f d w.1, (refl, (let e : 0 + f ≡ f = omega arith in e))))),
)
  where
    all : (x : Pair) → Contains (body_pairs G.definitions 0 []) x ↔ Numbered BodyStep G.definitions 0 x
    all = gains_all [] (body_pairs G.definitions 0 []) (Numbered BodyStep G.definitions 0) refl (bodies_gains G.definitions 0 [])

-- the functions in whose body a node stands
module _ (A : Arena) (G : Graph) (it : Owners) (are : AreOwners A G it) (s : ℕ) where
  owner_is : owner_of A it.owners s ≡ owner_of A (owners_of A) s
  owner_is = ap (λ os. owner_of A os s) are.owners

  pub to_stands : (f : ℕ) → IsEvaluated G s → Contains (functions_of A it s) f → StandsIn A G s f
  to_stands f evaluated is = go (owner_of A it.owners s) refl is
    where
      go : (o : Option ℕ) → owner_of A it.owners s ≡ o → Contains (functions_by it.bodies.items o) f → StandsIn A G s f
      go (Some d) e has = record { evaluated = evaluated; body = d; stands = sym owner_is ∙ e; defines = ((are.bodies d f).0 has).1 }
      go None e has = absurd (none f has)

  pub from_stands : (f : ℕ) → StandsIn A G s f → Contains (functions_of A it s) f
  from_stands f h =
      let lt = owner_below A (parent_of (slice_get A.nodes s)) h.body h.stands in
      subst (λ o. Contains (functions_by it.bodies.items o) f) (sym (owner_is ∙ h.stands)) ((are.bodies h.body f).1 (lt, h.defines))

  pub stands_within : (f : ℕ) → StandsIn A G s f → s < length A.nodes
  stands_within f h = let w = owned_within A (owners_of A) s h.body h.stands in slice_get_within A.nodes s w.0 w.1

pub bodies_ok : (n : ℕ) (G : Graph) (pairs : List Pair) (r : Result (Vec (List ℕ) Global) Memory) → pairs ≡ body_pairs G.definitions 0 [] → IfOk r (λ rows. AreRows rows.items n pairs) → IfOk r (λ rows. AreBodies n G rows.items)
bodies_ok n G pairs (Ok rows) are exact = are_bodies n G pairs rows.items are exact
bodies_ok n G pairs (Err e) are exact = exact
