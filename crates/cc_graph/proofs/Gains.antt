-- What the lists gain by a step, by what a node says, and by all nodes.
use Rattle.std.proofs.Common.{ℕ, zero, suc, ◌+◌, ◌<◌, ◌≡◌, ◌≢◌, ◌⊎◌, inl, inr, List, [], ◌∷◌, ◌++◌, Option, Some, None, length, slice_get, replicate, map, refl, sym, ap, subst, ◌∙◌, arith}
use Rattle.std.specs.List.{Contains}
use Rattle.std.proofs.lemmas.List.{length-map, length-set, length-replicate, get_or-set_same, get_or-set_other, get_or-replicate}
use Rattle.std.proofs.lemmas.List.Elements.{Contains-append_left, Contains-append_right, Contains-append_cases}
use Rattle.std.proofs.lemmas.Bool.Decides.{eqb_tells}
use Rattle.cc_arena.specs.declared.arena.Arena.{Arena}
use Rattle.cc_arena.specs.declared.arena.Placed.{Placed}
use Rattle.cc_graph.specs.declared.scope.Scope.{Scope}
use Rattle.cc_graph.specs.declared.position.Row.{Row}
use Rattle.cc_graph.specs.declared.position.Position.{Position}
use Rattle.cc_graph.specs.Points.{number, source}
use Rattle.cc_graph.specs.Scopes.{scope_at}
use Rattle.cc_graph.specs.Succession.{Step, says, jump, Follows}
use Rattle.cc_graph.specs.Order.{in_order}
use Rattle.cc_graph.proofs.Ordering.{ordered_only, ordered_kept, ordered_ascends}
use Rattle.cc_graph.specs.Linking.{Next, row_of, with_step, added, linked, told, all_linked, all_told, node_linked, lowered, IsSuccession}

-- each list has what it had and what P says, and nothing else
record Gains (old new : Next) (P : ℕ → ℕ → Type 0) : Type 0 where
  long : length new ≡ length old
  only : (k j : ℕ) → k < length old → Contains (row_of new k) j → Contains (row_of old k) j ⊎ P k j
  kept : (k j : ℕ) → k < length old → Contains (row_of old k) j → Contains (row_of new k) j
  gained : (k j : ℕ) → k < length old → P k j → Contains (row_of new k) j

either : {A B C : Type 0} → (A → C) → (B → C) → A ⊎ B → C
either f g (inl a) = f a
either f g (inr b) = g b

gains_on : {a b c : Next} {P Q : ℕ → ℕ → Type 0} → Gains a b P → Gains b c Q → Gains a c (λ k j. P k j ⊎ Q k j)
gains_on {a} {b} {c} {P} {Q} h g = record {
  long = g.long ∙ h.long;
  only = λ k j w has. either (λ old. either inl (λ p. inr (inl p)) (h.only k j w old)) (λ q. inr (inr q)) (g.only k j (subst (λ n. k < n) (sym h.long) w) has);
  kept = λ k j w has. g.kept k j (subst (λ n. k < n) (sym h.long) w) (h.kept k j w has);
  gained = λ k j w says. either (λ p. g.kept k j (subst (λ n. k < n) (sym h.long) w) (h.gained k j w p)) (λ q. g.gained k j (subst (λ n. k < n) (sym h.long) w) q) says;
}

gains_as : {a b : Next} {P Q : ℕ → ℕ → Type 0} → ((k j : ℕ) → P k j → Q k j) → ((k j : ℕ) → Q k j → P k j) → Gains a b P → Gains a b Q
gains_as to from h = record {
  long = h.long;
  only = λ k j w has. either inl (λ p. inr (to k j p)) (h.only k j w has);
  kept = h.kept;
  gained = λ k j w q. h.gained k j w (from k j q);
}

gains_none : (a : Next) → Gains a a (λ k j. ⊥)
gains_none a = record {
  long = refl;
  only = λ k j w has. inl has;
  kept = λ k j w has. has;
  gained = λ k j w no. absurd no;
}

one : (b j : ℕ) → Contains (b ∷ []) j → b ≡ j
one b j (zero, w, e) = e
one b j (suc k, w, e) = absurd (omega arith)

the_one : (b : ℕ) → Contains (b ∷ []) b
the_one b = (zero, omega arith, refl)

here : (next : Next) (a b : ℕ) → a < length next → row_of (with_step a b next) a ≡ row_of next a ++ b ∷ []
here next a b w = get_or-set_same next a (row_of next a ++ b ∷ []) [] w

there : (next : Next) (a b k : ℕ) → k ≢ a → row_of (with_step a b next) k ≡ row_of next k
there next a b k ne = get_or-set_other next a k (row_of next a ++ b ∷ []) [] ne

with_step_gains : (next : Next) (a b : ℕ) → Gains next (with_step a b next) (λ k j. (a ≡ k) × (b ≡ j))
with_step_gains next a b = record {
  long = length-set next a (row_of next a ++ b ∷ []);
  only = λ k j w has. either
      (λ same. let is : k ≡ a = same.1 in
      let at_a = subst (λ i. Contains (row_of (with_step a b next) i) j) is has in
      let long_enough : a < length next = omega (arith, is, w) in
      let split = Contains-append_cases (row_of next a) (b ∷ []) j (subst (λ xs. Contains xs j) (here next a b long_enough) at_a) in
      either (λ old. inl (subst (λ i. Contains (row_of next i) j) (sym is) old)) (λ new. inr (sym is, one b j new)) split)
      (λ differ. inl (subst (λ xs. Contains xs j) (there next a b k differ.1) has))
      (eqb_tells k a);
  kept = λ k j w has. either
      (λ same. let is : k ≡ a = same.1 in
      let long_enough : a < length next = omega (arith, is, w) in
      let at_a = subst (λ i. Contains (row_of next i) j) is has in
      subst (λ i. Contains (row_of (with_step a b next) i) j) (sym is) (subst (λ xs. Contains xs j) (sym (here next a b long_enough)) (Contains-append_left (row_of next a) (b ∷ []) j at_a)))
      (λ differ. subst (λ xs. Contains xs j) (sym (there next a b k differ.1)) has)
      (eqb_tells k a);
  gained = λ k j w says.
      let long_enough : a < length next = omega (arith, says.0, w) in
      let at_a = subst (λ xs. Contains xs b) (sym (here next a b long_enough)) (Contains-append_right (row_of next a) (b ∷ []) b (the_one b)) in
      subst (λ i. Contains (row_of (with_step a b next) i) j) says.0 (subst (λ i. Contains (row_of (with_step a b next) a) i) says.1 at_a);
}

abbrev IsAt : Option ℕ → Option ℕ → ℕ → ℕ → Type 0
IsAt from to k j = (from ≡ Some k) × (to ≡ Some j)

added_gains : (from to : Option ℕ) (next : Next) → Gains next (added from to next) (IsAt from to)
added_gains (Some a) (Some b) next = gains_as (λ k j p. (ap Some p.0, ap Some p.1)) (λ k j p. let e = p.0 in let f = p.1 in (cc, cc)) (with_step_gains next a b)
added_gains (Some a) None next = gains_as (λ k j no. absurd no) (λ k j p. let f = p.1 in cc) (gains_none next)
added_gains None (Some b) next = gains_as (λ k j no. absurd no) (λ k j p. let e = p.0 in cc) (gains_none next)
added_gains None None next = gains_as (λ k j no. absurd no) (λ k j p. let e = p.0 in cc) (gains_none next)

-- one of these steps leads from k to j, where from tells the number of a point that a step begins at
abbrev StepIn : (Position → Option ℕ) → List Row → List Step → ℕ → ℕ → Type 0
StepIn from rows steps k j = (p : Position) × (q : Position) × Contains steps (p, q) × (from p ≡ Some k) × (number rows q ≡ Some j)

first_or_later : (from : Position → Option ℕ) (rows : List Row) (s : Step) (steps : List Step) (k j : ℕ) → IsAt (from s.0) (number rows s.1) k j ⊎ StepIn from rows steps k j → StepIn from rows (s ∷ steps) k j
first_or_later from rows s steps k j (inl h) = (s.0, s.1, (zero, omega arith, refl), h.0, h.1)
first_or_later from rows s steps k j (inr (p, q, (i, w, e), f, g)) = (p, q, (suc i, omega arith, e), f, g)

which : (from : Position → Option ℕ) (rows : List Row) (s : Step) (steps : List Step) (k j : ℕ) → StepIn from rows (s ∷ steps) k j → IsAt (from s.0) (number rows s.1) k j ⊎ StepIn from rows steps k j
which from rows s steps k j (p, q, (zero, w, e), f, g) = inl (ap (λ (t : Step). from t.0) e ∙ f, ap (λ (t : Step). number rows t.1) e ∙ g)
which from rows s steps k j (p, q, (suc i, w, e), f, g) = inr (p, q, (i, omega arith, e), f, g)

all_linked_gains : (rows : List Row) (steps : List Step) (next : Next) → Gains next (all_linked rows steps next) (StepIn (source rows) rows steps)
all_linked_gains rows [] next = gains_as (λ k j no. absurd no) (λ k j (p, q, (i, w, e), f, g). omega arith) (gains_none next)
all_linked_gains rows (s ∷ steps) next = gains_as (first_or_later (source rows) rows s steps) (which (source rows) rows s steps) (gains_on (added_gains (source rows s.0) (number rows s.1) next) (all_linked_gains rows steps (linked rows s next)))

all_told_gains : (rows : List Row) (steps : List Step) (next : Next) → Gains next (all_told rows steps next) (StepIn (number rows) rows steps)
all_told_gains rows [] next = gains_as (λ k j no. absurd no) (λ k j (p, q, (i, w, e), f, g). omega arith) (gains_none next)
all_told_gains rows (s ∷ steps) next = gains_as (first_or_later (number rows) rows s steps) (which (number rows) rows s steps) (gains_on (added_gains (number rows s.0) (number rows s.1) next) (all_told_gains rows steps (told rows s next)))

count_ordered : (next : Next) → length (map in_order next) ≡ length next
count_ordered next = simp length-map

module _ (A : Arena) (rows : List Row) (scopes : List Scope) where
  -- the node n says that j follows k
  abbrev Tells : ℕ → Placed → ℕ → ℕ → Type 0
  Tells n x k j = StepIn (source rows) rows (says A rows n x.node) k j ⊎ StepIn (number rows) rows (jump (scope_at scopes x.parent) n x.node) k j

  node_gains : (n : ℕ) (x : Placed) (next : Next) → Gains next (node_linked A rows scopes n x next) (Tells n x)
  node_gains n x next = gains_on (all_linked_gains rows (says A rows n x.node) next) (all_told_gains rows (jump (scope_at scopes x.parent) n x.node) (all_linked rows (says A rows n x.node) next))

  -- one of these nodes does, the first of which is the n-th
  abbrev OneTells : List Placed → ℕ → ℕ → ℕ → Type 0
  OneTells xs n k j = (i : ℕ) × (x : Placed) × (slice_get xs i ≡ Some x) × Tells (n + i) x k j

  to_one : (x : Placed) (xs : List Placed) (n k j : ℕ) → Tells n x k j ⊎ OneTells xs (n + 1) k j → OneTells (x ∷ xs) n k j
  to_one x xs n k j (inl t) = (zero, x, refl, subst (λ m. Tells m x k j) (omega arith) t)
  to_one x xs n k j (inr (i, y, at, t)) = (suc i, y, at, subst (λ m. Tells m y k j) (omega arith) t)

  from_one : (x : Placed) (xs : List Placed) (n k j : ℕ) → OneTells (x ∷ xs) n k j → Tells n x k j ⊎ OneTells xs (n + 1) k j
  from_one x xs n k j (zero, y, at, t) = inl (let is : y ≡ x = cc in subst (λ z. Tells n z k j) is (subst (λ m. Tells m y k j) (omega arith) t))
  from_one x xs n k j (suc i, y, at, t) = inr (i, y, at, subst (λ m. Tells m y k j) (omega arith) t)

  lowered_gains : (xs : List Placed) (n : ℕ) (next : Next) → Gains next (lowered A rows scopes xs n next) (OneTells xs n)
  lowered_gains [] n next = gains_as (λ k j no. absurd no) (λ k j (i, x, at, t). cc) (gains_none next)
  lowered_gains (x ∷ xs) n next = gains_as (to_one x xs n) (from_one x xs n) (gains_on (node_gains n x next) (lowered_gains xs (n + 1) (node_linked A rows scopes n x next)))

  to_follows : (k j : ℕ) → OneTells A.nodes 0 k j → Follows A rows scopes k j
  to_follows k j (i, x, at, inl (p, q, has, f, g)) = (p, q, (i, x, inl (record { there = at; has = subst (λ m. Contains (says A rows m x.node) (p, q)) (omega arith) has }, f), g))
  to_follows k j (i, x, at, inr (p, q, has, f, g)) = (p, q, (i, x, inr (record { there = at; has = subst (λ m. Contains (jump (scope_at scopes x.parent) m x.node) (p, q)) (omega arith) has }, f), g))

  from_follows : (k j : ℕ) → Follows A rows scopes k j → OneTells A.nodes 0 k j
  from_follows k j (p, q, (n, x, inl (h, f), g)) = (n, x, h.there, inl (p, q, subst (λ m. Contains (says A rows m x.node) (p, q)) (omega arith) h.has, f, g))
  from_follows k j (p, q, (n, x, inr (h, f), g)) = (n, x, h.there, inr (p, q, subst (λ m. Contains (jump (scope_at scopes x.parent) m x.node) (p, q)) (omega arith) h.has, f, g))

  none_in : (points k j : ℕ) → k < points → Contains (row_of (replicate points []) k) j → ⊥
  none_in points k j w has =
      let empty = subst (λ (xs : List ℕ). Contains xs j) (get_or-replicate points k [] [] w) has in
      omega arith

  is_succession : (points : ℕ) (start next : Next) → start ≡ replicate points [] → next ≡ lowered A rows scopes A.nodes 0 start → IsSuccession A rows scopes points (map in_order next)
  is_succession points start next is_start is_next =
      let empty : Next = replicate points [] in
      let h = gains_as to_follows from_follows (lowered_gains A.nodes 0 empty) in
      let count : length empty ≡ points = length-replicate points [] in
      let is : next ≡ lowered A rows scopes A.nodes 0 empty = is_next ∙ ap (lowered A rows scopes A.nodes 0) is_start in
      let goal : IsSuccession A rows scopes points (map in_order (lowered A rows scopes A.nodes 0 empty)) = record {
        long = count_ordered (lowered A rows scopes A.nodes 0 empty) ∙ h.long ∙ count;
        ascends = λ k w. ordered_ascends (lowered A rows scopes A.nodes 0 empty) k;
        only = λ k j w has. either (λ old. absurd (none_in points k j w old)) (λ f. f) (h.only k j (subst (λ n. k < n) (sym count) w) (ordered_only _ k j has));
        each = λ k j w f. ordered_kept _ k j (h.gained k j (subst (λ n. k < n) (sym count) w) f);
      } in
      rw is goal

-- the lists with what all nodes say, each in order
pub lower_is : (A : Arena) (rows : List Row) (scopes : List Scope) (points : ℕ) (all : Next) → all ≡ map in_order (lowered A rows scopes A.nodes 0 (replicate points [])) → IsSuccession A rows scopes points all
lower_is A rows scopes points all is =
    let empty : Next = replicate points [] in
    rw is (is_succession A rows scopes points empty (lowered A rows scopes A.nodes 0 empty) refl refl)
