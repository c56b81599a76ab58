-- Each derived fact is a pair of the least set: each instance of a rule is covered by a constraint.
use Rattle.std.proofs.Common.{ℕ, zero, suc, ◌+◌, ◌≡◌, inl, inr, Bool, true, List, [], ◌∷◌, Some, None, refl, ap, subst, arith}
use Rattle.std.specs.Prelude.{Contains, slice_get, cond}
use Rattle.cc_points_base.specs.declared.view.View.{View}
use Rattle.cc_points_base.specs.declared.view.What.{What}
use Rattle.cc_points_base.specs.declared.view.Class.{Class}
use Rattle.cc_points_base.specs.declared.layout.Layout.{Layout}
use Rattle.cc_points_base.specs.declared.constraint.Constraint.{Constraint}
use Rattle.cc_points_base.specs.declared.constraint.Constraint.TheVariants.{Has, Joins, Watches}
use Rattle.cc_points_base.specs.declared.constraint.Watch.{Watch}
use Rattle.cc_points_base.specs.declared.constraint.Watch.TheVariants as watch
use Rattle.cc_points_base.specs.Layouts.{layout_of, value, slot, place, copy, before}
use Rattle.cc_points_base.specs.Parts.{part_list}
use Rattle.cc_points_base.specs.Saying.{passes, copies, asks, reads}
use Rattle.cc_points_base.specs.Facts.{Fact, MayBe, MayHold, Stands, PartOf, OfName, OfMember, OfDeref, OfIndex, OfArrow, OfParen, ValueFollows, Addresses, Names, AddressesFunction, ReachesFunction, Decays, Reads, Wraps, First, Second, GoesOn, Assigns, Moves, Returns, SlotFollows, Stores, Begins, Passes, Copies, Follows}
use Rattle.cc_solver.specs.declared.rules.Pair.{Pair}
use Rattle.cc_solver.specs.declared.rules.Edge.{Edge}
use Rattle.cc_solver.specs.Least.{Least, Given, Flows, Triggers, Hands}
use Rattle.cc_points_solve.specs.Watching.{edge_of, pair_of, loads, stores, returns, gives}
use Rattle.cc_points_solve.specs.Law.{holder_of, target_of, holders_of}
use Rattle.cc_points_solve.specs.Solving.{asked_by}
use Rattle.cc_points_solve.proofs.Lists.{later}
use Rattle.cc_points_solve.proofs.Asked.{asked_has}
use Rattle.cc_points_solve.proofs.Knowing.{Knows}

passed : (L : Layout) (f : ℕ) (args : List ℕ) (j k m a : ℕ) → m ≡ j + k → slice_get args k ≡ Some a → Contains (passes L f args j) (Watches (value L f) (watch.Passes m (value L a)))
passed L f [] j k m a e at = absurd (let q = at in cc)
passed L f (b ∷ args) j zero m a e at =
    let same : b ≡ a = (let q = at in cc) in
    let first : j ≡ m = omega arith in
    subst (λ i. Contains (passes L f (b ∷ args) j) (Watches (value L f) (watch.Passes i (value L a)))) first (subst (λ i. Contains (passes L f (b ∷ args) j) (Watches (value L f) (watch.Passes j (value L i)))) same (0, omega arith, refl))
passed L f (b ∷ args) j (suc k) m a e at = later (Watches (value L f) (watch.Passes j (value L b))) (passes L f args (j + 1)) _ (passed L f args (j + 1) k m a (omega arith) at)

past_two : (a b : Constraint) (xs : List Constraint) (y : Constraint) → Contains xs y → Contains (a ∷ b ∷ xs) y
past_two a b xs y is = later a (b ∷ xs) y (later b xs y is)

-- the constraints for the pointer at the end of one path
copied : (L : Layout) (id k l r : ℕ) (paths : List ℕ) (j i m w : ℕ) → m ≡ k + (j + i) → slice_get paths i ≡ Some w →
    Contains (copies L id k l r paths j) (Watches (place L r) (watch.Copies id w (copy L m))) × Contains (copies L id k l r paths j) (Watches (place L l) (watch.Pastes id w (copy L m)))
copied L id k l r [] j i m w e at = absurd (let q = at in cc)
copied L id k l r (v ∷ paths) j zero m w e at =
    let same : v ≡ w = (let q = at in cc) in
    let first : k + j ≡ m = omega arith in
    subst (λ n. Contains (copies L id k l r (v ∷ paths) j) (Watches (place L r) (watch.Copies id w (copy L n))) × Contains (copies L id k l r (v ∷ paths) j) (Watches (place L l) (watch.Pastes id w (copy L n)))) first
    (subst (λ n. Contains (copies L id k l r (v ∷ paths) j) (Watches (place L r) (watch.Copies id n (copy L (k + j)))) × Contains (copies L id k l r (v ∷ paths) j) (Watches (place L l) (watch.Pastes id n (copy L (k + j))))) same
    ((0, omega arith, refl), (1, omega arith, refl)))
copied L id k l r (v ∷ paths) j (suc i) m w e at =
    let more = copied L id k l r paths (j + 1) i m w (omega arith) at in (
      past_two (Watches (place L r) (watch.Copies id v (copy L (k + j)))) (Watches (place L l) (watch.Pastes id v (copy L (k + j)))) (copies L id k l r paths (j + 1)) (Watches (place L r) (watch.Copies id w (copy L m))) more.0,
      past_two (Watches (place L r) (watch.Copies id v (copy L (k + j)))) (Watches (place L l) (watch.Pastes id v (copy L (k + j)))) (copies L id k l r paths (j + 1)) (Watches (place L l) (watch.Pastes id w (copy L m))) more.1,
    )

module _ (P : View) (given : List Pair) (joins : List Edge) (Adds Gives : ℕ → ℕ → ℕ → ℕ → Type 0) (knows : Knows P (layout_of P) (holders_of (layout_of P)) (asked_by P) given joins Adds Gives) (S : Fact → Type 0) where
  L : Layout
  L = layout_of P

  Must : ℕ → ℕ → Type 0
  Must = Least given joins Adds Gives

  said : (n : ℕ) {x : What} {c : Class} {u : Bool} {y : Constraint} → Stands P n x c u → Contains (asks (layout_of P) P.lists n (before P.lists P.nodes n) c x) y → Contains (asked_by P) y
  said n at is = asked_has (layout_of P) P.lists P.nodes 0 0 n n (before P.lists P.nodes n) _ [] _ (omega arith) (omega arith) at (inl is)

  read : (n : ℕ) {x : What} {c : Class} {u : Bool} {y : Constraint} → Stands P n x c u → Contains (reads (layout_of P) n c u) y → Contains (asked_by P) y
  read n at is = asked_has (layout_of P) P.lists P.nodes 0 0 n n (before P.lists P.nodes n) _ [] _ (omega arith) (omega arith) at (inr is)

  has : {h t : ℕ} → Contains (asked_by P) (Has h t) → Least given joins Adds Gives h t
  has is = Given (knows.given_has _ _ is)

  goes : {g h t : ℕ} → Contains (asked_by P) (Joins g h) → Least given joins Adds Gives g t → Least given joins Adds Gives h t
  goes is l = Flows (knows.joins_has _ _ is) l

  adds : {p q g h t : ℕ} {w : Watch} → Contains (asked_by P) (Watches p w) → Least given joins Adds Gives p q → edge_of P (layout_of P) w q ≡ Some (record { from = g; to = h }) → Least given joins Adds Gives g t → Least given joins Adds Gives h t
  adds is l e m = Triggers l (knows.adds_has _ _ _ _ _ is e) m

  hands : {p q h t : ℕ} {w : Watch} → Contains (asked_by P) (Watches p w) → Least given joins Adds Gives p q → pair_of P w q ≡ Some (record { holder = h; target = t }) → Least given joins Adds Gives h t
  hands is l e = Hands l (knows.gives_has _ _ _ _ _ is e)

  yes : {b : Bool} (p : Pair) → b ≡ true → cond b (Some p) None ≡ Some p
  yes p e = ap (λ b. cond b (Some p) None) e

  abbrev Good : Fact → Type 0
  Good f = Least given joins Adds Gives (holder_of (layout_of P) f) (target_of f)

  module _ (ok : (f : Fact) → S f → Least given joins Adds Gives (holder_of (layout_of P) f) (target_of f)) where
    pub part : (n q : ℕ) → PartOf P S n q → Least given joins Adds Gives (place (layout_of P) n) q
    part n q (OfName at) = has (said n at (0, omega arith, refl))
    part n q (OfMember {e = e} {p = p} at is m) = hands (said n at (0, omega arith, refl)) (part e p is) (ap (λ o. gives o (place (layout_of P) n)) m)
    part n q (OfDeref at s is) = hands (said n at (0, omega arith, refl)) (ok _ s) (yes _ is)
    part n q (OfIndex at s is) = hands (said n at (0, omega arith, refl)) (ok _ s) (yes _ is)
    part n q (OfArrow at s m) = hands (said n at (0, omega arith, refl)) (ok _ s) (ap (λ o. gives o (place (layout_of P) n)) m)
    part n q (OfParen {e = e} at is) = goes (said n at (1, omega arith, refl)) (part e q is)

    value_covered : (n t : ℕ) → ValueFollows P S n t → Least given joins Adds Gives (value (layout_of P) n) t
    value_covered n t (Addresses at is) = goes (said n at (0, omega arith, refl)) (part _ t is)
    value_covered n t (Names at) = has (said n at (0, omega arith, refl))
    value_covered n t (AddressesFunction at s is) = hands (said n at (1, omega arith, refl)) (ok _ s) (yes _ is)
    value_covered n t (ReachesFunction at s is) = hands (said n at (1, omega arith, refl)) (ok _ s) (yes _ is)
    value_covered n t (Decays at is e) = hands (read n at (0, omega arith, refl)) (part n _ is) (ap (λ o. gives o (value (layout_of P) n)) e)
    value_covered n t (Reads at is e s) = adds (read n at (0, omega arith, refl)) (part n _ is) (ap (λ o. loads (layout_of P) o (value (layout_of P) n)) e) (ok _ s)
    value_covered n t (Wraps at s) = goes (said n at (0, omega arith, refl)) (ok _ s)
    value_covered n t (First at s) = goes (said n at (0, omega arith, refl)) (ok _ s)
    value_covered n t (Second at s) = goes (said n at (1, omega arith, refl)) (ok _ s)
    value_covered n t (GoesOn at s) = goes (said n at (0, omega arith, refl)) (ok _ s)
    value_covered n t (Assigns at s) = goes (said n at (0, omega arith, refl)) (ok _ s)
    value_covered n t (Moves at s) = goes (said n at (0, omega arith, refl)) (ok _ s)
    value_covered n t (Returns r at s e at_r s_r) = adds (said n at (0, omega arith, refl)) (ok _ s) (ap (λ o. returns (layout_of P) o (value (layout_of P) n)) e) (goes (said r at_r (0, omega arith, refl)) (ok _ s_r))

    slot_covered : (s t : ℕ) → SlotFollows P S s t → Least given joins Adds Gives (slot (layout_of P) s) t
    slot_covered s t (Stores n {l = l} {r = r} at is e m) = adds (said n at (1, omega arith, refl)) (part l _ is) (ap (λ o. stores (layout_of P) o (value (layout_of P) r)) e) (ok _ m)
    slot_covered s t (Begins n at m) = goes (said n at (0, omega arith, refl)) (ok _ m)
    slot_covered s t (Passes n k {f = f} {a = a} {args = args} at called arg e m) = adds (said n at (later (Watches (value (layout_of P) f) (watch.Returns (value (layout_of P) n))) (passes (layout_of P) f (part_list P.lists args) 0) _ (passed (layout_of P) f (part_list P.lists args) 0 k k a (omega arith) arg))) (ok _ called) (ap (λ o. stores (layout_of P) o (value (layout_of P) a)) e) (ok _ m)
    slot_covered s t (Copies n j {id = id} {l = l} {r = r} {w = w} {paths = paths} at path left right to from m) =
        let k = before P.lists P.nodes n in
        let both = copied (layout_of P) id k l r (part_list P.lists paths) 0 j (k + j) w (omega arith) path in
        let first = Joins (value (layout_of P) r) (value (layout_of P) n) in
        adds (said n at (later first (copies (layout_of P) id k l r (part_list P.lists paths) 0) _ both.1)) (part l _ left) (ap (λ o. stores (layout_of P) o (copy (layout_of P) (k + j))) to)
        (adds (said n at (later first (copies (layout_of P) id k l r (part_list P.lists paths) 0) _ both.0)) (part r _ right) (ap (λ o. loads (layout_of P) o (copy (layout_of P) (k + j))) from) (ok _ m))

    pub covered : (f : Fact) → Follows P S f → Least given joins Adds Gives (holder_of (layout_of P) f) (target_of f)
    covered (MayBe n t) is = value_covered n t is
    covered (MayHold s t) is = slot_covered s t is
