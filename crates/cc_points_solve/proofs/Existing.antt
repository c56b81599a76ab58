-- A list of derivations has all the facts.
use Rattle.std.proofs.Common.{ℕ, zero, suc, ◌<◌, inl, inr, ⊎_elim, List, [], ◌∷◌, ◌++◌, length, sym, subst, arith, append_assoc, append-nil}
use Rattle.std.specs.Prelude.{Contains}
use Rattle.std.proofs.lemmas.Bool.{cases_eq}
use Rattle.std.proofs.lemmas.Option.{slice_get_within}
use Rattle.std.proofs.lemmas.List.Elements.{Contains-push, Contains-push_cases, Contains-append_left, Contains-append_right}
use Rattle.cc_points_base.specs.Parts.{slots_in}
use Rattle.cc_points_base.specs.declared.view.View.{View}
use Rattle.cc_points_base.specs.Facts.{Fact, MayBe, MayHold, PartOf, OfName, OfMember, OfDeref, OfIndex, OfArrow, OfParen, ValueFollows, Addresses, Names, AddressesFunction, ReachesFunction, Decays, Reads, Wraps, First, Second, GoesOn, Assigns, Moves, Returns, SlotFollows, Stores, Begins, Passes, Copies, Follows, Derives, IsWithin}
use Rattle.cc_points_solve.specs.Law.{IsFactWithin}
use Rattle.cc_points_solve.proofs.Lists.{none}

module _ (P : View) where
  -- more facts, more follows
  part_more : (S T : Fact → Type 0) → ((f : Fact) → S f → T f) → (n q : ℕ) → PartOf P S n q → PartOf P T n q
  part_more S T m n q (OfName at) = OfName at
  part_more S T m n q (OfMember {e = e} {p = p} at is k) = OfMember at (part_more S T m e p is) k
  part_more S T m n q (OfDeref at s is) = OfDeref at (m _ s) is
  part_more S T m n q (OfIndex at s is) = OfIndex at (m _ s) is
  part_more S T m n q (OfArrow at s k) = OfArrow at (m _ s) k
  part_more S T m n q (OfParen {e = e} at is) = OfParen at (part_more S T m e q is)

  value_more : (S T : Fact → Type 0) → ((f : Fact) → S f → T f) → (n t : ℕ) → ValueFollows P S n t → ValueFollows P T n t
  value_more S T m n t (Addresses {e = e} at is) = Addresses at (part_more S T m e t is)
  value_more S T m n t (Names at) = Names at
  value_more S T m n t (AddressesFunction at s is) = AddressesFunction at (m _ s) is
  value_more S T m n t (ReachesFunction at s is) = ReachesFunction at (m _ s) is
  value_more S T m n t (Decays {p = p} at is e) = Decays at (part_more S T m n p is) e
  value_more S T m n t (Reads {p = p} at is e s) = Reads at (part_more S T m n p is) e (m _ s)
  value_more S T m n t (Wraps at s) = Wraps at (m _ s)
  value_more S T m n t (First at s) = First at (m _ s)
  value_more S T m n t (Second at s) = Second at (m _ s)
  value_more S T m n t (GoesOn at s) = GoesOn at (m _ s)
  value_more S T m n t (Assigns at s) = Assigns at (m _ s)
  value_more S T m n t (Moves at s) = Moves at (m _ s)
  value_more S T m n t (Returns r at s e at_r s_r) = Returns r at (m _ s) e at_r (m _ s_r)

  slot_more : (S T : Fact → Type 0) → ((f : Fact) → S f → T f) → (s t : ℕ) → SlotFollows P S s t → SlotFollows P T s t
  slot_more S T m s t (Stores n {l = l} {p = p} at is e h) = Stores n at (part_more S T m l p is) e (m _ h)
  slot_more S T m s t (Begins n at h) = Begins n at (m _ h)
  slot_more S T m s t (Passes n k at f arg e h) = Passes n k at (m _ f) arg e (m _ h)
  slot_more S T m s t (Copies n j {l = l} {r = r} {p = p} {q = q} at path left right to from h) = Copies n j at path (part_more S T m l p left) (part_more S T m r q right) to from (m _ h)

  follows_more : (S T : Fact → Type 0) → ((f : Fact) → S f → T f) → (f : Fact) → Follows P S f → Follows P T f
  follows_more S T m (MayBe n t) is = value_more S T m n t is
  follows_more S T m (MayHold s t) is = slot_more S T m s t is

  -- lists of derivations end to end
  derives_more : (a b l : List Fact) → ((f : Fact) → Contains a f → Contains b f) → Derives P a l → Derives P b l
  derives_more a b [] m d = tt
  derives_more a b (x ∷ l) m d = (follows_more (Contains a) (Contains b) m x d.0, derives_more (a ++ x ∷ []) (b ++ x ∷ []) l (λ f is. ⊎_elim (λ old. Contains-append_left b (x ∷ []) f (m f old)) (λ e. subst (Contains (b ++ x ∷ [])) e (Contains-push b x)) (Contains-push_cases a x f is)) d.1)

  derives_on : (a l k : List Fact) → Derives P a l → Derives P (a ++ l) k → Derives P a (l ++ k)
  derives_on a [] k d e = derives_more (a ++ []) a k (λ f is. subst (λ xs. Contains xs f) (append-nil a) is) e
  derives_on a (x ∷ l) k d e = (d.0, derives_on (a ++ x ∷ []) l k d.1 (derives_more (a ++ x ∷ l) ((a ++ x ∷ []) ++ l) k (λ f is. subst (λ xs. Contains xs f) (sym (append_assoc a (x ∷ []) l)) is) e))

  both : (a b : List Fact) → Derives P [] a → Derives P [] b → Derives P [] (a ++ b)
  both a b d e = derives_on [] a b d (derives_more [] a b (λ f never. absurd (none f never)) e)

  -- some list of derivations has the fact
  abbrev pub IsDerived : Fact → Type 0
  IsDerived f = (l : List Fact) × Derives P [] l × Contains l f

  abbrev PartBy : ℕ → ℕ → Type 0
  PartBy n q = (l : List Fact) × Derives P [] l × PartOf P (Contains l) n q

  part_by : (n q : ℕ) → PartOf P IsDerived n q → PartBy n q
  part_by n q (OfName at) = ([], tt, OfName at)
  part_by n q (OfMember {e = e} {p = p} at is k) = let g = part_by e p is in (g.0, g.1, OfMember at g.2 k)
  part_by n q (OfDeref at s is) = (s.0, s.1, OfDeref at s.2 is)
  part_by n q (OfIndex at s is) = (s.0, s.1, OfIndex at s.2 is)
  part_by n q (OfArrow at s k) = (s.0, s.1, OfArrow at s.2 k)
  part_by n q (OfParen {e = e} at is) = let g = part_by e q is in (g.0, g.1, OfParen at g.2)

  -- a fact at the end
  at_end : (l : List Fact) (f : Fact) → Derives P [] l → Follows P (Contains l) f → IsDerived f
  at_end l f d is = (l ++ f ∷ [], derives_on [] l (f ∷ []) d (is, tt), Contains-push l f)

  left : (a b : List Fact) (f : Fact) → Contains a f → Contains (a ++ b) f
  left a b f is = Contains-append_left a b f is

  right : (a b : List Fact) (f : Fact) → Contains b f → Contains (a ++ b) f
  right a b f is = Contains-append_right a b f is

  part_left : (a b : List Fact) (n q : ℕ) → PartOf P (Contains a) n q → PartOf P (Contains (a ++ b)) n q
  part_left a b n q is = part_more (Contains a) (Contains (a ++ b)) (left a b) n q is

  part_right : (a b : List Fact) (n q : ℕ) → PartOf P (Contains b) n q → PartOf P (Contains (a ++ b)) n q
  part_right a b n q is = part_more (Contains b) (Contains (a ++ b)) (right a b) n q is

  value_derived : (n t : ℕ) → ValueFollows P IsDerived n t → IsDerived (MayBe n t)
  value_derived n t (Addresses {e = e} at is) = let g = part_by e t is in at_end g.0 (MayBe n t) g.1 (Addresses at g.2)
  value_derived n t (Names at) = at_end [] (MayBe n t) tt (Names at)
  value_derived n t (AddressesFunction at s is) = at_end s.0 (MayBe n t) s.1 (AddressesFunction at s.2 is)
  value_derived n t (ReachesFunction at s is) = at_end s.0 (MayBe n t) s.1 (ReachesFunction at s.2 is)
  value_derived n t (Decays {p = p} at is e) = let g = part_by n p is in at_end g.0 (MayBe n t) g.1 (Decays at g.2 e)
  value_derived n t (Reads {p = p} at is e s) = let g = part_by n p is in at_end (g.0 ++ s.0) (MayBe n t) (both g.0 s.0 g.1 s.1) (Reads at (part_left g.0 s.0 n p g.2) e (right g.0 s.0 _ s.2))
  value_derived n t (Wraps at s) = at_end s.0 (MayBe n t) s.1 (Wraps at s.2)
  value_derived n t (First at s) = at_end s.0 (MayBe n t) s.1 (First at s.2)
  value_derived n t (Second at s) = at_end s.0 (MayBe n t) s.1 (Second at s.2)
  value_derived n t (GoesOn at s) = at_end s.0 (MayBe n t) s.1 (GoesOn at s.2)
  value_derived n t (Assigns at s) = at_end s.0 (MayBe n t) s.1 (Assigns at s.2)
  value_derived n t (Moves at s) = at_end s.0 (MayBe n t) s.1 (Moves at s.2)
  value_derived n t (Returns r at s e at_r m) = at_end (s.0 ++ m.0) (MayBe n t) (both s.0 m.0 s.1 m.1) (Returns r at (left s.0 m.0 _ s.2) e at_r (right s.0 m.0 _ m.2))

  slot_derived : (s t : ℕ) → SlotFollows P IsDerived s t → IsDerived (MayHold s t)
  slot_derived s t (Stores n {l = l} {p = p} at is e m) = let g = part_by l p is in at_end (g.0 ++ m.0) (MayHold s t) (both g.0 m.0 g.1 m.1) (Stores n at (part_left g.0 m.0 l p g.2) e (right g.0 m.0 _ m.2))
  slot_derived s t (Begins n at m) = at_end m.0 (MayHold s t) m.1 (Begins n at m.2)
  slot_derived s t (Passes n k at f arg e m) = at_end (f.0 ++ m.0) (MayHold s t) (both f.0 m.0 f.1 m.1) (Passes n k at (left f.0 m.0 _ f.2) arg e (right f.0 m.0 _ m.2))
  slot_derived s t (Copies n j {l = l} {r = r} {p = p} {q = q} at path is_left is_right to from m) =
      let g = part_by l p is_left in
      let h = part_by r q is_right in
      let gh = g.0 ++ h.0 in
      at_end (gh ++ m.0) (MayHold s t) (both gh m.0 (both g.0 h.0 g.1 h.1) m.1)
      (Copies n j at path (part_left gh m.0 l p (part_left g.0 h.0 l p g.2)) (part_left gh m.0 r q (part_right g.0 h.0 r q h.2)) to from (right gh m.0 _ m.2))

  pub derived_closed : (f : Fact) → Follows P IsDerived f → IsDerived f
  derived_closed (MayBe n t) is = value_derived n t is
  derived_closed (MayHold s t) is = slot_derived s t is

  -- what follows is of the program
  value_within : (S : Fact → Type 0) (n t : ℕ) → ValueFollows P S n t → n < length P.nodes
  value_within S n t (Addresses at is) = slice_get_within P.nodes n _ at
  value_within S n t (Names at) = slice_get_within P.nodes n _ at
  value_within S n t (AddressesFunction at s is) = slice_get_within P.nodes n _ at
  value_within S n t (ReachesFunction at s is) = slice_get_within P.nodes n _ at
  value_within S n t (Decays at is e) = slice_get_within P.nodes n _ at
  value_within S n t (Reads at is e s) = slice_get_within P.nodes n _ at
  value_within S n t (Wraps at s) = slice_get_within P.nodes n _ at
  value_within S n t (First at s) = slice_get_within P.nodes n _ at
  value_within S n t (Second at s) = slice_get_within P.nodes n _ at
  value_within S n t (GoesOn at s) = slice_get_within P.nodes n _ at
  value_within S n t (Assigns at s) = slice_get_within P.nodes n _ at
  value_within S n t (Moves at s) = slice_get_within P.nodes n _ at
  value_within S n t (Returns r at s e at_r m) = slice_get_within P.nodes n _ at

  slot_within : (S : Fact → Type 0) → IsWithin P → (s t : ℕ) → SlotFollows P S s t → s < slots_in P
  slot_within S w s t (Stores n {p = p} at is e m) = w.slots p s e
  slot_within S w s t (Begins n at m) = (w.nodes n _ at).0
  slot_within S w s t (Passes n k {g = g} at f arg e m) = w.formals g k s e
  slot_within S w s t (Copies n j {id = id} {w = x} {p = p} at path is_left is_right to from m) = w.leaves id p x s to

  pub fact_within : (S : Fact → Type 0) → IsWithin P → (f : Fact) → Follows P S f → IsFactWithin P f
  fact_within S w (MayBe n t) is = value_within S n t is
  fact_within S w (MayHold s t) is = slot_within S w s t is

  -- one list for all facts of a range
  module _ (Is : ℕ → Fact → Type 0) (each : (k : ℕ) → (l : List Fact) × Derives P [] l × ((f : Fact) → Is k f → Contains l f)) where
    pub all_below : (bound : ℕ) → (l : List Fact) × Derives P [] l × ((k : ℕ) (f : Fact) → k < bound → Is k f → Contains l f)
    all_below zero = ([], tt, λ k f lt is. absurd (omega arith))
    all_below (suc bound) =
        let old = all_below bound in
        let new = each bound in (
          old.0 ++ new.0,
          both old.0 new.0 old.1 new.1,
          λ k f lt is. elim (cases_eq k bound) [
            | inl e ↦ right old.0 new.0 f (new.2 f (subst (λ i. Is i f) e is))
            | inr ne ↦ left old.0 new.0 f (old.2 k f (omega arith) is)
          ],
        )

  pub join : (a b : List Fact) → Derives P [] a → Derives P [] b → Derives P [] (a ++ b)
  join = both
