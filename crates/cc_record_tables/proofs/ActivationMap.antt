-- What a table of activations answers, after one of them has changed.
use Rattle.std.proofs.Common.{◌≡◌, ℕ, ◌-◌, List, [], ◌∷◌, Option, Some, None, Bool, true, false, refl, sym, ap, ◌∙◌, cond}
use Rattle.std.specs.Prelude.{nat_eq, slice_get, is_some, ◌&&◌}
use Rattle.indexmap.specs.IndexMap.{get}
use Rattle.cc_record_laws.specs.declared.kept.Entry.{Entry}
use Rattle.cc_record_laws.proofs.Exact.{eqb_is}
use Rattle.cc_record_tables.specs.declared.activations.Activation.{Activation}
use Rattle.cc_record_tables.specs.declared.activations.Activations.{Activations}
use Rattle.cc_record_tables.specs.CellTable.{or_none}
use Rattle.cc_record_tables.specs.ActivationTable.{read_in, has_place_in, passed, entry_in, passing_in, reads_in, answers_of, SameAnswers, has_place, has_read_place, has_place_of, entered, with_read, without}

-- the activation is this one now, and each other one stays
abbrev pub Turns : Activations → ℕ → Option Activation → Activations → Type 0
Turns old act after new = (q : ℕ) → get nat_eq new.live q ≡ cond (nat_eq act q) after (get nat_eq old.live q)

if_cond : {A X : Type 0} (f : A → X) (b : Bool) (x y : A) → f (cond b x y) ≡ cond b (f x) (f y)
if_cond f true x y = refl
if_cond f false x y = refl

when : {X : Type 0} (n q : ℕ) (x y z : X) → (nat_eq n q ≡ true → x ≡ y) → cond (nat_eq n q) x z ≡ cond (nat_eq n q) y z
when n q x y z h = by (nat_eq n q) refl
  where
    by : (b : Bool) → nat_eq n q ≡ b → cond b x z ≡ cond b y z
    by true e = h e
    by false e = refl

same_if : {X : Type 0} (b : Bool) (x : X) → cond b x x ≡ x
same_if true x = refl
same_if false x = refl

module _ (old new : Activations) (act : ℕ) (after : Option Activation) (t : Turns old act after new) where
  turned : {X : Type 0} (f : Option Activation → X) (q : ℕ) → f (get nat_eq new.live q) ≡ cond (nat_eq act q) (f after) (f (get nat_eq old.live q))
  turned f q = ap f (t q) ∙ if_cond f (nat_eq act q) after (get nat_eq old.live q)

  -- another activation that answers alike
  pub same_turned : (before : Option Activation) → get nat_eq old.live act ≡ before → entry_in after ≡ entry_in before → ((n : ℕ) → passing_in after n ≡ passing_in before n)
      → ((u : ℕ) → reads_in after u ≡ reads_in before u) → SameAnswers (answers_of old) (answers_of new)
  same_turned before is e p r = record {
    entry = λ q. back entry_in e q;
    passing = λ q n. back (λ a. passing_in a n) (p n) q;
    read = λ q u. back (λ a. reads_in a u) (r u) q;
  }
    where
      back : {X : Type 0} (f : Option Activation → X) → f after ≡ f before → (q : ℕ) → f (get nat_eq new.live q) ≡ f (get nat_eq old.live q)
      back f h q = turned f q ∙ (when act q (f after) (f (get nat_eq old.live q)) (f (get nat_eq old.live q)) (λ e. h ∙ (ap f (sym is) ∙ ap (λ q. f (get nat_eq old.live q)) (eqb_is act q e))) ∙ same_if (nat_eq act q) (f (get nat_eq old.live q)))

  -- nothing is kept of the activation
  pub ended : after ≡ None → SameAnswers (without act (answers_of old)) (answers_of new)
  ended h = record {
    entry = λ q. turned entry_in q ∙ ap (λ a. cond (nat_eq act q) (entry_in a) (entry_in (get nat_eq old.live q))) h;
    passing = λ q n. turned (λ a. passing_in a n) q ∙ ap (λ a. cond (nat_eq act q) (passing_in a n) (passing_in (get nat_eq old.live q) n)) h;
    read = λ q u. turned (λ a. reads_in a u) q ∙ ap (λ a. cond (nat_eq act q) (reads_in a u) (reads_in (get nat_eq old.live q) u)) h;
  }

  module _ (before : Activation) (is : get nat_eq old.live act ≡ Some before) (a : Activation) (it : after ≡ Some a) where
    has : has_place old act ≡ true
    has = ap is_some is

    more : {X : Type 0} (b : Bool) (x z : X) → cond b x z ≡ cond (b && has_place old act) x z
    more true x z = ap (λ c. cond c x z) (sym has)
    more false x z = refl

    -- the activation was entered so
    pub entered_turned : (entry : Option Entry) (passing : List (Option ℕ)) → a.entry ≡ entry → a.passing.items ≡ passing → a.reads.items ≡ before.reads.items
        → SameAnswers (entered act entry passing (has_place old act) (answers_of old)) (answers_of new)
    entered_turned entry passing e p r = record {
      entry = λ q. turned entry_in q ∙ (ap (λ x. cond (nat_eq act q) x (entry_in (get nat_eq old.live q))) (ap entry_in it ∙ e) ∙ more (nat_eq act q) entry (entry_in (get nat_eq old.live q)));
      passing = λ q n. turned (λ a. passing_in a n) q ∙ (ap (λ x. cond (nat_eq act q) x (passing_in (get nat_eq old.live q) n)) (ap (λ a. passing_in a n) it ∙ ap (λ l. passed l n) p) ∙ more (nat_eq act q) (passed passing n) (passing_in (get nat_eq old.live q) n));
      read = λ q u. turned (λ a. reads_in a u) q
          ∙ (when act q (reads_in after u) (reads_in (get nat_eq old.live q) u) (reads_in (get nat_eq old.live q) u)
          (λ e. ap (λ a. reads_in a u) it ∙ (ap (λ l. read_in l u) r ∙ (ap (λ a. reads_in a u) (sym is) ∙ ap (λ q. reads_in (get nat_eq old.live q) u) (eqb_is act q e)))) ∙ same_if (nat_eq act q) (reads_in (get nat_eq old.live q) u));
    }

    -- the occurrence has read this in the activation
    pub read_turned : (occ : ℕ) (d : Option ℕ) → a.entry ≡ before.entry → a.passing.items ≡ before.passing.items
        → ((u : ℕ) → read_in a.reads.items u ≡ cond (nat_eq occ u && has_place_in before.reads.items occ) d (read_in before.reads.items u))
        → SameAnswers (with_read act occ d (has_read_place old act occ) (answers_of old)) (answers_of new)
    read_turned occ d e p r = record {
      entry = λ q. turned entry_in q
          ∙ (when act q (entry_in after) (entry_in (get nat_eq old.live q)) (entry_in (get nat_eq old.live q)) (λ h. ap entry_in it ∙ (e ∙ (ap entry_in (sym is) ∙ ap (λ q. entry_in (get nat_eq old.live q)) (eqb_is act q h)))) ∙ same_if (nat_eq act q) (entry_in (get nat_eq old.live q)));
      passing = λ q n. turned (λ a. passing_in a n) q
          ∙ (when act q (passing_in after n) (passing_in (get nat_eq old.live q) n) (passing_in (get nat_eq old.live q) n)
          (λ h. ap (λ a. passing_in a n) it ∙ (ap (λ l. passed l n) p ∙ (ap (λ a. passing_in a n) (sym is) ∙ ap (λ q. passing_in (get nat_eq old.live q) n) (eqb_is act q h)))) ∙ same_if (nat_eq act q) (passing_in (get nat_eq old.live q) n));
      read = λ q u. turned (λ a. reads_in a u) q
          ∙ (when act q (reads_in after u) (cond (nat_eq occ u && has_read_place old act occ) d (reads_in (get nat_eq old.live q) u)) (reads_in (get nat_eq old.live q) u)
          (λ h. ap (λ a. reads_in a u) it ∙ (r u
          ∙ (ap (λ b. cond (nat_eq occ u && b) d (read_in before.reads.items u)) (ap (λ a. has_place_of a occ) (sym is))
          ∙ ap (λ x. cond (nat_eq occ u && has_read_place old act occ) d x) (ap (λ a. reads_in a u) (sym is) ∙ ap (λ q. reads_in (get nat_eq old.live q) u) (eqb_is act q h)))))
          ∙ flat (nat_eq act q) (nat_eq occ u) (has_read_place old act occ) d (reads_in (get nat_eq old.live q) u));
    }
      where
        flat : {X : Type 0} (a b c : Bool) (x z : X) → cond a (cond (b && c) x z) z ≡ cond ((a && b) && c) x z
        flat true b c x z = refl
        flat false b c x z = refl

never_if : {X : Type 0} (b c : Bool) (x z : X) → c ≡ false → z ≡ cond (b && c) x z
never_if true c x z h = ap (λ d. cond d x z) (sym h)
never_if false c x z h = refl

-- where the activation has no place nothing changes
pub entered_none : (old : Activations) (act : ℕ) (entry : Option Entry) (passing : List (Option ℕ)) → get nat_eq old.live act ≡ None
    → SameAnswers (entered act entry passing (has_place old act) (answers_of old)) (answers_of old)
entered_none old act entry passing h = record {
  entry = λ q. never_if (nat_eq act q) (has_place old act) entry (entry_in (get nat_eq old.live q)) (ap is_some h);
  passing = λ q n. never_if (nat_eq act q) (has_place old act) (passed passing n) (passing_in (get nat_eq old.live q) n) (ap is_some h);
  read = λ q u. refl;
}

pub read_none : (old : Activations) (act occ : ℕ) (d : Option ℕ) → get nat_eq old.live act ≡ None → SameAnswers (with_read act occ d (has_read_place old act occ) (answers_of old)) (answers_of old)
read_none old act occ d h = record {
  entry = λ q. refl;
  passing = λ q n. refl;
  read = λ q u. never_if (nat_eq act q && nat_eq occ u) (has_read_place old act occ) d (reads_in (get nat_eq old.live q) u) (ap (λ a. has_place_of a occ) h);
}

none_in : (xs : List (Option ℕ)) (m : ℕ) → xs ≡ [] → or_none (slice_get xs m) ≡ None
none_in [] m e = refl
none_in (x ∷ xs) m e = absurd (let z = e in cc)

passed_empty : (xs : List (Option ℕ)) (n : ℕ) → xs ≡ [] → passed xs n ≡ None
passed_empty xs n e = ap (λ (x : Option ℕ). cond (nat_eq n 0) None x) (none_in xs (n - 1) e) ∙ same_if (nat_eq n 0) None

-- a new activation of which nothing is kept
pub empty_place : (old new : Activations) (act : ℕ) (a : Activation) → get nat_eq old.live act ≡ None → a.entry ≡ None → a.passing.items ≡ [] → a.reads.items ≡ [] → Turns old act (Some a) new
    → SameAnswers (answers_of old) (answers_of new)
empty_place old new act a h e p r t = same_turned old new act (Some a) t None h e (λ n. passed_empty a.passing.items n p) (λ u. ap (λ l. read_in l u) r)

pub answers_on : (a b c : Activations) → SameAnswers (answers_of a) (answers_of b) → SameAnswers (answers_of b) (answers_of c) → SameAnswers (answers_of a) (answers_of c)
answers_on a b c g h = record {
  entry = λ q. h.entry q ∙ g.entry q;
  passing = λ q n. h.passing q n ∙ g.passing q n;
  read = λ q u. h.read q u ∙ g.read q u;
}
