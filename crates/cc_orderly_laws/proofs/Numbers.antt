-- Numbers that are given out in order, of which the last one is taken back first.
use Rattle.std.proofs.Common.{◌≡◌, ◌≢◌, ℕ, ◌+◌, ◌<◌, ◌≤◌, List, [], ◌∷◌, ◌++◌, Bool, false, ◌∙◌, arith}
use Rattle.std.specs.Prelude.{nat_eq}
use Rattle.std.proofs.lemmas.Bool.{ne_eqb}
use Rattle.cc_meaning.specs.declared.event.Event.{Event}
use Rattle.cc_record_laws.specs.Orderly.{some_of}
use Rattle.cc_record_laws.proofs.Drops.{none_more}

-- they fall from below the number
abbrev pub Falls : List ℕ → ℕ → Type 0
Falls [] next = Unit {0}
Falls (n ∷ ns) next = (n < next) × Falls ns n

pub falls_more : (ns : List ℕ) (m n : ℕ) → m ≤ n → Falls ns m → Falls ns n
falls_more [] m n le f = tt
falls_more (k ∷ ns) m n le f = (let lt : k < m = f.0 in omega (arith, lt, le), f.1)

-- none of them was taken back
abbrev pub AllHeld : (ℕ → Event → Bool) → List Event → List ℕ → Type 0
AllHeld takes past [] = Unit {0}
AllHeld takes past (n ∷ ns) = (some_of (takes n) past ≡ false) × AllHeld takes past ns

-- Of the numbers below next these are in use, the last one first, where the events take others back.
pub record Numbered (takes : ℕ → Event → Bool) (past : List Event) (ns : List ℕ) (next : ℕ) : Type 0 where
  pub falls : Falls ns next
  pub held : AllHeld takes past ns
  pub later : (n : ℕ) → next ≤ n → some_of (takes n) past ≡ false

module _ (takes : ℕ → Event → Bool) (past : List Event) where
  held_on : (e : Event) → ((n : ℕ) → takes n e ≡ false) → (ns : List ℕ) → AllHeld takes past ns → AllHeld takes (past ++ e ∷ []) ns
  held_on e none [] h = tt
  held_on e none (n ∷ ns) h = (none_more (takes n) past e h.0 (none n), held_on e none ns h.1)

  -- an event that takes none back
  pub numbered_on : (e : Event) (ns : List ℕ) (next : ℕ) → ((n : ℕ) → takes n e ≡ false) → Numbered takes past ns next → Numbered takes (past ++ e ∷ []) ns next
  numbered_on e ns next none o = record {
    falls = o.falls;
    held = held_on e none ns o.held;
    later = λ n le. none_more (takes n) past e (o.later n le) (none n);
  }

  -- the next number comes into use
  pub one_more : (ns : List ℕ) (next : ℕ) → Numbered takes past ns next → Numbered takes past (next ∷ ns) (next + 1)
  one_more ns next o = record {
    falls = (omega arith, o.falls);
    held = (o.later next (omega arith), o.held);
    later = λ n le. o.later n (omega (arith, le));
  }

  module _ (a : ℕ) (e : Event) (taken : (n : ℕ) → takes n e ≡ nat_eq a n) where
    other_held : (n : ℕ) → (a ≢ n) → some_of (takes n) past ≡ false → some_of (takes n) (past ++ e ∷ []) ≡ false
    other_held n ne h = none_more (takes n) past e h (taken n ∙ ne_eqb a n ne)

    below_held : (ns : List ℕ) (k : ℕ) → Falls ns k → k ≤ a → AllHeld takes past ns → AllHeld takes (past ++ e ∷ []) ns
    below_held [] k f le h = tt
    below_held (n ∷ ns) k f le h =
        let lt : n < k = f.0 in
        (other_held n (λ same. omega (arith, lt, le, same)) h.0, below_held ns n f.1 (omega (arith, lt, le)) h.1)

    -- the last number is taken back
    pub one_less : (ns : List ℕ) (next : ℕ) → Numbered takes past (a ∷ ns) next → Numbered takes (past ++ e ∷ []) ns next
    one_less ns next o =
        let lt : a < next = o.falls.0 in
        record {
          falls = falls_more ns a next (omega (arith, lt)) o.falls.1;
          held = below_held ns a o.falls.1 (omega arith) o.held.1;
          later = λ n le. other_held n (λ same. omega (arith, lt, le, same)) (o.later n le);
        }
