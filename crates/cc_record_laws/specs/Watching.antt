-- What a recorder's tables and its set stand for, and what an event must do to them.
use Rattle.std.specs.Prelude.{◌≡◌, ℕ, List, [], ◌∷◌, ◌++◌, ◌⊎◌, ◌↔◌, Contains, Bool, true, false, cond, nat_eq, Some}
use Rattle.cc_meaning.specs.declared.event.Event.{Event}
use Rattle.cc_meaning.specs.declared.event.Cell.{Cell}
use Rattle.cc_meaning.specs.declared.coupling.Coupling.{Coupling}
use Rattle.cc_record_laws.specs.Roles.{Roles}
use Rattle.cc_record_laws.specs.Kept.{Kept, start, GivesNow}
use Rattle.cc_record_laws.specs.Dropping.{live_after, RecordedFrom}
use Rattle.cc_record_laws.specs.Orderly.{IsOrderly}
use Rattle.cc_record_laws.specs.Exercised.{Exercised}

-- What is asked of an activation's reads are those of named arguments and returns.
pub record Asks (R : Roles) (asked : ℕ → Bool) : Type 0 where
  pub argument : (s n arg u : ℕ) → R.argument s n ≡ Some arg → R.named arg ≡ Some u → asked u ≡ true
  pub returned : (r u : ℕ) → R.returned r ≡ Some u → asked u ≡ true

-- Both answer alike, in what is asked.
pub record IsSame (asked : ℕ → Bool) (k l : Kept) : Type 0 where
  pub due : (c : Cell) (n : ℕ) → k.due c n ≡ l.due c n
  pub wrote : (c : Cell) → k.wrote c ≡ l.wrote c
  pub fresh : (c : Cell) → k.fresh c ≡ l.fresh c
  pub read : (a u : ℕ) → asked u ≡ true → k.read a u ≡ l.read a u
  pub entry : (a : ℕ) → k.entry a ≡ l.entry a
  pub passing : (a n : ℕ) → k.passing a n ≡ l.passing a n
  pub stack : k.stack ≡ l.stack

abbrev pub live_all : Roles → Kept → List Event → Kept
live_all R k [] = k
live_all R k (e ∷ es) = live_all R (live_after R k e) es

-- Tables that answer as k, and a set, stand for the list.
pub record StandsFor (R : Roles) (asked : ℕ → Bool) (k : Kept) (seen : List Coupling) (told : List Event) : Type 0 where
  pub same : IsSame asked k (live_all R start told)
  pub exact : (q : Coupling) → Contains seen q ↔ RecordedFrom R start told q

-- An event makes k' of k, and adds to the set what it gives.
pub record Steps (R : Roles) (asked : ℕ → Bool) (k : Kept) (seen : List Coupling) (k' : Kept) (seen' : List Coupling) (e : Event) : Type 0 where
  pub next : IsSame asked k' (live_after R k e)
  pub adds : (q : Coupling) → Contains seen' q ↔ Contains seen q ⊎ GivesNow R k e q

abbrev pub is_among : ℕ → List ℕ → Bool
is_among a [] = false
is_among a (b ∷ ids) = cond (nat_eq a b) true (is_among a ids)

-- No number stands twice in the list.
abbrev pub Distinct : List ℕ → Type 0
Distinct [] = Unit {0}
Distinct (a ∷ ids) = (is_among a ids ≡ false) × Distinct ids

-- Steps keep what tables stand for, and where they stand for an orderly list the set is what it exercises. What is
-- entered and not left along an orderly list is entered once.
pub record Watching : Type 0 where
  pub more : (R : Roles) (asked : ℕ → Bool) → Asks R asked → (k k' : Kept) (seen seen' : List Coupling) (e : Event) → Steps R asked k seen k' seen' e → (told : List Event) → StandsFor R asked k seen told → StandsFor R asked k' seen' (told ++ e ∷ [])
  pub has : (R : Roles) (asked : ℕ → Bool) (k : Kept) (seen : List Coupling) (told : List Event) → StandsFor R asked k seen told → IsOrderly told → (q : Coupling) → Contains seen q ↔ Exercised R told q
  pub front : (told : List Event) (e : Event) → IsOrderly (told ++ e ∷ []) → IsOrderly told
  pub once : (R : Roles) (told : List Event) → IsOrderly told → Distinct (live_all R start told).stack
