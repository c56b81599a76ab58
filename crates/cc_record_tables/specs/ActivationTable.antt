-- What is kept of each live activation.
use Rattle.std.specs.Prelude.{◌≡◌, ℕ, ◌+◌, ◌-◌, List, [], ◌∷◌, Bool, true, false, ◌&&◌, Option, Some, None, cond, is_some, nat_eq, slice_get}
use Rattle.indexmap.specs.IndexMap.{get}
use Rattle.cc_record_laws.specs.declared.kept.Entry.{Entry}
use Rattle.cc_record_tables.specs.declared.activations.Activation.{Activation}
use Rattle.cc_record_tables.specs.declared.activations.Activations.{Activations}
use Rattle.cc_record_tables.specs.declared.activations.Read.{Read}
use Rattle.cc_record_tables.specs.CellTable.{or_none}

-- what the last read by an occurrence found
abbrev pub read_in : List Read → ℕ → Option ℕ
read_in [] occ = None
read_in (r ∷ reads) occ = cond (nat_eq r.occ occ) r.definition (read_in reads occ)

-- the place of the occurrence among these, counted from n
abbrev pub place_from : ℕ → List Read → ℕ → Option ℕ
place_from n [] occ = None
place_from n (r ∷ reads) occ = cond (nat_eq r.occ occ) (Some n) (place_from (n + 1) reads occ)

abbrev pub has_place_in : List Read → ℕ → Bool
has_place_in [] occ = false
has_place_in (r ∷ reads) occ = cond (nat_eq r.occ occ) true (has_place_in reads occ)

abbrev pub SameReads : List Read → List Read → Type 0
SameReads old new = (u : ℕ) → read_in new u ≡ read_in old u

-- the definition of argument k, counted from 1
abbrev pub passed : List (Option ℕ) → ℕ → Option ℕ
passed passing k = cond (nat_eq k 0) None (or_none (slice_get passing (k - 1)))

-- what a table of activations answers
pub record Answers : Type 0 where
  pub entry : ℕ → Option Entry
  pub passing : ℕ → ℕ → Option ℕ
  pub read : ℕ → ℕ → Option ℕ

abbrev pub nothing : Answers
nothing = record { entry = λ act. None; passing = λ act k. None; read = λ act u. None }

abbrev pub entry_in : Option Activation → Option Entry
entry_in (Some a) = a.entry
entry_in None = None

abbrev pub passing_in : Option Activation → ℕ → Option ℕ
passing_in (Some a) k = passed a.passing.items k
passing_in None k = None

abbrev pub reads_in : Option Activation → ℕ → Option ℕ
reads_in (Some a) u = read_in a.reads.items u
reads_in None u = None

abbrev pub answers_of : Activations → Answers
answers_of t = record {
  entry = λ act. entry_in (get nat_eq t.live act);
  passing = λ act k. passing_in (get nat_eq t.live act) k;
  read = λ act u. reads_in (get nat_eq t.live act) u;
}

-- both answer alike
pub record SameAnswers (k l : Answers) : Type 0 where
  pub entry : (act : ℕ) → l.entry act ≡ k.entry act
  pub passing : (act n : ℕ) → l.passing act n ≡ k.passing act n
  pub read : (act u : ℕ) → l.read act u ≡ k.read act u

-- the activation has a place
abbrev pub has_place : Activations → ℕ → Bool
has_place t act = is_some (get nat_eq t.live act)

abbrev pub has_place_of : Option Activation → ℕ → Bool
has_place_of (Some a) u = has_place_in a.reads.items u
has_place_of None u = false

-- what the occurrence reads in the activation has a place
abbrev pub has_read_place : Activations → ℕ → ℕ → Bool
has_read_place t act u = has_place_of (get nat_eq t.live act) u

-- the activation was entered so, where it has a place
abbrev pub entered : ℕ → Option Entry → List (Option ℕ) → (has : Bool) → Answers → Answers
entered act entry passing has k = record {
  entry = λ a. cond (nat_eq act a && has) entry (k.entry a);
  passing = λ a n. cond (nat_eq act a && has) (passed passing n) (k.passing a n);
  read = k.read;
}

-- the occurrence has read this in the activation, where it has a place
abbrev pub with_read : ℕ → ℕ → Option ℕ → (has : Bool) → Answers → Answers
with_read act u definition has k = record {
  entry = k.entry;
  passing = k.passing;
  read = λ a v. cond ((nat_eq act a && nat_eq u v) && has) definition (k.read a v);
}

-- nothing is kept of the activation
abbrev pub without : ℕ → Answers → Answers
without act k = record {
  entry = λ a. cond (nat_eq act a) None (k.entry a);
  passing = λ a n. cond (nat_eq act a) None (k.passing a n);
  read = λ a u. cond (nat_eq act a) None (k.read a u);
}
