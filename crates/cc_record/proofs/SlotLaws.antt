-- What the tables answer after a cell is written, passed, read or ended.
use Rattle.std.proofs.Common.{◌≡◌, ◌≢◌, ℕ, ◌<◌, ◌*◌, ◌^◌, ◌%◌, ◌⊎◌, inl, inr, w64, eq-eqb, Option, None, Bool, true, false, refl, sym, ap, ◌∙◌, arith, cond}
use Rattle.std.specs.Prelude.{nat_eq, nat_lt, bit_or}
use Rattle.std.specs.Int.{bit_at}
use Rattle.std.proofs.lemmas.Bool.{cases_eq, ne_eqb, lt-ltb}
use Rattle.std.proofs.lemmas.Nat.Bits.{bit_at_set_same, bit_at_set_other}
use Rattle.cc_record_tables.specs.declared.slot.Slot.{Slot}
use Rattle.cc_record_tables.specs.declared.slot.Since.{Since}
use Rattle.cc_record_tables.specs.declared.slot.Since.TheVariants as since
use Rattle.cc_record_tables.specs.Slots.{read_by, since_read, has_reader, with_reader, due_in, due_since, fresh_in, fresh_since}
use Rattle.cc_record.specs.Recording.{due, wrote, fresh}

module _ (b : Bool) (s t : Option Slot) where
  pub due_cond : (n : ℕ) → due (cond b s t) n ≡ cond b (due s n) (due t n)
  due_cond n = by b
    where
      by : (b : Bool) → due (cond b s t) n ≡ cond b (due s n) (due t n)
      by true = refl
      by false = refl

  pub wrote_cond : wrote (cond b s t) ≡ cond b (wrote s) (wrote t)
  wrote_cond = by b
    where
      by : (b : Bool) → wrote (cond b s t) ≡ cond b (wrote s) (wrote t)
      by true = refl
      by false = refl

  pub fresh_cond : fresh (cond b s t) ≡ cond b (fresh s) (fresh t)
  fresh_cond = by b
    where
      by : (b : Bool) → fresh (cond b s t) ≡ cond b (fresh s) (fresh t)
      by true = refl
      by false = refl

-- a component that has read has read, and so have those that had
reader_more : (readers component n : ℕ) → component < 64 → has_reader (with_reader readers component) n ≡ cond (nat_eq component n) true (has_reader readers n)
reader_more readers component n few =
    ap (λ b. has_reader (cond b (bit_or readers (1 * 2 ^ component % 2 ^ 64)) readers) n) (lt-ltb component 64 few)
    ∙ by (cases_eq component n)
  where
    here : component ≡ n → has_reader (bit_or readers (1 * 2 ^ component % 2 ^ 64)) n ≡ true
    here e =
        ap (λ b. cond b (nat_eq (bit_at (bit_or readers (1 * 2 ^ component % 2 ^ 64)) n) 1) false) (lt-ltb n 64 (omega arith))
        ∙ ap (λ m. nat_eq (bit_at (bit_or readers (1 * 2 ^ component % 2 ^ 64)) m) 1) (sym e)
        ∙ ap (λ x. nat_eq x 1) (bit_at_set_same w64 readers component (omega arith))

    by : (component ≡ n) ⊎ (component ≢ n) → has_reader (bit_or readers (1 * 2 ^ component % 2 ^ 64)) n ≡ cond (nat_eq component n) true (has_reader readers n)
    by (inl e) = here e ∙ sym (ap (λ b. cond b true (has_reader readers n)) (eq-eqb component n e))
    by (inr ne) =
        ap (λ x. cond (nat_lt n 64) (nat_eq x 1) false) (bit_at_set_other w64 readers component (omega arith) n (λ e. ne (sym e)))
        ∙ sym (ap (λ b. cond b true (has_reader readers n)) (ne_eqb component n ne))

read_since : (s : Since) (w : Option ℕ) (component n : ℕ) → component < 64 → due_since (since_read component s) w n ≡ cond (nat_eq component n) None (due_since s w n)
read_since (since.Read readers) w component n few = ap (λ b. cond b None w) (reader_more readers component n few) ∙ by (nat_eq component n)
  where
    by : (b : Bool) → cond (cond b true (has_reader readers n)) None w ≡ cond b None (cond (has_reader readers n) None w)
    by true = refl
    by false = refl
read_since (since.Passed p) w component n few = by (nat_eq component n)
  where
    by : (b : Bool) → ◌≡◌ {A = Option ℕ} None (cond b None None)
    by true = refl
    by false = refl
read_since since.Touched w component n few = by (nat_eq component n)
  where
    by : (b : Bool) → ◌≡◌ {A = Option ℕ} None (cond b None None)
    by true = refl
    by false = refl

pub due_read : (s : Slot) (component n : ℕ) → component < 64 → due_in (read_by component s) n ≡ cond (nat_eq component n) None (due_in s n)
due_read s component n few = read_since s.since s.wrote component n few

pub fresh_read : (s : Slot) (component : ℕ) → fresh_in (read_by component s) ≡ None
fresh_read s component = by s.since
  where
    by : (x : Since) → fresh_since (since_read component x) ≡ None
    by (since.Read readers) = refl
    by (since.Passed p) = refl
    by since.Touched = refl
