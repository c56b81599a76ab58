-- How an activation is entered.
use Rattle.std.proofs.Common.{◌≡◌, ℕ, zero, suc, ◌-◌, List, [], ◌∷◌, ◌++◌, length, Option, Some, None, Bool, true, false, refl, sym, ap, ◌∙◌, arith, cond, reverse, map}
use Rattle.std.specs.Prelude.{nat_eq, slice_get, ◌&&◌}
use Rattle.std.proofs.lemmas.List.{reverse-append}
use Rattle.cc_program.specs.declared.function.FuncId.{FuncId}
use Rattle.cc_meaning.specs.declared.event.Event.TheVariants.{Enter}
use Rattle.cc_record_laws.specs.declared.kept.Entry.{Entry}
use Rattle.cc_record_laws.specs.Kept as kept
use Rattle.cc_record_laws.specs.Kept.{top, passing_by}
use Rattle.cc_record_tables.specs.declared.activations.Activations.{Activations}
use Rattle.cc_record_tables.specs.ActivationTable.{SameAnswers, answers_of, entered, has_place, passed}
use Rattle.cc_record_tables.specs.CellTable.{or_none}
use Rattle.cc_roles.specs.Calls.{arguments}
use Rattle.cc_record.specs.declared.recorder.Recorder.{Recorder}
use Rattle.cc_record.specs.Recording.{kept_of, roles, argument_now, passing}

-- ---- the activation entered last

top_front : (zs : List ℕ) (y x : ℕ) → top ((zs ++ y ∷ []) ++ x ∷ []) ≡ top (zs ++ y ∷ [])
top_front [] y x = refl
top_front (z ∷ zs) y x = refl

-- the last of a list stands first in its reverse
pub top_last : (xs : List ℕ) → slice_get xs (length xs - 1) ≡ top (reverse xs)
top_last [] = refl
top_last (x ∷ []) = refl
top_last (x ∷ y ∷ xs) =
    let e : length (x ∷ y ∷ xs) - 1 ≡ suc (length (y ∷ xs) - 1) = omega arith in
    let inner : reverse (y ∷ xs) ≡ reverse xs ++ y ∷ [] = reverse-append (y ∷ []) xs in
    let outer : reverse (x ∷ y ∷ xs) ≡ reverse (y ∷ xs) ++ x ∷ [] = reverse-append (x ∷ []) (y ∷ xs) in
    ap (slice_get (x ∷ y ∷ xs)) e
    ∙ (top_last (y ∷ xs)
    ∙ (ap top inner ∙ (sym (top_front (reverse xs) y x) ∙ sym (ap top outer ∙ ap (λ r. top (r ++ x ∷ [])) inner))))

-- ---- the definitions of the arguments

module _ (r : Recorder) where
  defined_at : (xs : List ℕ) (i : ℕ) → or_none (slice_get (map (argument_now r) xs) i) ≡ kept.argument_now (roles r) (kept_of r) (slice_get xs i)
  defined_at [] i = refl
  defined_at (x ∷ xs) zero = refl
  defined_at (x ∷ xs) (suc i) = defined_at xs i

  pub passed_by : (site : Option ℕ) (g : FuncId) (a n : ℕ) → passed (passing r site) n ≡ passing_by (roles r) (kept_of r) n (Enter site g a)
  passed_by (Some s) g a n = by (nat_eq n 0)
    where
      by : (b : Bool) → cond b None (or_none (slice_get (map (argument_now r) (arguments r.program.now.arena s)) (n - 1)))
          ≡ kept.argument_now (roles r) (kept_of r) (cond b None (slice_get (arguments r.program.now.arena s) (n - 1)))
      by true = refl
      by false = defined_at (arguments r.program.now.arena s) (n - 1)
  passed_by None g a n = by (nat_eq n 0)
    where
      by : (b : Bool) → cond b None (or_none (slice_get {X = Option ℕ} [] (n - 1))) ≡ None
      by true = refl
      by false = refl

-- ---- an activation that has a place

pub with_place : {X : Type 0} (a b : Bool) (x y z : X) → b ≡ true → y ≡ z → cond (a && b) x y ≡ cond a x z
with_place true b x y z h e = ap (λ b. cond b x y) h
with_place false b x y z h e = e

module _ (old mid new : Activations) (act : ℕ) (entry : Option Entry) (list : List (Option ℕ)) (room : has_place mid act ≡ true)
    (same : SameAnswers (answers_of old) (answers_of mid)) (turned : SameAnswers (entered act entry list (has_place mid act) (answers_of mid)) (answers_of new)) where
  pub entry_at : (b : ℕ) → (answers_of new).entry b ≡ cond (nat_eq act b) entry ((answers_of old).entry b)
  entry_at b = turned.entry b ∙ with_place (nat_eq act b) (has_place mid act) entry _ _ room (same.entry b)

  pub passing_at : (b n : ℕ) → (answers_of new).passing b n ≡ cond (nat_eq act b) (passed list n) ((answers_of old).passing b n)
  passing_at b n = turned.passing b n ∙ with_place (nat_eq act b) (has_place mid act) (passed list n) _ _ room (same.passing b n)

  pub read_at : (b u : ℕ) → (answers_of new).read b u ≡ (answers_of old).read b u
  read_at b u = turned.read b u ∙ same.read b u
