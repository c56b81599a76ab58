-- One test more.
use Rattle.std.proofs.Common.{◌≡◌, ℕ, ◌+◌, ◌<◌, ⊎_elim, List, [], ◌∷◌, ◌++◌, Some, refl, ap, sym, ◌∙◌, arith}
use Rattle.std.specs.Prelude.{◌↔◌, Contains, slice_get}
use Rattle.std.proofs.lemmas.Bool.{cases_eq}
use Rattle.std.proofs.lemmas.List.{length_push}
use Rattle.cc_program.specs.declared.program.Program.{Program}
use Rattle.cc_meaning.specs.declared.coupling.Coupling.{Coupling}
use Rattle.cc_meaning.specs.declared.end.End.{End}
use Rattle.cc_meaning.specs.declared.event.Event.{Event}
use Rattle.cc_meaning.specs.declared.test.Test.{Test}
use Rattle.cc_acts.specs.declared.acts.Acts.{Acts}
use Rattle.cc_record.specs.Roles.{roles_of}
use Rattle.cc_record_laws.specs.Exercised.{Exercised}
use Rattle.cc_scoring.specs.Scored.{AreRows, AreScored, IsOfRun, IsOfTest, IsRowSet}
use Rattle.cc_scoring.proofs.Places.{at_push, before_push}

-- the rows of what a recorder has seen
pub row_set : (P : Program) (rows : List Coupling) (events : List Event) (seen : List Coupling) (set : List ℕ) → AreRows rows (λ row. Contains seen row) set
    → ((q : Coupling) → Contains seen q ↔ Exercised (roles_of P) events q) → IsRowSet P rows events set
row_set P rows events seen set are exact = record {
  ascending = are.ascending;
  below = are.below;
  exact = λ r row at. (λ c. (exact row).0 ((are.exact r row at).0 c), λ x. (are.exact r row at).1 ((exact row).1 x));
}

module _ (P : Program) (G : Acts) (rows : List Coupling) (tests : List Test) where
  pub no_tests : AreScored P G rows tests [] [] 0
  no_tests = record { sets_length = refl; ends_length = refl; each = λ t lt. absurd (omega arith) }

  pub test_more : (sets : List (List ℕ)) (ends : List End) (count : ℕ) (test : Test) (set : List ℕ) («end» : End) → slice_get tests count ≡ Some test → IsOfRun P G rows test set «end»
      → AreScored P G rows tests sets ends count → AreScored P G rows tests (sets ++ set ∷ []) (ends ++ «end» ∷ []) (count + 1)
  test_more sets ends count test set «end» at is before = record {
    sets_length = let long = length_push sets set in let was = before.sets_length in omega arith;
    ends_length = let long = length_push ends «end» in let was = before.ends_length in omega arith;
    each = λ t lt. ⊎_elim (λ same. this t same) (λ ne. earlier t (omega arith)) (cases_eq t count);
  }
    where
      this : (t : ℕ) → t ≡ count → IsOfTest P G rows tests (sets ++ set ∷ []) (ends ++ «end» ∷ []) t
      this t same = record {
        test = test;
        set = set;
        «end» = «end»;
        test_at = ap (slice_get tests) same ∙ at;
        set_at = at_push sets set t (same ∙ sym before.sets_length);
        end_at = at_push ends «end» t (same ∙ sym before.ends_length);
        is_of_run = is;
      }

      earlier : (t : ℕ) → t < count → IsOfTest P G rows tests (sets ++ set ∷ []) (ends ++ «end» ∷ []) t
      earlier t lt =
          let w = before.each t lt in
          let a = before.sets_length in
          let b = before.ends_length in
          record {
            test = w.test;
            set = w.set;
            «end» = w.«end»;
            test_at = w.test_at;
            set_at = before_push sets set t (omega arith) ∙ w.set_at;
            end_at = before_push ends «end» t (omega arith) ∙ w.end_at;
            is_of_run = w.is_of_run;
          }
