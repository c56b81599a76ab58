-- Tables of which all is written.
use Rattle.std.proofs.Common.{◌≡◌, ℕ, List, length, ap, sym, ◌∙◌, cond}
use Rattle.std.specs.Prelude.{slice_get, codes}
use Rattle.std.proofs.lemmas.Bool.{ne_eqb}
use Rattle.cc_program.specs.declared.program.Program.{Program}
use Rattle.cc_meaning.specs.declared.score.Scores.{Scores}
use Rattle.cc_meaning.specs.declared.test.Test.{Test}
use Rattle.cc_tables.specs.Ends.{end_text}
use Rattle.cc_tables.specs.TestTable.{requirements_to, rows_of, rows_text, test_text}

-- all requirements of a test that has some
pub test_done : (p : Program) (scores : Scores) (number : ℕ) (test : Test) (name rows ending : List ℕ) (i : ℕ)
    → name ≡ test.name → rows ≡ rows_of scores number → ending ≡ end_text p (slice_get scores.ends number)
    → i ≡ length test.requirements → (length test.requirements ≡ 0 → ⊥)
    → requirements_to name test.requirements rows ending i ≡ test_text p scores number test
test_done p scores number test name rows ending i same_name same_rows same_ending all some =
    let rows' = rows_of scores number in
    let ending' = end_text p (slice_get scores.ends number) in
    let count = length test.requirements in
    ap (λ n. requirements_to n test.requirements rows ending i) same_name
    ∙ (ap (λ r. requirements_to test.name test.requirements r ending i) same_rows
    ∙ (ap (λ e. requirements_to test.name test.requirements rows' e i) same_ending
    ∙ (ap (requirements_to test.name test.requirements rows' ending') all
    ∙ sym (ap (λ b. cond b (rows_text test.name (codes "-") rows' ending') (requirements_to test.name test.requirements rows' ending' count)) (ne_eqb count 0 some)))))
