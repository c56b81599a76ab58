-- The places that are written so far.
use Rattle.std.proofs.Common.{◌≡◌, ℕ, ◌+◌, ◌<◌, ◌≤◌, List, [], ◌∷◌, ◌++◌, Some, Bool, false, length, replicate, take, ap, sym, ◌∙◌, arith}
use Rattle.std.specs.Prelude.{slice_get, not, ◌&&◌, ◌||◌}
use Rattle.std.specs.Fmt.{decimal}
use Rattle.std.proofs.lemmas.List.{get_or-replicate, length-replicate, take_more}
use Rattle.std.proofs.lemmas.Option.{get_or_from_slice_get, slice_get_within}
use Rattle.cc_score.specs.Firsts.{exercises}
use Rattle.cc_meaning.specs.declared.score.Scores.{Scores}
use Rattle.cc_meaning.specs.declared.test.Test.{Test}
use Rattle.cc_tables.specs.Records.{record_text}
use Rattle.cc_tables.specs.TestTable.{rows_of, rows_or}
use Rattle.cc_reduce.specs.Texts.{kept_text, name_of, place_text, yes_or_no}
use Rattle.cc_reduce.specs.Ordered.{added, total}
use Rattle.cc_reduce.specs.Rows.{at, count_to, covers, has}
use Rattle.cc_reduce.proofs.Best.{covers_push}
use Rattle.cc_reduce.proofs.Counts.{count_most, count_none, count_same}
use Rattle.cc_reduce.proofs.Tests.{rows_or_none}

module _ (sets : List (List ℕ)) (rows : ℕ) (order : List ℕ) where
  -- what the tests of the first places cover
  pub record IsPlaced (place : ℕ) (covered : List Bool) (all : ℕ) : Type 0 where
    pub wide : length covered ≡ rows
    pub marks : (row : ℕ) → row < rows → at covered row ≡ covers sets (take place order) row
    pub sum : all ≡ count_to (λ row. at covered row) rows

  pub placed_init : IsPlaced 0 (replicate rows false) 0
  placed_init = record {
    wide = length-replicate rows false;
    marks = λ row lt. get_or-replicate rows row false false lt;
    sum = sym (count_same (λ row. at (replicate rows false) row) (λ row. false) rows (λ row lt. get_or-replicate rows row false false lt) ∙ count_none rows);
  }

  pub placed_most : (place : ℕ) (covered : List Bool) (all : ℕ) → IsPlaced place covered all → all ≤ rows
  placed_most place covered all p =
      let most : count_to (λ row. at covered row) rows ≤ rows = count_most (λ row. at covered row) rows in
      let sum = p.sum in
      omega arith

  pub placed_total : (place : ℕ) (covered : List Bool) (all : ℕ) → IsPlaced place covered all → all ≡ total sets rows (take place order)
  placed_total place covered all p = p.sum ∙ count_same (λ row. at covered row) (λ row. covers sets (take place order) row) rows p.marks

  module _ (place : ℕ) (covered : List Bool) (all test : ℕ) (set : List ℕ) (p : IsPlaced place covered all) (at_place : slice_get order place ≡ Some test) (same : set ≡ rows_or (slice_get sets test)) where
    has_same : (row : ℕ) → exercises (Some set) row ≡ has sets test row
    has_same row = ap (λ s. exercises (Some s) row) same ∙ rows_or_none (slice_get sets test) row

    pub placed_added : (more : ℕ) → more ≡ count_to (λ row. exercises (Some set) row && not (at covered row)) (length covered) → more ≡ added sets rows (take place order) test
    placed_added more is =
        is ∙ (ap (count_to (λ row. exercises (Some set) row && not (at covered row))) p.wide
        ∙ count_same (λ row. exercises (Some set) row && not (at covered row)) (λ row. has sets test row && not (covers sets (take place order) row)) rows
        (λ row lt. ap (λ h. h && not (at covered row)) (has_same row) ∙ ap (λ b. has sets test row && not b) (p.marks row lt)))

    pub placed_more : (new : List Bool) (more : ℕ) → length new ≡ length covered → ((row : ℕ) → row < length covered → at new row ≡ at covered row || exercises (Some set) row)
        → count_to (λ row. at new row) (length covered) ≡ count_to (λ row. at covered row) (length covered) + more
        → IsPlaced (place + 1) new (all + more)
    placed_more new more wide marks sum =
        let width = p.wide in
        let before = p.sum in
        let within = slice_get_within order place test at_place in
        let taken : take (place + 1) order ≡ take place order ++ test ∷ [] =
        take_more order place 0 within ∙ ap (λ t. take place order ++ t ∷ []) (get_or_from_slice_get order place test 0 at_place) in
        let here : count_to (λ row. at new row) (length covered) ≡ count_to (λ row. at new row) rows = ap (count_to (λ row. at new row)) p.wide in
        let there : count_to (λ row. at covered row) (length covered) ≡ count_to (λ row. at covered row) rows = ap (count_to (λ row. at covered row)) p.wide in
        record {
          wide = wide ∙ p.wide;
          marks = λ row lt. marks row (omega arith) ∙ (ap (λ h. at covered row || h) (has_same row) ∙ (ap (λ c. c || has sets test row) (p.marks row lt)
              ∙ (sym (covers_push sets (take place order) test row) ∙ ap (λ l. covers sets l row) (sym taken))));
          sum = omega arith;
        }

-- the fields of a record, one by one
pub mark_same : (scores : Scores) (kept : List Bool) (tests : List Test) (number : ℕ) (name : List ℕ) (is_kept : Bool) (rows : List ℕ)
    → name ≡ name_of tests number → is_kept ≡ at kept number → rows ≡ rows_of scores number
    → record_text (name ∷ yes_or_no is_kept ∷ decimal (length rows) ∷ []) ≡ kept_text scores kept tests number
mark_same scores kept tests number name is_kept rows p q r =
    ap (λ n. record_text (n ∷ yes_or_no is_kept ∷ decimal (length rows) ∷ [])) p
    ∙ (ap (λ k. record_text (name_of tests number ∷ yes_or_no k ∷ decimal (length rows) ∷ [])) q
    ∙ ap (λ l. record_text (name_of tests number ∷ yes_or_no (at kept number) ∷ decimal (length l) ∷ [])) r)

pub place_same : (scores : Scores) (order : List ℕ) (tests : List Test) (place test : ℕ) (name : List ℕ) (new all : ℕ) → slice_get order place ≡ Some test
    → name ≡ name_of tests test → new ≡ added scores.exercised (length scores.marks) (take place order) test → all ≡ total scores.exercised (length scores.marks) (take (place + 1) order)
    → record_text (decimal (place + 1) ∷ name ∷ decimal new ∷ decimal all ∷ []) ≡ place_text scores order tests place (slice_get order place)
place_same scores order tests place test name new all h p q r =
    ap (λ n. record_text (decimal (place + 1) ∷ n ∷ decimal new ∷ decimal all ∷ [])) p
    ∙ (ap (λ n. record_text (decimal (place + 1) ∷ name_of tests test ∷ decimal n ∷ decimal all ∷ [])) q
    ∙ (ap (λ n. record_text (decimal (place + 1) ∷ name_of tests test ∷ decimal (added scores.exercised (length scores.marks) (take place order) test) ∷ decimal n ∷ [])) r
    ∙ sym (ap (place_text scores order tests place) h)))
