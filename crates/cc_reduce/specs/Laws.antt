-- What is said of the tests that are kept.
use Rattle.std.specs.Prelude.{◌≡◌, ◌≢◌, ◌<◌, ℕ, List, true}
use Rattle.cc_reduce.specs.Rows.{has, at}
use Rattle.cc_reduce.specs.Reduced.{reduced}

-- Each row that a test exercises is exercised by a kept one.
abbrev pub KeptTestsCoverAll : Type 0
KeptTestsCoverAll = (sets : List (List ℕ)) (rows row test : ℕ) → row < rows → has sets test row ≡ true
    → (kept : ℕ) × (at (reduced sets rows) kept ≡ true) × (has sets kept row ≡ true)

-- Each kept test exercises a row that no other kept test does.
abbrev pub EachKeptTestIsNeeded : Type 0
EachKeptTestIsNeeded = (sets : List (List ℕ)) (rows test : ℕ) → at (reduced sets rows) test ≡ true
    → (row : ℕ) × (row < rows) × (has sets test row ≡ true)
    × ((other : ℕ) → other ≢ test → at (reduced sets rows) other ≡ true → has sets other row ≡ true → ⊥)
