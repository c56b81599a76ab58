-- Rows that are both justified and exercised.
use Rattle.std.specs.Prelude.{◌≡◌, ◌<◌, ◌≤◌, ◌⊎◌, ℕ, zero, suc, List, cond, nat_lt, Option, Some, None}
use Rattle.cc_meaning.specs.declared.score.RowReason.{RowReason}
use Rattle.cc_score.specs.declared.clash.Conflict.{Conflict}
use Rattle.cc_score.specs.Marks.{mark, reason}

-- the row has a reason by the justification of this number, and a mark by the test of that one
pub record Clashes (marks : List (Option ℕ)) (reasons : List (Option RowReason)) (row index test : ℕ) : Type 0 where
  pub reason : reason reasons row ≡ Some index
  pub mark : mark marks row ≡ Some test

-- Of the rows below this number it is the clash with the least justification, and of these the least row.
pub record IsLeast (marks : List (Option ℕ)) (reasons : List (Option RowReason)) (rows : ℕ) (c : Conflict) : Type 0 where
  pub clashes : Clashes marks reasons c.row c.index c.test
  pub within : c.row < rows
  pub least : (row index test : ℕ) → row < rows → Clashes marks reasons row index test → (c.index < index) ⊎ ((c.index ≡ index) × (c.row ≤ row))

abbrev pub both : ℕ → Option ℕ → Option ℕ → Option Conflict
both row (Some index) (Some test) = Some (record { index = index; row = row; test = test })
both row (Some index) None = None
both row None mark = None

-- the conflict at a row, if there is one
abbrev pub at : List (Option ℕ) → List (Option RowReason) → ℕ → Option Conflict
at marks reasons row = both row (reason reasons row) (mark marks row)

-- of two conflicts the one whose justification is less, and else the first
abbrev pub less : Option Conflict → Option Conflict → Option Conflict
less (Some a) (Some b) = cond (nat_lt b.index a.index) (Some b) (Some a)
less (Some a) None = Some a
less None b = b

-- the least of the conflicts at the first `count` rows
abbrev pub least_to : List (Option ℕ) → List (Option RowReason) → (count : ℕ) → Option Conflict
least_to marks reasons zero = None
least_to marks reasons (suc count) = less (least_to marks reasons count) (at marks reasons count)
