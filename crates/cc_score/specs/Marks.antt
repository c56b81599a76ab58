-- Marks and reasons of rows.
use Rattle.std.specs.Prelude.{ℕ, List, Bool, false, Option, Some, None, is_some, slice_get}
use Rattle.cc_meaning.specs.declared.score.RowReason.{RowReason}

abbrev pub or_none : Option (Option ℕ) → Option ℕ
or_none (Some x) = x
or_none None = None

-- the number of the test that marks a row, if there is one
abbrev pub mark : List (Option ℕ) → ℕ → Option ℕ
mark marks row = or_none (slice_get marks row)

abbrev pub index_of : Option (Option RowReason) → Option ℕ
index_of (Some (Some r)) = Some r.index
index_of (Some None) = None
index_of None = None

-- the number of the justification that gives a row a reason, if there is one
abbrev pub reason : List (Option RowReason) → ℕ → Option ℕ
reason reasons row = index_of (slice_get reasons row)

-- a row has a reason; where rows cannot be justified, none has
abbrev pub has_reason : Option (List (Option RowReason)) → ℕ → Bool
has_reason (Some reasons) row = is_some (reason reasons row)
has_reason None row = false
