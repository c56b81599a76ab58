-- The three criteria.
use Rattle.std.specs.Prelude.{ℕ, zero, suc, ◌+◌, List, Bool, true, false, not, ◌&&◌, cond, is_none, is_some, length, nat_eq, Option, Some, None, slice_get}
use Rattle.cc_meaning.specs.declared.coupling.Coupling.{Coupling}
use Rattle.cc_meaning.specs.declared.coupling.Coupling.TheVariants.{Call, Shared, Parameter, Return}
use Rattle.cc_meaning.specs.declared.score.RowReason.{RowReason}
use Rattle.cc_meaning.specs.declared.score.Verdict.{Verdict}
use Rattle.cc_meaning.specs.declared.score.Verdicts.{Verdicts}
use Rattle.cc_score.specs.Any.{any_to}
use Rattle.cc_score.specs.Marks.{mark, has_reason}

-- the definition of a row that is no call row
abbrev pub definition : Coupling → Option ℕ
definition (Call site callee) = None
definition (Shared d reader object) = Some d
definition (Parameter d site k callee reader) = Some d
definition (Return d site callee) = Some d

abbrev pub one_if : Bool → ℕ
one_if true = 1
one_if false = 0

-- a verdict with one more row or group, by whether it has a mark and reasons
abbrev pub one_more : Verdict → (is_marked is_reasoned : Bool) → Verdict
one_more v is_marked is_reasoned = record {
  covered = v.covered + one_if is_marked;
  justified = v.justified + one_if (not is_marked && is_reasoned);
  listed = v.listed + 1;
}

abbrev pub none : Verdict
none = record { covered = 0; justified = 0; listed = 0 }

abbrev pub is_call : Option Coupling → Bool
is_call (Some row) = is_none (definition row)
is_call None = false

abbrev pub same : Bool → Bool → Bool
same true b = b
same false b = not b

module _ (rows : List Coupling) (marks : List (Option ℕ)) (reasons : Option (List (Option RowReason))) where
  -- the verdict on the call rows, or on all others, of the first `count` rows
  abbrev pub rows_to : (calls : Bool) → (count : ℕ) → Verdict
  rows_to calls zero = none
  rows_to calls (suc count) =
      cond (same calls (is_call (slice_get rows count)))
      (one_more (rows_to calls count) (is_some (mark marks count)) (has_reason reasons count))
      (rows_to calls count)

abbrev pub is_it : Option ℕ → ℕ → Bool
is_it (Some d) wanted = nat_eq d wanted
is_it None wanted = false

-- a row has the definition
abbrev pub defines : Option Coupling → ℕ → Bool
defines (Some row) wanted = is_it (definition row) wanted
defines None wanted = false

-- one of the first `count` rows has the definition
abbrev pub occurs_to : List Coupling → (wanted count : ℕ) → Bool
occurs_to rows wanted count = any_to (λ row. defines (slice_get rows row) wanted) count

-- one of the first `count` rows has the definition and a mark
abbrev pub marked_to : List Coupling → List (Option ℕ) → (wanted count : ℕ) → Bool
marked_to rows marks wanted count = any_to (λ row. defines (slice_get rows row) wanted && is_some (mark marks row)) count

-- each of the first `count` rows that has the definition has a reason
abbrev pub reasoned_to : List Coupling → Option (List (Option RowReason)) → (wanted count : ℕ) → Bool
reasoned_to rows reasons wanted count = not (any_to (λ row. defines (slice_get rows row) wanted && not (has_reason reasons row)) count)

abbrev pub definition_of : Option Coupling → Option ℕ
definition_of (Some row) = definition row
definition_of None = None

abbrev pub if_new : List Coupling → ℕ → Option ℕ → Option ℕ
if_new rows row (Some d) = cond (occurs_to rows d row) None (Some d)
if_new rows row None = None

-- the definition of a row, if no earlier row has it
abbrev pub new_definition : List Coupling → ℕ → Option ℕ
new_definition rows row = if_new rows row (definition_of (slice_get rows row))

module _ (rows : List Coupling) (marks : List (Option ℕ)) (reasons : Option (List (Option RowReason))) where
  -- the verdict with one more definition, over all its rows
  abbrev pub with_definition : Verdict → Option ℕ → Verdict
  with_definition v (Some d) = one_more v (marked_to rows marks d (length rows)) (reasoned_to rows reasons d (length rows))
  with_definition v None = v

  -- the verdict on the definitions of the first `count` rows, each once
  abbrev pub defs_to : (count : ℕ) → Verdict
  defs_to zero = none
  defs_to (suc count) = with_definition (defs_to count) (new_definition rows count)

  -- the verdicts on the call rows, on the definitions of the others, and on these
  abbrev pub verdicts : Verdicts
  verdicts = record {
    calls = rows_to rows marks reasons true (length rows);
    defs = defs_to (length rows);
    uses = rows_to rows marks reasons false (length rows);
  }
