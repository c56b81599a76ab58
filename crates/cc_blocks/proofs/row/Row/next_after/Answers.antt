use Rattle.std.proofs.Common.{◌≡◌, ℕ, ◌+◌, ◌<◌, ◌≤◌, inl, inr, List, Some, None, arith}
use Rattle.std.specs.Prelude.{Option, IfSome, IfNone}
use Rattle.std.proofs.lemmas.Bool.{cases_lt}
use Rattle.cc_blocks.specs.declared.cell.Cell.{Cell}
use Rattle.cc_blocks.specs.Cells.{row_bit}
use Rattle.cc_blocks.proofs.Ranks
use Rattle.cc_blocks.proofs.row.Row.next_after.Goals as goal

some_on : (r : Option ℕ) (cells : List Cell) (start target : ℕ) → start ≡ target + 1 →
    IfSome r (λ first. (start ≤ first) × (row_bit cells first ≡ 1) × ((t : ℕ) → start ≤ t → t < first → row_bit cells t ≡ 0)) →
    IfSome r (λ next. (target < next) × (row_bit cells next ≡ 1) × ((t : ℕ) → target < t → t < next → row_bit cells t ≡ 0))
some_on (Some x) cells start target e h = let le = h.0 in (omega arith, h.1, λ t above below. h.2 t (omega arith) below)
some_on None cells start target e h = h

none_on : (r : Option ℕ) (cells : List Cell) (start target : ℕ) → start ≡ target + 1 →
    IfNone r ((t : ℕ) → start ≤ t → row_bit cells t ≡ 0) →
    IfNone r ((t : ℕ) → target < t → row_bit cells t ≡ 0)
none_on (Some x) cells start target e h = h
none_on None cells start target e h = λ t above. h t (omega arith)

pub returns-in-Some-clause-some : goal.returns-in-Some-clause-some
returns-in-Some-clause-some c = some_on c.first_at_or_after.result c.args.self.now.cells.items c.in-Some.start c.args.target c.in-Some.ensures.1 c.first_at_or_after.ensures.some

pub returns-in-Some-clause-none : goal.returns-in-Some-clause-none
returns-in-Some-clause-none c = none_on c.first_at_or_after.result c.args.self.now.cells.items c.in-Some.start c.args.target c.in-Some.ensures.1 c.first_at_or_after.ensures.none

pub returns-in-None-clause-none : goal.returns-in-None-clause-none
returns-in-None-clause-none c = λ t above. Ranks.row_bit-high 0 c.args.self.now.cells.items t c.args.self.now.ascending (elim (cases_lt t 4294967296) [
  | inl lt ↦ absurd (c.in-None.ensures (omega arith))
  | inr ge ↦ ge
])
