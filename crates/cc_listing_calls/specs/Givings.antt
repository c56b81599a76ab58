-- Call rows and return rows.
use Rattle.std.specs.Prelude.{ℕ, ◌≡◌, List, [], ◌∷◌, Some, slice_get}
use Rattle.cc_flows.specs.Masks.{row_of}
use Rattle.cc_rows.specs.Gains.{Each}
use Rattle.cc_rows.specs.declared.row.Row.{Row}
use Rattle.cc_rows.specs.declared.row.Row.TheVariants as row
use Rattle.cc_listed.specs.declared.calls.Call.{Call}
use Rattle.cc_listed.specs.declared.calls.Returned.{Returned}
use Rattle.cc_listing_calls.specs.Rows.{definitions_of}
use Rattle.cc_listing_calls.specs.declared.giving.Giving.{Giving}

abbrev pub call_row : Call → Row
call_row c = row.Call c.site c.callee

abbrev pub IsCallOf : Call → Row → Type 0
IsCallOf c x = call_row c ≡ x

-- the row of a definition that is given back
abbrev pub return_row : Call → ℕ → Row
return_row c d = row.Return d c.site c.callee

abbrev pub IsReturnOf : Call → ℕ → Row → Type 0
IsReturnOf c d x = return_row c d ≡ x

-- a row of the return of this number
abbrev pub OfReturned : Giving → Call → ℕ → Row → Type 0
OfReturned P c i x = (r : Returned) × (slice_get P.returns.now i ≡ Some r) × Each (definitions_of (r.statement ∷ []) P.sources.now r.named) (IsReturnOf c) x

-- a row of the call
abbrev pub OfAsking : Giving → Call → Row → Type 0
OfAsking P c = Each (row_of P.by_callee.now c.callee) (OfReturned P c)
