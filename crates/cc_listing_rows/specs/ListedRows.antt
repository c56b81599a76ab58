-- Which rows are listed.
use Rattle.std.specs.Prelude.{ℕ, ◌↔◌, List, Contains}
use Rattle.cc_flows.specs.declared.flow.Found.{Found}
use Rattle.cc_rows.specs.declared.row.Row.{Row}
use Rattle.cc_rows.specs.declared.row.Row.TheVariants as row
use Rattle.cc_rows.specs.Limits.{HasMore}
use Rattle.cc_rows.specs.Order.{row_cmp}
use Rattle.cc_listed.specs.declared.table.Tables.{Tables}
use Rattle.cc_listed.specs.declared.calls.Call.{Call}
use Rattle.cc_listed.specs.declared.calls.Calls.{Calls}
use Rattle.cc_listed.specs.Stretches.{Steps, Accesses}
use Rattle.cc_listed.specs.Listed.{IsShared, StayInside}
use Rattle.cc_listed.specs.CallsListed.{IsCall, IsParameter, IsReturn}

-- the row is listed
abbrev pub IsListed : Steps → Tables → Accesses → Calls → Row → Type 0
IsListed G T A C (row.Call s g) = (call : Call) × Contains C.calls.now call × IsCall G T call s g
IsListed G T A C (row.Shared d u x) = IsShared G T A d u x
IsListed G T A C (row.Parameter d s k g u) = IsParameter G T A C.calls.now C.arguments.now C.formals.now C.named.now d s k g u
IsListed G T A C (row.Return d s g) = IsReturn G T A C.calls.now C.returns.now C.named.now d s g

-- what is asked for a row to be judged: of a shared one that slots whose stretches stay in a function are of one component
abbrev pub IsJudged : Tables → Accesses → Row → Type 0
IsJudged T A (row.Shared d u x) = StayInside T A
IsJudged T A other = Unit {0}

-- these are the listed rows
abbrev pub AreListed : Steps → Tables → Accesses → Calls → List Row → Type 0
AreListed G T A C rows = (r : Row) → IsJudged T A r → Contains rows r ↔ IsListed G T A C r

-- there are more listed rows than the number
abbrev pub HasMoreListed : Steps → Tables → Accesses → Calls → ℕ → Type 0
HasMoreListed G T A C most = StayInside T A → HasMore row_cmp (IsListed G T A C) most

-- the row of what was found
abbrev pub shared_row : Found → Row
shared_row f = row.Shared f.definition f.reader f.object
