-- Listed rows that are added to others.
use Rattle.std.specs.Prelude.{ℕ, List}
use Rattle.cc_blocks.specs.declared.block.Block.{Block}
use Rattle.cc_flows.specs.Sweeping.{Next}
use Rattle.cc_rows.specs.Gains.{Gains, Or}
use Rattle.cc_rows.specs.Limits.{HasMore}
use Rattle.cc_rows.specs.Order.{row_cmp}
use Rattle.cc_rows.specs.declared.row.Row.{Row}
use Rattle.cc_listed.specs.declared.table.Tables.{Tables}
use Rattle.cc_listed.specs.declared.table.Access.{Access}
use Rattle.cc_listed.specs.declared.calls.Call.{Call}
use Rattle.cc_listed.specs.declared.calls.Returned.{Returned}
use Rattle.cc_listed.specs.Stretches.{accesses, steps}
use Rattle.cc_listing_shared.specs.Living.{IsReach}
use Rattle.cc_listing_calls.specs.Founds.{AreSources}
use Rattle.cc_listing_calls.specs.ListedCalls.{IsCallRow, IsReturnRow}

-- the call rows are added, whatever the steps of which the sets speak
abbrev pub AddsCalls : ℕ → Tables → List Block → List Call → List Row → List Row → Type 0
AddsCalls root T reach calls old new = (next within : Next) → IsReach next root reach → Gains old new (IsCallRow (steps next within root) T calls)

-- with the call rows there are more than the number
abbrev pub HasMoreCalls : ℕ → Tables → List Block → List Call → List Row → ℕ → Type 0
HasMoreCalls root T reach calls old most = (next within : Next) → IsReach next root reach → HasMore row_cmp (Or old (IsCallRow (steps next within root) T calls)) most

-- the return rows are added, whatever the steps, the accesses and the named reads of which the sets and rows speak
abbrev pub AddsReturns : ℕ → Tables → List Block → List (List ℕ) → List Call → List Returned → List Row → List Row → Type 0
AddsReturns root T reach sources calls returns old new = (next within : Next) (writes given passed reads named : List Access) → IsReach next root reach → AreSources (steps next within root) T (accesses writes given passed reads) named sources →
    Gains old new (IsReturnRow (steps next within root) T (accesses writes given passed reads) calls returns named)

-- with the return rows there are more than the number
abbrev pub HasMoreReturns : ℕ → Tables → List Block → List (List ℕ) → List Call → List Returned → List Row → ℕ → Type 0
HasMoreReturns root T reach sources calls returns old most = (next within : Next) (writes given passed reads named : List Access) → IsReach next root reach → AreSources (steps next within root) T (accesses writes given passed reads) named sources →
    HasMore row_cmp (Or old (IsReturnRow (steps next within root) T (accesses writes given passed reads) calls returns named)) most
