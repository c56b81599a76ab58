-- Which call, parameter and return rows are listed.
use Rattle.std.specs.Prelude.{ℕ, List, Contains}
use Rattle.cc_rows.specs.declared.row.Row.{Row}
use Rattle.cc_rows.specs.declared.row.Row.TheVariants as row
use Rattle.cc_listed.specs.declared.table.Tables.{Tables}
use Rattle.cc_listed.specs.declared.table.Access.{Access}
use Rattle.cc_listed.specs.declared.calls.Call.{Call}
use Rattle.cc_listed.specs.declared.calls.Returned.{Returned}
use Rattle.cc_listed.specs.declared.calls.Calls.{Calls}
use Rattle.cc_listed.specs.Stretches.{Steps, Accesses}
use Rattle.cc_listed.specs.CallsListed.{IsCall, IsParameter, IsReturn}

-- the call row is listed
abbrev pub IsCallRow : Steps → Tables → List Call → Row → Type 0
IsCallRow G T calls (row.Call s g) = (call : Call) × Contains calls call × IsCall G T call s g
IsCallRow G T calls (row.Shared d u x) = ⊥
IsCallRow G T calls (row.Parameter d s k g u) = ⊥
IsCallRow G T calls (row.Return d s g) = ⊥

-- the parameter row is listed
abbrev pub IsParameterRow : Steps → Tables → Accesses → Calls → Row → Type 0
IsParameterRow G T A C (row.Call s g) = ⊥
IsParameterRow G T A C (row.Shared d u x) = ⊥
IsParameterRow G T A C (row.Parameter d s k g u) = IsParameter G T A C.calls.now C.arguments.now C.formals.now C.named.now d s k g u
IsParameterRow G T A C (row.Return d s g) = ⊥

-- the return row is listed
abbrev pub IsReturnRow : Steps → Tables → Accesses → List Call → List Returned → List Access → Row → Type 0
IsReturnRow G T A calls returns named (row.Call s g) = ⊥
IsReturnRow G T A calls returns named (row.Shared d u x) = ⊥
IsReturnRow G T A calls returns named (row.Parameter d s k g u) = ⊥
IsReturnRow G T A calls returns named (row.Return d s g) = IsReturn G T A calls returns named d s g

-- the row is no shared one, and listed
abbrev pub IsListedCall : Steps → Tables → Accesses → Calls → Row → Type 0
IsListedCall G T A C (row.Call s g) = IsCallRow G T C.calls.now (row.Call s g)
IsListedCall G T A C (row.Shared d u x) = ⊥
IsListedCall G T A C (row.Parameter d s k g u) = IsParameterRow G T A C (row.Parameter d s k g u)
IsListedCall G T A C (row.Return d s g) = IsReturnRow G T A C.calls.now C.returns.now C.named.now (row.Return d s g)
