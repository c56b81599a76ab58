-- Calls that lead into another component, and that a path reaches.
use Rattle.std.specs.Prelude.{ℕ, Bool, ◌&&◌, not, nat_eq, List}
use Rattle.cc_blocks.specs.declared.block.Block.{Block}
use Rattle.cc_listed.specs.declared.table.Tables.{Tables}
use Rattle.cc_listed.specs.declared.calls.Call.{Call}
use Rattle.cc_listed.specs.declared.calls.Returned.{Returned}
use Rattle.cc_listed.specs.Tabled.{component_of}
use Rattle.cc_listing_shared.specs.Living.{is_reached}

-- the components differ, and the point of the call is reachable
abbrev pub is_live : Tables → ℕ → List Block → Call → Bool
is_live T root reach c = not (nat_eq (component_of T c.site) (component_of T c.callee)) && is_reached root reach c.at

-- the same, and the site uses the value
abbrev pub is_asking : Tables → ℕ → List Block → Call → Bool
is_asking T root reach c = c.used && is_live T root reach c

-- the point after the return is reachable
abbrev pub is_given : ℕ → List Block → Returned → Bool
is_given root reach r = is_reached root reach r.after
