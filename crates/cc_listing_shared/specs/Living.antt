-- What is reachable.
use Rattle.std.specs.Prelude.{ℕ, ◌≡◌, ◌↔◌, Bool, true, ◌&&◌, ◌||◌, nat_eq, List}
use Rattle.cc_blocks.specs.declared.block.Block.{Block}
use Rattle.cc_flows.specs.Sweeping.{Next, bit_at_point}
use Rattle.cc_listed.specs.declared.table.Access.{Access}
use Rattle.cc_listed.specs.declared.table.Tables.{Tables}
use Rattle.cc_listed.specs.Tabled.{is_across}
use Rattle.cc_listed.specs.Stretches.{IsReachable}

-- the point is the root, or its set has number 0
abbrev pub is_reached : ℕ → List Block → ℕ → Bool
is_reached root reach p = nat_eq p root || nat_eq (bit_at_point reach p 0) 1

-- the sets say which points are reachable
abbrev pub IsReach : Next → ℕ → List Block → Type 0
IsReach next root reach = (p : ℕ) → (is_reached root reach p ≡ true) ↔ IsReachable next root p

-- the definition is reachable, and stretches for its slot may leave a function
abbrev pub is_live : Tables → ℕ → List Block → Access → Bool
is_live T root reach a = is_across T a.slot && is_reached root reach a.point
