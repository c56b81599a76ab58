-- What each node of a stretch has from the nodes around it.
use Rattle.std.specs.Prelude.{ℕ, ◌&&◌, ◌||◌, false, List, [], Option, Some, None}
use Rattle.cc_arena.specs.declared.arena.Arena.{Arena}
use Rattle.cc_arena.specs.declared.arena.Placed.{Placed}
use Rattle.cc_arena.specs.declared.node.Node.{Node}
use Rattle.cc_symbols.specs.declared.findings.Findings.{Findings}
use Rattle.cc_symbols.specs.declared.symbols.Symbols.{Symbols}
use Rattle.cc_arena_rules.specs.declared.around.Around.{Around}
use Rattle.cc_arena_rules.specs.declared.around.Standing.TheVariants as standing
use Rattle.cc_arena_rules.specs.declared.around.Extent.TheVariants as extent
use Rattle.cc_arena_rules.specs.Looks.{nodes_in, node_at, type_at, is_array}
use Rattle.cc_arena_rules.specs.Below.{may_break, may_continue, standing_in, extent_in, is_value, is_addressed, begins_array, may_be_null}
use Rattle.cc_arena_rules.specs.Inherited.{inherited_from}

-- of what is a part of nothing
abbrev pub outermost : Around
outermost = record {
  may_break = false;
  may_continue = false;
  standing = standing.Inside;
  extent = extent.Nowhere;
  is_value = false;
  is_addressed = false;
  is_array = false;
  may_be_null = false;
}

-- of the node n, which is x, a part of `above`, which has `own`
abbrev pub below : Arena → Symbols → Findings → Node → ℕ → Placed → Around → Around
below A S F above n x own = record {
  may_break = may_break above own.may_break;
  may_continue = may_continue above own.may_continue;
  standing = standing_in above n own.standing;
  extent = extent_in S above x.parent x.node n own.extent;
  is_value = is_value F above n own.is_value;
  is_addressed = is_addressed above n own.is_addressed;
  is_array = is_value F above n own.is_value && is_array (type_at F n) || begins_array above own.is_array;
  may_be_null = may_be_null A S F above n own.may_be_null;
}

abbrev pub below_or_outermost : Arena → Symbols → Findings → Option Node → ℕ → Placed → Option Around → Around
below_or_outermost A S F (Some above) n x (Some own) = below A S F above n x own
below_or_outermost A S F (Some above) n x None = outermost
below_or_outermost A S F None n x own = outermost

abbrev pub around_step : Arena → Symbols → Findings → ℕ → Placed → Option Around → Around
around_step A S F n x own = below_or_outermost A S F (node_at A x.parent) n x own

abbrev pub surroundings : Arena → Symbols → Findings → ℕ → ℕ → List Around
surroundings A S F start last = inherited_from (around_step A S F) start (nodes_in A start last) start []
