-- The least offence of a stretch of nodes.
use Rattle.std.specs.Prelude.{ℕ, ◌+◌, if◌then◌else◌, List, [], ◌∷◌, Option, Some, None}
use Rattle.cc_arena.specs.declared.arena.Arena.{Arena}
use Rattle.cc_arena.specs.declared.arena.Placed.{Placed}
use Rattle.cc_symbols.specs.Offences.{lesser}
use Rattle.cc_symbols.specs.declared.findings.Findings.{Findings}
use Rattle.cc_symbols.specs.declared.offence.Offence.{Offence}
use Rattle.cc_symbols.specs.declared.symbols.Symbols.{Symbols}
use Rattle.cc_symbols.specs.declared.rule.TheConstants.{JUMP, LABEL_PLACE, ASSIGNMENT_PLACE, COMMA_PLACE, CAST, STRUCT_VALUE}
use Rattle.cc_arena_rules.specs.declared.around.Around.{Around}
use Rattle.cc_arena_rules.specs.Broken.{Judged, breaks_jump, breaks_label, breaks_assignment, breaks_comma, breaks_null, breaks_struct}
use Rattle.cc_arena_rules.specs.Inherited.{answer_at}
use Rattle.cc_arena_rules.specs.Looks.{nodes_in}
use Rattle.cc_arena_rules.specs.Repeats.{repeats}
use Rattle.cc_arena_rules.specs.Surroundings.{surroundings}
use Rattle.cc_arena_rules.specs.Variables.{taken}

-- the least rule that is broken at the node n
abbrev pub rule_at : Judged → ℕ → Placed → Around → Option ℕ
rule_at j n x around =
    if breaks_jump x.node around then Some JUMP else
    if breaks_label j.arena j.found x.node x.parent then Some LABEL_PLACE else
    if breaks_assignment j x.node around then Some ASSIGNMENT_PLACE else
    if breaks_comma j.found x.node around then Some COMMA_PLACE else
    if breaks_null j.symbols j.found x.node n around then Some CAST else
    if breaks_struct j.symbols j.found x.node n around then Some STRUCT_VALUE else None

abbrev pub offence_of : Placed → Option ℕ → Option Offence
offence_of x (Some rule) = Some (record { spot = x.spot; rule = rule })
offence_of x None = None

abbrev pub offence_at : Judged → ℕ → Placed → Option Around → Option Offence
offence_at j n x (Some around) = offence_of x (rule_at j n x around)
offence_at j n x None = None

-- the lesser one of what was found and the offence at the node n
unfoldable pub lesser_at : Judged → List Around → ℕ → Placed → Option Offence → Option Offence
lesser_at j around n x found = lesser found (offence_at j n x (answer_at around j.start n))

-- the least of what was found and of the offences at the nodes from the n-th on
abbrev pub least_from : Judged → List Around → List Placed → ℕ → Option Offence → Option Offence
least_from j around [] n least = least
least_from j around (x ∷ xs) n least = least_from j around xs (n + 1) (lesser_at j around n x least)

abbrev pub judged_in : Arena → Symbols → Findings → List Around → ℕ → ℕ → Judged
judged_in A S F around start last = record {
  arena = A;
  symbols = S;
  found = F;
  taken = taken A S around start last;
  repeats = repeats A S around start last;
  start = start;
}

abbrev pub least_among : Arena → Symbols → Findings → List Around → ℕ → ℕ → Option Offence
least_among A S F around start last = least_from (judged_in A S F around start last) around (nodes_in A start last) start None

abbrev pub least_offence : Arena → Symbols → Findings → ℕ → ℕ → Option Offence
least_offence A S F start last = least_among A S F (surroundings A S F start last) start last
