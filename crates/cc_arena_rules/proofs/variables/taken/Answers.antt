use Rattle.std.proofs.Common.{rules}
use Rattle.cc_arena_rules.proofs.Marking.{are_taken}
use Rattle.cc_arena_rules.proofs.variables.taken.Goals as goal

pub returns-clause-taken : goal.returns-clause-taken
returns-clause-taken c = are_taken c.args.symbols.now c.args.around.now c.args.start _ _ (search rules)
