use Rattle.std.proofs.Common.{rules}
use Rattle.cc_arena_rules.proofs.Repeating.{are_repeats}
use Rattle.cc_arena_rules.proofs.repeats.repeats.Goals as goal

pub returns-clause-exact : goal.returns-clause-exact
returns-clause-exact c = are_repeats c.args.symbols.now c.args.around.now c.args.start _ _ (search rules)
