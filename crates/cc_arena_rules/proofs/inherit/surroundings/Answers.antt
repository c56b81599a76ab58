use Rattle.std.proofs.Common.{[], ◌∙◌, ap}
use Rattle.cc_arena_rules.specs.Inherited.{inherited_from}
use Rattle.cc_arena_rules.specs.Surroundings.{around_step}
use Rattle.cc_arena_rules.proofs.Inheriting.{is_inherited}
use Rattle.cc_arena_rules.proofs.inherit.surroundings.Goals as goal

pub returns-clause-each : goal.returns-clause-each
returns-clause-each c =
    let step = around_step c.args.arena.now c.args.symbols.now c.args.found.now in
    is_inherited step c.args.start _ _ (c.in_ok-all.ensures ∙ ap (λ xs. inherited_from step c.args.start xs c.args.start []) c.nodes_in.ensures.nodes)
