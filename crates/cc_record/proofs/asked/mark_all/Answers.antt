use Rattle.std.proofs.Common.{◌≤◌, length, get_or, subst, arith}
use Rattle.std.proofs.lemmas.List.{take_all}
use Rattle.cc_roles.specs.Names.{named}
use Rattle.cc_record.specs.Asked.{IsMarked, AreMarked}
use Rattle.cc_record.proofs.AskedFacts.{grows_on, are_more}
use Rattle.cc_record.proofs.asked.mark_all.Goals as goal

pub loop-argument-preserved : goal.loop-argument-preserved
loop-argument-preserved c =
    let p = c.args.program.now in
    let old = c.loop-argument.asked.items in
    let new = c.mark.new.asked.items in
    let xs = c.args.arguments.now in
    let i = c.loop-argument.argument-index in
    let here : IsMarked new (named p (get_or xs i 0)) = subst (IsMarked new) c.named.ensures c.mark.ensures.marked in (
      grows_on c.args.asked.now.items old new c.loop-argument.invariant.0 c.mark.ensures.kept,
      are_more p old new xs i 0 (omega arith) c.mark.ensures.kept c.loop-argument.invariant.1 here,
    )

pub returns-clause-marked : goal.returns-clause-marked
returns-clause-marked c =
    let le : length c.args.arguments.now ≤ c.loop-argument.argument-index = omega arith in
    subst (AreMarked c.args.program.now c.loop-argument.asked.items) (take_all c.loop-argument.argument-index c.args.arguments.now le) c.loop-argument.invariant.1
