use Rattle.std.proofs.Common.{ap, ◌∙◌, Some}
use Rattle.cc_scopes.specs.declared.scopes.Step.TheVariants.{Block, Name}
use Rattle.cc_scopes.specs.Steps.{step_before}
use Rattle.cc_scopes.proofs.Trails.{a_name_goes, a_block_goes, the_last_name_is_bound, last_step, names_before, surely}
use Rattle.cc_scopes.proofs.scopes.Scopes.step_back.Goals as goal

pub invariant_of-self : goal.invariant_of-self
invariant_of-self c =
    let others = c.pop.new.self.items in
    let name = c.in-Some-Name in
    let last = last_step others c.pop.ensures.items (name.is ∙ ap Some name.field-0-is) in
    let bound = the_last_name_is_bound c.self.invariant others name.name name.field-0-1 name.hidden last in
    a_name_goes c.self.invariant others name.name name.field-0-1 name.hidden last (surely c.bind.result c.bind.ensures.ok c.bind.ensures.unbound bound)

pub overflow_sub-self : goal.overflow_sub-self
overflow_sub-self c =
    let others = c.pop.new.self.items in
    (a_block_goes c.self.invariant others (last_step others c.pop.ensures.items (c.in-Some-Block.is ∙ ap Some c.in-Some-Block.field-0-is))).0

pub invariant_of-self-in-Some-Block : goal.invariant_of-self-in-Some-Block
invariant_of-self-in-Some-Block c =
    let others = c.pop.new.self.items in
    (a_block_goes c.self.invariant others (last_step others c.pop.ensures.items (c.in-Some-Block.is ∙ ap Some c.in-Some-Block.field-0-is))).1

pub returns-in-Some-Name : goal.returns-in-Some-Name
returns-in-Some-Name c =
    let others = c.pop.new.self.items in
    let name = c.in-Some-Name in
    let last = last_step others c.pop.ensures.items (name.is ∙ ap Some name.field-0-is) in
    ap step_before (names_before others (Name name.name name.field-0-1 name.hidden) last c.self.view_is)

pub returns-in-Some-Block : goal.returns-in-Some-Block
returns-in-Some-Block c =
    let others = c.pop.new.self.items in
    let last = last_step others c.pop.ensures.items (c.in-Some-Block.is ∙ ap Some c.in-Some-Block.field-0-is) in
    ap step_before (names_before others Block last c.self.view_is)
