use Rattle.std.proofs.Common.{rules, ◌≡◌, length, refl, sym, ◌∙◌, subst, arith}
use Rattle.std.specs.Prelude.{Contains}
use Rattle.cc_solver.proofs.solving.take_next.Goals as goal
use Rattle.cc_solver.proofs.Taken

pub take-delta-requires : goal.take-delta-requires
take-delta-requires c = omega (arith, c.requires.fresh_length, c.requires.work_within c.in-Some.holder (subst (λ xs. Contains xs c.in-Some.holder) (sym c.in-Some.ensures.items) (Taken.cons_first c.in-Some.holder c.pop_front.new.self.items)))

pub returns-in-Some-clause-state : goal.returns-in-Some-clause-state
returns-in-Some-clause-state c = Taken.taken_state c.args.limits c.args.state.now c.take-delta.new.self (record c.args.state.now { work = c.pop_front.new.self }) c.in-Some.holder c.take-delta.result.cells.items c.requires c.in-Some.ensures.items c.take-delta.ensures.holders c.take-delta.ensures.row c.take-delta.ensures.at c.take-delta.ensures.others

pub returns-in-Some-clause-holder : goal.returns-in-Some-clause-holder
returns-in-Some-clause-holder c = Taken.holder_within c.args.limits c.args.state.now c.take-delta.new.self (record c.args.state.now { work = c.pop_front.new.self }) c.in-Some.holder c.take-delta.result.cells.items c.requires c.in-Some.ensures.items c.take-delta.ensures.holders c.take-delta.ensures.row c.take-delta.ensures.at c.take-delta.ensures.others

pub returns-in-Some-clause-delta : goal.returns-in-Some-clause-delta
returns-in-Some-clause-delta c = λ t is. c.requires.inside c.in-Some.holder t (sym (c.take-delta.ensures.row t) ∙ is)

pub returns-in-Some-clause-takes : goal.returns-in-Some-clause-takes
returns-in-Some-clause-takes c = Taken.takes c.args.limits c.args.state.now c.take-delta.new.self (record c.args.state.now { work = c.pop_front.new.self }) c.in-Some.holder c.take-delta.result.cells.items c.requires c.in-Some.ensures.items c.take-delta.ensures.holders c.take-delta.ensures.row c.take-delta.ensures.at c.take-delta.ensures.others

pub returns-in-None-clause-none : goal.returns-in-None-clause-none
returns-in-None-clause-none c = (
  refl,
  λ h t is.
      let at = c.requires.pending h t is in
      let none : length c.args.state.now.work.items ≡ 0 = (let e = c.in-None.ensures.cases in search rules) in
      let lt = at.1 in omega arith,
)
