use Rattle.std.proofs.Common.{◌≡◌, ℕ, ◌+◌, ◌-◌, ◌<◌, ◌≤◌, sym, ap, ◌∙◌, arith}
use Rattle.cc_parts.specs.PartTables.{walk, size_at}
use Rattle.cc_parts.proofs.Walking
use Rattle.cc_parts.proofs.parts.Parts.walk.Goals as goal

pub loop-step-init : goal.loop-step-init
loop-step-init c =
    let e : c.args.steps - 0 ≡ c.args.steps = omega arith in
    ap (walk c.args.self.now.parts c.args.last c.args.first) e

pub loop-step-preserved : goal.loop-step-preserved
loop-step-preserved c =
    let parts = c.args.self.now.parts in
    let l = c.loop-step in
    let lt : l.q < c.args.last = omega arith in
    let e = c.size_at-size.ensures in
    let le : size_at parts l.q ≤ c.args.last - l.q = omega (arith, e) in
    let k = c.args.steps - (l._step + 1) in
    ap (λ s. walk parts c.args.last (l.q + s) k) e ∙ sym (Walking.walk-on parts c.args.last l.q (c.args.steps - l._step) k (omega arith) lt le) ∙ l.invariant

pub returns-then-q-last : goal.returns-then-q-last
returns-then-q-last c =
    let l = c.loop-step in
    sym (Walking.walk-past c.args.self.now.parts c.args.last l.q (c.args.steps - l._step) (omega arith)) ∙ l.invariant

pub returns-then-size-last : goal.returns-then-size-last
returns-then-size-last c =
    let l = c.loop-step in
    sym (Walking.walk-big c.args.self.now.parts c.args.last l.q (c.args.steps - l._step) (omega arith) (omega arith) (omega (arith, c.size_at-size.ensures))) ∙ l.invariant

pub returns-then-q-last-2 : goal.returns-then-q-last-2
returns-then-q-last-2 c =
    let l = c.loop-step in
    sym (Walking.walk-end c.args.self.now.parts c.args.last l.q (c.args.steps - l._step) (omega arith) (omega arith)) ∙ l.invariant

pub returns-else-q-last-2 : goal.returns-else-q-last-2
returns-else-q-last-2 c =
    let l = c.loop-step in
    sym (Walking.walk-past c.args.self.now.parts c.args.last l.q (c.args.steps - l._step) (omega arith)) ∙ l.invariant
