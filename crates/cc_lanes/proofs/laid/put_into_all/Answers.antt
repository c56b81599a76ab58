use Rattle.std.proofs.Common.{ℕ, ◌≡◌, ◌+◌, ◌++◌, ◌∷◌, [], take, slice_index_or, subst}
use Rattle.std.proofs.lemmas.List.{take_more, take_all}
use Rattle.cc_rows.specs.Gains.{Gains, Each}
use Rattle.cc_rows.proofs.Gained.{each_none, each_on}
use Rattle.cc_lanes.specs.Spreading.{IsInto}
use Rattle.cc_lanes.proofs.laid.put_into_all.Goals as goal

pub loop-number-init : goal.loop-number-init
loop-number-init c = each_none (IsInto c.args.tables.now c.args.lanes.now.pairs.items c.args.whose c.args.access) c.args.out.now.items

pub loop-number-preserved : goal.loop-number-preserved
loop-number-preserved c =
    let numbers = c.args.numbers.now in
    let k = c.loop-number.number-index in
    let n : ℕ = slice_index_or numbers k 0 in
    let more : take (k + 1) numbers ≡ take k numbers ++ n ∷ [] = take_more numbers k 0 c.loop-number-test.true in
    rw more (each_on (IsInto c.args.tables.now c.args.lanes.now.pairs.items c.args.whose c.args.access) (take k numbers) n c.args.out.now.items c.loop-number.out.items c.put_into.new.out.items c.loop-number.invariant c.in_ok-put_into.ensures)

pub returns : goal.returns
returns c = subst (λ xs. Gains c.args.out.now.items c.loop-number.out.items (Each xs (IsInto c.args.tables.now c.args.lanes.now.pairs.items c.args.whose c.args.access))) (take_all c.loop-number.number-index c.args.numbers.now c.loop-number-test.false) c.loop-number.invariant
