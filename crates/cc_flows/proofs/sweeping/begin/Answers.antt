use Rattle.std.proofs.Common.{ℕ, ◌≡◌, ◌-◌, ◌<◌, length, slice_index_or, refl, subst, arith}
use Rattle.std.specs.Prelude.{Contains}
use Rattle.std.proofs.lemmas.Option.{slice_get_read, slice_get-get_or}
use Rattle.std.proofs.lemmas.List.Elements.{Contains-get_or}
use Rattle.cc_blocks.specs.Bits.{bit}
use Rattle.cc_flows.proofs.Passing.{begins_none, begins_more, row_within}
use Rattle.cc_flows.proofs.sweeping.begin.Goals as goal

pub loop-i-init : goal.loop-i-init
loop-i-init c = begins_none c.args.next.now c.args.starts.now c.args.reach.now.items c.args.dirty.now.items

pub bounds-next-start : goal.bounds-next-start
bounds-next-start c = c.requires.starts _ (Contains-get_or c.args.starts.now c.loop-i.i 0 c.loop-i-test.true)

pub pass_all-requires-clause-points : goal.pass_all-requires-clause-points
pass_all-requires-clause-points c = λ q has.
    let next = c.args.next.now in
    let start : ℕ = slice_index_or c.args.starts.now c.loop-i.i 0 in
    let lt = c.requires.starts start (Contains-get_or c.args.starts.now c.loop-i.i 0 c.loop-i-test.true) in
    let at = slice_get_read next (length next) start c.index-next-start.result refl lt c.index-next-start.is in
    omega (arith, row_within next start c.index-next-start.result c.requires.next at q (subst (λ xs. Contains xs q) c.as_slice.ensures has), c.loop-i.invariant.same_length, c.requires.reach)

pub loop-i-preserved : goal.loop-i-preserved
loop-i-preserved c =
    let next = c.args.next.now in
    let starts = c.args.starts.now in
    let k = c.loop-i.i in
    let start : ℕ = slice_index_or starts k 0 in
    let lt = c.requires.starts start (Contains-get_or starts k 0 c.loop-i-test.true) in
    let at = slice_get_read next (length next) start c.index-next-start.result refl lt c.index-next-start.is in
    begins_more next starts k start c.index-next-start.result c.args.reach.now.items c.loop-i.reach.items c.pass_all.new.reach.items c.args.dirty.now.items c.loop-i.dirty.items c.pass_all.new.dirty.items
    (λ i. bit c.only-block.result i - bit c.new-none.result i) (slice_get-get_or starts k 0 c.loop-i-test.true) at
    (omega (arith, c.only-block.ensures.at, c.new-none.ensures k)) (λ i ne. omega (arith, c.only-block.ensures.others i ne)) c.loop-i.invariant
    (rw c.as_slice.ensures at c.pass_all.ensures)
