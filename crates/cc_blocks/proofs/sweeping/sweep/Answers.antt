use Rattle.std.proofs.Common.{rules, ◌≡◌, ◌≢◌, ◌≤◌, ◌<◌, ◌+◌, ◌-◌, ◌++◌, ◌∷◌, [], ◌∙◌, ℕ, List, length, Some, refl, sym, ap, subst, arith, slice_index_or, length-append}
use Rattle.std.specs.Prelude.{Contains, slice_get}
use Rattle.std.specs.declared.vec.Vec.{Vec}
use Rattle.std.specs.declared.alloc.Global.{Global}
use Rattle.std.proofs.lemmas.Option.{slice_get_read, slice_get-get_or}
use Rattle.std.proofs.lemmas.List.Elements.{Contains-push, Contains-get_or}
use Rattle.cc_blocks.specs.declared.block.Block.{Block}
use Rattle.cc_blocks.specs.Bits.{bit}
use Rattle.cc_blocks.proofs.Sizes.{bit-lt}
use Rattle.cc_blocks.specs.Sweeping.{Next, HasEdge, bit_at_point, room, Passes, Sweeps}
use Rattle.cc_blocks.proofs.Passing.{begins_on, sweeps_on, exact, at_row, none_push, sweeps_none}
use Rattle.cc_blocks.proofs.sweeping.sweep.Goals as goal

pub loop-init : goal.loop-init
unfolding bit_at_point
loop-init c = record { long = rw c.new-reach.ensures.items refl; none = rw c.new-reach.ensures.items (λ q i. refl) }

pub loop-preserved : goal.loop-preserved
loop-preserved c = record {
  long = rw c.in_ok-push.ensures.items (omega (arith, length-append c.loop.reach.items (c.new.result ∷ []), c.loop.invariant.long));
  none = rw c.in_ok-push.ensures.items (none_push c.loop.reach.items c.new.result c.new.ensures c.loop.invariant.none);
}

pub loop-i-init : goal.loop-i-init
loop-i-init c = rw c.new-work.ensures.items (sweeps_none c.args.next.now c.args.clears.now c.args.starts.now c.loop.reach.items (omega (arith, c.loop.invariant.long)) c.loop.invariant.none)

pub bounds-next-start : goal.bounds-next-start
bounds-next-start c = c.requires.starts _ (Contains-get_or c.args.starts.now c.loop-i.i 0 c.loop-i-test.true)

pub offset_bounds-next-start : goal.offset_bounds-next-start
offset_bounds-next-start c = let lt = c.requires.starts _ (Contains-get_or c.args.starts.now c.loop-i.i 0 c.loop-i-test.true) in record { fits = omega arith }

pub pass_all-requires : goal.pass_all-requires
pass_all-requires c = λ q has.
    let next = c.args.next.now in
    let start : ℕ = slice_index_or c.args.starts.now c.loop-i.i 0 in
    let lt = c.requires.starts start (Contains-get_or c.args.starts.now c.loop-i.i 0 c.loop-i-test.true) in
    let at = slice_get_read next (length next) start c.index-next-start.result refl lt c.index-next-start.is in
    omega (arith, c.requires.next start q (record { row = c.index-next-start.result; at = at; has = subst (λ xs. Contains xs q) c.deref.ensures.value has }), c.loop-i.invariant.same_length)

pub loop-i-preserved : goal.loop-i-preserved
loop-i-preserved c =
    let next = c.args.next.now in
    let start : ℕ = slice_index_or c.args.starts.now c.loop-i.i 0 in
    let lt = c.requires.starts start (Contains-get_or c.args.starts.now c.loop-i.i 0 c.loop-i-test.true) in
    let at = slice_get_read next (length next) start c.index-next-start.result refl lt c.index-next-start.is in
    begins_on next c.args.clears.now c.args.starts.now c.loop-i.i start c.index-next-start.result _ _ _ _ c.set.new.self c.requires.next
    (slice_get-get_or c.args.starts.now c.loop-i.i 0 c.loop-i-test.true) at c.set.ensures.at (λ k ne. c.set.ensures.others k ne ∙ c.new-block.ensures k) c.loop-i.invariant (rw c.deref.ensures.value at c.in_ok-pass_all.ensures)

pub loop-point-init : goal.loop-point-init
loop-point-init c = let end : c.loop-i.i ≡ length c.args.starts.now = omega arith in subst (λ k. Sweeps c.args.next.now c.args.clears.now c.args.starts.now k c.loop-i.reach.items c.loop-i.work.items) end c.loop-i.invariant

pub index-requires : goal.index-requires
index-requires c =
    let lt = c.loop-point.invariant.work_within c.in-Some.point (subst (λ xs. Contains xs c.in-Some.point) (sym c.in-Some.ensures.items) (Contains-push c.pop.new.self.items c.in-Some.point)) in
    omega (arith, c.loop-point.invariant.same_length)

pub bounds-clears-point : goal.bounds-clears-point
bounds-clears-point c =
    let lt = c.loop-point.invariant.work_within c.in-Some.point (subst (λ xs. Contains xs c.in-Some.point) (sym c.in-Some.ensures.items) (Contains-push c.pop.new.self.items c.in-Some.point)) in
    omega (arith, c.requires.clears)

pub offset_bounds-clears-point : goal.offset_bounds-clears-point
offset_bounds-clears-point c =
    let lt = c.loop-point.invariant.work_within c.in-Some.point (subst (λ xs. Contains xs c.in-Some.point) (sym c.in-Some.ensures.items) (Contains-push c.pop.new.self.items c.in-Some.point)) in
    record { fits = omega (arith, c.requires.clears) }

pub bounds-next-point : goal.bounds-next-point
bounds-next-point c = c.loop-point.invariant.work_within c.in-Some.point (subst (λ xs. Contains xs c.in-Some.point) (sym c.in-Some.ensures.items) (Contains-push c.pop.new.self.items c.in-Some.point))

pub offset_bounds-next-point : goal.offset_bounds-next-point
offset_bounds-next-point c =
    let lt = c.loop-point.invariant.work_within c.in-Some.point (subst (λ xs. Contains xs c.in-Some.point) (sym c.in-Some.ensures.items) (Contains-push c.pop.new.self.items c.in-Some.point)) in
    record { fits = omega arith }

pub pass_all-requires-in-Some : goal.pass_all-requires-in-Some
pass_all-requires-in-Some c = λ q has.
    let next = c.args.next.now in
    let lt = c.loop-point.invariant.work_within c.in-Some.point (subst (λ xs. Contains xs c.in-Some.point) (sym c.in-Some.ensures.items) (Contains-push c.pop.new.self.items c.in-Some.point)) in
    let at = slice_get_read next (length next) c.in-Some.point c.index-next-point.result refl lt c.index-next-point.is in
    omega (arith, c.requires.next c.in-Some.point q (record { row = c.index-next-point.result; at = at; has = subst (λ xs. Contains xs q) c.deref-in-Some.ensures.value has }), c.loop-point.invariant.same_length)

pub loop-point-preserved : goal.loop-point-preserved
loop-point-preserved c =
    let next = c.args.next.now in
    let clears = c.args.clears.now in
    let point = c.in-Some.point in
    let reach = c.loop-point.reach.items in
    let s = c.loop-point.invariant in
    let lt = s.work_within point (subst (λ xs. Contains xs point) (sym c.in-Some.ensures.items) (Contains-push c.pop.new.self.items point)) in
    let at = slice_get_read next (length next) point c.index-next-point.result refl lt c.index-next-point.is in
    let row = slice_get_read reach (length reach) point c.index.result.now refl (omega (arith, s.same_length)) c.index.ensures in
    let clear = slice_get_read clears (length clears) point c.index-clears-point.result refl (omega (arith, c.requires.clears)) c.index-clears-point.is in
    sweeps_on next clears c.args.starts.now (length c.args.starts.now) point c.index-next-point.result reach _ c.pop.new.self.items _ (bit c.minus-block.result) c.requires.next at
    (λ i. omega (arith, c.minus-block.ensures i, at_row reach point i c.index.result.now row, at_row clears point i c.index-clears-point.result clear))
    (λ i. omega (arith, at_row reach point i c.index.result.now row, bit-lt c.index.result.now i))
    (rw c.in-Some.ensures.items at s) (rw c.deref-in-Some.ensures.value at c.in_ok-pass_all-2.ensures)

pub loop-point-smaller : goal.loop-point-smaller
loop-point-smaller c =
    let paid = c.in_ok-pass_all-2.ensures.paid in
    omega (arith, ap (λ (xs : List ℕ). length xs) c.in-Some.ensures.items, length-append c.pop.new.self.items (c.in-Some.point ∷ []))

empty_of : (xs : List ℕ) → length xs ≡ 0 → xs ≡ []
empty_of [] h = refl
empty_of (x ∷ xs) h = absurd (omega arith)

pub returns : goal.returns
returns c =
    let none : c.loop-point.work.items ≡ [] = empty_of _ (let e = c.in_default.ensures.cases in search rules) in
    record { exact = λ q i. exact c.args.next.now c.args.clears.now c.args.starts.now (length c.args.starts.now) c.loop-point.reach.items (omega arith) (rw none at c.loop-point.invariant) q i }
