use Rattle.std.proofs.Common.{rules, ℕ, ◌≡◌, ◌-◌, ◌+◌, ◌<◌, true, false, Some, length, refl, sym, ap, ◌∙◌, subst, arith}
use Rattle.std.specs.Prelude.{Contains}
use Rattle.std.proofs.lemmas.Option.{slice_get_read}
use Rattle.cc_blocks.specs.Bits.{bit}
use Rattle.cc_flows.proofs.Passing.{visits_none, visited, row_within, at_row}
use Rattle.cc_flows.proofs.sweeping.visit.Goals as goal

pub returns-then-not-index-clause-visits : goal.returns-then-not-index-clause-visits
returns-then-not-index-clause-visits c = visits_none c.args.next.now c.args.clears.now c.args.reach.now.items c.args.dirty.now.items

pub returns-then-not-index-clause-idle : goal.returns-then-not-index-clause-idle
returns-then-not-index-clause-idle c = λ e.
    let at = slice_get_read c.args.dirty.now.items (length c.args.dirty.now.items) c.args.point c.index.result.now refl (omega (arith, c.requires.point, c.requires.fits.same_dirty)) c.index.ensures in
    let is : c.index.result.now ≡ false = search rules in
    (refl, λ dirty. let h = dirty in let k = at in cc)

pub pass_all-requires-clause-points : goal.pass_all-requires-clause-points
pass_all-requires-clause-points c = λ q has.
    let next = c.args.next.now in
    let at = slice_get_read next (length next) c.args.point c.index-next-point.result refl c.requires.point c.index-next-point.is in
    omega (arith, row_within next c.args.point c.index-next-point.result c.requires.fits.stays at q (subst (λ xs. Contains xs q) c.as_slice.ensures has), c.requires.fits.same_length)

pub returns-clause-visits : goal.returns-clause-visits
returns-clause-visits c =
    let next = c.args.next.now in
    let clears = c.args.clears.now in
    let reach = c.args.reach.now.items in
    let dirty = c.args.dirty.now.items in
    let point = c.args.point in
    let at = slice_get_read next (length next) point c.index-next-point.result refl c.requires.point c.index-next-point.is in
    let flag = slice_get_read dirty (length dirty) point c.index.result.now refl (omega (arith, c.requires.point, c.requires.fits.same_dirty)) c.index.ensures in
    let is : c.index.result.now ≡ true = search rules in
    let row = slice_get_read reach (length reach) point c.index-2.result.now refl (omega (arith, c.requires.point, c.requires.fits.same_length)) c.index-2.ensures in
    let clear = slice_get_read clears (length clears) point c.index-clears-point.result refl (omega (arith, c.requires.point, c.requires.fits.same_clears)) c.index-clears-point.is in
    (visited next clears reach c.pass_all.new.reach.items dirty c.pass_all.new.dirty.items point c.index-next-point.result (λ i. bit c.index-2.result.now i - bit c.index-clears-point.result i) at
    (λ i. omega (arith, at_row reach point i c.index-2.result.now row, at_row clears point i c.index-clears-point.result clear)) (flag ∙ ap Some is) (rw c.as_slice.ensures at c.pass_all.ensures)).0

pub returns-clause-grew : goal.returns-clause-grew
returns-clause-grew c = λ e.
    let next = c.args.next.now in
    let clears = c.args.clears.now in
    let reach = c.args.reach.now.items in
    let dirty = c.args.dirty.now.items in
    let point = c.args.point in
    let at = slice_get_read next (length next) point c.index-next-point.result refl c.requires.point c.index-next-point.is in
    let flag = slice_get_read dirty (length dirty) point c.index.result.now refl (omega (arith, c.requires.point, c.requires.fits.same_dirty)) c.index.ensures in
    let is : c.index.result.now ≡ true = search rules in
    let row = slice_get_read reach (length reach) point c.index-2.result.now refl (omega (arith, c.requires.point, c.requires.fits.same_length)) c.index-2.ensures in
    let clear = slice_get_read clears (length clears) point c.index-clears-point.result refl (omega (arith, c.requires.point, c.requires.fits.same_clears)) c.index-clears-point.is in
    (visited next clears reach c.pass_all.new.reach.items dirty c.pass_all.new.dirty.items point c.index-next-point.result (λ i. bit c.index-2.result.now i - bit c.index-clears-point.result i) at
    (λ i. omega (arith, at_row reach point i c.index-2.result.now row, at_row clears point i c.index-clears-point.result clear)) (flag ∙ ap Some is) (rw c.as_slice.ensures at c.pass_all.ensures)).1
