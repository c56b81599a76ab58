use Rattle.std.proofs.Common.{rules, ◌≡◌, ◌<◌, [], subst, length, false, replicate, refl}
use Rattle.std.proofs.lemmas.Option.{slice_get_read}
use Rattle.cc_base.specs.Edges.{IsMarked}
use Rattle.cc_base.proofs.Exploration.{explores_from, explores_on, marked_exactly, work_within}
use Rattle.cc_base.proofs.Marks.{IsMarked-replicate}
use Rattle.cc_base.proofs.Rows.{row_stays_within}
use Rattle.cc_base.proofs.Lists.{nil_from_length}
use Rattle.cc_base.proofs.reach.search.Goals as goal

pub loop-point-init : goal.loop-point-init
loop-point-init c =
    let all_false : c.in_ok-marks.marks.items ≡ replicate (length c.args.rows.now) false = search rules in
    let same_length : length c.in_ok-marks.marks.items ≡ length c.args.rows.now = search rules in
    let marked = rw c.new-work.ensures.items at c.in_ok-mark.ensures in
    explores_from _ _ _ _ _ same_length (λ v h. IsMarked-replicate (length c.args.rows.now) v (subst (λ xs. IsMarked xs v) all_false h)) marked

pub offset_bounds-rows-point : goal.offset_bounds-rows-point
offset_bounds-rows-point c =
    let within : c.in-Some.point < length c.args.rows.now = work_within _ _ _ _ _ c.pop.new.self.items c.loop-point.invariant c.in-Some.ensures.items in
    search rules

pub bounds-rows-point : goal.bounds-rows-point
bounds-rows-point c = work_within _ _ _ _ _ c.pop.new.self.items c.loop-point.invariant c.in-Some.ensures.items

pub mark_all-requires : goal.mark_all-requires
mark_all-requires c =
    let within = work_within _ _ _ _ _ c.pop.new.self.items c.loop-point.invariant c.in-Some.ensures.items in
    let at = slice_get_read c.args.rows.now (length c.args.rows.now) c.in-Some.point c.index-rows-point.result refl within c.index-rows-point.is in
    rw c.deref.ensures.value (row_stays_within _ _ _ _ c.requires.rows at c.loop-point.invariant.same_length)

pub loop-point-preserved : goal.loop-point-preserved
loop-point-preserved c =
    let within = work_within _ _ _ _ _ c.pop.new.self.items c.loop-point.invariant c.in-Some.ensures.items in
    let at = slice_get_read c.args.rows.now (length c.args.rows.now) c.in-Some.point c.index-rows-point.result refl within c.index-rows-point.is in
    let explored = rw c.in-Some.ensures.items at c.loop-point.invariant in
    let marked = rw c.deref.ensures.value at c.in_ok-mark_all.ensures in
    explores_on c.args.rows.now c.args.start c.in-Some.point c.index-rows-point.result _ _ _ _ at explored marked

pub returns-clause-exact : goal.returns-clause-exact
returns-clause-exact c =
    let none : c.loop-point.work.items ≡ [] = nil_from_length _ (let cases = c.in_default.ensures.cases in search rules) in
    λ v. marked_exactly c.args.rows.now c.args.start c.loop-point.marks.items (rw none at c.loop-point.invariant) v
