use Rattle.std.proofs.Common.{sym, subst, ◌≡◌, ◌∙◌, ◌+◌, List, ◌∷◌, drop, true, false}
use Rattle.cc_first.specs.UnitReads.{StandTo}
use Rattle.cc_first.specs.Unit.{Part}
use Rattle.cc_first.specs.Views.{part_view, parts_view}
use Rattle.cc_first.proofs.UnitStands.{texts, at_part, keys_more, stand_on, stand_off}
use Rattle.cc_first.proofs.unit.calls_stand.Goals as goal

pub returns-then-not-calls_known : goal.returns-then-not-calls_known
returns-then-not-calls_known c =
    let parts = parts_view c.args.parts.now in
    let rest = parts_view (drop (c.loop-part.part-index + 1) c.args.parts.now) in
    let part = part_view c.part-item.result in
    let s : StandTo parts (part ∷ rest) (texts c.loop-part.heads.keys) =
    subst (λ (ps : List Part). StandTo parts ps (texts c.loop-part.heads.keys)) (at_part c.args.parts.now c.loop-part.part-index c.part-item.result c.loop-part-test.true c.part-item.is) c.loop-part.invariant in
    let more = keys_more c.loop-part.heads.keys c.insert.new.self.keys c.head_text.result _ c.in_ok-insert.ensures.keys c.head_text.ensures in (
      λ h. absurd (let n : false ≡ true = h in cc),
      λ k. absurd (stand_off parts part rest (texts c.loop-part.heads.keys) (texts c.insert.new.self.keys) s more (sym c.calls_known.ensures ∙ c.if-not-calls_known.true) k),
    )

pub loop-part-preserved : goal.loop-part-preserved
loop-part-preserved c =
    let parts = parts_view c.args.parts.now in
    let rest = parts_view (drop (c.loop-part.part-index + 1) c.args.parts.now) in
    let part = part_view c.part-item.result in
    let s : StandTo parts (part ∷ rest) (texts c.loop-part.heads.keys) =
    subst (λ (ps : List Part). StandTo parts ps (texts c.loop-part.heads.keys)) (at_part c.args.parts.now c.loop-part.part-index c.part-item.result c.loop-part-test.true c.part-item.is) c.loop-part.invariant in
    stand_on parts part rest (texts c.loop-part.heads.keys) (texts c.insert.new.self.keys) s
    (keys_more c.loop-part.heads.keys c.insert.new.self.keys c.head_text.result _ c.in_ok-insert.ensures.keys c.head_text.ensures) (sym c.calls_known.ensures ∙ c.if-not-calls_known.false)
