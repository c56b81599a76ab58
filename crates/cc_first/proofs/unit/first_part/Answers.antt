use Rattle.std.proofs.Common.{sym, subst, ap, ◌≡◌, ◌∙◌, true, false, List, map, drop}
use Rattle.cc_first.specs.UnitReads.{mark_at, IsBody, NoBody}
use Rattle.cc_first.specs.Views.{name_view}
use Rattle.cc_first.specs.declared.token.Mark.TheVariants.{OpenBrace, Semicolon}
use Rattle.cc_first.specs.declared.token.Token.{Token}
use Rattle.cc_first.proofs.UnitReads.{head_len, part_no_head, part_declared, part_neither, part_defined, part_no_body}
use Rattle.cc_first.proofs.unit.first_part.Goals as goal

pub returns-in_default-clause-none : goal.returns-in_default-clause-none
returns-in_default-clause-none c = part_no_head c.args.tokens.now c.requires (sym c.in_default.ensures)

pub behind-rest-requires : goal.behind-rest-requires
behind-rest-requires c = head_len c.args.tokens.now (name_view c.in-Some.name) c.requires (sym c.in-Some.ensures)

pub returns-then-is_mark-clause-some : goal.returns-then-is_mark-clause-some
returns-then-is_mark-clause-some c =
    part_declared c.args.tokens.now (name_view c.in-Some.name) c.requires (sym c.in-Some.ensures)
    (subst (λ (r : List Token). mark_at r 0 Semicolon ≡ true) c.behind-rest.ensures (sym c.is_mark.ensures ∙ c.if-is_mark.true))

pub returns-then-not-is_mark-clause-none : goal.returns-then-not-is_mark-clause-none
returns-then-not-is_mark-clause-none c =
    part_neither c.args.tokens.now c.requires
    (subst (λ (r : List Token). mark_at r 0 Semicolon ≡ false) c.behind-rest.ensures (sym c.is_mark.ensures ∙ c.if-is_mark.false))
    (subst (λ (r : List Token). mark_at r 0 OpenBrace ≡ false) c.behind-rest.ensures (sym c.is_mark-2.ensures ∙ c.if-not-is_mark.true))

pub returns-in-Some-2-clause-some : goal.returns-in-Some-2-clause-some
returns-in-Some-2-clause-some c =
    let body : IsBody c.behind.result.now (map name_view c.in-Some-2.calls.items) = rw c.in-Some-2.is at c.in_ok-calls.ensures.some in
    part_defined c.args.tokens.now (name_view c.in-Some.name) (map name_view c.in-Some-2.calls.items) c.requires (sym c.in-Some.ensures)
    (subst (λ (r : List Token). mark_at r 0 Semicolon ≡ false) c.behind-rest.ensures (sym c.is_mark.ensures ∙ c.if-is_mark.false))
    (subst (λ (r : List Token). mark_at r 0 OpenBrace ≡ true) c.behind-rest.ensures (sym c.is_mark-2.ensures ∙ c.if-not-is_mark.false))
    (subst (λ (r : List Token). IsBody r (map name_view c.in-Some-2.calls.items)) (c.behind.ensures ∙ ap (λ (r : List Token). drop 1 r) c.behind-rest.ensures) body)

pub returns-in-None-clause-none : goal.returns-in-None-clause-none
returns-in-None-clause-none c =
    let none : NoBody c.behind.result.now = rw c.in-None.is at c.in_ok-calls.ensures.none in
    part_no_body c.args.tokens.now c.requires (subst (λ (r : List Token). mark_at r 0 Semicolon ≡ false) c.behind-rest.ensures (sym c.is_mark.ensures ∙ c.if-is_mark.false))
    (subst (λ (r : List Token). NoBody r) (c.behind.ensures ∙ ap (λ (r : List Token). drop 1 r) c.behind-rest.ensures) none)
