use Rattle.std.proofs.Common.{sym, subst, ◌≡◌, true, false, List, []}
use Rattle.cc_first.specs.Tokens.{IsTokens, NoTokens}
use Rattle.cc_first.specs.UnitReads.{AreParts, NoParts}
use Rattle.cc_first.specs.Unit.{CallsStand}
use Rattle.cc_first.specs.Views.{parts_view}
use Rattle.cc_first.specs.declared.token.Token.{Token}
use Rattle.cc_first.specs.declared.unit.Part.{Part}
use Rattle.cc_first.proofs.UnitJoin.{unit_some, no_tokens, no_parts, no_calls}
use Rattle.cc_first.proofs.unit.read_unit.Goals as goal

pub returns-in_default-clause-none : goal.returns-in_default-clause-none
returns-in_default-clause-none c =
    let none : NoTokens c.args.bytes.now = rw c.in_default.is at c.in_ok-tokens.ensures.none in
    no_tokens c.args.bytes.now none

pub returns-in_default-2-clause-none : goal.returns-in_default-2-clause-none
returns-in_default-2-clause-none c =
    let tokens : IsTokens c.args.bytes.now c.in-Some.tokens.items = rw c.in-Some.is at c.in_ok-tokens.ensures.some in
    let none : NoParts c.deref.result.now = rw c.in_default-2.is at c.in_ok-parts.ensures.none in
    no_parts c.args.bytes.now c.in-Some.tokens.items tokens (subst (λ (ts : List Token). NoParts ts) c.deref.ensures.value none)

pub returns-then-branch-clause-some : goal.returns-then-branch-clause-some
returns-then-branch-clause-some c =
    let tokens : IsTokens c.args.bytes.now c.in-Some.tokens.items = rw c.in-Some.is at c.in_ok-tokens.ensures.some in
    let parts : AreParts c.deref.result.now (parts_view c.in-Some-2.parts.items) = rw c.in-Some-2.is at c.in_ok-parts.ensures.some in
    let calls : CallsStand [] (parts_view c.deref-2.result.now) = c.in_ok-calls_stand.ensures.0 c.if-branch.true in
    unit_some c.args.bytes.now c.in-Some.tokens.items (parts_view c.in-Some-2.parts.items) tokens
    (subst (λ (ts : List Token). AreParts ts (parts_view c.in-Some-2.parts.items)) c.deref.ensures.value parts)
    (subst (λ (ps : List Part). CallsStand [] (parts_view ps)) c.deref-2.ensures.value calls)

pub returns-clause-none : goal.returns-clause-none
returns-clause-none c =
    let tokens : IsTokens c.args.bytes.now c.in-Some.tokens.items = rw c.in-Some.is at c.in_ok-tokens.ensures.some in
    let parts : AreParts c.deref.result.now (parts_view c.in-Some-2.parts.items) = rw c.in-Some-2.is at c.in_ok-parts.ensures.some in
    no_calls c.args.bytes.now c.in-Some.tokens.items (parts_view c.in-Some-2.parts.items) tokens
    (subst (λ (ts : List Token). AreParts ts (parts_view c.in-Some-2.parts.items)) c.deref.ensures.value parts)
    (λ stand.
    let yes : c.in_ok-calls_stand.field-0 ≡ true = c.in_ok-calls_stand.ensures.1 (subst (λ (ps : List Part). CallsStand [] (parts_view ps)) (sym c.deref-2.ensures.value) stand) in
    let no : c.in_ok-calls_stand.field-0 ≡ false = c.if-branch.false in
    cc)
