use Rattle.std.proofs.Common.{sym, ◌∙◌}
use Rattle.std.proofs.lemmas.Bool.{false_from_ne_true}
use Rattle.cc_first.proofs.TokenLaws.{form_word_identifier, identifier_utf8}
use Rattle.cc_first.proofs.token.word_kind.Goals as goal

pub returns-then-not-is_identifier-clause-none : goal.returns-then-not-is_identifier-clause-none
returns-then-not-is_identifier-clause-none c =
    false_from_ne_true _ (λ e. let i = form_word_identifier c.args.word.now e in cc)

pub returns-in_default-clause-none : goal.returns-in_default-clause-none
returns-in_default-clause-none c =
    absurd (c.in_default.ensures.cases.0 (identifier_utf8 c.args.word.now (sym c.is_identifier.ensures ∙ c.if-not-is_identifier.false)))
