-- Why tokens are no file.
use Rattle.std.proofs.Common.{◌∙◌, sym, arith}
use Rattle.cc_parse.proofs.Answered.{too_deep, no_syntax}
use Rattle.cc_parse.proofs.file.refusal.Goals as goal

-- src/file.rt:46:1
pub returns-in-Ok-true : goal.returns-in-Ok-true
returns-in-Ok-true c = too_deep c.args.tokens.now c.args.left c.saturating_sub-token.result c.requires.fails c.if-left-eq0.false (sym c.in-Ok-true.field-0-test ∙ c.in-Ok-true.ensures) (omega (arith, c.saturating_sub-token.ensures, c.len.ensures))

-- src/file.rt:46:1
pub returns-in-Ok-false : goal.returns-in-Ok-false
returns-in-Ok-false c = no_syntax c.args.tokens.now c.args.left c.saturating_sub-token.result c.requires.fails c.if-left-eq0.false (sym c.in-Ok-false.field-0-test ∙ c.in-Ok-false.ensures) (omega (arith, c.saturating_sub-token.ensures, c.len.ensures))
