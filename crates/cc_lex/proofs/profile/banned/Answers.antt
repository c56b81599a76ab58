use Rattle.std.proofs.Common.{◌≡◌, None, sym}
use borrow.Author.Count.{below_more}
use Rattle.cc_lex.specs.Banned.{rule_at}
use Rattle.cc_lex.proofs.profile.banned.Goals as goal

pub loop-i-preserved : goal.loop-i-preserved
loop-i-preserved c = below_more (λ k. rule_at c.args.tokens.now k ≡ None) c.loop-i.i c.loop-i.invariant (rw c.get.ensures (sym c.in-None.ensures))
