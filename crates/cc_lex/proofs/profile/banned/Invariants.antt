use Rattle.std.proofs.Common.{◌≡◌, ℕ, ◌<◌, None}
use Rattle.cc_lex.specs.Banned.{rule_at}
use Rattle.cc_lex.proofs.profile.banned.Given as goal

abbrev pub invariant-loop-i : goal.invariant-loop-i
invariant-loop-i l = (k : ℕ) → k < l.i → rule_at l.tokens k ≡ None
