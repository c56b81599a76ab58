use Rattle.std.proofs.Common.{◌≡◌, drop}
use Rattle.cc_across.specs.Sites.{body_pairs}
use Rattle.cc_across.proofs.owners.body_pairs.Given as goal

abbrev pub invariant-loop-f : goal.invariant-loop-f
invariant-loop-f l = body_pairs (drop l.f l.definitions) l.f l.pairs.items ≡ body_pairs l.definitions 0 l.initial.pairs.items
