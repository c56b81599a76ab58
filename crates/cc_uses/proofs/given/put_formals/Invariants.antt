use Rattle.std.proofs.Common.{◌≡◌, drop}
use Rattle.cc_uses.specs.Putting.{put_from}
use Rattle.cc_uses.specs.Giving.{put_formal}
use Rattle.cc_uses.proofs.given.put_formals.Given as goal

abbrev pub invariant-loop-v : goal.invariant-loop-v
invariant-loop-v l = put_from (put_formal l.parts l.point) (drop l.v-index l.formals) l.v-index l.out.items ≡ put_from (put_formal l.parts l.point) l.formals 0 l.initial.out.items
