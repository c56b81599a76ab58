use Rattle.std.proofs.Common.{◌≡◌, length, map}
use Rattle.cc_project.specs.Names.{is_among}
use Rattle.cc_device.proofs.value.is_key.Given as goal

abbrev pub invariant-loop-keys : goal.invariant-loop-keys
invariant-loop-keys l = is_among (map (λ key. key.now) l.keys) l.text ≡ is_among (map (λ key. key.now) l.initial.keys) l.text

abbrev pub decreases-loop-keys : goal.decreases-loop-keys
decreases-loop-keys l = length l.keys
