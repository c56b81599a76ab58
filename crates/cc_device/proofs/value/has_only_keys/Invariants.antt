use Rattle.std.proofs.Common.{◌≡◌, length, map}
use Rattle.std.specs.List.{list_all}
use Rattle.toml.specs.View.{table_view, members_view}
use Rattle.cc_project.specs.Names.{is_among}
use Rattle.cc_project.specs.Values.{keys_of}
use Rattle.cc_device.proofs.value.has_only_keys.Given as goal

abbrev pub invariant-loop-key : goal.invariant-loop-key
invariant-loop-key l = list_all (is_among (map (λ key. key.now) l.keys)) (keys_of (members_view l.members)) ≡ list_all (is_among (map (λ key. key.now) l.keys)) (keys_of (table_view l.table))

abbrev pub decreases-loop-key : goal.decreases-loop-key
decreases-loop-key l = length l.members
