use Rattle.std.proofs.Common.{◌≡◌, drop}
use Rattle.cc_tree.specs.Views.{values_of}
use Rattle.cc_check_values.specs.Shaping.{parts_checked}
use Rattle.cc_check_values.proofs.shape.+value.Given as goal

abbrev pub invariant-check_parts-loop-number : goal.invariant-check_parts-loop-number
invariant-check_parts-loop-number l = parts_checked l.symbols l.life l.target l.number (values_of (drop l.number l.vs)) l.found ≡ parts_checked l.symbols l.life l.target 0 (values_of l.vs) l.initial.found
