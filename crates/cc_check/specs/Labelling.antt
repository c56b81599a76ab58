-- The labels of a switch.
use Rattle.std.specs.Prelude.{ℤ, Bool, true, false, not, List, [], Option, Some, None}
use Rattle.std.specs.List.{list_any}
use Rattle.std.specs.Ordering.{int_eq}
use Rattle.indexmap.specs.IndexSet.{insert_key}
use Rattle.cc_arith.specs.Conversions.{converted as converted_to}
use Rattle.cc_arith.specs.declared.kind.IntKind.{IntKind}
use Rattle.cc_check.specs.declared.labels.Labels.{Labels}

-- one more value, and whether it is new
abbrev pub value_added : List ℤ → ℤ → List ℤ × Bool
value_added vs v = (insert_key int_eq vs v, not (list_any (int_eq v) vs))

abbrev pub no_labels : Option IntKind → Labels
no_labels kind = record { kind = kind; values = []; has_default = false }

abbrev pub converted_by : Option IntKind → ℤ → ℤ
converted_by (Some k) v = converted_to k v
converted_by None v = v

-- a value as the switch compares it
abbrev pub converted : Labels → ℤ → ℤ
converted l v = converted_by l.kind v

abbrev pub with_values : Labels → List ℤ → Labels
with_values l vs = record { kind = l.kind; values = vs; has_default = l.has_default }

-- a `default`, and whether it is the first
abbrev pub default_added : Labels → Labels × Bool
default_added l = (record { kind = l.kind; values = l.values; has_default = true }, not l.has_default)
