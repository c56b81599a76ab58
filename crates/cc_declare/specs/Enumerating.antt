-- Enumeration constants.
use Rattle.std.specs.Prelude.{ℕ, ℤ, pos, negsuc, ◌+ℤ◌, int_le, Bool, true, false, not, ◌&&◌, List, Some, if◌then◌else◌}
use Rattle.cc_arith.specs.declared.kind.IntKind.TheVariants.{Int}
use Rattle.cc_symbols.specs.declared.declared.Declared.{Declared}
use Rattle.cc_symbols.specs.declared.declared.Form.TheVariants.{Constant}
use Rattle.cc_symbols.specs.declared.declared.Linkage.TheVariants.{Without}
use Rattle.cc_tree_notes.specs.declared.note.Counted.{Counted}
use Rattle.cc_types.specs.Interning.{interned}
use Rattle.cc_types.specs.declared.shape.Shape.{Shape}
use Rattle.cc_types.specs.declared.shape.Shape.TheVariants as h
use Rattle.cc_types.specs.declared.shape.TypeId.{TypeId}
use Rattle.cc_declare.specs.declared.checker.Checker.{Checker}
use Rattle.cc_declare.specs.declared.enumerators.ConstantValue.{ConstantValue}
use Rattle.cc_declare.specs.declared.enumerators.ConstantValue.TheVariants as v
use Rattle.cc_declare.specs.Declaring.{declared_once}
use Rattle.cc_declare.specs.Rules as rule
use Rattle.cc_declare.specs.State.{offended_if, with_types}

abbrev pub value_of : ConstantValue → ℤ → ℤ
value_of v.Missing next = next
value_of (v.Is n) next = n
value_of c next = pos 0

-- `int` has this value
abbrev pub is_int : ℤ → Bool
is_int n = int_le (negsuc 2147483647) n && int_le n (pos 2147483647)

-- 0 stands for one that `int` doesn't have, which is an offence
abbrev pub kept_value : ℤ → ℤ
kept_value n = if is_int n then n else pos 0

abbrev pub is_typed : ConstantValue → Bool
is_typed v.Untyped = false
is_typed c = true

abbrev pub constant_declared : Checker → Counted → ℤ → TypeId → Declared
constant_declared s n v t = record {
  form = Constant v;
  linkage = Without;
  kind = Some t;
  node = n.number;
  file = s.file;
  is_defined = true;
}

abbrev pub next_after : ℤ → Checker × ℕ → Checker × ℤ
next_after v p = (p.0, v +ℤ pos 1)

abbrev pub enumerated_in : Checker → Counted → List ℕ → Bool → ℤ → List Shape × TypeId → Checker × ℤ
enumerated_in s n x typed v p = next_after v (declared_once (with_types s p.0) n x typed (constant_declared s n v p.1))

-- a constant, and the value of one that comes next without an expression
abbrev pub enumerated : Checker → Counted → List ℕ → Counted → ℤ → ConstantValue → Checker × ℤ
enumerated s n x place next v =
    let number = value_of v next in
    let t = offended_if s (not (is_int number)) place rule.constant in
    enumerated_in t n x (is_typed v) (kept_value number) (interned t.symbols.types (h.Integer false Int))
