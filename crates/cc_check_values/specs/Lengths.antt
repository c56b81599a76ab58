-- What an initialiser tells of the length of an array (C17 6.7.9, paragraph 22).
use Rattle.std.specs.Prelude.{ℕ, suc, ◌+◌, ◌-◌, ◌^◌, min, Bool, true, false, if◌then◌else◌, List, [], ◌∷◌, length, Option, Some, None}
use Rattle.cc_arith.specs.declared.kind.IntKind.{IntKind}
use Rattle.cc_arith.specs.declared.kind.IntKind.TheVariants.{Char, SChar, UChar}
use Rattle.cc_tree.specs.Trees.{ExprTree, string, ValueTree, single, braces, ValueTrees, no_values, more_values}
use Rattle.cc_tree_notes.specs.declared.note.Counted.{Counted}
use Rattle.cc_types.specs.declared.shape.Shape.{Shape}
use Rattle.cc_types.specs.declared.shape.Shape.TheVariants as s
use Rattle.cc_types.specs.Interning.{shape_of}
use Rattle.cc_symbols.specs.declared.symbols.Symbols.{Symbols}
use Rattle.cc_typing.specs.Typing.{bytes_from}

abbrev pub is_character_kind : IntKind → Bool
is_character_kind Char = true
is_character_kind SChar = true
is_character_kind UChar = true
is_character_kind k = false

abbrev pub is_character : Shape → Bool
is_character (s.Integer is_const k) = is_character_kind k
is_character a = false

-- the bytes of string literals that stand side by side, without the final zero
abbrev pub string_length : List (List ℕ) → ℕ
string_length bs = bytes_from 0 bs

abbrev pub count : ValueTrees Counted → ℕ
count no_values = 0
count (more_values v vs) = suc (count vs)

abbrev pub string_told : Shape → List (List ℕ) → Option ℕ
string_told a bs = if is_character a then Some (min (string_length bs + 1) (2 ^ 64 - 1)) else None

-- the length that an initialiser gives an array of such elements: that of its list, or of its string literal with the final zero
abbrev pub length_of : Shape → ValueTree Counted → Option ℕ
length_of a (braces n vs trailing) = Some (count vs)
length_of a (single (string n bs)) = string_told a bs
length_of a (single e) = None

abbrev pub told_length : Symbols → Shape → ValueTree Counted → Option ℕ
told_length st (s.Array is_const element None) v = length_of (shape_of st.types element) v
told_length st a v = None
