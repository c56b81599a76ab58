-- Storage classes, `inline`, and what they make of a declarator.
use Rattle.std.specs.Prelude.{Bool, true, false, not, ◌&&◌, ◌||◌, is_some, List, [], ◌∷◌, Option, Some, None, if◌then◌else◌}
use Rattle.std.specs.Option.{is_none}
use Rattle.cc_tree.specs.declared.operator.SpecWord.{SpecWord}
use Rattle.cc_tree.specs.declared.operator.SpecWord.TheVariants as w
use Rattle.cc_tree.specs.Trees.{InitTree, init, ValueTree}
use Rattle.cc_tree_notes.specs.declared.note.Counted.{Counted}
use Rattle.cc_types.specs.declared.shape.Shape.{Shape}
use Rattle.cc_types.specs.Interning as shapes
use Rattle.cc_symbols.specs.declared.declared.Form.{Form}
use Rattle.cc_symbols.specs.declared.declared.Form.TheVariants.{Object, Function, Typedef}
use Rattle.cc_symbols.specs.declared.declared.Life.{Life}
use Rattle.cc_symbols.specs.declared.declared.Life.TheVariants.{Static, Local}
use Rattle.cc_declare.specs.declared.checker.Checker.{Checker}
use Rattle.cc_declare.specs.declared.shaped.Formed.{Formed}
use Rattle.cc_declare.specs.declared.specifiers.Setting.{Setting}
use Rattle.cc_declare.specs.declared.specifiers.Setting.TheVariants as at
use Rattle.cc_declare.specs.declared.specifiers.Specified.{Specified}
use Rattle.cc_declare.specs.declared.specifiers.Storage.{Storage}
use Rattle.cc_declare.specs.State.{offended_if}
use Rattle.cc_declare.specs.Objects.{object_judged}
use Rattle.cc_check.specs.declared.storage.Judged.{Judged}
use Rattle.cc_check.specs.declared.storage.Region.{Region}
use Rattle.cc_check.specs.declared.storage.Region.TheVariants.{File, Block, Clause}

abbrev pub both_judged : Judged → Judged → Judged
both_judged a b = record {
  is_typed = a.is_typed && b.is_typed;
  may_be_functions = a.may_be_functions && b.may_be_functions;
}

abbrev pub setting : Region → Setting
setting File = at.File
setting Block = at.Block
setting Clause = at.Block

abbrev pub word_in : Option Storage → Option SpecWord
word_in (Some s) = Some s.word
word_in None = None

abbrev pub word_of : Specified → Option SpecWord
word_of said = word_in said.storage

-- how long an object lives (C17 6.2.4)
abbrev pub life : Region → Option SpecWord → Life
life File word = Static
life region (Some w.Static) = Static
life region (Some w.Extern) = Static
life region word = Local

abbrev pub is_function : Option Shape → Bool
is_function (Some a) = shapes.is_function a
is_function None = false

abbrev pub linked_form : Region → Option SpecWord → Option Shape → Form
linked_form region word a = if is_function a then Function else Object (life region word)

-- what a declarator of this type declares
abbrev pub form : Region → Option SpecWord → Option Shape → Form
form region (Some w.Typedef) a = Typedef
form region word a = linked_form region word a

abbrev pub is_extern : SpecWord → Bool
is_extern w.Extern = true
is_extern word = false

abbrev pub is_static : Option SpecWord → Bool
is_static (Some w.Static) = true
is_static word = false

abbrev pub is_typedef : Option SpecWord → Bool
is_typedef (Some w.Typedef) = true
is_typedef word = false

abbrev pub is_misplaced : Region → SpecWord → Bool
is_misplaced File word = false
is_misplaced Block word = is_extern word
is_misplaced Clause word = true

abbrev pub has_value : InitTree Counted → Bool
has_value (init d v) = is_some v

abbrev pub is_one_given : List (InitTree Counted) → Bool
is_one_given [] = false
is_one_given (i ∷ is) = has_value i || is_one_given is

-- C24 at a storage class
abbrev pub storage_checked : Region → Option Storage → List (InitTree Counted) → Checker → Checker
storage_checked region (Some x) is s =
    offended_if s (is_misplaced region x.word || is_extern x.word && is_one_given is) x.note 24
storage_checked region None is s = s

-- C16 at a declaration
abbrev pub inline_checked : Counted → Specified → Judged → Checker → Checker
inline_checked n said j s =
    offended_if s (is_some said.inline && j.is_typed && not (is_static (word_of said) && j.may_be_functions)) n 16

abbrev pub is_empty : List (InitTree Counted) → Bool
is_empty [] = true
is_empty (i ∷ is) = false

abbrev pub judged_specifiers : Specified → List (InitTree Counted) → Judged
judged_specifiers said is = record { is_typed = is_some said.kind; may_be_functions = not (is_empty is) }

abbrev pub is_function_form : Form → Bool
is_function_form Function = true
is_function_form f = false

abbrev pub may_be_function : Formed → Form → Bool
may_be_function d f = is_none d.kind || is_function_form f

abbrev pub judged_declarator : Formed → Form → Bool → Judged
judged_declarator d f is_typed = record { is_typed = d.is_judged && is_typed; may_be_functions = may_be_function d f }

-- C19 and C20 of an object
abbrev pub object_checked : Counted → Form → Formed → Bool → Checker → Checker
object_checked n (Object life) d may_lack s = object_judged s n d may_lack
object_checked n f d may_lack s = s
