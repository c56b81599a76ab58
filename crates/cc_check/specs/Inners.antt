-- Declarators in blocks.
use Rattle.std.specs.Prelude.{ℕ, Bool, true, false, not, ◌&&◌, is_some, Option, Some, None}
use Rattle.cc_tree.specs.Trees.{Name, DeclTree, InitTree, init, ValueTree}
use Rattle.cc_tree_notes.specs.declared.note.Counted.{Counted}
use Rattle.cc_types.specs.declared.shape.TypeId.{TypeId}
use Rattle.cc_symbols.specs.declared.declared.Declared.{Declared}
use Rattle.cc_symbols.specs.declared.declared.Form.{Form}
use Rattle.cc_symbols.specs.declared.declared.Linkage.TheVariants.{Without}
use Rattle.cc_declare.specs.declared.checker.Checker.{Checker}
use Rattle.cc_declare.specs.declared.shaped.Formed.{Formed}
use Rattle.cc_declare.specs.declared.specifiers.Specified.{Specified}
use Rattle.cc_declare.specs.Naming.{name_in}
use Rattle.cc_declare.specs.State.{shape_at, offended_if}
use Rattle.cc_declare.specs.Declaring.{declared_once, retyped}
use Rattle.cc_declare_cycle.specs.Declaring.{declarator}
use Rattle.cc_check.specs.declared.storage.Judged.{Judged}
use Rattle.cc_check.specs.declared.storage.Region.{Region}
use Rattle.cc_check.specs.Storing.{form, word_of, is_function_form, judged_declarator, object_checked}
use Rattle.cc_check.specs.Giving.{given, completed_type, given_checked, lacks_length}

abbrev pub inner_declared : Counted → Form → Option TypeId → Checker → Declared
inner_declared n f kind c = record {
  form = f;
  linkage = Without;
  kind = kind;
  node = n.number;
  file = c.file;
  is_defined = true;
}

-- C24 of a function
abbrev pub function_checked : Counted → Form → Formed → Checker → Checker
function_checked n f formed c = offended_if c (formed.is_judged && is_function_form f) n 24

abbrev pub completed : Counted → ℕ → Option TypeId → Checker → Checker
completed n k (Some kind) c = retyped c n k kind
completed n k None c = c

abbrev pub formed_as : Option TypeId → Bool → Formed
formed_as kind is_judged = record { kind = kind; is_judged = is_judged }

abbrev pub finished_as : Counted → ℕ → Form → Bool → Bool → Option (ValueTree Counted) → Checker × Option TypeId → Checker
finished_as n k f is_judged may_lack v p =
    given_checked f p.1 v (object_checked n f (formed_as p.1 is_judged) may_lack (completed n k p.1 p.0))

-- a declarator whose initialiser is known
abbrev pub finished : Counted → ℕ → Form → Formed → Bool → Option (ValueTree Counted) → Checker → Checker
finished n k f formed may_lack v c = finished_as n k f formed.is_judged may_lack v (completed_type f formed.kind v c)

abbrev pub numbered : ℕ → Checker × Bool → Checker × (ℕ × Bool)
numbered k p = (p.0, (k, p.1))

abbrev pub begun_as : Counted → Form → Formed → Option (ValueTree Counted) → Checker × ℕ → Checker × (ℕ × Bool)
begun_as n f formed v p = numbered p.1 (given v (object_checked n f formed true (function_checked n f formed p.0)))

-- C18 to C20, C24, and the initialiser
abbrev pub begun : Counted → Name → Form → Formed → Option (ValueTree Counted) → Checker → Checker × (ℕ × Bool)
begun n x f formed v c =
    begun_as n f formed v (declared_once c n x formed.is_judged (inner_declared n f formed.kind c))

abbrev pub named_after : Counted → Form → Formed → Bool → Option (ValueTree Counted) → Checker × (ℕ × Bool) → Checker × Judged
named_after n f formed may_lack v p =
    (finished n p.1.0 f formed may_lack v p.0, judged_declarator formed f p.1.1)

abbrev pub inner_named : Counted → Name → Form → Formed → Bool → Option (ValueTree Counted) → Checker → Checker × Judged
inner_named n x f formed may_lack v c = named_after n f formed may_lack v (begun n x f formed v c)

abbrev pub inner_if_named : Option (Counted × Name) → Form → Formed → Bool → Option (ValueTree Counted) → Checker → Checker × Judged
inner_if_named (Some x) f formed may_lack v c = inner_named x.0 x.1 f formed may_lack v c
inner_if_named None f formed may_lack v c = (c, judged_declarator formed f true)

abbrev pub inner_after : Region → Specified → DeclTree Counted → Option (ValueTree Counted) → Checker × Formed → Checker × Judged
inner_after region said d v p =
    inner_if_named (name_in d) (form region (word_of said) (shape_at p.0 p.1.kind)) p.1 (is_some v && not (lacks_length d)) v p.0

-- a declarator with its initialiser
abbrev pub inner_init : Region → Specified → InitTree Counted → Checker → Checker × Judged
inner_init region said (init d v) c = inner_after region said d v (declarator said.kind (is_some v) d c)
