-- Declarators outside of functions.
use Rattle.std.specs.Prelude.{ℕ, Bool, true, false, ◌||◌, is_some, List, [], ◌∷◌, ◌++◌, Option, Some, None, if◌then◌else◌}
use Rattle.cc_tree.specs.declared.operator.SpecWord.{SpecWord}
use Rattle.cc_tree.specs.declared.operator.SpecWord.TheVariants as w
use Rattle.cc_tree.specs.Trees.{Name, InitTree, init, ValueTree}
use Rattle.cc_tree_notes.specs.declared.note.Counted.{Counted}
use Rattle.cc_types.specs.declared.shape.TypeId.{TypeId}
use Rattle.cc_types.specs.Asked as asked
use Rattle.cc_symbols.specs.declared.declared.Declared.{Declared}
use Rattle.cc_symbols.specs.declared.declared.Form.{Form}
use Rattle.cc_symbols.specs.declared.declared.Form.TheVariants.{Typedef}
use Rattle.cc_symbols.specs.declared.declared.Linkage.{Linkage}
use Rattle.cc_symbols.specs.declared.declared.Linkage.TheVariants.{Without}
use Rattle.cc_symbols.specs.declared.unit.Outer.{Outer}
use Rattle.cc_symbols.specs.declared.unit.Role.{Role}
use Rattle.cc_symbols.specs.declared.unit.Role.TheVariants.{Declares}
use Rattle.cc_declare.specs.declared.checker.Checker.{Checker}
use Rattle.cc_declare.specs.declared.shaped.Formed.{Formed}
use Rattle.cc_declare.specs.declared.specifiers.Specified.{Specified}
use Rattle.cc_declare.specs.Naming.{name_in}
use Rattle.cc_declare.specs.State.{here, declared_at, shape_at, offended_if}
use Rattle.cc_declare.specs.Declaring.{introduced, declared_once, declared_again, retyped}
use Rattle.cc_declare_cycle.specs.Declaring.{declarator}
use Rattle.cc_check.specs.declared.storage.Judged.{Judged}
use Rattle.cc_check.specs.declared.storage.Region.TheVariants.{File}
use Rattle.cc_check.specs.Linkages.{linkage, role, composed, may_repeat}
use Rattle.cc_check.specs.Storing.{form, word_of, judged_declarator, object_checked}
use Rattle.cc_check.specs.Giving.{given, completed_type, given_checked}

abbrev pub linkage_of : Option Declared → Option Linkage
linkage_of (Some d) = Some d.linkage
linkage_of None = None

-- what a declarator of an object or a function declares by itself
abbrev pub outer_declared : Counted → Name → Option SpecWord → Form → Option TypeId → Bool → Checker → Declared
outer_declared n x word f kind is_defined c = record {
  form = f;
  linkage = linkage word f (linkage_of (declared_at c (here c x)));
  kind = kind;
  node = n.number;
  file = c.file;
  is_defined = is_defined;
}

-- an earlier declaration with one declarator more
abbrev pub joined : Checker → Declared → Declared → Declared
joined c earlier later = record {
  form = earlier.form;
  linkage = earlier.linkage;
  kind = composed c.symbols.types earlier.kind later.kind;
  node = earlier.node;
  file = earlier.file;
  is_defined = earlier.is_defined || later.is_defined;
}

-- C18
abbrev pub declared_twice : Counted → Bool → ℕ → Declared → Declared → Checker → Checker
declared_twice n is_judged k earlier later c =
    if may_repeat c.symbols.types earlier later
    then declared_again c n k (joined c earlier later) later.kind
    else declared_again (offended_if c is_judged n 18) n k earlier later.kind

abbrev pub linked_by : Counted → Name → Bool → Declared → Option ℕ → Option Declared → Checker → Checker × ℕ
linked_by n x is_judged d (Some k) (Some earlier) c = (declared_twice n is_judged k earlier d c, k)
linked_by n x is_judged d k earlier c = introduced c n x d

abbrev pub declared_linked : Counted → Name → Bool → Declared → Checker → Checker × ℕ
declared_linked n x is_judged d c = linked_by n x is_judged d (here c x) (declared_at c (here c x)) c

abbrev pub outer_of : Counted → ℕ → Declared → TypeId → Role → Outer
outer_of n k d kind r = record {
  declaration = k;
  node = n.number;
  spot = n.spot;
  form = d.form;
  linkage = d.linkage;
  kind = kind;
  role = r;
}

abbrev pub outer_kept_if : Counted → ℕ → Declared → Option TypeId → Role → Checker → Checker
outer_kept_if n k d (Some kind) r c = record c { outers = c.outers ++ outer_of n k d kind r ∷ [] }
outer_kept_if n k d None r c = c

-- kept for linking, where it has a type
abbrev pub outer_kept : Counted → ℕ → Declared → Role → Checker → Checker
outer_kept n k d r c = outer_kept_if n k d d.kind r c

-- a type with the length that an initialiser tells: C18 where the declaration has another length
abbrev pub type_settled : Counted → Bool → ℕ → Option TypeId → TypeId → Checker → Checker
type_settled n is_judged k (Some earlier) kind c =
    if asked.compatible c.symbols.types earlier kind
    then retyped c n k (asked.composed c.symbols.types earlier kind)
    else offended_if c is_judged n 18
type_settled n is_judged k None kind c = c

abbrev pub settled_by : Counted → Bool → ℕ → Option TypeId → Option Declared → Checker → Checker
settled_by n is_judged k (Some kind) (Some d) c = type_settled n is_judged k d.kind kind c
settled_by n is_judged k kind d c = c

abbrev pub settled : Counted → Formed → ℕ → Checker → Checker
settled n f k c = settled_by n f.is_judged k f.kind (declared_at c (Some k)) c

abbrev pub with_kind : Declared → Option TypeId → Declared
with_kind d kind = record {
  form = d.form;
  linkage = d.linkage;
  kind = kind;
  node = d.node;
  file = d.file;
  is_defined = d.is_defined;
}

abbrev pub whole_checked : Counted → ℕ → Form → Formed → Option (ValueTree Counted) → Checker → Checker
whole_checked n k f whole v c = given_checked f whole.kind v (object_checked n f whole true (settled n whole k c))

abbrev pub formed_as : Option TypeId → Bool → Formed
formed_as kind is_judged = record { kind = kind; is_judged = is_judged }

abbrev pub finished_as : Counted → ℕ → Declared → Role → Bool → Option (ValueTree Counted) → Checker × Option TypeId → Checker
finished_as n k d r is_judged v p =
    outer_kept n k (with_kind d p.1) r (whole_checked n k d.form (formed_as p.1 is_judged) v p.0)

-- a declarator whose initialiser is known
abbrev pub finished : Counted → ℕ → Declared → Role → Bool → Option (ValueTree Counted) → Checker → Checker
finished n k d r is_judged v c = finished_as n k d r is_judged v (completed_type d.form d.kind v c)

abbrev pub numbered : ℕ → Checker × Bool → Checker × (ℕ × Bool)
numbered k p = (p.0, (k, p.1))

abbrev pub begun_as : Counted → Form → Formed → Option (ValueTree Counted) → Checker × ℕ → Checker × (ℕ × Bool)
begun_as n f formed v p = numbered p.1 (given v (object_checked n f formed true p.0))

-- C18 to C20, and the initialiser
abbrev pub begun : Counted → Name → Declared → Formed → Option (ValueTree Counted) → Checker → Checker × (ℕ × Bool)
begun n x d formed v c = begun_as n d.form formed v (declared_linked n x formed.is_judged d c)

abbrev pub linked_after : Counted → Declared → Role → Formed → Option (ValueTree Counted) → Checker × (ℕ × Bool) → Checker × Judged
linked_after n d r formed v p =
    (finished n p.1.0 d r formed.is_judged v p.0, judged_declarator formed d.form p.1.1)

abbrev pub linked_with : Counted → Name → Declared → Role → Formed → Option (ValueTree Counted) → Checker → Checker × Judged
linked_with n x d r formed v c = linked_after n d r formed v (begun n x d formed v c)

abbrev pub linked_as : Counted → Name → Option SpecWord → Form → Formed → Option (ValueTree Counted) → Checker → Checker × Judged
linked_as n x word f formed v c =
    linked_with n x (outer_declared n x word f formed.kind (is_some v) c) (role word f (is_some v)) formed v c

-- an object or a function
abbrev pub outer_linked : Counted → Name → Option SpecWord → Formed → Option (ValueTree Counted) → Checker → Checker × Judged
outer_linked n x word formed v c = linked_as n x word (form File word (shape_at c formed.kind)) formed v c

abbrev pub typedef_declared : Counted → Option TypeId → Checker → Declared
typedef_declared n kind c = record {
  form = Typedef;
  linkage = Without;
  kind = kind;
  node = n.number;
  file = c.file;
  is_defined = true;
}

abbrev pub judged_typedef : Formed → Checker × Bool → Checker × Judged
judged_typedef formed p = (p.0, judged_declarator formed Typedef p.1)

abbrev pub typedef_after : Counted → Declared → Formed → Option (ValueTree Counted) → Checker × ℕ → Checker × Judged
typedef_after n d formed v p = judged_typedef formed (given v (outer_kept n p.1 d Declares p.0))

-- a typedef name
abbrev pub outer_typedef : Counted → Name → Formed → Option (ValueTree Counted) → Checker → Checker × Judged
outer_typedef n x formed v c =
    typedef_after n (typedef_declared n formed.kind c) formed v
    (declared_once c n x formed.is_judged (typedef_declared n formed.kind c))

abbrev pub outer_named : Counted → Name → Option SpecWord → Formed → Option (ValueTree Counted) → Checker → Checker × Judged
outer_named n x (Some w.Typedef) formed v c = outer_typedef n x formed v c
outer_named n x word formed v c = outer_linked n x word formed v c

abbrev pub outer_if_named : Option (Counted × Name) → Option SpecWord → Option (ValueTree Counted) → Checker × Formed → Checker × Judged
outer_if_named (Some x) word v p = outer_named x.0 x.1 word p.1 v p.0
outer_if_named None word v p = (p.0, judged_declarator p.1 Typedef true)

-- a declarator with its initialiser
abbrev pub outer_init : Specified → InitTree Counted → Checker → Checker × Judged
outer_init said (init d v) c = outer_if_named (name_in d) (word_of said) v (declarator said.kind true d c)
