-- The linkage of names outside of functions (C17 6.2.2), what a declarator does for its name (C17 6.9.2), and when a name may be
-- declared again (C18).
use Rattle.std.specs.Prelude.{Bool, true, false, not, ◌&&◌, if◌then◌else◌, List, Option, Some, None}
use Rattle.cc_tree.specs.declared.operator.SpecWord.{SpecWord}
use Rattle.cc_tree.specs.declared.operator.SpecWord.TheVariants.{Static, Extern}
use Rattle.cc_types.specs.declared.shape.Shape.{Shape}
use Rattle.cc_types.specs.declared.shape.TypeId.{TypeId}
use Rattle.cc_types.specs.Asked as asked
use Rattle.cc_symbols.specs.declared.declared.Declared.{Declared}
use Rattle.cc_symbols.specs.declared.declared.Form.{Form}
use Rattle.cc_symbols.specs.declared.declared.Form.TheVariants.{Object, Function}
use Rattle.cc_symbols.specs.declared.declared.Linkage.{Linkage}
use Rattle.cc_symbols.specs.declared.declared.Linkage.TheVariants.{External, Internal, Without}
use Rattle.cc_symbols.specs.declared.unit.Role.{Role}
use Rattle.cc_symbols.specs.declared.unit.Role.TheVariants.{Declares, Tentative, Defines}

-- the linkage of an earlier declaration, else external
abbrev pub kept_linkage : Option Linkage → Linkage
kept_linkage (Some Internal) = Internal
kept_linkage earlier = External

-- `static` makes it internal; `extern`, and a function without storage class, keep it
abbrev pub linkage : Option SpecWord → Form → Option Linkage → Linkage
linkage (Some Static) form earlier = Internal
linkage (Some Extern) form earlier = kept_linkage earlier
linkage storage Function earlier = kept_linkage earlier
linkage storage form earlier = External

abbrev pub role_alone : Option SpecWord → Form → Role
role_alone (Some Extern) form = Declares
role_alone storage Function = Declares
role_alone storage form = Tentative

abbrev pub role : Option SpecWord → Form → Bool → Role
role storage form is_given = if is_given then Defines else role_alone storage form

-- both objects or both functions
abbrev pub are_alike : Form → Form → Bool
are_alike (Object l) (Object m) = true
are_alike Function Function = true
are_alike a b = false

abbrev pub have_one_linkage : Linkage → Linkage → Bool
have_one_linkage External External = true
have_one_linkage Internal Internal = true
have_one_linkage Without Without = true
have_one_linkage a b = false

-- without a type nothing agrees
abbrev pub agree : List Shape → Option TypeId → Option TypeId → Bool
agree types (Some a) (Some b) = asked.compatible types a b
agree types a b = false

abbrev pub composed : List Shape → Option TypeId → Option TypeId → Option TypeId
composed types (Some a) (Some b) = Some (asked.composed types a b)
composed types (Some a) None = Some a
composed types None b = b

abbrev pub may_repeat : List Shape → Declared → Declared → Bool
may_repeat types earlier later =
    are_alike earlier.form later.form
    && have_one_linkage earlier.linkage later.linkage
    && agree types earlier.kind later.kind
    && not (earlier.is_defined && later.is_defined)
