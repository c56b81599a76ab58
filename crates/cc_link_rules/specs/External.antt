-- Names with external linkage (C17 6.2.2): what is known of each over all files, and K1 and K2.
use Rattle.std.specs.Prelude.{ℕ, Bool, true, false, not, ◌&&◌, ◌||◌, List, [], ◌∷◌, Option, Some, None, is_some, if◌then◌else◌}
use Rattle.cc_base.specs.declared.place.FileId.{FileId}
use Rattle.cc_types.specs.declared.shape.Shape.{Shape}
use Rattle.cc_types.specs.Asked.{compatible, composed}
use Rattle.cc_symbols.specs.declared.declared.Form.{Form}
use Rattle.cc_symbols.specs.declared.declared.Form.TheVariants.{Object, Function, Typedef, Constant}
use Rattle.cc_symbols.specs.declared.declared.Linkage.{Linkage}
use Rattle.cc_symbols.specs.declared.declared.Linkage.TheVariants.{External, Internal, Without}
use Rattle.cc_symbols.specs.declared.unit.Outer.{Outer}
use Rattle.cc_symbols.specs.declared.unit.CheckedUnit.{CheckedUnit}
use Rattle.cc_link_rules.specs.declared.fault.Fault.{Fault}
use Rattle.cc_link_rules.specs.declared.linked.Linked.{Linked}
use Rattle.cc_link_rules.specs.Definitions.{Definitions, definition_here}
use Rattle.cc_link_rules.specs.Faults.{broken_if, noted, next_file}
use Rattle.cc_link_rules.specs.Linked.{LinkedNames, known_of, put, text_at}

abbrev pub is_function : Form → Bool
is_function (Object l) = false
is_function Function = true
is_function Typedef = false
is_function (Constant v) = false

abbrev pub has_linkage : Form → Bool
has_linkage (Object l) = true
has_linkage Function = true
has_linkage Typedef = false
has_linkage (Constant v) = false

abbrev pub is_outside : Linkage → Bool
is_outside External = true
is_outside Internal = false
is_outside Without = false

-- a declarator of a function or an object with external linkage
abbrev pub is_external : Outer → Bool
is_external o = has_linkage o.form && is_outside o.linkage

abbrev pub same_bool : Bool → Bool → Bool
same_bool true b = b
same_bool false b = not b

-- K1, or else K2, at a declarator of a known name, which may define it
abbrev pub again : List Shape → Linked → Outer → Option ℕ → Option ℕ
again ss l o d =
    if not (same_bool l.is_function (is_function o.form)) || not (compatible ss l.kind o.kind)
    then Some 1
    else broken_if (is_some l.definition && is_some d) 2

abbrev pub begun : Outer → Option ℕ → Linked
begun o d = record { first = o.declaration; is_function = is_function o.form; kind = o.kind; definition = d; is_environment = false }

abbrev pub earlier : Option ℕ → Option ℕ → Option ℕ
earlier (Some n) d = Some n
earlier None d = d

abbrev pub joined : List Shape → Linked → Outer → Option ℕ → Linked
joined ss l o d = record { first = l.first; is_function = l.is_function; kind = composed ss l.kind o.kind; definition = earlier l.definition d; is_environment = l.is_environment }

abbrev pub declared_as : List Shape → Option Linked → List ℕ → Outer → Option ℕ → LinkedNames → LinkedNames × Option ℕ
declared_as ss None x o d ns = (put ns x (begun o d), None)
declared_as ss (Some l) x o d ns = (put ns x (joined ss l o d), again ss l o d)

-- one more declarator of a name: what is known then, and the rule that it breaks
abbrev pub declared : List Shape → List ℕ → Outer → Option ℕ → LinkedNames → LinkedNames × Option ℕ
declared ss x o d ns = declared_as ss (known_of ns x) x o d ns

-- what is known of names, and the least fault
abbrev pub Linking : Type 0
Linking = LinkedNames × Option Fault

abbrev pub noted_at : FileId → Outer → Option Fault → LinkedNames × Option ℕ → Linking
noted_at f o least p = (p.0, noted least p.1 f o.spot)

abbrev pub linked_one : List Shape → List (List ℕ) → Definitions → FileId → Outer → Linking → Linking
linked_one ss xs ds f o p =
    if is_external o
    then noted_at f o p.1 (declared ss (text_at xs o.declaration) o (definition_here ds o) p.0)
    else p

abbrev pub linked_file : List Shape → List (List ℕ) → Definitions → FileId → List Outer → Linking → Linking
linked_file ss xs ds f [] p = p
linked_file ss xs ds f (o ∷ os) p = linked_file ss xs ds f os (linked_one ss xs ds f o p)

abbrev pub linked_from : List Shape → List (List ℕ) → Definitions → FileId → List CheckedUnit → Linking → Linking
linked_from ss xs ds f [] p = p
linked_from ss xs ds f (u ∷ us) p = linked_from ss xs ds (next_file f) us (linked_file ss xs ds f u.outers p)

abbrev pub no_fault : Option Fault
no_fault = None

abbrev pub first_file : FileId
first_file = record { 0 = 0 }

abbrev pub linked_files : List Shape → List (List ℕ) → Definitions → List CheckedUnit → LinkedNames → Linking
linked_files ss xs ds us ns = linked_from ss xs ds first_file us (ns, no_fault)

abbrev pub answered : Linked → Linked
answered l = record { first = l.first; is_function = l.is_function; kind = l.kind; definition = l.definition; is_environment = l.is_function }

abbrev pub marked_as : Option Linked → List ℕ → LinkedNames → LinkedNames
marked_as (Some l) x ns = put ns x (answered l)
marked_as None x ns = ns

-- a name of the environment's
abbrev pub marked : List ℕ → LinkedNames → LinkedNames
marked x ns = marked_as (known_of ns x) x ns

abbrev pub all_marked : List (List ℕ) → LinkedNames → LinkedNames
all_marked [] ns = ns
all_marked (x ∷ xs) ns = all_marked xs (marked x ns)
