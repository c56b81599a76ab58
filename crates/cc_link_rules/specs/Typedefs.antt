-- Typedef names over all files, and K5.
use Rattle.std.specs.Prelude.{ℕ, nat_eq, false, not, List, [], ◌∷◌, Option, Some, None}
use Rattle.cc_base.specs.declared.place.FileId.{FileId}
use Rattle.cc_symbols.specs.declared.declared.Form.{Form}
use Rattle.cc_symbols.specs.declared.declared.Form.TheVariants.{Object, Function, Typedef, Constant}
use Rattle.cc_symbols.specs.declared.unit.Outer.{Outer}
use Rattle.cc_symbols.specs.declared.unit.CheckedUnit.{CheckedUnit}
use Rattle.cc_link_rules.specs.declared.linked.Linked.{Linked}
use Rattle.cc_link_rules.specs.External.{Linking, noted_at, no_fault, first_file}
use Rattle.cc_link_rules.specs.Faults.{broken_if, next_file}
use Rattle.cc_link_rules.specs.Linked.{LinkedNames, known_of, put, text_at}

abbrev pub typedef_of : Outer → Linked
typedef_of o = record { first = o.declaration; is_function = false; kind = o.kind; definition = None; is_environment = false }

abbrev pub named_as : Option Linked → List ℕ → Outer → LinkedNames → LinkedNames × Option ℕ
named_as None x o ns = (put ns x (typedef_of o), None)
named_as (Some l) x o ns = (ns, broken_if (not (nat_eq l.kind.0 o.kind.0)) 5)

-- one more declarator of a typedef name: what is known then, and the rule that it breaks
abbrev pub named_one : List ℕ → Outer → LinkedNames → LinkedNames × Option ℕ
named_one x o ns = named_as (known_of ns x) x o ns

abbrev pub typedef_as : Form → List (List ℕ) → FileId → Outer → Linking → Linking
typedef_as Typedef xs f o p = noted_at f o p.1 (named_one (text_at xs o.declaration) o p.0)
typedef_as (Object l) xs f o p = p
typedef_as Function xs f o p = p
typedef_as (Constant v) xs f o p = p

abbrev pub typedef_one : List (List ℕ) → FileId → Outer → Linking → Linking
typedef_one xs f o p = typedef_as o.form xs f o p

abbrev pub typedef_file : List (List ℕ) → FileId → List Outer → Linking → Linking
typedef_file xs f [] p = p
typedef_file xs f (o ∷ os) p = typedef_file xs f os (typedef_one xs f o p)

abbrev pub typedef_from : List (List ℕ) → FileId → List CheckedUnit → Linking → Linking
typedef_from xs f [] p = p
typedef_from xs f (u ∷ us) p = typedef_from xs (next_file f) us (typedef_file xs f u.outers p)

abbrev pub typedef_files : List (List ℕ) → List CheckedUnit → LinkedNames → Linking
typedef_files xs us ns = typedef_from xs first_file us (ns, no_fault)
