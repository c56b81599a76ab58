-- What a declaration is in the whole program: which function or object, whether that is defined within its linkage, and its
-- type (C17 6.2.2, 6.2.7).
use Rattle.std.specs.Prelude.{ℕ, false, List, [], ◌∷◌, ◌++◌, Option, Some, None, slice_get}
use Rattle.cc_types.specs.declared.shape.TypeId.{TypeId}
use Rattle.cc_symbols.specs.declared.declared.Declared.{Declared}
use Rattle.cc_symbols.specs.declared.declared.Form.{Form}
use Rattle.cc_symbols.specs.declared.declared.Form.TheVariants.{Object, Function, Typedef, Constant}
use Rattle.cc_symbols.specs.declared.declared.Life.TheVariants.{Static, Local, Formal, Parameter}
use Rattle.cc_symbols.specs.declared.declared.Linkage.{Linkage}
use Rattle.cc_symbols.specs.declared.declared.Linkage.TheVariants.{External, Internal, Without}
use Rattle.cc_link_rules.specs.declared.linked.Linked.{Linked}
use Rattle.cc_link_rules.specs.declared.standing.Standing.{Standing}
use Rattle.cc_link_rules.specs.Definitions.{Definitions, definition_of}
use Rattle.cc_link_rules.specs.Faults.{next}
use Rattle.cc_link_rules.specs.Linked.{LinkedNames, known_of, text_at}

abbrev pub outside : Linked → Standing
outside l = record { first = l.first; definition = l.definition; is_environment = l.is_environment; kind = Some l.kind }

abbrev pub alone : ℕ → Option ℕ → Option TypeId → Standing
alone n d t = record { first = n; definition = d; is_environment = false; kind = t }

abbrev pub own_as : Form → ℕ → Option ℕ
own_as (Object Parameter) n = None
own_as (Object Static) n = Some n
own_as (Object Local) n = Some n
own_as (Object Formal) n = Some n
own_as Function n = Some n
own_as Typedef n = Some n
own_as (Constant v) n = Some n

-- a parameter of a declarator that defines no function is defined nowhere
abbrev pub own_definition : Declared → Option ℕ
own_definition d = own_as d.form d.node

abbrev pub external_as : Option Linked → ℕ → Option TypeId → Standing
external_as (Some l) n t = outside l
external_as None n t = alone n None t

abbrev pub external : LinkedNames → List ℕ → ℕ → Option TypeId → Standing
external ns x n t = external_as (known_of ns x) n t

abbrev pub standing_as : Linkage → LinkedNames → Definitions → List ℕ → ℕ → Declared → Standing
standing_as External ns ds x n d = external ns x n d.kind
standing_as Internal ns ds x n d = alone n (definition_of ds n) d.kind
standing_as Without ns ds x n d = alone n (own_definition d) d.kind

abbrev pub standing_of : LinkedNames → Definitions → List ℕ → ℕ → Declared → Standing
standing_of ns ds x n d = standing_as d.linkage ns ds x n d

-- those of the declarations from number n on, behind those that are there
abbrev pub standings_from : LinkedNames → Definitions → List (List ℕ) → ℕ → List Declared → List Standing → List Standing
standings_from ns ds xs n [] done = done
standings_from ns ds xs n (d ∷ rest) done = standings_from ns ds xs (next n) rest (done ++ standing_of ns ds (text_at xs n) n d ∷ [])

abbrev pub standings : LinkedNames → Definitions → List (List ℕ) → List Declared → List Standing
standings ns ds xs rest = standings_from ns ds xs 0 rest []

abbrev pub standing_or : Option Standing → ℕ → Standing
standing_or (Some s) n = s
standing_or None n = alone n None None

abbrev pub standing_at : List Standing → ℕ → Standing
standing_at ss n = standing_or (slice_get ss n) n
