-- The table of the pairs of components.
use Rattle.std.specs.Prelude.{ℕ, zero, suc, ◌+◌, List, [], ◌∷◌, ◌++◌, Bool, true, false, cond, not, ◌&&◌, ◌||◌, nat_eq, nat_lt, Option, Some, None, codes, length, slice_get}
use Rattle.std.specs.Fmt.{decimal}
use Rattle.cc_program.specs.declared.program.Program.{Program}
use Rattle.cc_program.specs.Programs.{file_of, component_with, component_name, component_number, number_of}
use Rattle.cc_meaning.specs.declared.coupling.Coupling.{Coupling}
use Rattle.cc_meaning.specs.declared.coupling.Coupling.TheVariants.{Call, Shared, Parameter, Return}
use Rattle.cc_tables.specs.declared.pairs.Kind.{Kind}
use Rattle.cc_tables.specs.declared.pairs.Kind.TheVariants as kind
use Rattle.cc_tables.specs.declared.pairs.Span.{Span}
use Rattle.cc_tables.specs.Names.{declarator}
use Rattle.cc_tables.specs.Records.{record_text}

-- the kind's place in the order of the table
abbrev pub rank : Kind → ℕ
rank kind.Call = 0
rank kind.Shared = 1
rank kind.Parameter = 2
rank kind.Return = 3

-- the number of a node's component
abbrev pub component : Program → ℕ → ℕ
component p node = (component_with p (file_of p node)).0

-- what counts of a row
abbrev pub span_of : Program → Coupling → Bool → Span
span_of p (Call site callee) is_covered = record { kind = kind.Call; from = component p site; to = component p (declarator p callee); is_covered = is_covered }
span_of p (Shared definition reader object) is_covered = record { kind = kind.Shared; from = component p definition; to = component p reader; is_covered = is_covered }
span_of p (Parameter definition site k callee reader) is_covered = record { kind = kind.Parameter; from = component p site; to = component p (declarator p callee); is_covered = is_covered }
span_of p (Return definition site callee) is_covered = record { kind = kind.Return; from = component p (declarator p callee); to = component p site; is_covered = is_covered }

-- a mark stands there
abbrev pub is_marked : Option (Option ℕ) → Bool
is_marked (Some (Some test)) = true
is_marked (Some None) = false
is_marked None = false

abbrev pub span_at : Program → Option Coupling → Bool → List Span
span_at p (Some row) is_covered = span_of p row is_covered ∷ []
span_at p None is_covered = []

-- what counts of the first `count` rows
abbrev pub spans_to : Program → List Coupling → (marks : List (Option ℕ)) → (count : ℕ) → List Span
spans_to p rows marks zero = []
spans_to p rows marks (suc count) = spans_to p rows marks count ++ span_at p (slice_get rows count) (is_marked (slice_get marks count))

abbrev pub if_leaves : (from : ℕ) → Option Span → List Span
if_leaves from (Some span) = cond (nat_eq span.from from) (span ∷ []) []
if_leaves from None = []

-- those of the first `count` rows that lead from this component
abbrev pub leaving_to : (from : ℕ) → List Span → (count : ℕ) → List Span
leaving_to from spans zero = []
leaving_to from spans (suc count) = leaving_to from spans count ++ if_leaves from (slice_get spans count)

abbrev pub if_reaches : (to : ℕ) → Option Span → List Span
if_reaches to (Some span) = cond (nat_eq span.to to) (span ∷ []) []
if_reaches to None = []

-- those of the first `count` rows that lead to this component
abbrev pub reaching_to : (to : ℕ) → List Span → (count : ℕ) → List Span
reaching_to to spans zero = []
reaching_to to spans (suc count) = reaching_to to spans count ++ if_reaches to (slice_get spans count)

-- the row is of this kind and, where `covered`, exercised by a test
abbrev pub counts : Kind → (covered : Bool) → Span → Bool
counts k covered span = nat_eq (rank span.kind) (rank k) && (span.is_covered || not covered)

abbrev pub if_counts : Kind → (covered : Bool) → Option Span → ℕ
if_counts k covered (Some span) = cond (counts k covered span) 1 0
if_counts k covered None = 0

-- how many of the first `count` rows are of this kind and, where `covered`, exercised by a test
abbrev pub count_to : Kind → (covered : Bool) → List Span → (count : ℕ) → ℕ
count_to k covered spans zero = 0
count_to k covered spans (suc count) = count_to k covered spans count + if_counts k covered (slice_get spans count)

abbrev pub counted : Kind → (covered : Bool) → List Span → List ℕ
counted k covered spans = decimal (count_to k covered spans (length spans))

-- the fields of a pair with these rows
abbrev pub pair_fields : Program → (from to : ℕ) → List Span → List (List ℕ)
pair_fields p from to spans =
    component_name p (component_number from) ∷ component_name p (component_number to)
    ∷ counted kind.Call false spans ∷ counted kind.Call true spans ∷ counted kind.Shared false spans ∷ counted kind.Shared true spans
    ∷ counted kind.Parameter false spans ∷ counted kind.Parameter true spans ∷ counted kind.Return false spans ∷ counted kind.Return true spans ∷ []

-- the record of a pair, if it has rows
abbrev pub pair_text : Program → (from to : ℕ) → List Span → List ℕ
pair_text p from to spans = cond (nat_lt 0 (length spans)) (record_text (pair_fields p from to spans)) []

-- the records of the pairs from a component, which these rows leave, to the first `count` components
abbrev pub pairs_from : Program → (from : ℕ) → (leaving : List Span) → (count : ℕ) → List ℕ
pairs_from p from leaving zero = []
pairs_from p from leaving (suc count) =
    pairs_from p from leaving count ++ pair_text p from count (reaching_to count leaving (length leaving))

-- the records of all pairs from a component
abbrev pub all_from : Program → List Span → (from : ℕ) → List ℕ
all_from p spans from = pairs_from p from (leaving_to from spans (length spans)) (number_of (length p.components))

-- the records of the pairs from the first `count` components
abbrev pub pairs_to : Program → List Span → (count : ℕ) → List ℕ
pairs_to p spans zero = []
pairs_to p spans (suc count) = pairs_to p spans count ++ all_from p spans count

abbrev pub pairs_header : List (List ℕ)
pairs_header =
    codes "from" ∷ codes "to" ∷ codes "call" ∷ codes "call_covered" ∷ codes "shared" ∷ codes "shared_covered"
    ∷ codes "parameter" ∷ codes "parameter_covered" ∷ codes "return" ∷ codes "return_covered" ∷ []

-- the table of the pairs of components
abbrev pub pairs_text : Program → List Coupling → (marks : List (Option ℕ)) → List ℕ
pairs_text p rows marks = record_text pairs_header ++ pairs_to p (spans_to p rows marks (length rows)) (number_of (length p.components))
