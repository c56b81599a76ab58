-- What a row says.
use Rattle.std.specs.Prelude.{ℕ, List, [], ◌∷◌, ◌++◌, codes, string_bytes}
use Rattle.std.specs.Fmt.{decimal}
use Rattle.cc_program.specs.declared.function.FuncId.{FuncId}
use Rattle.cc_program.specs.declared.program.Program.{Program}
use Rattle.cc_meaning.specs.declared.coupling.Coupling.{Coupling}
use Rattle.cc_meaning.specs.declared.coupling.Coupling.TheVariants.{Call, Shared, Parameter, Return}
use Rattle.cc_tables.specs.declared.rows.RowFields.{RowFields}
use Rattle.cc_tables.specs.Names.{place_text, component_text, declarator, function_name, object_name}

-- the kind, the components of two nodes, the places of definition and use, a name
abbrev pub between : Program → (kind : List ℕ) → (from to definition used : ℕ) → (name : List ℕ) → List (List ℕ)
between p kind from to definition used name =
    kind ∷ component_text p from ∷ component_text p to ∷ place_text p definition ∷ place_text p used ∷ name ∷ []

-- from the call to the declarator of the called function, which are its definition and its use
abbrev pub call_fields : Program → ℕ → FuncId → List (List ℕ)
call_fields p site callee = between p (codes "call") site (declarator p callee) site (declarator p callee) (function_name p callee)

-- from the definition to the read
abbrev pub shared_fields : Program → ℕ → ℕ → ℕ → List (List ℕ)
shared_fields p definition reader object = between p (codes "shared") definition reader definition reader (object_name p object)

-- `g/k@place`: argument k of the call of g at this place
abbrev pub passed_text : Program → ℕ → ℕ → FuncId → List ℕ
passed_text p site k callee = function_name p callee ++ (codes "/" ++ (decimal k ++ (codes "@" ++ place_text p site)))

-- from the call to the called function, which reads what the definition gave
abbrev pub parameter_fields : Program → ℕ → ℕ → ℕ → FuncId → ℕ → List (List ℕ)
parameter_fields p definition site k callee reader =
    between p (codes "parameter") site (declarator p callee) definition reader (passed_text p site k callee)

-- from the called function to the call, at which its value is used
abbrev pub return_fields : Program → ℕ → ℕ → FuncId → List (List ℕ)
return_fields p definition site callee = between p (codes "return") (declarator p callee) site definition site (function_name p callee)

-- what the row of a coupling says, but for its number
abbrev pub row_fields : Program → Coupling → List (List ℕ)
row_fields p (Call site callee) = call_fields p site callee
row_fields p (Shared definition reader object) = shared_fields p definition reader object
row_fields p (Parameter definition site k callee reader) = parameter_fields p definition site k callee reader
row_fields p (Return definition site callee) = return_fields p definition site callee

abbrev pub fields_in : RowFields → List (List ℕ)
fields_in row = row.kind.now ∷ row.from.now ∷ row.to.now ∷ string_bytes row.definition ∷ string_bytes row.used ∷ string_bytes row.name ∷ []
