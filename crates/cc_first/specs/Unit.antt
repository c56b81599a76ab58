-- The first form of a C file:
--   { "void" ID "(" "void" ")" ( ";" | "{" { ID "(" ")" ";" } "}" ) }
use Rattle.std.specs.Prelude.{◌≡◌, ◌++◌, ℕ, List, [], ◌∷◌, true, None, Some, codes, All, Contains}
use Rattle.std.specs.List.{flat_map}
use Rattle.cc_base.specs.Spots.{start}
use Rattle.cc_first_runs.specs.Program.{Name, Program}
use Rattle.cc_first.specs.Names.{is_free_name}
use Rattle.cc_first.specs.Cut.{Spelled, IsCut}

-- what stands at file scope: a declaration `void ID(void);`, or a function with the names that its body calls
pub data Part : Type 0 where
  Declaration : Name → Part
  Definition : Name → List Name → Part

abbrev pub word : List ℕ → Spelled
word text = record { text = text; spot = None }

abbrev pub name_token : Name → Spelled
name_token name = record { text = name.text; spot = Some name.spot }

-- `void ID(void)`
abbrev pub head_tokens : Name → List Spelled
head_tokens name = word (codes "void") ∷ name_token name ∷ word (codes "(") ∷ word (codes "void") ∷ word (codes ")") ∷ []

-- `ID();`
abbrev pub call_tokens : Name → List Spelled
call_tokens name = name_token name ∷ word (codes "(") ∷ word (codes ")") ∷ word (codes ";") ∷ []

abbrev pub part_tokens : Part → List Spelled
part_tokens (Declaration name) = head_tokens name ++ word (codes ";") ∷ []
part_tokens (Definition name calls) = head_tokens name ++ word (codes "{") ∷ (flat_map call_tokens calls ++ word (codes "}") ∷ [])

-- the tokens that the parts of a file are written with
abbrev pub unit_tokens : List Part → List Spelled
unit_tokens parts = flat_map part_tokens parts

abbrev pub names_of_part : Part → List Name
names_of_part (Declaration name) = name ∷ []
names_of_part (Definition name calls) = name ∷ calls

-- the names of the parts are no keywords and no words of extensions
abbrev pub HaveFreeNames : List Part → Type 0
HaveFreeNames parts = All (λ name. is_free_name name.text ≡ true) (flat_map names_of_part parts)

-- each called name stands earlier in the file as the name of a part, that of its own function included
abbrev pub CallsStand : List (List ℕ) → List Part → Type 0
CallsStand heads [] = Unit {0}
CallsStand heads (Declaration name ∷ parts) = CallsStand (name.text ∷ heads) parts
CallsStand heads (Definition name calls ∷ parts) = All (λ call. Contains (name.text ∷ heads) call.text) calls × CallsStand (name.text ∷ heads) parts

-- the bytes are a C file of the first form with these parts
pub record IsUnit (bytes : List ℕ) (parts : List Part) : Type 0 where
  pub spelled : IsCut start bytes (unit_tokens parts)
  pub free : HaveFreeNames parts
  pub calls : CallsStand [] parts

-- the functions that a file with this number defines
abbrev pub functions_of : ℕ → List Part → Program
functions_of file [] = []
functions_of file (Declaration name ∷ parts) = functions_of file parts
functions_of file (Definition name calls ∷ parts) = record { head = name; file = file; calls = calls } ∷ functions_of file parts

-- the program of two files
abbrev pub program_of : List Part → List Part → Program
program_of first second = functions_of 0 first ++ functions_of 1 second
