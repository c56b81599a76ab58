-- The names of a program's functions are names of the parts.
use Rattle.std.proofs.Common.{◌≡◌, ℕ, true, List, [], ◌∷◌, ◌++◌, All, subst, sym}
use Rattle.std.specs.List.{flat_map}
use Rattle.std.proofs.lemmas.List.Elements.{All-nil, All-cons, All-head, All-tail, All-append}
use Rattle.cc_first_runs.specs.Program.{Function, Name, Program}
use Rattle.cc_first.specs.Names.{is_free_name}
use Rattle.cc_first.specs.Unit.{Part, Declaration, Definition, functions_of, names_of_part, program_of}

abbrev pub IsFree : Name → Type 0
IsFree name = is_free_name name.text ≡ true

abbrev pub HasFreeHead : Function → Type 0
HasFreeHead function = is_free_name function.head.text ≡ true

All-right : {X : Type 0} (P : X → Type 0) (xs ys : List X) → All P (xs ++ ys) → All P ys
All-right P [] ys h = h
All-right P (x ∷ xs) ys h = All-right P xs ys (All-tail P x (xs ++ ys) h)

file_heads : (file : ℕ) (parts : List Part) → All IsFree (flat_map names_of_part parts) → All HasFreeHead (functions_of file parts)
file_heads file [] h = All-nil HasFreeHead
file_heads file (Declaration name ∷ parts) h = file_heads file parts (All-tail IsFree name (flat_map names_of_part parts) h)
file_heads file (Definition name calls ∷ parts) h =
    let rest = flat_map names_of_part parts in
    All-cons HasFreeHead (record { head = name; file = file; calls = calls }) (functions_of file parts)
    (All-head IsFree name (calls ++ rest) h) (file_heads file parts (All-right IsFree calls rest (All-tail IsFree name (calls ++ rest) h)))

-- each function of the two files' program has a free name
pub program_heads : (first second : List Part) (program : Program) → program ≡ program_of first second
    → All IsFree (flat_map names_of_part first) → All IsFree (flat_map names_of_part second) → All HasFreeHead program
program_heads first second program is h k =
    subst (λ (functions : List Function). All HasFreeHead functions) (sym is)
    (All-append HasFreeHead (functions_of 0 first) (functions_of 1 second) (file_heads 0 first h) (file_heads 1 second k))
