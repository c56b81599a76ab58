-- The records of the calls are the lines of the table.
use Rattle.std.proofs.Common.{◌≡◌, ℕ, suc, zero, ◌+◌, ◌<◌, ◌==◌, cond, true, false, List, [], ◌∷◌, ◌++◌, map, codes, length, slice_get, Some, refl, ap, ◌∙◌, sym, arith, append_assoc, All, subst}
use Rattle.std.specs.List.{flat_map, AllByRecursion}
use Rattle.std.specs.Fmt.{decimal}
use Rattle.std.proofs.lemmas.List.{append-nil}
use Rattle.std.proofs.lemmas.List.Elements.{All-nil, All-cons}
use Rattle.std.proofs.lemmas.Option.{slice_get_within, get_or_from_slice_get}
use Rattle.csv.specs.Writing.{default_writer, row_text, fields_text, is_blank}
use Rattle.cc_first_runs.specs.Program as tree
use Rattle.cc_first_runs.specs.Couplings.{Row}
use Rattle.cc_first.specs.Listing.{AreLines, component_of, header, line, place_text}
use Rattle.cc_first.specs.ListingRows.{IsWithin, fields_from, fields_of, fields_of_call, file_of, head_of, header_fields, row_fields}
use Rattle.cc_first.specs.Names.{is_free_name}
use Rattle.cc_first.specs.Project.{IsComponent, IsWell, Project}
use Rattle.cc_first.specs.Views.{AreCallsOf, IsCallOf, calls_view, functions_view, name_view}
use Rattle.cc_first.specs.declared.listing.Row.{Row as Made}
use Rattle.cc_first.specs.declared.program.Function.{Function}
use Rattle.cc_first.specs.declared.program.Call.{Call}
use Rattle.cc_first.proofs.NamePlain.{IsPlain, name_is_plain, file_name_is_plain, free_name_is_plain, decimal_is_plain, place_is_plain}

-- fields after the first, with a comma before each
abbrev after_commas : List (List ℕ) → List ℕ
after_commas [] = []
after_commas (field ∷ rest) = 44 ∷ (field ++ after_commas rest)

fields_text-plain : (fields : List (List ℕ)) → AllByRecursion IsPlain fields → fields_text default_writer fields ≡ after_commas fields
unfolding fields_text
fields_text-plain [] h = refl
fields_text-plain (field ∷ rest) h = rw (h.0, fields_text-plain rest h.1) refl

-- a record of two or more plain fields is the fields with commas between, and a line feed
row_text-plain : (first second : List ℕ) (rest : List (List ℕ)) → IsPlain first → AllByRecursion IsPlain (second ∷ rest)
    → row_text default_writer (first ∷ second ∷ rest) ≡ first ++ (after_commas (second ∷ rest) ++ 10 ∷ [])
unfolding is_blank
row_text-plain first second rest p h = rw (p, fields_text-plain (second ∷ rest) h) (append_assoc first (after_commas (second ∷ rest)) (10 ∷ []))

pub header_line : row_text default_writer header_fields ≡ header
unfolding fields_text is_blank
header_line = refl

component_is_plain : (project : Project) (file : ℕ) → IsWell project → IsComponent (component_of project file)
component_is_plain project file well =
    elim (file == 0) as (λ b. IsComponent (cond b project.first project.second)) [ true ↦ well.first | false ↦ well.second ]

joined : (number from to definition used name : List ℕ)
    → number ++ (after_commas (codes "call" ∷ from ∷ to ∷ definition ∷ used ∷ name ∷ []) ++ 10 ∷ [])
    ≡ number ++ (codes ",call," ++ (from ++ (codes "," ++ (to ++ (codes "," ++ (definition ++ (codes "," ++ (used ++ (codes "," ++ (name ++ codes "\n"))))))))))
joined number from to definition used name = simp (append_assoc, append-nil)

row_line : (project : Project) (number : ℕ) (caller : tree.Function) (call : tree.Name) (callee : tree.Function) → IsWell project → is_free_name callee.head.text ≡ true
    → row_text default_writer (fields_of project number caller.file call callee.file callee.head) ≡ line project number caller call callee
row_line project number caller call callee well free =
    let from = component_of project caller.file in
    let to = component_of project callee.file in
    let from_is = component_is_plain project caller.file well in
    let to_is = component_is_plain project callee.file well in
    let definition = place_text from.file call.spot in
    let used = place_text to.file callee.head.spot in
    let definition_is = place_is_plain from.file call.spot (file_name_is_plain from.file from_is.file) in
    let used_is = place_is_plain to.file callee.head.spot (file_name_is_plain to.file to_is.file) in
    row_text-plain (decimal number) (codes "call") (from.name ∷ to.name ∷ definition ∷ used ∷ callee.head.text ∷ []) (decimal_is_plain number)
    (refl, (name_is_plain from.name from_is.name, (name_is_plain to.name to_is.name, (definition_is, (used_is, (free_name_is_plain callee.head.text free, tt))))))
    ∙ joined (decimal number) from.name to.name definition used callee.head.text

-- the functions as the code keeps them and as the program has them
looked : (calls : List Call) (k : ℕ) (functions : List Function) (f : ℕ) (found : tree.Function) → slice_get (functions_view calls k functions) f ≡ Some found
    → (file_of (slice_get functions f) ≡ found.file) × (head_of (slice_get functions f) ≡ found.head) × (f < length functions)
looked calls k [] f found is = absurd (cc)
looked calls k (function ∷ functions) zero found is =
    let same : record { head = name_view function.head; file = function.file.0; calls = calls_view calls k } ≡ found = cc in
    (ap (λ g. g.file) same, ap (λ g. g.head) same, omega arith)
looked calls k (function ∷ functions) (suc f) found is =
    let rest = looked calls (k + 1) functions f found is in
    (rest.0, rest.1, omega arith)

free_at : (program : tree.Program) (g : ℕ) (callee : tree.Function) → All (λ function. is_free_name function.head.text ≡ true) program
    → slice_get program g ≡ Some callee → is_free_name callee.head.text ≡ true
free_at program g callee free is =
    subst (λ (function : tree.Function). is_free_name function.head.text ≡ true) (get_or_from_slice_get program g callee callee is)
    (free g callee (slice_get_within program g callee is))

fields_same : (project : Project) (number : ℕ) (f f' : ℕ) (call call' : tree.Name) (g g' : ℕ) (head head' : tree.Name) → f ≡ f' → call ≡ call' → g ≡ g' → head ≡ head'
    → fields_of project number f call g head ≡ fields_of project number f' call' g' head'
fields_same project number f f' call call' g g' head head' p q r s =
    ap (λ x. fields_of project number x call g head) p ∙ (ap (λ x. fields_of project number f' x g head) q
    ∙ (ap (λ x. fields_of project number f' call' x head) r ∙ ap (λ x. fields_of project number f' call' g' x) s))

call_line : (project : Project) (functions : List Function) (all : List Call) (number : ℕ) (row : Row) (call : Call) → IsWell project
    → All (λ function. is_free_name function.head.text ≡ true) (functions_view all 0 functions)
    → (is : IsCallOf (functions_view all 0 functions) row call)
    → row_text default_writer (fields_of_call project functions number call) ≡ line project number is.0.caller is.0.call is.0.callee
call_line project functions all number row call well free is =
    let site = is.0 in
    let program = functions_view all 0 functions in
    let caller = looked all 0 functions call.caller site.caller (subst (λ (f : ℕ). slice_get program f ≡ Some site.caller) is.1 site.is_caller) in
    let callee = looked all 0 functions call.callee site.callee (subst (λ (g : ℕ). slice_get program g ≡ Some site.callee) is.2 site.is_callee) in
    ap (row_text default_writer) (fields_same project number _ _ _ _ _ _ _ _ caller.0 (sym is.3) callee.0 callee.1)
    ∙ row_line project number site.caller site.call site.callee well (free_at program row.g site.callee free site.is_callee)

-- the records of the calls are the lines of their rows
pub lines : (project : Project) (functions : List Function) (all : List Call) → IsWell project
    → All (λ function. is_free_name function.head.text ≡ true) (functions_view all 0 functions)
    → (n : ℕ) (rows : List Row) (calls : List Call) → AreCallsOf (functions_view all 0 functions) rows calls
    → AreLines project (functions_view all 0 functions) n rows (flat_map (row_text default_writer) (fields_from project functions n calls))
lines project functions all well free n [] [] is = refl
lines project functions all well free n [] (call ∷ calls) is = absurd is
lines project functions all well free n (row ∷ rows) [] is = absurd is
lines project functions all well free n (row ∷ rows) (call ∷ calls) is =
    let rest = flat_map (row_text default_writer) (fields_from project functions (n + 1) calls) in (
      is.0.0,
      rest,
      ap (λ text. text ++ rest) (call_line project functions all n row call well free is.0),
      lines project functions all well free (n + 1) rows calls is.1,
    )

-- calls of rows are calls from and to functions of the program
pub are_within : (functions : List Function) (all : List Call) (rows : List Row) (calls : List Call) → AreCallsOf (functions_view all 0 functions) rows calls
    → All (IsWithin functions) calls
are_within functions all [] [] is = All-nil (IsWithin functions)
are_within functions all [] (call ∷ calls) is = absurd is
are_within functions all (row ∷ rows) [] is = absurd is
are_within functions all (row ∷ rows) (call ∷ calls) is =
    let site = is.0.0 in
    let caller = looked all 0 functions row.f site.caller site.is_caller in
    let callee = looked all 0 functions row.g site.callee site.is_callee in
    let here : IsWithin functions call = record {
      caller = subst (λ (f : ℕ). f < length functions) is.0.1 caller.2;
      callee = subst (λ (g : ℕ). g < length functions) is.0.2 callee.2;
    } in
    All-cons (IsWithin functions) call calls here (are_within functions all rows calls is.1)

flat_map-map : {A B C : Type 0} (f : B → List C) (g : A → B) (xs : List A) → flat_map (λ x. f (g x)) xs ≡ flat_map f (map g xs)
flat_map-map f g [] = refl
flat_map-map f g (x ∷ xs) = ap (λ rest. f (g x) ++ rest) (flat_map-map f g xs)

-- the text of the rows is the header and the records
pub rows_text : (written rows : List Made) (fields : List (List (List ℕ))) → written ≡ rows → map row_fields rows ≡ fields
    → row_text default_writer header_fields ++ flat_map (λ row. row_text default_writer (row_fields row)) written ≡ header ++ flat_map (row_text default_writer) fields
rows_text written rows fields same is =
    ap (λ first. first ++ flat_map (λ row. row_text default_writer (row_fields row)) written) header_line
    ∙ ap (λ rest. header ++ rest) (ap (flat_map (λ row. row_text default_writer (row_fields row))) same
    ∙ (flat_map-map (row_text default_writer) row_fields rows ∙ ap (flat_map (row_text default_writer)) is))
