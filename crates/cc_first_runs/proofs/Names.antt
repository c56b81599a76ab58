-- What a name designates.
use Rattle.std.proofs.Common.{◌≡◌, ℕ, ◌<◌, ◌≤◌, List, Some, None, sym, ◌∙◌, ap, arith, get_or, length}
use Rattle.std.specs.Prelude.{true, Bool, slice_get, bytes_eq, position, not}
use Rattle.std.specs.List.{position_or_len}
use Rattle.std.proofs.lemmas.Bool.Decides.{nat_tests}
use Rattle.std.proofs.lemmas.List.Quantifiers.{position-Some}
use Rattle.std.proofs.lemmas.List.Sums.{prefix_len_passes}
use Rattle.std.proofs.lemmas.Option.{slice_get-get_or, slice_get_within, get_or_from_slice_get}
use Rattle.std.proofs.lemmas.Slice.Eq.{bytes_eq-Decides}
use Rattle.cc_first_runs.specs.Program.{Name, Function, Program, IsFunction}
use Rattle.cc_first_runs.specs.Runs.{designated}

-- function number g has the name
pub record HasName (program : Program) (g : ℕ) (name : Name) : Type 0 where
  pub callee : Function
  pub is_callee : IsFunction program g callee
  pub named : callee.head.text ≡ name.text

-- what a name designates has this name
pub designated_has_name : (program : Program) (some : Function) (name : Name) (g : ℕ) → designated program name ≡ Some g → HasName program g name
designated_has_name program some name g e =
    let p = position-Some (λ (function : Function). bytes_eq function.head.text name.text) program g some e in
    let callee = get_or program g some in
    record {
      callee = callee;
      is_callee = slice_get-get_or program g some p.0;
      named = (bytes_eq-Decides callee.head.text name.text).0 p.1;
    }

-- the first place that passes stands in the list if any does
passes_within : {X : Type 0} (test : X → Bool) (xs : List X) (k : ℕ) (x : X) → slice_get xs k ≡ Some x → test x ≡ true → position test xs ≡ None → ⊥
passes_within test xs k x at passes none =
    let below : k < length xs = slice_get_within xs k x at in
    let here : get_or xs k x ≡ x = get_or_from_slice_get xs k x x at in
    let past : length xs ≤ position_or_len test xs = grind (arith, nat_tests) in
    let fails = prefix_len_passes (λ y. not (test y)) xs k x (omega arith) in
    let stops : not true ≡ true = ap not (sym passes ∙ ap test (sym here)) ∙ fails in
    cc

-- a name that a function has designates one
pub named_designates : (program : Program) (name : Name) (g : ℕ) → HasName program g name → designated program name ≡ None → ⊥
named_designates program name g has none =
    passes_within (λ (function : Function). bytes_eq function.head.text name.text) program g has.callee has.is_callee ((bytes_eq-Decides has.callee.head.text name.text).1 has.named) none
