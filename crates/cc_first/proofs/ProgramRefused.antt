-- Where no program is made, none is whole.
use Rattle.std.proofs.Common.{◌≡◌, ◌≢◌, ℕ, List, [], ◌∷◌, ◌++◌, get_or, Some, false, sym, ap, ◌∙◌, subst, arith, All, AllPairs, Contains, slice_get, append-nil, Bor}
use Rattle.std.specs.List.{list_any}
use Rattle.std.specs.Str.{bytes_eq}
use Rattle.std.proofs.lemmas.List.{map-append, length-map, get_or-map}
use Rattle.std.proofs.lemmas.List.Elements.{All-nil, All-cons, All-head, All-tail, Contains-get_or}
use Rattle.std.specs.Option.{option_map}
use Rattle.std.proofs.lemmas.Option.{slice_get-map}
use Rattle.cc_first_runs.specs.Program as tree
use Rattle.cc_first.specs.Linked.{IsLinked}
use Rattle.cc_first.specs.Linking.{names_of}
use Rattle.cc_first.specs.Linked.{heads_of, IsWhole}
use Rattle.cc_first.proofs.ProgramNames.{Contains-slice_get, not_among}
use Rattle.cc_first.proofs.ProgramParts.{CallsKnown}

All-front : {A : Type 0} (P : A → Type 0) (xs ys : List A) → All P (xs ++ ys) → All P xs
All-front P [] ys all = All-nil P
All-front P (x ∷ xs) ys all = All-cons P x xs (All-head P x (xs ++ ys) all) (All-front P xs ys (All-tail P x (xs ++ ys) all))

All-back : {A : Type 0} (P : A → Type 0) (xs ys : List A) → All P (xs ++ ys) → All P ys
All-back P [] ys all = all
All-back P (x ∷ xs) ys all = All-back P xs ys (All-tail P x (xs ++ ys) all)

pub heads_of-append : (xs ys : tree.Program) → heads_of (xs ++ ys) ≡ heads_of xs ++ heads_of ys
heads_of-append xs ys = map-append (λ (f : tree.Function). f.head.text) xs ys

-- a name stands twice among the heads of the first file
pub twice_in_first : (begun first second : List (List ℕ)) (program : tree.Program) → begun ≡ [] → heads_of program ≡ first ++ second → ((rest : List (List ℕ)) → AllPairs (λ a b. a ≢ b) (begun ++ (first ++ rest)) → ⊥) → IsWhole program → ⊥
twice_in_first begun first second program none split twice whole =
    twice second (subst (λ names. AllPairs (λ a b. a ≢ b) names) (split ∙ ap (λ b. b ++ (first ++ second)) (sym none)) whole.once)

-- or among those of both
pub twice_in_both : (begun first second : List (List ℕ)) (program : tree.Program) → begun ≡ first → heads_of program ≡ first ++ second → ((rest : List (List ℕ)) → AllPairs (λ a b. a ≢ b) (begun ++ (second ++ rest)) → ⊥) → IsWhole program → ⊥
twice_in_both begun first second program known split twice whole =
    twice [] (subst (λ names. AllPairs (λ a b. a ≢ b) names) (split ∙ ap (λ b. b ++ second) (sym known) ∙ ap (λ s. begun ++ s) (sym (append-nil second))) whole.once)

-- the names that a whole program calls are known
pub whole_known : (names : List (List ℕ)) (program : tree.Program) → names ≡ heads_of program → IsWhole program → CallsKnown names program
whole_known names program is whole k d lt =
    let known = whole.called k d lt in
    let head : Contains (heads_of program) (get_or program k d).head.text =
    subst (Contains (heads_of program)) (get_or-map (λ (f : tree.Function). f.head.text) program k d [] lt)
    (Contains-get_or (heads_of program) k [] (omega (arith, length-map program (λ (f : tree.Function). f.head.text)))) in
    subst (λ ns. Contains ns (get_or program k d).head.text × All (λ (call : tree.Name). Contains ns call.text) (get_or program k d).calls) (sym is) (head, known)

pub known_front : (names : List (List ℕ)) (xs ys : tree.Program) → CallsKnown names (xs ++ ys) → CallsKnown names xs
known_front names xs ys all = All-front (λ (f : tree.Function). Contains names f.head.text × All (λ (call : tree.Name). Contains names call.text) f.calls) xs ys all

pub known_back : (names : List (List ℕ)) (xs ys : tree.Program) → CallsKnown names (xs ++ ys) → CallsKnown names ys
known_back names xs ys all = All-back (λ (f : tree.Function). Contains names f.head.text × All (λ (call : tree.Name). Contains names call.text) f.calls) xs ys all

heads_at : (program : tree.Program) (i : ℕ) (function : tree.Function) → slice_get program i ≡ Some function → slice_get (heads_of program) i ≡ Some function.head.text
heads_at program i function at = slice_get-map (λ (f : tree.Function). f.head.text) program i ∙ ap (option_map (λ (f : tree.Function). f.head.text)) at

-- no function has the entry's name
pub no_entry : (keys : List (Bor (List ℕ))) (program : tree.Program) (entry : List ℕ) (e : ℕ) → names_of keys ≡ heads_of program → list_any (λ key. bytes_eq entry key.now) keys ≡ false → IsLinked program entry e → ⊥
no_entry keys program entry e is none (whole, has) =
    not_among entry keys none (subst (λ names. Contains names entry) (sym is) (subst (Contains (heads_of program)) has.named (Contains-slice_get (heads_of program) e has.function.head.text (heads_at program e has.function has.is))))
