-- The loops that read lists, beside the lists round by round: what was read so far, and what a round gives.
use Rattle.std.proofs.Common.{◌≡◌, ◌<◌, ◌≤◌, ◌+◌, ◌-◌, refl, ℕ, suc, Bool, true, false, List, [], ◌∷◌, ◌++◌, map, length, Ok, Err, arith, sym, ap, ◌∙◌}
use Rattle.std.proofs.lemmas.List.{map_push, map-id}
use Rattle.cc_lex.specs.declared.token.Token.{Token}
use Rattle.cc_lex.specs.declared.punct.Punct.TheVariants as the_punct
use Rattle.cc_grammar.specs.Classes.{next_is, skip}
use Rattle.cc_grammar.specs.Outcomes.{Outcome, Parser}
use Rattle.cc_grammar.specs.Reading.{separated, repeated}
use Rattle.cc_parse_tokens.specs.Rounds.{separated_from, repeated_from}
use Rattle.cc_parse_tokens.proofs.ByRounds.{separated_is, repeated_is}
use Rattle.cc_parse_tokens.proofs.Rounds.{one_more, no_more}

abbrev pub done : {A : Type 0} → A → List Token → Outcome A
done a r = Ok (a, r)

pub unmapped : {A : Type 0} (xs : List A) (r : List Token) → done (map (λ x. x) xs) r ≡ done xs r
unmapped xs r = ap (λ zs. done zs r) (map-id xs)

pushed : {A B : Type 0} (view : A → B) (xs : List A) (x : A) (r : List Token) → done (map view xs ++ view x ∷ []) r ≡ done (map view (xs ++ x ∷ [])) r
pushed view xs x r = ap (λ zs. done zs r) (sym (map_push view xs x))

-- With commas between them: `total` is what is read in all, after `at` rounds of `end`, with `found` so far.
module _ {A B : Type 0} (view : A → B) (one : Parser B) (total : Outcome (List B)) (end at : ℕ) (found : List A) (ts : List Token) where
  abbrev pub Separating : Type 0
  Separating = total ≡ separated_from one (end - at) (map view found) ts

  pub separated_round : at < end → Separating → total ≡ separated_from one (suc (end - (at + 1))) (map view found) ts
  separated_round h e = one_more (λ n. separated_from one n (map view found) ts) end at h e

  pub separated_fails : at < end → Separating → (us : List Token) → one ts ≡ Err us → total ≡ Err us
  unfolding separated_from
  separated_fails h e us f = separated_round h e ∙ rw f refl

  pub separated_ends : at < end → Separating → (x : A) (us : List Token) → one ts ≡ Ok (view x, us) → false ≡ next_is the_punct.Comma us → total ≡ Ok (map view (found ++ x ∷ []), us)
  unfolding separated_from
  separated_ends h e x us f c = separated_round h e ∙ rw (f, sym c) (pushed view found x us)

  pub separated_goes : at < end → Separating → (x : A) (us : List Token) → one ts ≡ Ok (view x, us) → true ≡ next_is the_punct.Comma us
      → total ≡ separated_from one (end - (at + 1)) (map view (found ++ x ∷ [])) (skip us)
  unfolding separated_from
  separated_goes h e x us f c = separated_round h e ∙ rw (f, sym c) (ap (λ zs. separated_from one (end - (at + 1)) zs (skip us)) (sym (map_push view found x)))

  pub separated_over : end ≤ at → Separating → total ≡ Err ts
  unfolding separated_from
  separated_over h e = no_more (λ n. separated_from one n (map view found) ts) end at h e

pub separating : {A B : Type 0} (view : A → B) (one : Parser B) (ts : List Token) (end : ℕ) → end ≡ length ts → Separating view one (separated one ts) end 0 [] ts
separating view one ts end e = let all : length ts ≡ end - 0 = omega (arith, e) in separated_is one ts ∙ ap (λ n. separated_from one n [] ts) all

-- As long as another begins.
module _ {A B : Type 0} (view : A → B) (more : List Token → Bool) (one : Parser B) (total : Outcome (List B)) (end at : ℕ) (found : List A) (ts : List Token) where
  abbrev pub Repeating : Type 0
  Repeating = total ≡ repeated_from more one (end - at) (map view found) ts

  pub repeated_round : at < end → Repeating → total ≡ repeated_from more one (suc (end - (at + 1))) (map view found) ts
  repeated_round h e = one_more (λ n. repeated_from more one n (map view found) ts) end at h e

  pub repeated_fails : at < end → Repeating → (us : List Token) → one ts ≡ Err us → total ≡ Err us
  unfolding repeated_from
  repeated_fails h e us f = repeated_round h e ∙ rw f refl

  pub repeated_ends : at < end → Repeating → (x : A) (us : List Token) → one ts ≡ Ok (view x, us) → false ≡ more us → total ≡ Ok (map view (found ++ x ∷ []), us)
  unfolding repeated_from
  repeated_ends h e x us f c = repeated_round h e ∙ rw (f, sym c) (pushed view found x us)

  pub repeated_goes : at < end → Repeating → (x : A) (us : List Token) → one ts ≡ Ok (view x, us) → true ≡ more us
      → total ≡ repeated_from more one (end - (at + 1)) (map view (found ++ x ∷ [])) us
  unfolding repeated_from
  repeated_goes h e x us f c = repeated_round h e ∙ rw (f, sym c) (ap (λ zs. repeated_from more one (end - (at + 1)) zs us) (sym (map_push view found x)))

  pub repeated_over : end ≤ at → Repeating → total ≡ Err ts
  unfolding repeated_from
  repeated_over h e = no_more (λ n. repeated_from more one n (map view found) ts) end at h e

pub repeating : {A B : Type 0} (view : A → B) (more : List Token → Bool) (one : Parser B) (ts : List Token) (end : ℕ) → end ≡ length ts → Repeating view more one (repeated more one ts) end 0 [] ts
repeating view more one ts end e = let all : length ts ≡ end - 0 = omega (arith, e) in repeated_is more one ts ∙ ap (λ n. repeated_from more one n [] ts) all
