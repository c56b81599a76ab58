-- The loops that read lists up to a brace, beside the lists round by round.
use Rattle.std.proofs.Common.{◌≡◌, ◌<◌, ◌≤◌, ◌+◌, ◌-◌, refl, ℕ, suc, Bool, true, false, List, [], ◌∷◌, ◌++◌, map, length, Ok, Err, arith, sym, ap, ◌∙◌}
use Rattle.std.proofs.lemmas.List.{map_push}
use Rattle.cc_lex.specs.declared.token.Token.{Token}
use Rattle.cc_lex.specs.declared.punct.Punct.TheVariants as the_punct
use Rattle.cc_grammar.specs.Classes.{next_is, skip}
use Rattle.cc_grammar.specs.Outcomes.{Outcome, Parser, take}
use Rattle.cc_grammar.specs.Reading.{enclosed_by}
use Rattle.cc_parse_tokens.specs.Rounds.{enclosed_from}
use Rattle.cc_parse_tokens.proofs.ByRounds.{enclosed_by_is}
use Rattle.cc_parse_tokens.proofs.Rounds.{one_more, no_more}

abbrev pub marked : {A : Type 0} → Bool → List A → List Token → Outcome (List A × Bool)
marked trailing xs r = Ok ((xs, trailing), r)

pushed : {A B : Type 0} (view : A → B) (trailing : Bool) (xs : List A) (x : A) (r : List Token) → marked trailing (map view xs ++ view x ∷ []) r ≡ marked trailing (map view (xs ++ x ∷ [])) r
pushed view trailing xs x r = ap (λ zs. marked trailing zs r) (sym (map_push view xs x))

-- `total` is what is read in all, after `at` rounds of `end`, with `found` so far.
module _ {A B : Type 0} (view : A → B) (one : Parser B) (total : Outcome (List B × Bool)) (end at : ℕ) (found : List A) (ts : List Token) where
  abbrev pub Enclosing : Type 0
  Enclosing = total ≡ enclosed_from one (end - at) (map view found) ts

  pub enclosed_round : at < end → Enclosing → total ≡ enclosed_from one (suc (end - (at + 1))) (map view found) ts
  enclosed_round h e = one_more (λ n. enclosed_from one n (map view found) ts) end at h e

  pub enclosed_fails : at < end → Enclosing → (us : List Token) → one ts ≡ Err us → total ≡ Err us
  unfolding enclosed_from
  enclosed_fails h e us f = enclosed_round h e ∙ rw f refl

  -- without a comma the brace comes, or reading fails
  pub enclosed_refused : at < end → Enclosing → (x : A) (us vs : List Token) → one ts ≡ Ok (view x, us) → false ≡ next_is the_punct.Comma us → take the_punct.RightBrace us ≡ Err vs → total ≡ Err vs
  unfolding enclosed_from
  enclosed_refused h e x us vs f c b = enclosed_round h e ∙ rw (f, sym c, b) refl

  pub enclosed_ends : at < end → Enclosing → (x : A) (us vs : List Token) → one ts ≡ Ok (view x, us) → false ≡ next_is the_punct.Comma us → take the_punct.RightBrace us ≡ Ok (tt, vs)
      → total ≡ Ok ((map view (found ++ x ∷ []), false), vs)
  unfolding enclosed_from
  enclosed_ends h e x us vs f c b = enclosed_round h e ∙ rw (f, sym c, b) (pushed view false found x vs)

  -- behind a comma the brace may come too
  pub enclosed_trails : at < end → Enclosing → (x : A) (us : List Token) → one ts ≡ Ok (view x, us) → true ≡ next_is the_punct.Comma us → true ≡ next_is the_punct.RightBrace (skip us)
      → total ≡ Ok ((map view (found ++ x ∷ []), true), skip (skip us))
  unfolding enclosed_from
  enclosed_trails h e x us f c b = enclosed_round h e ∙ rw (f, sym c, sym b) (pushed view true found x (skip (skip us)))

  pub enclosed_goes : at < end → Enclosing → (x : A) (us : List Token) → one ts ≡ Ok (view x, us) → true ≡ next_is the_punct.Comma us → false ≡ next_is the_punct.RightBrace (skip us)
      → total ≡ enclosed_from one (end - (at + 1)) (map view (found ++ x ∷ [])) (skip us)
  unfolding enclosed_from
  enclosed_goes h e x us f c b = enclosed_round h e ∙ rw (f, sym c, sym b) (ap (λ zs. enclosed_from one (end - (at + 1)) zs (skip us)) (sym (map_push view found x)))

  pub enclosed_over : end ≤ at → Enclosing → total ≡ Err ts
  unfolding enclosed_from
  enclosed_over h e = no_more (λ n. enclosed_from one n (map view found) ts) end at h e

pub enclosing : {A B : Type 0} (view : A → B) (one : Parser B) (ts : List Token) (end : ℕ) → end ≡ length ts → Enclosing view one (enclosed_by one (length ts) ts) end 0 [] ts
enclosing view one ts end e = let all : length ts ≡ end - 0 = omega (arith, e) in enclosed_by_is one (length ts) ts ∙ ap (λ n. enclosed_from one n [] ts) all
