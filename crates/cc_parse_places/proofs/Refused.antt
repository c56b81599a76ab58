-- The token at which reading fails is refused whatever follows it, and so no file begins with the tokens up to and with it.
use Rattle.std.proofs.Common.{◌≡◌, ◌-◌, refl, ℕ, List, [], ◌∷◌, ◌++◌, length, take, Ok, Err, arith, sym, ap, ◌∙◌, subst, append_assoc, length-append}
use Rattle.std.proofs.Math.Seq.{take-append_seam}
use Rattle.cc_base.specs.declared.place.Spot.{Spot}
use Rattle.cc_lex.specs.declared.token.Token.{Token}
use Rattle.cc_tree.specs.Trees.{ExternalTree}
use Rattle.cc_grammar.specs.Outcomes.{Outcome}
use Rattle.cc_grammar.specs.Reading.{reading}
use Rattle.cc_grammar.specs.WellFormed.{WellFormed}
use Rattle.cc_parse_laws.proofs.CompleteReaders.{readers_complete}
use Rattle.cc_parse_laws.proofs.CompleteFiles.{each_file_is_read}
use Rattle.cc_parse_places.proofs.Forks.{Fork, here, there, left, Ending, Near, same, fails, past}
use Rattle.cc_parse_places.proofs.ForkedFiles.{tame_reading}

only_here : (t : Fork) (b : List Token) → length (b ++ here t) ≡ length (here t) → b ≡ []
only_here t [] e = refl
only_here t (k ∷ b) e = absurd (omega (arith, e, length-append b (here t)))

-- an outcome at the token is the outcome whatever follows
at_token : {A : Type 0} (t : Fork) (n : ℕ) (b : List Token) (o p : Outcome A) → Near t n b o p → o ≡ Err (here t) → p ≡ Err (there t)
at_token t n b _ _ (same x c le) e = absurd cc
at_token t n b _ _ (fails c) e = let one : c ≡ [] = only_here t c (ap (λ o. length (left o)) e) in ap (λ (x : List Token). Err (x ++ there t)) one
at_token t n b _ _ (past o p lt) e = let alike : length (left o) ≡ length (here t) = ap (λ o. length (left o)) e in absurd (omega (arith, lt, alike))

-- Where reading fails at a token, it fails there whatever follows.
pub refused_whatever_follows : (d : ℕ) (before : List Token) (t : Token) (rest more : List Token) → reading d (before ++ t ∷ rest) ≡ Err (t ∷ rest) → reading d (before ++ t ∷ more) ≡ Err (t ∷ more)
refused_whatever_follows d before t rest more failed =
    let fork : Fork = record { token = t; after = rest; other = more } in
    let alike = tame_reading {t = fork} {u = length before} d in
    at_token fork 0 before (reading d (before ++ t ∷ rest)) (reading d (before ++ t ∷ more)) (alike.near before (omega arith)) failed

-- What is left is the end of the tokens.
pub left_is_the_end : (d : ℕ) (tokens : List Token) (t : Token) (rest : List Token) → reading d tokens ≡ Err (t ∷ rest) → Ending tokens (t ∷ rest)
left_is_the_end d tokens t rest failed =
    let fork : Fork = record { token = t; after = rest; other = [] } in
    let alike = tame_reading {t = fork} {u = 0} d in
    subst (λ (o : Outcome (List (ExternalTree Spot))). Ending tokens (left o)) failed (alike.ends tokens)

-- what stands before the rest
pub before_rest : (before : List Token) (t : Token) (tokens rest more : List Token) → tokens ≡ before ++ t ∷ rest → take (length tokens - length rest) tokens ++ more ≡ before ++ t ∷ more
before_rest before t tokens rest more is =
    let first = before ++ t ∷ [] in
    let parts : tokens ≡ first ++ rest = is ∙ sym (append_assoc before (t ∷ []) rest) in
    let all : length tokens ≡ length (first ++ rest) = ap length parts in
    let count : length tokens - length rest ≡ length first = omega (arith, all, length-append first rest) in
    let taken : take (length tokens - length rest) tokens ≡ first = ap (λ n. take n tokens) count ∙ ap (take (length first)) parts ∙ take-append_seam first rest in
    ap (λ ts. ts ++ more) taken ∙ append_assoc before (t ∷ []) more

no_file_read : (tokens others : List Token) (f : List (ExternalTree Spot)) (d : ℕ) → reading d tokens ≡ Err others → reading d tokens ≡ Ok (f, []) → ⊥
no_file_read tokens others f d e g = cc

-- No file begins with the tokens up to and with the refused one.
pub no_file_begins_so : (d : ℕ) (tokens : List Token) (t : Token) (rest more : List Token) (f : List (ExternalTree Spot)) → reading d tokens ≡ Err (t ∷ rest) → WellFormed d (take (length tokens - length rest) tokens ++ more) f → ⊥
no_file_begins_so d tokens t rest more f failed w =
    let parts = left_is_the_end d tokens t rest failed in
    let fails : reading d (parts.0 ++ t ∷ more) ≡ Err (t ∷ more) = refused_whatever_follows d parts.0 t rest more (ap (reading d) (sym parts.1) ∙ failed) in
    let there : WellFormed d (parts.0 ++ t ∷ more) f = subst (λ us. WellFormed d us f) (before_rest parts.0 t tokens rest more parts.1) w in
    no_file_read (parts.0 ++ t ∷ more) (t ∷ more) f d fails (each_file_is_read readers_complete d (parts.0 ++ t ∷ more) f there)
