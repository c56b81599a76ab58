-- What reading gives is the one tree, and where it gives none there is none; where it fails, and why.
use Rattle.std.proofs.Common.{◌≡◌, ◌≢◌, ◌<◌, ◌≤◌, ◌-◌, ◌+◌, refl, ℕ, true, false, List, [], ◌∷◌, length, take, Ok, Err, arith, sym, ap, subst, inl, inr, nat_lt}
use Rattle.std.proofs.lemmas.Bool.{ltb-true, ltb-false}
use Rattle.cc_base.specs.declared.place.Spot.{Spot}
use Rattle.cc_lex.specs.declared.token.Token.{Token}
use Rattle.cc_tree.specs.Trees.{ExternalTree}
use Rattle.cc_grammar.specs.Outcomes.{Outcome}
use Rattle.cc_grammar.specs.CutOff.{CutOff}
use Rattle.cc_grammar.specs.Reading.{reading}
use Rattle.cc_grammar.specs.Limit.{limit}
use Rattle.cc_parse_laws.proofs.CompleteFiles.{each_file_is_read}
use Rattle.cc_parse_laws.proofs.CompleteReaders.{readers_complete}
use Rattle.cc_parse_laws.proofs.OneTree.{one_tree}
use Rattle.cc_parse_laws.proofs.SoundFiles.{read_is_well_formed}
use Rattle.cc_parse_laws.proofs.SoundReaders.{readers_sound}
use Rattle.cc_parse_places.proofs.Forks.{left, ending_length}
use Rattle.cc_parse_places.proofs.Refused.{left_is_the_end}
use Rattle.cc_parse_places.proofs.CutOffs.{no_cut_off_file_begins_so}
use Rattle.cc_parse_places.proofs.Beginnings.{before_the_refused, all_at_the_end}
use Rattle.cc_parse_depths.proofs.Told.{no_depth, past_the_token}
use Rattle.cc_parse.specs.Answers.{IsTheTree, HasNoTree, BreaksAt, IsBegun, IsRefused}
use Rattle.cc_parse.specs.Unread.{unread, FailsBefore}
use Rattle.cc_parse.specs.declared.fault.ParseFault.TheVariants as fault

pub is_the_tree : (tokens left : List Token) (f : List (ExternalTree Spot)) → reading limit tokens ≡ Ok (f, left) → IsTheTree tokens f
is_the_tree tokens left f e =
    let w = read_is_well_formed readers_sound limit tokens (f, left) e in
    record { file = w; only = λ g orderly spelled. one_tree readers_complete tokens g f orderly spelled w.orderly w.spelled }

pub has_no_tree : (tokens left : List Token) → reading limit tokens ≡ Err left → HasNoTree tokens
has_no_tree tokens left e = λ f w. let p = each_file_is_read readers_complete limit tokens f w in absurd cc

-- ---- Where reading fails

unread_is : (o : Outcome (List (ExternalTree Spot))) → unread o ≡ left o
unread_is (Ok x) = refl
unread_is (Err r) = refl

at_the_end : (tokens rest : List Token) (n : ℕ) → reading limit tokens ≡ Err rest → length rest ≡ 0 → n ≡ length tokens - length rest → IsRefused tokens (fault.Syntax n)
at_the_end tokens [] n e z is = inr (omega (arith, is), record { begun = λ m. all_at_the_end limit m tokens e; none = has_no_tree tokens [] e })
at_the_end tokens (t ∷ rest) n e z is = absurd (omega (arith, z))

breaks_at : (tokens : List Token) (t : Token) (rest : List Token) (n : ℕ) → reading limit tokens ≡ Err (t ∷ rest) → n + 1 ≡ length tokens - length rest → BreaksAt tokens n
breaks_at tokens t rest n e is = record {
  there = omega (arith, is);
  none = λ c. no_cut_off_file_begins_so limit tokens t rest e (subst (λ k. CutOff limit (take k tokens)) is c);
  shorter = λ m low. before_the_refused limit m tokens t rest e (omega (arith, is, low));
}

-- the number of the token at which reading fails
number_is : (tokens : List Token) (t : Token) (rest : List Token) (n : ℕ) → reading limit tokens ≡ Err (t ∷ rest) → n ≡ length tokens - length (t ∷ rest) → n + 1 ≡ length tokens - length rest
number_is tokens t rest n e is = omega (arith, is, ending_length tokens (t ∷ rest) (left_is_the_end limit tokens t rest e))

-- no depth has the token
no_begun : (tokens : List Token) (t : Token) (rest : List Token) (n : ℕ) → reading limit tokens ≡ Err (t ∷ rest) → n + 1 ≡ length tokens - length rest → length (t ∷ rest) ≤ length (unread (reading (limit + 2) tokens)) → IsBegun (take (n + 1) tokens) → ⊥
no_begun tokens t rest n e is far b =
    let same : length (unread (reading 66 tokens)) ≡ length (left (reading 66 tokens)) = ap length (unread_is (reading 66 tokens)) in
    no_depth limit b.0 tokens t rest e (omega (arith, far, same)) (subst (λ k. CutOff b.0 (take k tokens)) is b.1)

deeper_begun : (tokens : List Token) (t : Token) (rest : List Token) (n : ℕ) → n + 1 ≡ length tokens - length rest → length (unread (reading (limit + 2) tokens)) < length (t ∷ rest) → IsBegun (take (n + 1) tokens)
deeper_begun tokens t rest n is near =
    let same : length (unread (reading 66 tokens)) ≡ length (left (reading 66 tokens)) = ap length (unread_is (reading 66 tokens)) in
    (66, subst (λ k. CutOff 66 (take k tokens)) (sym is) (past_the_token 66 tokens (length rest) (omega (arith, near, same))))

-- ---- As the parser tells

pub ended : (tokens : List Token) (left n : ℕ) → FailsBefore tokens left → left ≡ 0 → n ≡ length tokens - left → IsRefused tokens (fault.Syntax n)
ended tokens left n f z is = at_the_end tokens f.rest n f.fails (omega (arith, z, f.number)) (omega (arith, is, f.number))

too_deep_at : (tokens : List Token) (left n : ℕ) → FailsBefore tokens left → left ≢ 0 → length (unread (reading (limit + 2) tokens)) < left → n ≡ length tokens - left → IsRefused tokens (fault.TooDeep n)
too_deep_at tokens left n f some near is = by f.rest f.fails f.number
  where
    by : (rest : List Token) → reading limit tokens ≡ Err rest → left ≡ length rest → IsRefused tokens (fault.TooDeep n)
    by [] e number = absurd (some number)
    by (t ∷ rest) e number =
        let at = number_is tokens t rest n e (omega (arith, is, number)) in
        (breaks_at tokens t rest n e at, deeper_begun tokens t rest n at (omega (arith, near, number)))

no_syntax_at : (tokens : List Token) (left n : ℕ) → FailsBefore tokens left → left ≢ 0 → left ≤ length (unread (reading (limit + 2) tokens)) → n ≡ length tokens - left → IsRefused tokens (fault.Syntax n)
no_syntax_at tokens left n f some far is = by f.rest f.fails f.number
  where
    by : (rest : List Token) → reading limit tokens ≡ Err rest → left ≡ length rest → IsRefused tokens (fault.Syntax n)
    by [] e number = absurd (some number)
    by (t ∷ rest) e number =
        let at = number_is tokens t rest n e (omega (arith, is, number)) in
        inl (breaks_at tokens t rest n e at, no_begun tokens t rest n e at (omega (arith, far, number)))

pub too_deep : (tokens : List Token) (left n : ℕ) → FailsBefore tokens left → left ≢ 0 → true ≡ nat_lt (length (unread (reading (limit + 2) tokens))) left → n ≡ length tokens - left → IsRefused tokens (fault.TooDeep n)
too_deep tokens left n f some near is = too_deep_at tokens left n f some (ltb-true _ _ (sym near)) is

pub no_syntax : (tokens : List Token) (left n : ℕ) → FailsBefore tokens left → left ≢ 0 → false ≡ nat_lt (length (unread (reading (limit + 2) tokens))) left → n ≡ length tokens - left → IsRefused tokens (fault.Syntax n)
no_syntax tokens left n f some far is = no_syntax_at tokens left n f some (ltb-false _ _ (sym far)) is
