-- What depth has to do with the place at which reading fails: what is read deeper, what is too deep, and how reading tells.
use Rattle.std.proofs.Common.{◌≡◌, ◌≤◌, ◌<◌, ◌-◌, ◌+◌, refl, ℕ, zero, suc, List, [], ◌∷◌, length, take, Ok, Err, arith, sym, ap, subst, ◌∙◌, ◌⊎◌, inl, inr}
use Rattle.cc_base.specs.declared.place.Spot.{Spot}
use Rattle.cc_lex.specs.declared.token.Token.{Token}
use Rattle.cc_tree.specs.Trees.{ExternalTree}
use Rattle.cc_grammar.specs.Outcomes.{Outcome}
use Rattle.cc_grammar.specs.Reading.{reading}
use Rattle.cc_grammar.specs.CutOff.{CutOff}
use Rattle.cc_grammar.specs.WellFormed.{WellFormed}
use Rattle.cc_parse_laws.proofs.CompleteFiles.{each_file_is_read}
use Rattle.cc_parse_laws.proofs.CompleteReaders.{readers_complete}
use Rattle.cc_parse_laws.proofs.SoundFiles.{read_is_well_formed}
use Rattle.cc_parse_laws.proofs.SoundReaders.{readers_sound}
use Rattle.cc_parse_places.proofs.Forks.{left}
use Rattle.cc_parse_places.proofs.BegunFiles.{cut_off_before}
use Rattle.cc_parse_places.proofs.CutOffs.{no_cut_off_file_begins_so}
use Rattle.cc_parse_places.proofs.Beginnings.{read_is_cut_off, read_leaves_nothing, first_tokens, fewer_tokens}
use Rattle.cc_parse_depths.proofs.Deeper.{Steps, alike, refused, stopped, Never}
use Rattle.cc_parse_depths.proofs.DeeperFiles.{reading_steps}

-- a cut-off file within a depth is one within a greater
pub cut_off_deeper : (d e : ℕ) (tokens : List Token) → d ≤ e → CutOff d tokens → CutOff e tokens
cut_off_deeper d e tokens h c = record { tree = c.tree; there = c.there; orderly = c.orderly; shallow = omega (arith, h, c.shallow); spelled = c.spelled }

-- A file that is read is read deeper too, and is the same one.
pub read_deeper : (d e : ℕ) (tokens : List Token) (x : List (ExternalTree Spot) × List Token) → d ≤ e → reading d tokens ≡ Ok x → reading e tokens ≡ Ok x
read_deeper d e tokens x h is =
    let w = read_is_well_formed readers_sound d tokens x is in
    let wider : WellFormed e tokens x.0 = record { orderly = w.orderly; shallow = omega (arith, h, w.shallow); spelled = w.spelled } in
    let rest : x.1 ≡ [] = sym (ap left is) ∙ read_leaves_nothing d tokens x is in
    each_file_is_read readers_complete e tokens x.0 wider ∙ ap (λ us. Ok (x.0, us)) (sym rest)

-- ---- As far

-- what is left where a token is refused is not more than where one is at a lesser depth
pub as_far : (d e : ℕ) (tokens a b : List Token) → d ≤ e → reading d tokens ≡ Err a → reading e tokens ≡ Err b → length b ≤ length a
as_far d e tokens a [] h is at = omega arith
as_far d e tokens a (t ∷ b) h is at = by (le_or (length (t ∷ b)) (length a))
  where
    le_or : (n m : ℕ) → (n ≤ m) ⊎ (m < n)
    le_or zero m = inl (omega arith)
    le_or (suc n) zero = inr (omega arith)
    le_or (suc n) (suc m) = elim (le_or n m) [
      | inl k ↦ inl (omega (arith, k))
      | inr k ↦ inr (omega (arith, k))
    ]

    by : (length (t ∷ b) ≤ length a) ⊎ (length a < length (t ∷ b)) → length (t ∷ b) ≤ length a
    by (inl k) = k
    by (inr k) =
        let fewer : length tokens - length b ≤ length tokens - length a = omega (arith, k) in
        absurd (no_cut_off_file_begins_so e tokens t b at (fewer_tokens e (length tokens - length b) (length tokens - length a) tokens fewer (cut_off_deeper d e (take (length tokens - length a) tokens) h (cut_off_before d tokens a is))))

-- ---- Two deeper

module _ (d : ℕ) (tokens rest : List Token) (failed : reading d tokens ≡ Err rest) where
  -- Reading stops there at each greater depth, or is past that token where it may be two deeper.
  abbrev pub Told : ℕ → Type 0
  Told e = (reading e tokens ≡ Err rest) ⊎ (length (left (reading (suc (suc d)) tokens)) < length rest)

  told_by : (o m p : Outcome (List (ExternalTree Spot))) → o ≡ Err rest → Steps Never o m p → (p ≡ Err rest) ⊎ (length (left m) < length rest)
  told_by _ _ _ is (alike o) = inl is
  told_by _ _ _ is (refused r m p lt) = inr (let same : length r ≡ length rest = ap (λ (o : Outcome (List (ExternalTree Spot))). length (left o)) is in omega (arith, same, lt))
  told_by _ _ _ is (stopped x r m p s lt) = absurd s

  pub told : (e : ℕ) → d ≤ e → Told e
  told e h = told_by (reading d tokens) (reading (suc (suc d)) tokens) (reading e tokens) failed (reading_steps d e h tokens)

-- At the end depth makes no difference.
pub end_at_each_depth : (d e : ℕ) (tokens : List Token) → d ≤ e → reading d tokens ≡ Err [] → reading e tokens ≡ Err []
end_at_each_depth d e tokens h is = by (told d tokens [] is e h)
  where
    by : Told d tokens [] is e → reading e tokens ≡ Err []
    by (inl same) = same
    by (inr lt) = absurd (omega (arith, lt))

-- Where reading is not past the token two deeper, it is refused at each depth, and no cut-off file is spelled so.
pub refused_at_each_depth : (d e : ℕ) (tokens : List Token) (t : Token) (rest : List Token) → d ≤ e → reading d tokens ≡ Err (t ∷ rest) → length (t ∷ rest) ≤ length (left (reading (suc (suc d)) tokens)) → reading e tokens ≡ Err (t ∷ rest)
refused_at_each_depth d e tokens t rest h is far = by (told d tokens (t ∷ rest) is e h)
  where
    by : Told d tokens (t ∷ rest) is e → reading e tokens ≡ Err (t ∷ rest)
    by (inl same) = same
    by (inr lt) = absurd (omega (arith, lt, far))

pub no_depth : (d e : ℕ) (tokens : List Token) (t : Token) (rest : List Token) → reading d tokens ≡ Err (t ∷ rest) → length (t ∷ rest) ≤ length (left (reading (suc (suc d)) tokens)) → CutOff e (take (length tokens - length rest) tokens) → ⊥
no_depth d e tokens t rest is far c =
    let f = d + e in
    no_cut_off_file_begins_so f tokens t rest (refused_at_each_depth d f tokens t rest (omega arith) is far) (cut_off_deeper e f (take (length tokens - length rest) tokens) (omega arith) c)

-- Where it is past the token, a cut-off file is spelled by the tokens up to and with it.
pub past_the_token : (e : ℕ) (tokens : List Token) (k : ℕ) → length (left (reading e tokens)) ≤ k → CutOff e (take (length tokens - k) tokens)
past_the_token e tokens k h = by (reading e tokens) refl
  where
    by : (o : Outcome (List (ExternalTree Spot))) → reading e tokens ≡ o → CutOff e (take (length tokens - k) tokens)
    by (Ok x) is = first_tokens e (length tokens - k) tokens (read_is_cut_off e tokens (read_leaves_nothing e tokens x is))
    by (Err r) is =
        let same : length (left (reading e tokens)) ≡ length r = ap (λ o. length (left o)) is in
        fewer_tokens e (length tokens - k) (length tokens - length r) tokens (omega (arith, same, h)) (cut_off_before e tokens r is)

-- ---- With two more

two_more : (d : ℕ) → d + 2 ≡ suc (suc d)
two_more d = omega arith

pub refused_with_two_more : (d e : ℕ) (tokens : List Token) (t : Token) (rest : List Token) → reading d tokens ≡ Err (t ∷ rest) → reading (d + 2) tokens ≡ Err (t ∷ rest) → CutOff e (take (length tokens - length rest) tokens) → ⊥
refused_with_two_more d e tokens t rest is at c =
    let there : reading (suc (suc d)) tokens ≡ Err (t ∷ rest) = ap (λ n. reading n tokens) (sym (two_more d)) ∙ at in
    let same : length (left (reading (suc (suc d)) tokens)) ≡ length (t ∷ rest) = ap (λ (o : Outcome (List (ExternalTree Spot))). length (left o)) there in
    no_depth d e tokens t rest is (omega (arith, same)) c

pub taken_with_two_more : (d : ℕ) (tokens : List Token) (t : Token) (rest : List Token) → reading d tokens ≡ Err (t ∷ rest) → (reading (d + 2) tokens ≡ Err (t ∷ rest) → ⊥) → CutOff (d + 2) (take (length tokens - length rest) tokens)
taken_with_two_more d tokens t rest is other = subst (λ n. CutOff n (take (length tokens - length rest) tokens)) (sym (two_more d)) (by (told d tokens (t ∷ rest) is (suc (suc d)) (omega arith)))
  where
    by : Told d tokens (t ∷ rest) is (suc (suc d)) → CutOff (suc (suc d)) (take (length tokens - length rest) tokens)
    by (inl same) = absurd (other (ap (λ n. reading n tokens) (two_more d) ∙ same))
    by (inr lt) = past_the_token (suc (suc d)) tokens (length rest) (omega (arith, lt))
