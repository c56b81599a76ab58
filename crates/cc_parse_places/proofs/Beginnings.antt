-- What is read to its end is a cut-off file, and so the first tokens of one are one too.
use Rattle.std.proofs.Common.{◌≡◌, ◌-◌, ◌+◌, ◌≤◌, ◌<◌, refl, ℕ, List, [], ◌∷◌, ◌++◌, length, take, Ok, Err, arith, sym, ap, subst, ◌∙◌, append_assoc, append-nil}
use Rattle.std.specs.Prelude.{drop}
use Rattle.std.proofs.Math.Seq.{take-append_seam, take-add}
use Rattle.std.proofs.lemmas.List.{take-append-drop}
use Rattle.cc_base.specs.declared.place.Spot.{Spot}
use Rattle.cc_lex.specs.declared.token.Token.{Token}
use Rattle.cc_tree.specs.Trees.{ExternalTree}
use Rattle.cc_grammar.specs.Outcomes.{Outcome}
use Rattle.cc_grammar.specs.Reading.{reading}
use Rattle.cc_grammar.specs.CutOff.{CutOff}
use Rattle.cc_grammar.proofs.WholeTrees.{whole_is_cut_off}
use Rattle.cc_parse_laws.proofs.CompleteFiles.{each_file_is_read}
use Rattle.cc_parse_laws.proofs.CompleteReaders.{readers_complete}
use Rattle.cc_parse_laws.proofs.SoundFiles.{read_is_well_formed}
use Rattle.cc_parse_laws.proofs.SoundReaders.{readers_sound}
use Rattle.cc_parse_places.proofs.Forks.{left}
use Rattle.cc_parse_places.proofs.BegunFiles.{cut_off_before}
use Rattle.cc_parse_places.proofs.Refused.{refused_whatever_follows, left_is_the_end}
use Rattle.cc_parse_places.proofs.CutOffs.{cut_off_is_read, not_at_a_token}

abbrev no_tokens : List Token
no_tokens = []

-- all of them
whole_front : (tokens : List Token) → take (length tokens - length no_tokens) tokens ≡ tokens
whole_front tokens = ap (λ n. take n tokens) (omega arith) ∙ ap (take (length tokens)) (sym (append-nil tokens)) ∙ take-append_seam tokens []

-- where there is a file, nothing is left
pub read_leaves_nothing : (d : ℕ) (tokens : List Token) (x : List (ExternalTree Spot) × List Token) → reading d tokens ≡ Ok x → left (reading d tokens) ≡ []
read_leaves_nothing d tokens x e =
    let again : reading d tokens ≡ Ok (x.0, []) = each_file_is_read readers_complete d tokens x.0 (read_is_well_formed readers_sound d tokens x e) in
    ap left again

-- What is read to its end is a cut-off file.
pub read_is_cut_off : (d : ℕ) (tokens : List Token) → left (reading d tokens) ≡ [] → CutOff d tokens
read_is_cut_off d tokens e = by (reading d tokens) refl
  where
    by : (o : Outcome (List (ExternalTree Spot))) → reading d tokens ≡ o → CutOff d tokens
    by (Ok x) is = whole_is_cut_off d tokens x.0 (read_is_well_formed readers_sound d tokens x is)
    by (Err r) is =
        let none : r ≡ [] = sym (ap left is) ∙ e in
        subst (CutOff d) (whole_front tokens) (cut_off_before d tokens [] (is ∙ ap (λ us. Err us) none))

-- ---- The first tokens

append_front : (before : List Token) (t : Token) (rest more front : List Token) → front ≡ before ++ t ∷ rest → front ++ more ≡ before ++ t ∷ (rest ++ more)
append_front before t rest more front is = ap (λ us. us ++ more) is ∙ append_assoc before (t ∷ rest) more

pub front_is_cut_off : (d : ℕ) (front more : List Token) → CutOff d (front ++ more) → CutOff d front
front_is_cut_off d front more c = by (reading d front) refl
  where
    by : (o : Outcome (List (ExternalTree Spot))) → reading d front ≡ o → CutOff d front
    by (Ok x) is = read_is_cut_off d front (read_leaves_nothing d front x is)
    by (Err []) is = read_is_cut_off d front (ap left is)
    by (Err (t ∷ rest)) is =
        let parts = left_is_the_end d front t rest is in
        let all = append_front parts.0 t rest more front parts.1 in
        let fails : reading d (front ++ more) ≡ Err (t ∷ (rest ++ more)) =
        ap (reading d) all ∙ refused_whatever_follows d parts.0 t rest (rest ++ more) (ap (reading d) (sym parts.1) ∙ is) in
        absurd (not_at_a_token d (front ++ more) t (rest ++ more) fails (cut_off_is_read d (front ++ more) c))

-- The first tokens of a cut-off file are a cut-off file's.
pub first_tokens : (d n : ℕ) (tokens : List Token) → CutOff d tokens → CutOff d (take n tokens)
first_tokens d n tokens c = front_is_cut_off d (take n tokens) (drop n tokens) (subst (CutOff d) (sym (take-append-drop n tokens)) c)

-- and fewer of them are too
pub fewer_tokens : (d n m : ℕ) (tokens : List Token) → n ≤ m → CutOff d (take m tokens) → CutOff d (take n tokens)
fewer_tokens d n m tokens h c =
    let sum : m ≡ n + (m - n) = omega (arith, h) in
    front_is_cut_off d (take n tokens) (take (m - n) (drop n tokens)) (subst (CutOff d) (ap (λ k. take k tokens) sum ∙ take-add n (m - n) tokens) c)

-- ---- The shortest prefix

-- fewer tokens than up to the refused one
pub before_the_refused : (d n : ℕ) (tokens : List Token) (t : Token) (rest : List Token) → reading d tokens ≡ Err (t ∷ rest) → n < length tokens - length rest → CutOff d (take n tokens)
before_the_refused d n tokens t rest e h = fewer_tokens d n (length tokens - length (t ∷ rest)) tokens (omega (arith, h)) (cut_off_before d tokens (t ∷ rest) e)

pub all_at_the_end : (d n : ℕ) (tokens : List Token) → reading d tokens ≡ Err [] → CutOff d (take n tokens)
all_at_the_end d n tokens e = first_tokens d n tokens (read_is_cut_off d tokens (ap left e))
