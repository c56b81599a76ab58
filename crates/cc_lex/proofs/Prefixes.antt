-- The pieces at the front of a text are right when what follows is taken away.
use Rattle.std.proofs.Common.{◌≡◌, ℕ, zero, suc, ◌≤◌, ◌<◌, Bool, true, false, not, ◌&&◌, ◌||◌, eqb, List, [], ◌∷◌, ◌++◌, length, take, drop, length-append, append_assoc, refl, sym, ap, ◌∙◌, subst, arith, inl, inr}
use Rattle.std.proofs.lemmas.Bool.{and_from, and_parts, cases_Bool, eqb-true, not-true}
use Rattle.std.proofs.lemmas.List.{take-append-le}
use Rattle.std.specs.List.{list_all}
use Rattle.cc_lex.specs.Bytes.{first, is_blank, is_digit, is_quote, in_name, in_line, chain}
use Rattle.cc_lex.specs.Meanings.{is_prefix, faults}
use Rattle.cc_lex.specs.Pieces.{Piece, white, comment, line, token, bytes_of, spell, is_line, begins_comment, skip_blanks, begins, begins_word, is_directive, begins_skipped, Longest, IsInPlace, Cuts, starts_after}
use Rattle.cc_lex.proofs.Tables.{begins_within}
use Rattle.cc_lex.proofs.Fronts.{token_some}
use Rattle.cc_lex.proofs.Whole.{cuts_spell}

-- a longest front is the longest of a shorter text too
longest_less : (passes : List ℕ → Bool) (w a r : List ℕ) → Longest passes w (w ++ (a ++ r)) → Longest passes w (w ++ a)
longest_less passes w a r l = record { passes_itself = l.passes_itself; most = λ m h e. most passes w a r l m h e }
  where
    most : (passes : List ℕ → Bool) (w a r : List ℕ) → Longest passes w (w ++ (a ++ r)) → (m : ℕ) → m ≤ length (w ++ a) → passes (take m (w ++ a)) ≡ true → m ≤ length w
    most passes w a r l m h e =
        let is : take m (w ++ a) ≡ take m (w ++ (a ++ r)) = sym (take-append-le m (w ++ a) r h) ∙ ap (λ t. take m t) (append_assoc w a r) in
        l.most m (omega (arith, length-append w a, length-append w (a ++ r), length-append a r)) (subst (λ t. passes t ≡ true) is e)

and_no : (a : Bool) → (a && false) ≡ false
and_no true = refl
and_no false = refl

comment_less : (w a r : List ℕ) → 0 < length w → begins_comment (w ++ (a ++ r)) ≡ false → begins_comment (w ++ a) ≡ false
comment_less [] a r h e = absurd (omega arith)
comment_less (b ∷ []) [] r h e = and_no (eqb b 47)
comment_less (b ∷ []) (c ∷ a) r h e = e
comment_less (b ∷ c ∷ w) a r h e = e

faults_end : (w : List ℕ) (k : ℕ) → faults w k ≡ [] → faults w 0 ≡ []
unfolding faults
faults_end w k e =
    elim (cases_Bool (is_prefix w && is_quote k)) [
      | inl o ↦ absurd (let no : (0, 9) ∷ [] ≡ [] = rw o at e in cc)
      | inr o ↦ rw (and_no (is_prefix w)) (rw o at e)
    ]

faults_less : (w a r : List ℕ) → faults w (first (a ++ r)) ≡ [] → faults w (first a) ≡ []
faults_less w [] r e = faults_end w (first r) e
faults_less w (c ∷ a) r e = e

-- ---- Skipped lines

-- nothing follows on the line
abbrev Ends : List ℕ → Type 0
Ends [] = Unit {0}
Ends (b ∷ z) = b ≡ 10

digit_ended : (v x : List ℕ) → Ends x → is_digit (first (v ++ x)) ≡ is_digit (first v)
digit_ended [] [] n = refl
digit_ended [] (b ∷ z) n = subst (λ k. is_digit k ≡ false) (sym n) refl
digit_ended (c ∷ v) x n = refl

name_ended : (v x : List ℕ) → Ends x → in_name 0 (first (v ++ x)) ≡ in_name 0 (first v)
name_ended [] [] n = refl
name_ended [] (b ∷ z) n = subst (λ k. in_name 0 k ≡ false) (sym n) refl
name_ended (c ∷ v) x n = refl

-- no byte of the word is a line feed
abbrev HasNoFeed : List ℕ → Type 0
HasNoFeed word = list_all (λ b. not (eqb b 10)) word ≡ true

begins_ended : (word u x : List ℕ) → HasNoFeed word → Ends x → begins word (u ++ x) ≡ begins word u
begins_ended [] u x w n = refl
begins_ended (a ∷ y) [] [] w n = refl
begins_ended (a ∷ y) [] (b ∷ z) w n =
    let p = and_parts (not (eqb a 10)) (list_all (λ b. not (eqb b 10)) y) w in
    let other : eqb a 10 ≡ false = not-true _ p.0 in
    subst (λ k. (eqb a k && begins y z) ≡ false) (sym n) (rw other refl)
begins_ended (a ∷ y) (b ∷ u) x w n =
    let p = and_parts (not (eqb a 10)) (list_all (λ b. not (eqb b 10)) y) w in
    ap (λ v. eqb a b && v) (begins_ended y u x p.1 n)

drop_within : (n : ℕ) (u x : List ℕ) → n ≤ length u → drop n (u ++ x) ≡ drop n u ++ x
drop_within zero u x h = refl
drop_within (suc n) [] x h = absurd (omega arith)
drop_within (suc n) (b ∷ u) x h = drop_within n u x (omega arith)

word_ended : (word u x : List ℕ) → HasNoFeed word → Ends x → begins_word word (u ++ x) ≡ begins_word word u
word_ended word u x w n =
    let same : begins word (u ++ x) ≡ begins word u = begins_ended word u x w n in
    elim (cases_Bool (begins word u)) [
      | inr f ↦ rw (same, f) refl
      | inl f ↦
          let next : in_name 0 (first (drop (length word) (u ++ x))) ≡ in_name 0 (first (drop (length word) u)) =
          ap (λ t. in_name 0 (first t)) (drop_within (length word) u x (begins_within word u f)) ∙ name_ended (drop (length word) u) x n
          in
          ap (λ v. v && not (in_name 0 (first (drop (length word) (u ++ x))))) same ∙ ap (λ v. begins word u && not v) next
    ]

directive_ended : (u x : List ℕ) → Ends x → is_directive (u ++ x) ≡ is_directive u
directive_ended u x n =
    let d = digit_ended u x n in
    let l = word_ended (108 ∷ 105 ∷ 110 ∷ 101 ∷ []) u x refl n in
    let p = word_ended (112 ∷ 114 ∷ 97 ∷ 103 ∷ 109 ∷ 97 ∷ []) u x refl n in
    three _ _ _ _ _ _ d l p
  where
    three : (a b c d e f : Bool) → a ≡ b → c ≡ d → e ≡ f → ((a || c) || e) ≡ ((b || d) || f)
    three a b c d e f p q r = rw (p, q, r) refl

blanks_ended : (v x : List ℕ) → Ends x → is_directive (skip_blanks (v ++ x)) ≡ is_directive (skip_blanks v)
blanks_ended [] [] n = refl
blanks_ended [] (b ∷ z) n = subst (λ k. is_directive (skip_blanks (k ∷ z)) ≡ false) (sym n) (directive_ended [] (10 ∷ z) refl)
blanks_ended (b ∷ v) x n = elim (cases_Bool (is_blank b)) [ inl e ↦ rw e (blanks_ended v x n) | inr e ↦ rw e (directive_ended (b ∷ v) x n) ]

skipped_ended : (w x : List ℕ) → 0 < length w → Ends x → begins_skipped (w ++ x) ≡ begins_skipped w
skipped_ended [] x h n = absurd (omega arith)
skipped_ended (b ∷ v) x h n = ap (λ d. eqb b 35 && d) (blanks_ended v x n)

chain_more : (k c : ℕ) (v : List ℕ) → chain in_line k v ≡ true → eqb c 10 ≡ false → chain in_line k (v ++ c ∷ []) ≡ true
chain_more k c [] e f = rw f refl
chain_more k c (b ∷ v) e f = let p = and_parts (in_line k b) (chain in_line b v) e in and_from _ _ p.0 (chain_more b c v p.1 f)

line_more : (w : List ℕ) (c : ℕ) → is_line w ≡ true → eqb c 10 ≡ false → is_line (w ++ c ∷ []) ≡ true
line_more [] c e f = absurd cc
line_more (b ∷ v) c e f = chain_more 0 c (b ∷ v) e f

take_one : (w y : List ℕ) (c : ℕ) → take (suc (length w)) (w ++ c ∷ y) ≡ w ++ c ∷ []
take_one [] y c = refl
take_one (b ∷ w) y c = ap (λ t. b ∷ t) (take_one w y c)

line_ends : (w x : List ℕ) → Longest is_line w (w ++ x) → Ends x
line_ends w [] l = tt
line_ends w (c ∷ y) l =
    elim (cases_Bool (eqb c 10)) [
      | inl e ↦ eqb-true c 10 e
      | inr e ↦
          let longer : is_line (take (suc (length w)) (w ++ c ∷ y)) ≡ true = rw (take_one w y c) (line_more w c l.passes_itself e) in
          let most : suc (length w) ≤ length w = l.most (suc (length w)) (omega (arith, length-append w (c ∷ y))) longer in
          absurd (omega arith)
    ]

line_some : (w : List ℕ) → is_line w ≡ true → 0 < length w
line_some [] e = absurd cc
line_some (b ∷ v) e = omega arith

skipped_less : (w a r : List ℕ) → Longest is_line w (w ++ (a ++ r)) → begins_skipped (w ++ (a ++ r)) ≡ true → begins_skipped (w ++ a) ≡ true
skipped_less w a r l e =
    let some = line_some w l.passes_itself in
    skipped_ended w a some (line_ends w a (longest_less is_line w a r l)) ∙ sym (skipped_ended w (a ++ r) some (line_ends w (a ++ r) l)) ∙ e

-- ---- Pieces

stands_less : (starts : Bool) (p : Piece) (a r : List ℕ) → IsInPlace starts p (a ++ r) → IsInPlace starts p a
stands_less starts (white w) a r s = longest_less _ w a r s
stands_less starts (comment w) a r s = longest_less _ w a r s
stands_less starts (line w) a r s = (longest_less is_line w a r s.0, s.1, skipped_less w a r s.0 s.2)
stands_less starts (token w k) a r s = (longest_less _ w a r s.0, comment_less w a r (token_some w s.0.passes_itself) s.1, faults_less w a r s.2, s.3)

-- the pieces cut what they spell
pub cuts_alone : (starts : Bool) (ps : List Piece) (text r : List ℕ) → Cuts starts ps text r → Cuts starts ps (spell ps) []
cuts_alone starts [] text r c = refl
cuts_alone starts (p ∷ ps) text r (z, e, s, c) =
    let is : z ≡ spell ps ++ r = cuts_spell (starts_after starts (bytes_of p)) ps z r c in
    (spell ps, refl, stands_less starts p (spell ps) r (subst (λ t. IsInPlace starts p t) is s), cuts_alone (starts_after starts (bytes_of p)) ps z r c)
