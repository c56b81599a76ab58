-- A turn of the reader's loop.
use Rattle.std.proofs.Common.{◌≡◌, ℕ, ◌+◌, ◌-◌, ◌<◌, Bool, true, List, [], ◌∷◌, ◌++◌, length, take, drop, length-take, length-drop, length-append, Ok, Err, refl, sym, ap, ◌∙◌, subst, arith}
use Rattle.cc_base.specs.declared.place.Spot.{Spot}
use Rattle.cc_base.specs.Spots.{start, next_spot, spot_behind}
use Rattle.cc_lex.specs.declared.step.Step.{Step}
use Rattle.cc_lex.specs.declared.step.Step.TheVariants as step
use Rattle.cc_lex.specs.declared.step.Fault.{Fault}
use Rattle.cc_lex.specs.declared.token.Token.{Token}
use Rattle.cc_lex.specs.Bytes.{first}
use Rattle.cc_lex.specs.Pieces.{Piece, white, comment, line, token, bytes_of, spell, IsInPlace, Cuts, starts_after}
use Rattle.cc_lex.specs.Cut.{tokens_from}
use Rattle.cc_lex.specs.Reading.{next, len_of, piece_of, pair_of, IsMeant, added, IsRead, IsAll, Stopped}
use Rattle.cc_lex.proofs.Next.{next_stands}
use Rattle.cc_lex.proofs.PieceLemmas.{take_drop}
use Rattle.cc_lex.proofs.Whole.{append_left, spell_snoc, starts_append, cuts_snoc, cuts_spell}

pub read_none : (bytes : List ℕ) → IsRead bytes bytes true start []
read_none bytes = record { pieces = []; cuts = refl; starts_is = refl; spot_is = refl; tokens_is = refl }

piece_bytes : (s : Step) (z : List ℕ) → bytes_of (piece_of s z) ≡ take (len_of s) z
piece_bytes (step.White n) z = refl
piece_bytes (step.Comment n) z = refl
piece_bytes (step.Line n) z = refl
piece_bytes (step.Token n) z = refl

meant : (starts : Bool) (s : Step) (z r : List ℕ) → IsInPlace starts (piece_of s z) r → IsMeant s (take (len_of s) z)
meant starts (step.White n) z r h = tt
meant starts (step.Comment n) z r h = tt
meant starts (step.Line n) z r h = tt
meant starts (step.Token n) z r h = (h.0.passes_itself, (first r, h.2))

pub record StepRight (starts : Bool) (s : Step) (z : List ℕ) : Type 0 where
  pub some : 0 < length (take (len_of s) z)
  pub meant_so : IsMeant s (take (len_of s) z)
  pub stands : IsInPlace starts (piece_of s z) (drop (len_of s) z)

pub step_right : (starts : Bool) (s : Step) (z : List ℕ) → next starts z ≡ Ok (piece_of s z) → StepRight starts s z
step_right starts s z e =
    let b = next_stands starts z (piece_of s z) e in
    let is : take (len_of s) z ++ b.rest ≡ z = subst (λ t. t ++ b.rest ≡ z) (piece_bytes s z) (sym b.is) in
    let rest : b.rest ≡ drop (len_of s) z = append_left (take (len_of s) z) b.rest (drop (len_of s) z) (is ∙ take_drop (len_of s) z) in
    record {
      some = subst (λ t. 0 < length t) (piece_bytes s z) b.some;
      meant_so = meant starts s z b.rest b.right;
      stands = subst (λ t. IsInPlace starts (piece_of s z) t) rest b.right;
    }

pub after_append : (s : Spot) (a b : List ℕ) → spot_behind s (a ++ b) ≡ spot_behind (spot_behind s a) b
after_append s [] b = refl
after_append s (x ∷ a) b = after_append (next_spot s x) a b

tokens_snoc : (s : Spot) (ps : List Piece) (p : Piece) → tokens_from s (ps ++ p ∷ []) ≡ tokens_from s ps ++ tokens_from (spot_behind s (spell ps)) (p ∷ [])
tokens_snoc s [] p = refl
tokens_snoc s (white w ∷ ps) p = rw (after_append s w (spell ps)) (tokens_snoc (spot_behind s w) ps p)
tokens_snoc s (comment w ∷ ps) p = rw (after_append s w (spell ps)) (tokens_snoc (spot_behind s w) ps p)
tokens_snoc s (line w ∷ ps) p = rw (after_append s w (spell ps)) (tokens_snoc (spot_behind s w) ps p)
tokens_snoc s (token w k ∷ ps) p = rw (after_append s w (spell ps)) (ap (λ t. record { kind = k; spot = s } ∷ t) (tokens_snoc (spot_behind s w) ps p))

piece_tokens : (s : Step) (z : List ℕ) (o : Spot) → tokens_from o (piece_of s z ∷ []) ≡ added s (take (len_of s) z) o
piece_tokens (step.White n) z o = refl
piece_tokens (step.Comment n) z o = refl
piece_tokens (step.Line n) z o = refl
piece_tokens (step.Token n) z o = refl

pub read_more : (bytes z : List ℕ) (starts : Bool) (spot : Spot) (ts : List Token) (s : Step) → IsRead bytes z starts spot ts → next starts z ≡ Ok (piece_of s z)
    → IsRead bytes (drop (len_of s) z) (starts_after starts (take (len_of s) z)) (spot_behind spot (take (len_of s) z)) (ts ++ added s (take (len_of s) z) spot)
read_more bytes z starts spot ts s r e =
    let w = take (len_of s) z in
    let p = piece_of s z in
    let h = step_right starts s z e in
    let b : bytes_of p ≡ w = piece_bytes s z in
    let text : z ≡ bytes_of p ++ drop (len_of s) z = subst (λ t. z ≡ t ++ drop (len_of s) z) (sym b) (take_drop (len_of s) z) in
    let spelled : spell (r.pieces ++ p ∷ []) ≡ spell r.pieces ++ w = subst (λ t. spell (r.pieces ++ p ∷ []) ≡ spell r.pieces ++ t) b (spell_snoc r.pieces p) in
    record {
      pieces = r.pieces ++ p ∷ [];
      cuts = cuts_snoc true r.pieces bytes p (drop (len_of s) z) (subst (λ t. Cuts true r.pieces bytes t) text r.cuts) (subst (λ (v : Bool). IsInPlace v p (drop (len_of s) z)) r.starts_is h.stands);
      starts_is = rw spelled (ap (λ v. starts_after v w) r.starts_is ∙ sym (starts_append true (spell r.pieces) w));
      spot_is = rw spelled (ap (λ v. spot_behind v w) r.spot_is ∙ sym (after_append start (spell r.pieces) w));
      tokens_is = tokens_end bytes z starts spot ts s r;
    }
  where
    tokens_end : (bytes z : List ℕ) (starts : Bool) (spot : Spot) (ts : List Token) (s : Step) (r : IsRead bytes z starts spot ts)
        → ts ++ added s (take (len_of s) z) spot ≡ tokens_from start (r.pieces ++ piece_of s z ∷ [])
    tokens_end bytes z starts spot ts s r =
        let a = tokens_snoc start r.pieces (piece_of s z) in
        let b = piece_tokens s z (spot_behind start (spell r.pieces)) in
        let c : added s (take (len_of s) z) spot ≡ added s (take (len_of s) z) (spot_behind start (spell r.pieces)) = ap (λ o. added s (take (len_of s) z) o) r.spot_is in
        let d : ts ≡ tokens_from start r.pieces = r.tokens_is in
        ap (λ t. t ++ added s (take (len_of s) z) spot) d ∙ ap (λ t. tokens_from start r.pieces ++ t) (c ∙ sym b) ∙ sym a

pub turn : (bytes z front rest : List ℕ) (len : ℕ) (starts starts2 : Bool) (spot spot2 : Spot) (ts ts2 : List Token) (s : Step) → IsRead bytes z starts spot ts → next starts z ≡ Ok (piece_of s z)
    → len ≡ len_of s → front ≡ take len z → rest ≡ drop len z → starts2 ≡ starts_after starts front → spot2 ≡ spot_behind spot front → ts2 ≡ ts ++ added s front spot → IsRead bytes rest starts2 spot2 ts2
turn bytes z front rest len starts starts2 spot spot2 ts ts2 s r e a b c d f g = rw (c, d, f, g, b, a) (read_more bytes z starts spot ts s r e)

pub step_moves : (starts : Bool) (s : Step) (z rest : List ℕ) (len : ℕ) → next starts z ≡ Ok (piece_of s z) → len ≡ len_of s → rest ≡ drop len z → length rest < length z
step_moves starts s z rest len e a c =
    let h = step_right starts s z e in
    let some : 0 < length (take (len_of s) z) = h.some in
    omega (arith, length-take {A = ℕ}, length-drop {A = ℕ}, ap length c)

-- what is passed and what is left
pub step_lengths : (z front rest : List ℕ) (len : ℕ) → front ≡ take len z → rest ≡ drop len z → length front + length rest ≡ length z
step_lengths z front rest len a c = omega (arith, length-take {A = ℕ}, length-drop {A = ℕ}, ap length a, ap length c)

pub read_stopped : (bytes z : List ℕ) (starts : Bool) (spot : Spot) (ts : List Token) (f : Fault) → IsRead bytes z starts spot ts → 0 < length z → next starts z ≡ Err (pair_of f)
    → Stopped bytes (length bytes - length z + f.at, f.rule)
read_stopped bytes z starts spot ts f r some e =
    let is : bytes ≡ spell r.pieces ++ z = cuts_spell true r.pieces bytes z r.cuts in
    record {
      pieces = r.pieces;
      rest = z;
      fault_there = pair_of f;
      cuts = r.cuts;
      some = some;
      read = subst (λ (v : Bool). next v z ≡ Err (pair_of f)) r.starts_is e;
      place = omega (arith, ap length is, length-append (spell r.pieces) z);
      rule = refl;
    }

pub read_all : (bytes z : List ℕ) (starts : Bool) (spot : Spot) (ts : List Token) → IsRead bytes z starts spot ts → length z ≡ 0 → IsAll bytes ts
read_all bytes [] starts spot ts r e = record { pieces = r.pieces; cuts = r.cuts; tokens_is = r.tokens_is }
read_all bytes (b ∷ z) starts spot ts r e = absurd (omega arith)
