-- What holds of cuts.
use Rattle.std.proofs.Common.{◌≡◌, ℕ, Bool, true, List, [], ◌∷◌, ◌++◌, length, append_assoc, Contains, refl, sym, ap, ◌∙◌, subst, inl, inr}
use Rattle.cc_base.specs.declared.place.Spot.{Spot}
use Rattle.cc_base.specs.Spots.{start, spot_behind}
use Rattle.cc_lex.specs.declared.token.Token.{Token}
use Rattle.cc_lex.specs.Pieces.{Piece, white, comment, line, token, spell, IsInPlace, Cuts, starts_after}
use Rattle.cc_lex.specs.Cut.{Cut, IsFaultless, StandsAt, tokens_from}
use Rattle.cc_lex.specs.Faults.{IsClean}
use Rattle.cc_lex.proofs.PieceLemmas.{take_front, drop_front}
use Rattle.cc_lex.proofs.FaultLemmas.{contained_cases, contains_none}
use Rattle.cc_lex.proofs.Whole.{one_cut, cut_sound}
use Rattle.cc_lex.proofs.Exists.{pieces_exist}
use Rattle.cc_lex.proofs.Loop.{after_append}
use Rattle.cc_lex.proofs.Prefixes.{cuts_alone}

pub one_token_list : (bytes : List ℕ) (a b : List Token) → Cut bytes a → Cut bytes b → a ≡ b
one_token_list bytes a b c d = c.tokens_are ∙ ap (λ ps. tokens_from start ps) (one_cut bytes c.pieces d.pieces c.cuts d.cuts) ∙ sym d.tokens_are

pub cut_exists : (bytes : List ℕ) → IsFaultless bytes → (tokens : List Token) × Cut bytes tokens
cut_exists bytes f = let r = pieces_exist bytes f in (tokens_from start r.0, record { faultless = f; pieces = r.0; cuts = r.1; tokens_are = refl })

-- The token of a piece that stands behind `done`.
stands_here : (done w r : List ℕ) (t : Token) → IsInPlace true (token w t.kind) r → t.spot ≡ spot_behind start done → StandsAt (done ++ (w ++ r)) (length done) t
stands_here done w r t s e = record {
  spelling = w;
  rest = r;
  there = drop_front done (w ++ r);
  longest = s.0;
  kind_is = s.3;
  spot_is = e ∙ ap (λ d. spot_behind start d) (sym (take_front done (w ++ r)));
}

-- a token behind the first piece stands in the text
moved : (done w z text : List ℕ) (t : Token) → text ≡ w ++ z → (o : ℕ) × StandsAt ((done ++ w) ++ z) o t → (o : ℕ) × StandsAt (done ++ text) o t
moved done w z text t e s = subst (λ u. (o : ℕ) × StandsAt u o t) (append_assoc done w z ∙ ap (λ u. done ++ u) (sym e)) s

spot_moved : (done w : List ℕ) (s : Spot) → s ≡ spot_behind start done → spot_behind s w ≡ spot_behind start (done ++ w)
spot_moved done w s e = ap (λ u. spot_behind u w) e ∙ sym (after_append start done w)

placed : (starts : Bool) (ps : List Piece) (done text : List ℕ) (s : Spot) (t : Token) → Cuts starts ps text [] → s ≡ spot_behind start done → Contains (tokens_from s ps) t → (o : ℕ) × StandsAt (done ++ text) o t
placed starts [] done text s t c e h = absurd (contains_none t h)
placed starts (white w ∷ ps) done text s t (z, is, right, c) e h = moved done w z text t is (placed (starts_after starts w) ps (done ++ w) z (spot_behind s w) t c (spot_moved done w s e) h)
placed starts (comment w ∷ ps) done text s t (z, is, right, c) e h = moved done w z text t is (placed (starts_after starts w) ps (done ++ w) z (spot_behind s w) t c (spot_moved done w s e) h)
placed starts (line w ∷ ps) done text s t (z, is, right, c) e h = moved done w z text t is (placed (starts_after starts w) ps (done ++ w) z (spot_behind s w) t c (spot_moved done w s e) h)
placed starts (token w k ∷ ps) done text s t (z, is, right, c) e h =
    elim (contained_cases (record { kind = k; spot = s }) t (tokens_from (spot_behind s w) ps) h) [
      | inl same ↦
          let k_is : k ≡ t.kind = ap (λ (u : Token). u.kind) same in
          let s_is : s ≡ t.spot = ap (λ (u : Token). u.spot) same in
          (length done, subst (λ u. StandsAt (done ++ u) (length done) t) (sym is) (stands_here done w z t (subst (λ j. IsInPlace true (token w j) z) k_is right) (sym s_is ∙ e)))
      | inr later ↦ moved done w z text t is (placed (starts_after starts w) ps (done ++ w) z (spot_behind s w) t c (spot_moved done w s e) later)
    ]

pub token_placed : (bytes : List ℕ) (tokens : List Token) → Cut bytes tokens → (t : Token) → Contains tokens t → (o : ℕ) × StandsAt bytes o t
token_placed bytes tokens c t h = placed true c.pieces [] bytes start t c.cuts refl (subst (λ ts. Contains ts t) c.tokens_are h)

-- the bytes before the place at which a fault is judged
pub front_cut : (bytes : List ℕ) (ps : List Piece) (rest : List ℕ) → Cuts true ps bytes rest → IsClean (spell ps) → Cut (spell ps) (tokens_from start ps)
front_cut bytes ps rest c clean =
    let alone = cuts_alone true ps bytes rest c in
    record { faultless = cut_sound (spell ps) ps alone clean; pieces = ps; cuts = alone; tokens_are = refl }
