-- A cut exists where no offset is faulty.
use Rattle.std.proofs.Common.{◌≡◌, ℕ, zero, suc, ◌+◌, ◌≤◌, ◌<◌, Bool, true, List, [], ◌∷◌, ◌++◌, length, length-append, Result, Ok, Err, refl, sym, ap, subst, arith, ◌⊎◌, inl, inr}
use Rattle.cc_lex.specs.Pieces.{Piece, bytes_of, spell, Cuts, starts_after}
use Rattle.cc_lex.specs.Faults.{IsClean, anywhere}
use Rattle.cc_lex.specs.Cut.{IsFaultless}
use Rattle.cc_lex.specs.Reading.{next}
use Rattle.cc_lex.proofs.Next.{next_stands, next_fault}
use Rattle.cc_lex.proofs.Whole.{Stuck, end, fault, starts_append, cuts_spell, front_clean, found_faulty}

-- pieces up to where nothing can be read
pub record Reach (starts : Bool) (text : List ℕ) : Type 0 where
  pub pieces : List Piece
  pub rest : List ℕ
  pub cuts : Cuts starts pieces text rest
  pub stuck : Stuck (starts_after starts (spell pieces)) rest

outcome : (r : Result Piece (ℕ × ℕ)) → ((p : Piece) × (r ≡ Ok p)) ⊎ ((f : ℕ × ℕ) × (r ≡ Err f))
outcome (Ok p) = inl (p, refl)
outcome (Err f) = inr (f, refl)

pub reach : (n : ℕ) (starts : Bool) (text : List ℕ) → length text ≤ n → Reach starts text
reach n starts [] h = record { pieces = []; rest = []; cuts = refl; stuck = end refl }
reach zero starts (b ∷ z) h = absurd (omega arith)
reach (suc n) starts (b ∷ z) h =
    elim (outcome (next starts (b ∷ z))) [
      | inl w ↦
          let g = next_stands starts (b ∷ z) w.0 w.1 in
          let some : 0 < length (bytes_of w.0) = g.some in
          let shorter : length g.rest ≤ n = omega (arith, ap length g.is, length-append (bytes_of w.0) g.rest) in
          let t = reach n (starts_after starts (bytes_of w.0)) g.rest shorter in
          record {
            pieces = w.0 ∷ t.pieces;
            rest = t.rest;
            cuts = (g.rest, g.is, g.right, t.cuts);
            stuck = subst (λ (v : Bool). Stuck v t.rest) (sym (starts_append starts (bytes_of w.0) (spell t.pieces))) t.stuck;
          }
      | inr w ↦ record { pieces = []; rest = b ∷ z; cuts = refl; stuck = fault w.0 w.1 }
    ]

pub pieces_exist : (bytes : List ℕ) → IsFaultless bytes → (ps : List Piece) × Cuts true ps bytes []
pieces_exist bytes sound =
    let r = reach (length bytes) true bytes (omega arith) in
    (r.pieces, to_end bytes sound r.pieces r.rest r.cuts r.stuck)
  where
    to_end : (bytes : List ℕ) → IsFaultless bytes → (ps : List Piece) (rest : List ℕ) → Cuts true ps bytes rest → Stuck (starts_after true (spell ps)) rest → Cuts true ps bytes []
    to_end bytes sound ps rest c (end e) = subst (λ t. Cuts true ps bytes t) e c
    to_end bytes sound ps [] c (fault f e) = c
    to_end bytes sound ps (b ∷ z) c (fault f e) =
        let is : bytes ≡ spell ps ++ b ∷ z = cuts_spell true ps bytes (b ∷ z) c in
        let clean : IsClean (spell ps) = front_clean bytes ps (b ∷ z) c (λ o rule h x. sound o rule (anywhere (omega (arith, ap length is, length-append (spell ps) (b ∷ z))) x)) in
        absurd (sound (length (spell ps) + f.0) f.1 (found_faulty bytes ps (b ∷ z) f c (omega arith) clean (next_fault (starts_after true (spell ps)) (b ∷ z) f (omega arith) e)))
