-- One node more among the initialisers.
use Rattle.std.proofs.Common.{◌≡◌, ℕ, zero, suc, ◌+◌, ◌<◌, ◌≤◌, List, [], ◌∷◌, length, drop, refl, sym, ap, ◌∙◌, arith}
use Rattle.std.specs.Prelude.{slice_get}
use Rattle.cc_arena.specs.declared.arena.Placed.{Placed}
use Rattle.cc_parts.specs.declared.parts.Parts.{Parts}
use Rattle.cc_points_base.specs.declared.view.Seen.{Seen}
use Rattle.cc_points_view.specs.declared.standing.Standing.{Standing}
use Rattle.cc_points_view.specs.Initialisers.{with_one, with_initialisers}

pub one_more : (parts : Parts) (standings : List Standing) (xs : List Placed) (i j n : ℕ) (nodes new : List Seen) → j ≡ i + 1 → i < length xs
    → new ≡ with_one parts standings n (slice_get xs i) nodes → with_initialisers parts standings (drop j xs) (n + 1) new ≡ with_initialisers parts standings (drop i xs) n nodes
one_more parts standings [] i j n nodes new e lt is = absurd (omega arith)
one_more parts standings (x ∷ xs) zero zero n nodes new e lt is = absurd (omega arith)
one_more parts standings (x ∷ xs) zero (suc zero) n nodes new e lt is = ap (with_initialisers parts standings xs (n + 1)) is
one_more parts standings (x ∷ xs) zero (suc (suc j)) n nodes new e lt is = absurd (omega arith)
one_more parts standings (x ∷ xs) (suc i) zero n nodes new e lt is = absurd (omega arith)
one_more parts standings (x ∷ xs) (suc i) (suc j) n nodes new e lt is = one_more parts standings xs i j n nodes new (omega arith) (omega arith) is

pub all_there : (parts : Parts) (standings : List Standing) (xs : List Placed) (i n : ℕ) (nodes : List Seen) → length xs ≤ i → with_initialisers parts standings (drop i xs) n nodes ≡ nodes
all_there parts standings [] zero n nodes le = refl
all_there parts standings [] (suc i) n nodes le = refl
all_there parts standings (x ∷ xs) zero n nodes le = absurd (omega arith)
all_there parts standings (x ∷ xs) (suc i) n nodes le = all_there parts standings xs i n nodes (omega arith)
