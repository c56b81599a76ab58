-- Facts of the beginnings of lines.
use Rattle.std.proofs.Common.{◌≡◌, ◌<◌, ◌≤◌, ◌+◌, ℕ, List, [], ◌∷◌, length, drop, arith, inl, inr}
use Rattle.std.proofs.lemmas.List.{length-drop}
use Rattle.std.proofs.lemmas.Bool.{cases_Bool}
use Rattle.std.specs.Prelude.{◌==◌}
use Rattle.cc_lex.specs.Bytes.{first, count_front}
use Rattle.cc_prep.specs.Lines.{line_len, blank_count, name_len}

-- a text that begins with `#` has a byte
pub hash_some : (z : List ℕ) → first z ≡ 35 → 0 < length z
hash_some [] e = absurd (omega (arith, e))
hash_some (b ∷ z) e = omega arith

pub hash_within : (z : List ℕ) (n : ℕ) → first (drop n z) ≡ 35 → n + 1 ≤ length z
hash_within z n e = omega (arith, hash_some (drop n z) e, length-drop n z)
