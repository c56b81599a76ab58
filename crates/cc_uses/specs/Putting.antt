-- What is put at the end of a list, one thing after another.
use Rattle.std.specs.Prelude.{ℕ, ◌+◌, List, [], ◌∷◌}

-- with what each of these puts, the first of which is the n-th
abbrev pub put_from : {X Y : Type 0} → (ℕ → Y → List X → List X) → List Y → ℕ → List X → List X
put_from put [] n out = out
put_from put (y ∷ ys) n out = put_from put ys (n + 1) (put n y out)
