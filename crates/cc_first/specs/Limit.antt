-- How long a file may be.
use Rattle.std.specs.Prelude.{ℕ}

-- the most bytes that a file may have
abbrev pub limit : ℕ
limit = 1048576
