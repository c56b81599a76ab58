-- The limit of depth.
use Rattle.std.specs.Prelude.{ℕ}

-- how deep nodes may stand in a file that is parsed
abbrev pub limit : ℕ
limit = 64
