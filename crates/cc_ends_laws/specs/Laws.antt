-- The machine's runs end.
use Rattle.std.specs.Prelude.{ℕ, ◌+◌, ◌*◌}
use Rattle.cc_meaning.specs.declared.test.Test.{Test}
use Rattle.cc_acts.specs.declared.acts.Acts.{Acts}
use Rattle.cc_ends_laws.specs.Ends.{Ends}
use Rattle.cc_ends_laws.specs.Ranks.{HaveRanks}

-- Where the points of acts have ranks below so many steps for a turn, the run of each test ends: none of its calls
-- takes more than so many steps for each turn of the test, and one more.
abbrev pub RunsEnd : Type 0
RunsEnd = (G : Acts) (steps : ℕ) → HaveRanks G steps → (test : Test) (cells : ℕ) → Ends G test cells (test.turns * steps + 1)
