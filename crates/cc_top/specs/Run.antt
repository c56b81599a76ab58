-- What the clauses of `run` say, each of what the call found and of what it left: the files under their names, what out
-- and err held before and hold afterwards, and the status.
use Rattle.std.specs.Prelude.{◌≡◌, ◌<◌, ℕ, List, Option, IfSome}
use Rattle.std.specs.Io.KnownBytes.{append_known}
use Rattle.cc_io.specs.Shelf.{Files}
use Rattle.cc_first.specs.Unit.{program_of}
use Rattle.cc_top.specs.Answer.{IsAnswer, Reply}
use Rattle.cc_top.specs.Counts.{Counts}
use Rattle.cc_top.specs.Ends.{End, Ends, Held}
use Rattle.cc_top.specs.Reads.{Fails, MayRead, Reads}
use Rattle.cc_top.specs.Sound.{CoversRuns, IsOfFirstForm, Listed}
use Rattle.cc_top.specs.Tells.{EndReads, EndTells}
use Rattle.cc_top.specs.Words.{list_words}

-- a status below 4 is the answer's, and out and err grew by the answer's bytes
abbrev pub Answers : (words : List (List ℕ)) → Files → (out out' err err' : Option (List ℕ)) (result : ℕ) → Type 0
Answers words files out out' err err' result =
    result < 4 → (reply : Reply) × IsAnswer words files reply × (result ≡ reply.status)
    × (out' ≡ append_known out reply.out) × (err' ≡ append_known err reply.err)

-- a file that the reading reaches and that is missing or too long is what is refused, where the status is below 4
abbrev pub RefusesReached : (words : List (List ℕ)) → Files → (out out' err err' : Option (List ℕ)) (result : ℕ) → Type 0
RefusesReached words files out out' err err' result =
    (name line : List ℕ) → Reads words files name → Fails files name line
    → result < 4 → (result ≡ 3) × (out' ≡ out) × (err' ≡ append_known err line)

-- where the words list a project of the first form and the status is 0, out grew by the table of a program that the files
-- make, and each call coupling that any run of this program exercises, whatever calls of the entry and turns, has its line in it
abbrev pub Covers : (words : List (List ℕ)) → Files → (out out' : Option (List ℕ)) (result : ℕ) → Type 0
Covers words files out out' result =
    (name : List ℕ) → words ≡ list_words name → result ≡ 0 → IsOfFirstForm files name → (text : List ℕ) × (out' ≡ append_known out text) × (listed : Listed words files text)
    × CoversRuns listed.project (program_of listed.parts listed.others) listed.entry text

-- some end says what stands on out and err, and which count rose; over a told shelf its text or refusal is the answer's,
-- and a read fault names a file that may be read
abbrev pub SomeEnd : Option Files → (words : List (List ℕ)) (out out' err err' : Held) (shelf shelf' : Counts) (result : ℕ) → Type 0
SomeEnd files words out out' err err' shelf shelf' result =
    (end : End) × Ends out out' err err' shelf shelf' result end
    × IfSome files (λ files. EndTells (IsAnswer words files) end) × IfSome files (λ files. EndReads (MayRead words files) end)
