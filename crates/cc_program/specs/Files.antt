-- Which file a node is of.
use Rattle.std.specs.Prelude.{ℕ, ◌+◌, ◌-◌, ◌^◌, Bool, not, ◌&&◌, nat_lt, if◌then◌else◌, List, [], ◌∷◌}
use Rattle.cc_base.specs.declared.place.FileId.{FileId}
use Rattle.cc_program.specs.declared.file.FileEntry.{FileEntry}

abbrev pub file_number : ℕ → FileId
file_number n = record { 0 = n }

abbrev pub has : FileEntry → ℕ → Bool
has f n = not (nat_lt n f.start) && nat_lt n f.«end»

-- one more, where 2^32 - 1 stands for that many or more
abbrev pub next : ℕ → ℕ
next k = if nat_lt k (2 ^ 32 - 1) then k + 1 else k

-- the first of these files, numbered from k on, that has the node; file 0 where there is none
abbrev pub file_from : ℕ → List FileEntry → ℕ → FileId
file_from k [] n = file_number 0
file_from k (f ∷ fs) n = if has f n then file_number k else file_from (next k) fs n

abbrev pub file_with : List FileEntry → ℕ → FileId
file_with fs n = file_from 0 fs n
