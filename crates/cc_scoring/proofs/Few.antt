-- Components are few where each file is of one of the first 64.
use Rattle.std.proofs.Common.{◌≡◌, ℕ, zero, suc, ◌<◌, List, [], ◌∷◌, true, arith}
use Rattle.std.specs.Prelude.{nat_lt, slice_get}
use Rattle.std.proofs.lemmas.Bool.{and_parts, ltb-true}
use Rattle.cc_program.specs.declared.file.FileEntry.{FileEntry}
use Rattle.cc_program.specs.declared.program.Program.{Program}
use Rattle.cc_program.specs.Programs.{component_or, file_of}
use Rattle.cc_record.specs.Recording.{AreFew}
use Rattle.cc_record.specs.Roles.{roles_of}
use Rattle.cc_scoring.specs.Fit.{are_few}

few_at : (files : List FileEntry) → are_few files ≡ true → (i : ℕ) → (component_or (slice_get files i)).0 < 64
few_at [] e i = omega arith
few_at (file ∷ files) e zero = ltb-true file.component.0 64 (and_parts (nat_lt file.component.0 64) (are_few files) e).0
few_at (file ∷ files) e (suc i) = few_at files (and_parts (nat_lt file.component.0 64) (are_few files) e).1 i

pub few_components : (P : Program) → are_few P.files ≡ true → AreFew (roles_of P)
few_components P e = λ n. few_at P.files e (file_of P n).0
