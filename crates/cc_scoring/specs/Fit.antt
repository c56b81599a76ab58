-- What a program and its acts must be like so that a recorder tells exactly what a run exercises.
use Rattle.std.specs.Prelude.{◌≡◌, ◌⊎◌, List, [], ◌∷◌, Bool, true, false, ◌&&◌, nat_lt}
use Rattle.cc_program.specs.declared.file.FileEntry.{FileEntry}
use Rattle.cc_program.specs.declared.program.Program.{Program}
use Rattle.cc_acts.specs.declared.acts.Acts.{Acts}
use Rattle.cc_orderly_laws.specs.Entered.{all_enter}

-- each file is of one of the first 64 components
abbrev pub are_few : List FileEntry → Bool
are_few [] = true
are_few (file ∷ files) = nat_lt file.component.0 64 && are_few files

-- what stands at the entry of each function enters it
abbrev pub are_entered : Acts → Bool
are_entered G = all_enter G.nodes G.entries

-- one of both is not so
abbrev pub IsUnfit : Program → Acts → Type 0
IsUnfit P G = (are_few P.files ≡ false) ⊎ (are_entered G ≡ false)
