-- Laws of the answers of the top call.
use Rattle.std.specs.Prelude.{◌≡◌, ◌⊎◌, ℕ, List}
use Rattle.cc_io.specs.Shelf.{Files}
use Rattle.cc_top.specs.Answer.{Reply, IsAnswer}
use Rattle.cc_top.specs.Sound.{IsOfFirstForm}
use Rattle.cc_top.specs.Words.{IsNoCommand, list_words}

-- the words are no command, or they list a project that is of the first form
abbrev pub IsFixed : List (List ℕ) → Files → Type 0
IsFixed words files = IsNoCommand words ⊎ ((name : List ℕ) × (words ≡ list_words name) × IsOfFirstForm files name)

-- such words have at most one answer over the files
abbrev pub OneAnswer : Type 0
OneAnswer = (words : List (List ℕ)) (files : Files) (a b : Reply) → IsFixed words files → IsAnswer words files a → IsAnswer words files b → a ≡ b
