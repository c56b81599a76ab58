-- The words of a command line.
use Rattle.std.specs.Prelude.{◌≡◌, ◌≢◌, ◌≤◌, ◌∷◌, ℕ, List, [], codes}
use Rattle.std.specs.Fmt.{decimal}
use Rattle.cc_top.specs.declared.words.Command.{Command}
use Rattle.cc_top.specs.declared.words.Command.TheVariants as command
use Rattle.cc_top.specs.declared.words.Task.{Task}
use Rattle.cc_top.specs.declared.words.Task.TheVariants as task

-- a word with another one
abbrev pub two_words : List ℕ → List ℕ → List (List ℕ)
two_words word argument = word ∷ argument ∷ []

-- the word that asks for it
abbrev pub word_of : Task → List ℕ
word_of task.List = codes "list"
word_of task.Check = codes "check"
word_of task.Score = codes "score"
word_of task.Tests = codes "tests"
word_of task.Pairs = codes "pairs"
word_of task.Reduce = codes "reduce"
word_of task.Order = codes "order"

-- the words that ask this of a project
abbrev pub words_of : Task → List ℕ → List (List ℕ)
words_of t project = two_words (word_of t) project

-- the words that list a project
abbrev pub list_words : List ℕ → List (List ℕ)
list_words = words_of task.List

abbrev pub gen_word : List ℕ
gen_word = codes "gen"

-- the words that ask for the generated project of n components
abbrev pub gen_words : ℕ → List (List ℕ)
gen_words n = two_words gen_word (decimal n)

-- there is a generated project of n components
abbrev pub IsCount : ℕ → Type 0
IsCount n = (1 ≤ n) × (n ≤ 60)

-- a word with two others
abbrev pub three_words : List ℕ → List ℕ → List ℕ → List (List ℕ)
three_words word first second = word ∷ first ∷ second ∷ []

abbrev pub devices_word : List ℕ
devices_word = codes "devices"

-- the words that ask for the device couplings of a project, by this file of devices
abbrev pub devices_words : (project devices : List ℕ) → List (List ℕ)
devices_words project devices = three_words devices_word project devices

-- the words are no command
abbrev pub IsNoCommand : List (List ℕ) → Type 0
IsNoCommand words =
    ((t : Task) (project : List ℕ) → words ≢ words_of t project)
    × ((n : ℕ) → IsCount n → words ≢ gen_words n)
    × ((project devices : List ℕ) → words ≢ devices_words project devices)

-- the words are this command
abbrev pub IsCommand : List (List ℕ) → Command → Type 0
IsCommand words (command.Project t name) = words ≡ words_of t name.now
IsCommand words (command.Generated n) = IsCount n × (words ≡ gen_words n)
IsCommand words (command.Devices name devices) = words ≡ devices_words name.now devices.now

-- the same of two words
abbrev pub IsNoCommandOf : List ℕ → List ℕ → Type 0
IsNoCommandOf word argument =
    ((t : Task) → word ≢ word_of t)
    × (word ≡ gen_word → (n : ℕ) → IsCount n → argument ≢ decimal n)

abbrev pub IsCommandOf : List ℕ → List ℕ → Command → Type 0
IsCommandOf word argument (command.Project t name) = (word ≡ word_of t) × (argument ≡ name.now)
IsCommandOf word argument (command.Generated n) = (word ≡ gen_word) × IsCount n × (argument ≡ decimal n)
IsCommandOf word argument (command.Devices name devices) = ⊥
