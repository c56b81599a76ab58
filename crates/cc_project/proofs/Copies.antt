-- Loops that copy a list.
use Rattle.std.proofs.Common.{◌≡◌, ℕ, ◌+◌, ◌<◌, ◌≤◌, List, [], ◌∷◌, ◌++◌, length, map, drop, get_or, ap, sym, ◌∙◌, append_assoc}
use Rattle.std.proofs.lemmas.List.{append-nil}
use Rattle.toml.specs.Data.{Data}
use Rattle.toml.specs.View.{view}
use Rattle.toml.specs.declared.value.Value.{Value}
use Rattle.cc_project.specs.Values.{text_of}
use Rattle.cc_project.specs.Order.{files_of}
use Rattle.cc_project.specs.Project.{files_in, files_from}
use Rattle.cc_project.specs.Views.{all_data, texts_of}
use Rattle.cc_project.specs.declared.project.ProjectFile.{ProjectFile}
use Rattle.cc_project.proofs.Rounds.{data_left, no_data_left}

-- what was copied, one more item, and what is left
pub copied_more : {A : Type 0} (f : Data → A) (k : ℕ) (before after whole : List A) (vs : List Value) (value : Value) → k < length vs → value ≡ get_or vs k value
    → before ++ map f (all_data (drop k vs)) ≡ whole → after ≡ before ++ f (view value) ∷ [] → after ++ map f (all_data (drop (k + 1) vs)) ≡ whole
copied_more f k before after whole vs value below is left grown =
    ap (λ seen. seen ++ map f (all_data (drop (k + 1) vs))) grown
    ∙ append_assoc before (f (view value) ∷ []) (map f (all_data (drop (k + 1) vs)))
    ∙ ap (λ ds. before ++ map f ds) (sym (data_left vs k value below is)) ∙ left

pub copied_all : {A : Type 0} (f : Data → A) (k : ℕ) (before whole : List A) (vs : List Value) → length vs ≤ k → before ++ map f (all_data (drop k vs)) ≡ whole → before ≡ whole
copied_all f k before whole vs past left = sym (append-nil before) ∙ ap (λ ds. before ++ map f ds) (sym (no_data_left vs k past)) ∙ left

-- the files, and one more
abbrev pub one_file : ℕ → List ProjectFile → List ℕ → List ProjectFile
one_file i before text = before ++ record { name = text; component = record { 0 = i } } ∷ []

-- the same for the files of one component
pub files_more : (i k : ℕ) (before after whole : List ProjectFile) (vs : List Value) (value : Value) → k < length vs → value ≡ get_or vs k value
    → before ++ files_in i (texts_of (drop k vs)) ≡ whole → after ≡ before ++ record { name = text_of (view value); component = record { 0 = i } } ∷ []
    → after ++ files_in i (texts_of (drop (k + 1) vs)) ≡ whole
files_more i k before after whole vs value below is left grown =
    ap (λ seen. seen ++ files_in i (texts_of (drop (k + 1) vs))) grown
    ∙ append_assoc before (record { name = text_of (view value); component = record { 0 = i } } ∷ []) (files_in i (texts_of (drop (k + 1) vs)))
    ∙ ap (λ ds. before ++ files_in i (map text_of ds)) (sym (data_left vs k value below is)) ∙ left

pub files_all : (i k : ℕ) (before whole : List ProjectFile) (vs : List Value) → length vs ≤ k → before ++ files_in i (texts_of (drop k vs)) ≡ whole → before ≡ whole
files_all i k before whole vs past left = sym (append-nil before) ∙ ap (λ ds. before ++ files_in i (map text_of ds)) (sym (no_data_left vs k past)) ∙ left

-- the same for the files of components
pub all_files_more : (i : ℕ) (before after whole : List ProjectFile) (vs : List Value) (value : Value) → i < length vs → value ≡ get_or vs i value
    → before ++ files_from i (all_data (drop i vs)) ≡ whole → after ≡ before ++ files_in i (files_of (view value))
    → after ++ files_from (i + 1) (all_data (drop (i + 1) vs)) ≡ whole
all_files_more i before after whole vs value below is left grown =
    ap (λ seen. seen ++ files_from (i + 1) (all_data (drop (i + 1) vs))) grown
    ∙ append_assoc before (files_in i (files_of (view value))) (files_from (i + 1) (all_data (drop (i + 1) vs)))
    ∙ ap (λ ds. before ++ files_from i ds) (sym (data_left vs i value below is)) ∙ left

pub all_files : (i : ℕ) (before whole : List ProjectFile) (vs : List Value) → length vs ≤ i → before ++ files_from i (all_data (drop i vs)) ≡ whole → before ≡ whole
all_files i before whole vs past left = sym (append-nil before) ∙ ap (λ ds. before ++ files_from i ds) (sym (no_data_left vs i past)) ∙ left
