-- Files of the first form, from their parts to the project.
use Rattle.std.proofs.Common.{◌≡◌, ℕ, List, [], ◌∷◌, length, Option, Some, None, Result, Ok, Err, IfOk, IfSome, IfNone, inl, inr, refl, sym, ap, subst, ◌∙◌}
use Rattle.std.specs.declared.alloc.AllocError.{AllocError}
use Rattle.std.proofs.lemmas.Option.{same_Some}
use Rattle.cc_first.specs.Linked.{IsLinked, IsUnlinked}
use Rattle.cc_first.specs.Project.{Project, IsProject}
use Rattle.cc_first.specs.Unit.{Part, IsUnit, program_of}
use Rattle.cc_first.proofs.OneProject.{same_project}
use Rattle.cc_project.specs.WellMade.{file_names_of}
use Rattle.cc_project.specs.declared.project.ProjectFile.{ProjectFile}
use Rattle.cc_first_list.specs.First.{IsFirst, Answers, AnswersFiles, AnswersUnits, AreNone}
use Rattle.cc_first_list.specs.declared.answer.Answer.{Answer}
use Rattle.cc_first_list.proofs.OneUnit.{one_unit}

abbrev pub Outcome : Type 0
Outcome = Result (Option Answer) AllocError

none_of_units : (project : Project) (first second : List ℕ) (parts others : List Part) → IsUnit first parts → IsUnit second others
    → IsUnlinked (program_of parts others) project.entry → AreNone project first second
none_of_units project first second parts others is is' unlinked = λ parts' others' e one two linked.
    let same : parts' ≡ parts = one_unit first parts' parts one is in
    let same' : others' ≡ others = one_unit second others' others two is' in
    let moved = subst (λ p. IsLinked (program_of p others') project.entry e) same linked in
    unlinked e (subst (λ o. IsLinked (program_of parts o) project.entry e) same' moved)

-- where the program of the units is not linked, the files are not of the first form
pub files_none : (project : Project) (first second : List ℕ) (parts others : List Part) (r : Outcome) → IsUnit first parts → IsUnit second others
    → IfOk r (λ read. IfNone read (IsUnlinked (program_of parts others) project.entry)) → IfOk r (λ read. IfNone read (AreNone project first second))
files_none project first second parts others (Ok None) is is' h = none_of_units project first second parts others is is' h
files_none project first second parts others (Ok (Some a)) is is' h = tt
files_none project first second parts others (Err e) is is' h = tt

answers_two : (bytes : List ℕ) (p : Project) (one two first second : List ℕ) (a : Answer) → IsProject bytes p → one ≡ p.first.file → two ≡ p.second.file
    → AnswersFiles p first second a → Answers bytes (one ∷ two ∷ []) (first ∷ second ∷ []) a
answers_two bytes p one two first second a is named named' h = (
  record {
    project = p;
    is_project = is;
    are_names = ap (λ n. n ∷ two ∷ []) named ∙ ap (λ n. p.first.file ∷ n ∷ []) named';
    first = first;
    second = second;
    are_contents = refl;
    parts = h.0;
    others = h.1;
    first_unit = h.2;
    second_unit = h.3;
    entry = h.4.0;
    linked = h.4.1;
  },
  h.4.2,
)

-- what is answered for the files is answered for the project that names them
pub two_some : (bytes : List ℕ) (p : Project) (one two first second : List ℕ) (r : Outcome) → IsProject bytes p → one ≡ p.first.file → two ≡ p.second.file
    → IfOk r (λ read. IfSome read (AnswersFiles p first second)) → IfOk r (λ read. IfSome read (Answers bytes (one ∷ two ∷ []) (first ∷ second ∷ [])))
two_some bytes p one two first second (Ok None) is named named' h = tt
two_some bytes p one two first second (Ok (Some a)) is named named' h = answers_two bytes p one two first second a is named named' h
two_some bytes p one two first second (Err e) is named named' h = tt

same_contents : (a b c d : List ℕ) → a ∷ b ∷ [] ≡ c ∷ d ∷ [] → (a ≡ c) × (b ≡ d)
same_contents a b c d e = (cc, cc)

no_first : (bytes : List ℕ) (p : Project) (names : List (List ℕ)) (first second : List ℕ) → IsProject bytes p → AreNone p first second
    → IsFirst bytes names (first ∷ second ∷ []) → ⊥
no_first bytes p names first second is none f =
    let same : f.project ≡ p = same_project f.project p (same_Some _ _ (sym f.is_project.document ∙ is.document)) in
    let both = same_contents first second f.first f.second f.are_contents in
    let linked = subst (λ q. IsLinked (program_of f.parts f.others) q.entry f.entry) same f.linked in
    none f.parts f.others f.entry (subst (λ b. IsUnit b f.parts) (sym both.0) f.first_unit) (subst (λ b. IsUnit b f.others) (sym both.1) f.second_unit) linked

-- where the files are none of the first form, nor is the project
pub two_none : (bytes : List ℕ) (p : Project) (names : List (List ℕ)) (first second : List ℕ) (r : Outcome) → IsProject bytes p
    → IfOk r (λ read. IfNone read (AreNone p first second)) → IfOk r (λ read. IfNone read (IsFirst bytes names (first ∷ second ∷ []) → ⊥))
two_none bytes p names first second (Ok None) is h = no_first bytes p names first second is h
two_none bytes p names first second (Ok (Some a)) is h = tt
two_none bytes p names first second (Err e) is h = tt

names_same : (a b c d : List ℕ) → a ∷ b ∷ [] ≡ c ∷ d ∷ [] → (a ≡ c) × (b ≡ d)
names_same = same_contents

-- where the files have other names than the project says, it is not of the first form
pub other_names : (bytes : List ℕ) (p : Project) (one two : List ℕ) (contents : List (List ℕ)) → IsProject bytes p → ((one ≡ p.first.file) × (two ≡ p.second.file) → ⊥)
    → IsFirst bytes (one ∷ two ∷ []) contents → ⊥
other_names bytes p one two contents is other f =
    let same : f.project ≡ p = same_project f.project p (same_Some _ _ (sym f.is_project.document ∙ is.document)) in
    let both = names_same one two f.project.first.file f.project.second.file f.are_names in
    other (both.0 ∙ ap (λ (q : Project). q.first.file) same, both.1 ∙ ap (λ (q : Project). q.second.file) same)

map_two : (files : List ProjectFile) (a b : List ℕ) → file_names_of files ≡ a ∷ b ∷ [] → length files ≡ 2
map_two [] a b e = absurd (let f = e in cc)
map_two (x ∷ []) a b e = absurd (let f = e in cc)
map_two (x ∷ y ∷ []) a b e = refl
map_two (x ∷ y ∷ z ∷ rest) a b e = absurd (let f = e in cc)

-- a project of the first form has two files
pub two_files : (bytes : List ℕ) (files : List ProjectFile) (contents : List (List ℕ)) → IsFirst bytes (file_names_of files) contents → length files ≡ 2
two_files bytes files contents f = map_two files f.project.first.file f.project.second.file f.are_names

pub two_contents : (bytes : List ℕ) (names contents : List (List ℕ)) → IsFirst bytes names contents → length contents ≡ 2
two_contents bytes names contents f = ap length f.are_contents
