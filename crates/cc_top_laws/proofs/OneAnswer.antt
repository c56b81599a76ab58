-- Words that are no command, and those that list a project of the first form, have at most one answer; an entry has at most one
-- number.
use Rattle.std.proofs.Common.{◌≡◌, ◌≢◌, ◌⊎◌, ◌<◌, ◌≤◌, ℕ, zero, suc, List, [], ◌∷◌, Some, inl, inr, ⊎_elim, refl, sym, ap, ◌∙◌, arith, subst}
use Rattle.std.specs.Prelude.{AllPairs, slice_get, slice_index_or}
use Rattle.std.proofs.lemmas.Option.{same_Some, slice_get_within}
use Rattle.std.proofs.lemmas.Bool.{cases_eq}
use Rattle.cc_io.specs.Shelf.{Files}
use Rattle.cc_first_runs.specs.Program.{Function, Program}
use Rattle.cc_first.specs.Linked.{IsWhole, IsEntry, IsLinked, heads_of}
use Rattle.cc_first.specs.Listing.{IsListing}
use Rattle.cc_first.specs.Project.{Project}
use Rattle.cc_first.specs.Unit.{Part, IsUnit, program_of}
use Rattle.cc_first.proofs.OneProject.{same_project}
use Rattle.cc_first_list.proofs.OneUnit.{one_unit}
use Rattle.cc_first_list.specs.First.{IsFirst}
use Rattle.cc_first_list.specs.Points.{points, most_points}
use Rattle.cc_project.specs.WellMade.{file_names_of}
use Rattle.cc_top.proofs.Reached.{asked, of_checked, past_files, past_read}
use Rattle.cc_top.specs.Answer.{Reply, refused, done, OfBytes, OfFiles, OfFirst, OfListed, IsAnswer}
use Rattle.cc_top.specs.Refusal.{points_line, usage_line}
use Rattle.cc_top.specs.Sound.{IsOfFirstForm}
use Rattle.cc_top.specs.Words.{IsNoCommand, list_words}
use Rattle.cc_top.specs.declared.words.Task.TheVariants as task
use Rattle.cc_top.specs.declared.work.Work.TheVariants as work
use Rattle.cc_top_laws.specs.Laws.{IsFixed, OneAnswer}
use Rattle.cc_top_laws.proofs.OneListing.{one_listing}

head_at : (program : Program) (e : ℕ) (function : Function) → slice_get program e ≡ Some function → slice_get (heads_of program) e ≡ Some function.head.text
head_at [] e function h = absurd (let e = h in cc)
head_at (x ∷ xs) zero function h = ap Some (ap (λ (f : Function). f.head.text) (same_Some _ _ h))
head_at (x ∷ xs) (suc e) function h = head_at xs e function h

read_at : (xs : List (List ℕ)) (i : ℕ) (v d : List ℕ) → slice_get xs i ≡ Some v → slice_index_or xs i d ≡ v
read_at [] i v d h = absurd (let e = h in cc)
read_at (x ∷ xs) zero v d h = same_Some _ _ h
read_at (x ∷ xs) (suc i) v d h = read_at xs i v d h

-- no head stands twice
apart : (heads : List (List ℕ)) (i j : ℕ) (name : List ℕ) → AllPairs (λ a b. a ≢ b) heads → slice_get heads i ≡ Some name → slice_get heads j ≡ Some name → i < j → ⊥
apart heads i j name once at_i at_j before =
    once i j name before (slice_get_within heads j name at_j) (read_at heads i name name at_i ∙ sym (read_at heads j name name at_j))

one_entry : (program : Program) (entry : List ℕ) (d e : ℕ) → IsWhole program → IsEntry program entry d → IsEntry program entry e → d ≡ e
one_entry program entry d e whole p q =
    let at_d : slice_get (heads_of program) d ≡ Some entry = head_at program d p.function p.is ∙ ap Some p.named in
    let at_e : slice_get (heads_of program) e ≡ Some entry = head_at program e q.function q.is ∙ ap Some q.named in
    ⊎_elim (λ same. same) (λ ne.
    let below = apart (heads_of program) d e entry whole.once at_d at_e in
    let above = apart (heads_of program) e d entry whole.once at_e at_d in
    absurd (omega (arith, ne, below, above))) (cases_eq d e)

-- what is answered for the program of two files
abbrev OfUnits : Project → List Part → List Part → ℕ → Reply → Type 0
OfUnits project parts others entry reply =
    ((points parts others ≤ most_points) × (text : List ℕ) × IsListing project (program_of parts others) entry text × (reply ≡ done text))
    ⊎ ((most_points < points parts others) × (reply ≡ refused (points_line (points parts others)) 3))

one_of_units : (project : Project) (parts others : List Part) (entry : ℕ) (a b : Reply) → OfUnits project parts others entry a → OfUnits project parts others entry b → a ≡ b
one_of_units project parts others entry a b (inl p) (inl q) =
    p.3 ∙ ap done (one_listing project (program_of parts others) entry p.1 q.1 p.2 q.2) ∙ sym q.3
one_of_units project parts others entry a b (inl p) (inr q) = absurd (omega (arith, p.0, q.0))
one_of_units project parts others entry a b (inr p) (inl q) = absurd (omega (arith, p.0, q.0))
one_of_units project parts others entry a b (inr p) (inr q) = p.1 ∙ sym q.1

same_two : (a b c d : List ℕ) → a ∷ b ∷ [] ≡ c ∷ d ∷ [] → (a ≡ c) × (b ≡ d)
same_two a b c d e = (cc, cc)

-- what is answered for a project of the first form, read in one way, is answered for it in another
moved : (bytes : List ℕ) (names contents : List (List ℕ)) (f g : IsFirst bytes names contents) (reply : Reply) → OfUnits f.project f.parts f.others f.entry reply
    → OfUnits g.project g.parts g.others g.entry reply
moved bytes names contents f g reply of =
    let project : f.project ≡ g.project = same_project f.project g.project (same_Some _ _ (sym f.is_project.document ∙ g.is_project.document)) in
    let both = same_two f.first f.second g.first g.second (sym f.are_contents ∙ g.are_contents) in
    let parts : f.parts ≡ g.parts = one_unit g.first f.parts g.parts (subst (λ b. IsUnit b f.parts) both.0 f.first_unit) g.first_unit in
    let others : f.others ≡ g.others = one_unit g.second f.others g.others (subst (λ b. IsUnit b f.others) both.1 f.second_unit) g.second_unit in
    let linked : IsLinked (program_of g.parts g.others) g.project.entry f.entry =
    subst (λ p. IsLinked (program_of g.parts g.others) p.entry f.entry) project
    (subst (λ o. IsLinked (program_of g.parts o) f.project.entry f.entry) others
    (subst (λ p. IsLinked (program_of p f.others) f.project.entry f.entry) parts f.linked)) in
    let entry : f.entry ≡ g.entry = one_entry (program_of g.parts g.others) g.project.entry f.entry g.entry g.linked.0 linked.1 g.linked.1 in
    subst (λ e. OfUnits g.project g.parts g.others e reply) entry
    (subst (λ p. OfUnits p g.parts g.others f.entry reply) project
    (subst (λ o. OfUnits f.project g.parts o f.entry reply) others
    (subst (λ p. OfUnits f.project p f.others f.entry reply) parts of)))

-- the answer for a project of the first form, in one way to read it
of_first : (files : Files) (name : List ℕ) (first : IsOfFirstForm files name) (reply : Reply) → IsAnswer (list_words name) files reply
    → OfUnits first.6.project first.6.parts first.6.others first.6.entry reply
of_first files name first reply answer =
    let bytes = first.0 in
    let checked = first.1 in
    let contents = first.2 in
    let names = file_names_of checked.files in
    let read = past_read files name bytes (OfBytes work.List files name) reply first.3 (asked (list_words name) files task.List name reply refl answer) in
    let after = of_checked (OfFiles work.List files name bytes) files name bytes checked reply first.4 read in
    let of : OfListed bytes checked contents reply = past_files files names contents (OfFiles work.List files name bytes checked) reply first.5 after in
    ⊎_elim (λ p. moved bytes names contents p.0 first.6 reply p.1) (λ p. absurd (p.0 first.6)) of

one_listed : (files : Files) (name : List ℕ) (a b : Reply) → IsOfFirstForm files name → IsAnswer (list_words name) files a → IsAnswer (list_words name) files b → a ≡ b
one_listed files name a b first x y =
    one_of_units first.6.project first.6.parts first.6.others first.6.entry a b (of_first files name first a x) (of_first files name first b y)

usage : (words : List (List ℕ)) (files : Files) (a : Reply) → IsNoCommand words → IsAnswer words files a → a ≡ refused usage_line 2
usage words files a none (inl p) = p.1
usage words files a none (inr (inl p)) = absurd (none.0 p.0 p.1 p.2)
usage words files a none (inr (inr (inl p))) = absurd (none.1 p.0 p.1 p.2)
usage words files a none (inr (inr (inr p))) = absurd (none.2 p.0 p.1 p.2)

pub one_answer : OneAnswer
one_answer words files a b (inl none) x y = usage words files a none x ∙ sym (usage words files b none y)
one_answer words files a b (inr p) x y =
    one_listed files p.0 a b p.2 (subst (λ w. IsAnswer w files a) p.1 x) (subst (λ w. IsAnswer w files b) p.1 y)
