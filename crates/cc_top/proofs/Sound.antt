-- The table of an answer covers every run, by the law on rows that are exactly the couplings.
use Rattle.std.proofs.Common.{◌≡◌, ◌<◌, ◌+◌, ◌++◌, ℕ, zero, suc, List, [], ◌∷◌, length, Option, Some, None, IfSome, inl, inr, refl, sym, ap, ◌∙◌, arith, subst, append_assoc}
use Rattle.std.specs.Prelude.{Contains}
use Rattle.std.specs.Io.KnownBytes.{append_known}
use Rattle.cc_io.specs.Shelf.{Files}
use Rattle.cc_first_runs.specs.Laws.{ListedLeavesNoneOut}
use Rattle.cc_first_runs.specs.Couplings.{Row}
use Rattle.cc_first_runs.specs.Program.{Program, IsSite}
use Rattle.cc_first.specs.Listing.{AreLines, IsListing, header, line}
use Rattle.cc_first.specs.Project.{Project}
use Rattle.cc_first.specs.Unit.{program_of}
use Rattle.cc_first_list.specs.First.{IsFirst}
use Rattle.cc_project.specs.Project.{Project as Checked}
use Rattle.cc_project.specs.WellMade.{file_names_of}
use Rattle.cc_top.specs.Answer.{Reply, refused, OfBytes, OfFiles, OfFirst, OfListed, IsAnswer}
use Rattle.cc_top.specs.Holds.{AllHold, Holds}
use Rattle.cc_top.specs.Sound.{CoversRuns, IsOfFirstForm, Listed}
use Rattle.cc_top.specs.Words.{list_words}
use Rattle.cc_top.specs.declared.words.Task.TheVariants as task
use Rattle.cc_top.specs.declared.work.Work.TheVariants as work
use Rattle.cc_top.specs.Run.{Answers, Covers}
use Rattle.cc_top.proofs.Reached.{asked, of_checked, past_files, past_read}

-- a reply of status 0 is no refusal
not_refused : {A : Type 0} (reply : Reply) (line : List ℕ) (status : ℕ) → 0 < status → reply.status ≡ 0 → reply ≡ refused line status → A
not_refused reply line status high well is = absurd (omega (arith, high, well, ap (λ (r : Reply). r.status) is))

abbrev Table : List (List ℕ) → Files → Reply → Type 0
Table words files reply = (text : List ℕ) × (reply.out ≡ text) × Listed words files text

first_of : (files : Files) (names contents : List (List ℕ)) (name other first second : List ℕ) → names ≡ name ∷ other ∷ [] → contents ≡ first ∷ second ∷ [] → AllHold files names contents
    → Holds files name first × Holds files other second
first_of files names contents name other first second are is held =
    let both = subst (λ n. AllHold files n (first ∷ second ∷ [])) are (subst (AllHold files names) is held) in
    (both.0, both.1.0)

table_of_first : (words : List (List ℕ)) (files : Files) (name bytes : List ℕ) (checked : Checked) (contents : List (List ℕ)) (reply : Reply) → reply.status ≡ 0
    → words ≡ list_words name → Holds files name bytes → AllHold files (file_names_of checked.files) contents
    → (f : IsFirst bytes (file_names_of checked.files) contents) → OfFirst bytes (file_names_of checked.files) contents f reply → Table words files reply
table_of_first words files name bytes checked contents reply well named is_held all_held f (inr p) = not_refused reply _ 3 (omega arith) well p.1
table_of_first words files name bytes checked contents reply well named is_held all_held f (inl p) =
    let both = first_of files (file_names_of checked.files) contents f.project.first.file f.project.second.file f.first f.second f.are_names f.are_contents all_held in (
      p.1,
      ap (λ (r : Reply). r.out) p.3,
      record {
        name = name;
        bytes = bytes;
        project = f.project;
        first = f.first;
        second = f.second;
        parts = f.parts;
        others = f.others;
        entry = f.entry;
        named = named;
        held = is_held;
        is_project = f.is_project;
        first_held = both.0;
        second_held = both.1;
        first_unit = f.first_unit;
        second_unit = f.second_unit;
        linked = f.linked;
        listing = p.2;
      },
    )

table_of_listed : (words : List (List ℕ)) (files : Files) (name bytes : List ℕ) (checked : Checked) (contents : List (List ℕ)) (reply : Reply) → reply.status ≡ 0
    → words ≡ list_words name → Holds files name bytes → AllHold files (file_names_of checked.files) contents → IsFirst bytes (file_names_of checked.files) contents
    → OfListed bytes checked contents reply → Table words files reply
table_of_listed words files name bytes checked contents reply well named is_held all_held first (inl p) =
    table_of_first words files name bytes checked contents reply well named is_held all_held p.0 p.1
table_of_listed words files name bytes checked contents reply well named is_held all_held first (inr p) = absurd (p.0 first)

table_of : (words : List (List ℕ)) (files : Files) (name : List ℕ) (reply : Reply) → words ≡ list_words name → reply.status ≡ 0 → IsOfFirstForm files name → IsAnswer words files reply
    → Table words files reply
table_of words files name reply lists well first answer =
    let bytes = first.0 in
    let checked = first.1 in
    let contents = first.2 in
    let read = past_read files name bytes (OfBytes work.List files name) reply first.3 (asked words files task.List name reply lists answer) in
    let after = of_checked (OfFiles work.List files name bytes) files name bytes checked reply first.4 read in
    let of = past_files files (file_names_of checked.files) contents (OfFiles work.List files name bytes checked) reply first.5 after in
    table_of_listed words files name bytes checked contents reply well lists first.3 first.5 first.6 of

-- the line of a row stands behind the lines of the rows before it, of which the first has this number
record IsLineIn (project : Project) (program : Program) (number : ℕ) (row : Row) (text : List ℕ) : Type 0 where
  pub site : IsSite program row.f row.i row.g
  pub earlier : List Row
  pub before : List ℕ
  pub are_lines : AreLines project program number earlier before
  pub after : List ℕ
  pub stands : text ≡ before ++ (line project (number + length earlier) site.caller site.call site.callee ++ after)

-- a row that is among the rows has its line
line_in : (project : Project) (program : Program) (number : ℕ) (rows : List Row) (text : List ℕ) → AreLines project program number rows text → (row : Row) → Contains rows row
    → IsLineIn project program number row text
line_in project program number [] text lines row (k, lt, e) = absurd (omega (arith, lt))
line_in project program number (r ∷ rows) text lines row (zero, lt, e) =
    let same : number ≡ number + 0 = omega arith in
    subst (λ q. IsLineIn project program number q text) e (record {
      site = lines.0;
      earlier = [];
      before = [];
      are_lines = refl;
      after = lines.1;
      stands = lines.2 ∙ ap (λ n. line project n lines.0.caller lines.0.call lines.0.callee ++ lines.1) same;
    })
line_in project program number (r ∷ rows) text lines row (suc k, lt, e) =
    let own = line project number lines.0.caller lines.0.call lines.0.callee in
    let rest = line_in project program (number + 1) rows lines.1 lines.3 row (k, omega (arith, lt), e) in
    let same : number + 1 + length rest.earlier ≡ number + length (r ∷ rest.earlier) = omega arith in
    let behind : ℕ → List ℕ = λ n. line project n rest.site.caller rest.site.call rest.site.callee ++ rest.after in
    record {
      site = rest.site;
      earlier = r ∷ rest.earlier;
      before = own ++ rest.before;
      are_lines = (lines.0, rest.before, refl, rest.are_lines);
      after = rest.after;
      stands = lines.2 ∙ ap (λ l. own ++ l) rest.stands ∙ sym (append_assoc own rest.before (behind (number + 1 + length rest.earlier))) ∙ ap (λ n. (own ++ rest.before) ++ behind n) same;
    }

-- a table of exactly the couplings covers every run
covers : ListedLeavesNoneOut → (project : Project) (program : Program) (entry : ℕ) (text : List ℕ) → IsListing project program entry text → CoversRuns project program entry text
covers law project program entry text listing = λ calls are turns row exercised.
    let has = law program entry listing.0 listing.1 calls are turns row exercised in
    let its = line_in project program 1 listing.0 listing.2 listing.3 row has in
    record { site = its.site; earlier = its.earlier; before = its.before; are_lines = its.are_lines; after = its.after; stands = listing.4 ∙ ap (λ l. header ++ l) its.stands }

pub sound_answer : ListedLeavesNoneOut → (o : Option Files) (words : List (List ℕ)) (out out' err err' : Option (List ℕ)) (result : ℕ)
    → IfSome o (λ files. Answers words files out out' err err' result) → IfSome o (λ files. Covers words files out out' result)
sound_answer law None words out out' err err' result answered = tt
sound_answer law (Some files) words out out' err err' result answered = λ name lists well first.
    let of = answered (omega (arith, well)) in
    let table = table_of words files name of.0 lists (sym of.2 ∙ well) first of.1 in
    let listed = table.2 in
    (table.0, of.3 ∙ ap (append_known out) table.1, listed, covers law listed.project (program_of listed.parts listed.others) listed.entry table.0 listed.listing)

-- a status that is not 0 covers nothing
pub sound_refusal : (o : Option Files) (words : List (List ℕ)) (out out' : Option (List ℕ)) (result : ℕ) → 0 < result → IfSome o (λ files. Covers words files out out' result)
sound_refusal None words out out' result high = tt
sound_refusal (Some files) words out out' result high = λ name lists well first. absurd (omega (arith, well, high))
