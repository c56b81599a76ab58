-- A file that the reading reaches and that is missing or too long is what is refused.
use Rattle.std.proofs.Common.{◌≡◌, ◌≤◌, ℕ, cond, nat_eq, List, [], ◌∷◌, Option, Some, None, IfSome, inl, inr, ⊎_elim, refl, sym, ap, ◌∙◌, arith, subst}
use Rattle.std.specs.Io.KnownBytes.{append_known}
use Rattle.cc_top.proofs.EndFacts.{append_known-nil}
use Rattle.cc_top.specs.Run.{Answers, RefusesReached}
use Rattle.std.proofs.lemmas.Option.{same_Some}
use Rattle.cc_io.specs.Shelf.{Files}
use Rattle.toml.specs.Data.{table}
use Rattle.cc_project.specs.Order.{shape_fault}
use Rattle.cc_project.specs.Project.{Project, project_of}
use Rattle.cc_project.specs.Outcome.{IsFault, IsProject}
use Rattle.cc_project.specs.WellMade.{file_names_of}
use Rattle.cc_project.specs.declared.fault.ProjectFault.TheVariants.{Shape}
use Rattle.cc_top.specs.Words.{devices_words, words_of}
use Rattle.cc_top.specs.declared.words.Task.{Task}
use Rattle.cc_top.specs.declared.words.Task.TheVariants as task
use Rattle.cc_top.specs.declared.work.Work.{Work}
use Rattle.cc_top.proofs.Tells.{devices_no_task, devices_not_generated, no_generated}
use Rattle.cc_top.specs.Answer.{Reply, refused, AfterRead, AfterFiles, OfBytes, OfDeviceBytes, OfDevices, OfFiles, OfProject, IsAnswer, work_of}
use Rattle.cc_top.specs.Holds.{AllHold, Holds}
use Rattle.cc_top.specs.Reads.{IsReached, IsReadBehind, IsReadFor, Reads, Fails, Lacks, Passes}

at_read : (files : Files) (name line : List ℕ) (next : List ℕ → Reply → Type 0) (reply : Reply) → Fails files name line → AfterRead files name next reply → reply ≡ refused line 3
at_read files name line next reply (Lacks is) after = rw is at after
at_read files name line next reply (Passes {bytes = bytes} is long) after =
    ⊎_elim (λ p. p.1) (λ p. absurd (omega (arith, p.0, long))) (rw is at after)

pub past_read : (files : Files) (name bytes : List ℕ) (next : List ℕ → Reply → Type 0) (reply : Reply) → Holds files name bytes → AfterRead files name next reply → next bytes reply
past_read files name bytes next reply held after =
    ⊎_elim (λ p. absurd (omega (arith, p.0, held.1))) (λ p. p.1) (rw held.0 at after)

pub same_checked : (bytes : List ℕ) (p q : Project) → IsProject bytes p → IsProject bytes q → p ≡ q
same_checked bytes p q is is' =
    is.3 ∙ ap (λ d. project_of (table d)) (same_Some _ _ (sym is.1.parsed ∙ is'.1.parsed)) ∙ sym is'.3

not_both : {A : Type 0} (bytes : List ℕ) (project : Project) (key : List ℕ) (rule : ℕ) → IsProject bytes project → IsFault bytes (Shape key rule) → A
not_both bytes project key rule is fault =
    let same = same_Some _ _ (sym is.1.parsed ∙ fault.1.parsed) in
    absurd (let e = sym is.2 ∙ ap (λ d. shape_fault (table d)) same ∙ fault.2 in cc)

pub of_checked : (next : Project → List (List ℕ) → Reply → Type 0) (files : Files) (name bytes : List ℕ) (project : Project) (reply : Reply) → IsProject bytes project
    → OfProject next files name bytes reply → AfterFiles files (file_names_of project.files) (next project) reply
of_checked next files name bytes project reply is (inl p) = absurd (p.0 is.0 is.1)
of_checked next files name bytes project reply is (inr (inl p)) = not_both bytes project p.0 p.1 is p.2
of_checked next files name bytes project reply is (inr (inr p)) =
    subst (λ q. AfterFiles files (file_names_of q.files) (next q) reply) (same_checked bytes p.0 project p.1 is) p.2

-- files that are held lead on
pub past_files : (files : Files) (names contents : List (List ℕ)) (next : List (List ℕ) → Reply → Type 0) (reply : Reply) → AllHold files names contents
    → AfterFiles files names next reply → next contents reply
past_files files [] [] next reply held after = after
past_files files [] (bytes ∷ contents) next reply held after = absurd held
past_files files (name ∷ names) [] next reply held after = absurd held
past_files files (name ∷ names) (bytes ∷ contents) next reply held after =
    past_files files names contents (λ rest. next (bytes ∷ rest)) reply held.1 (past_read files name bytes (λ it. AfterFiles files names (λ rest. next (it ∷ rest))) reply held.0 after)

files_fail : (files : Files) (names : List (List ℕ)) (next : List (List ℕ) → Reply → Type 0) (name line : List ℕ) (reply : Reply) → IsReached files names name → Fails files name line
    → AfterFiles files names next reply → reply ≡ refused line 3
files_fail files [] next name line reply reached fails after = absurd reached
files_fail files (other ∷ others) next name line reply (inl e) fails after =
    at_read files other line (λ bytes. AfterFiles files others (λ rest. next (bytes ∷ rest))) reply (subst (λ n. Fails files n line) e fails) after
files_fail files (other ∷ others) next name line reply (inr r) fails after =
    files_fail files others (λ rest. next (r.0 ∷ rest)) name line reply r.2 fails
    (past_read files other r.0 (λ bytes. AfterFiles files others (λ rest. next (bytes ∷ rest))) reply r.1 after)

-- what leads on from the bytes of a project file, by the project that they say
abbrev After : Type 1
After = List ℕ → Project → List (List ℕ) → Reply → Type 0

abbrev of_bytes : After → Files → List ℕ → List ℕ → Reply → Type 0
of_bytes next files name bytes reply = OfProject (next bytes) files name bytes reply

bytes_fail : (next : After) (files : Files) (project_name name line : List ℕ) (reply : Reply) → IsReadFor files project_name name → Fails files name line
    → AfterRead files project_name (of_bytes next files project_name) reply → reply ≡ refused line 3
bytes_fail next files project_name name line reply reads fails after =
    ⊎_elim (λ e. at_read files project_name line (of_bytes next files project_name) reply (subst (λ n. Fails files n line) e fails) after)
    (λ q.
    let behind = of_checked (next q.0) files project_name q.0 q.1 reply q.3 (past_read files project_name q.0 (of_bytes next files project_name) reply q.2 after) in
    files_fail files (file_names_of q.1.files) (next q.0 q.1) name line reply q.4 fails behind)
    reads

-- what leads on from the file of devices
abbrev devices_after : List ℕ → Files → After
devices_after devices files bytes project contents reply = AfterRead files devices (OfDevices devices project) reply

behind_fails : (files : Files) (project_name devices name line : List ℕ) (reply : Reply) → IsReadBehind files project_name devices name → Fails files name line
    → AfterRead files project_name (OfDeviceBytes devices files project_name) reply → reply ≡ refused line 3
behind_fails files project_name devices name line reply reads fails after =
    let bytes = reads.0 in
    let project = reads.1 in
    let contents = reads.2 in
    let read = past_read files project_name bytes (OfDeviceBytes devices files project_name) reply reads.3 after in
    let behind = of_checked (devices_after devices files bytes) files project_name bytes project reply reads.4 read in
    let last = past_files files (file_names_of project.files) contents (devices_after devices files bytes project) reply reads.5 behind in
    at_read files devices line (OfDevices devices project) reply (subst (λ n. Fails files n line) reads.6 fails) last

-- words that ask for something ask for one thing alone
pub same_name : (t u : Task) (p q : List ℕ) → words_of t p ≡ words_of u q → p ≡ q
same_name t u p q e = cc

-- the first letter of the first word, and the task that it tells
letter : List (List ℕ) → ℕ
letter [] = 0
letter ([] ∷ words) = 0
letter ((a ∷ word) ∷ words) = a

task_at : ℕ → Task
task_at a = cond (nat_eq a 108) task.List (cond (nat_eq a 99) task.Check (cond (nat_eq a 115) task.Score (cond (nat_eq a 116) task.Tests (cond (nat_eq a 112) task.Pairs (cond (nat_eq a 114) task.Reduce task.Order)))))

letter_tells : (t : Task) (name : List ℕ) → task_at (letter (words_of t name)) ≡ t
unfolding letter task_at
letter_tells task.List name = refl
letter_tells task.Check name = refl
letter_tells task.Score name = refl
letter_tells task.Tests name = refl
letter_tells task.Pairs name = refl
letter_tells task.Reduce name = refl
letter_tells task.Order name = refl

pub same_task : (t u : Task) (p q : List ℕ) → words_of t p ≡ words_of u q → t ≡ u
same_task t u p q e = sym (letter_tells t p) ∙ ap (λ words. task_at (letter words)) e ∙ letter_tells u q

-- the answer to words that ask for something
pub asked : (words : List (List ℕ)) (files : Files) (t : Task) (name : List ℕ) (reply : Reply) → words ≡ words_of t name → IsAnswer words files reply
    → AfterRead files name (OfBytes (work_of t) files name) reply
asked words files t name reply is (inl p) = absurd (p.0.0 t name is)
asked words files t name reply is (inr (inl p)) =
    let e : words_of p.0 p.1 ≡ words_of t name = sym p.2 ∙ is in
    let named : AfterRead files name (OfBytes (work_of p.0) files name) reply = subst (λ n. AfterRead files n (OfBytes (work_of p.0) files n) reply) (same_name p.0 t p.1 name e) p.3 in
    subst (λ u. AfterRead files name (OfBytes (work_of u) files name) reply) (same_task p.0 t p.1 name e) named
asked words files t name reply is (inr (inr (inl p))) = absurd (no_generated t name p.0 (sym is ∙ p.2))
asked words files t name reply is (inr (inr (inr p))) = devices_no_task words p.0 p.1 t name p.2 is

same_project : (a b c d : List ℕ) → devices_words a b ≡ devices_words c d → a ≡ c
same_project a b c d e = cc

same_devices : (a b c d : List ℕ) → devices_words a b ≡ devices_words c d → b ≡ d
same_devices a b c d e = cc

-- the answer to words that ask for device couplings
pub devices_asked : (words : List (List ℕ)) (files : Files) (name devices : List ℕ) (reply : Reply) → words ≡ devices_words name devices → IsAnswer words files reply
    → AfterRead files name (OfDeviceBytes devices files name) reply
devices_asked words files name devices reply is (inl p) = absurd (p.0.2 name devices is)
devices_asked words files name devices reply is (inr (inl p)) = devices_no_task words name devices p.0 p.1 is p.2
devices_asked words files name devices reply is (inr (inr (inl p))) = devices_not_generated words name devices p.0 is p.2
devices_asked words files name devices reply is (inr (inr (inr p))) =
    let e : devices_words p.0 p.1 ≡ devices_words name devices = sym p.2 ∙ is in
    let named = subst (λ n. AfterRead files n (OfDeviceBytes p.1 files n) reply) (same_project p.0 p.1 name devices e) p.3 in
    subst (λ d. AfterRead files name (OfDeviceBytes d files name) reply) (same_devices p.0 p.1 name devices e) named

pub reached_fails : (words : List (List ℕ)) (files : Files) (name line : List ℕ) (reply : Reply) → Reads words files name → Fails files name line → IsAnswer words files reply
    → reply ≡ refused line 3
reached_fails words files name line reply (inl reads) fails answer =
    bytes_fail (OfFiles (work_of reads.0) files reads.1) files reads.1 name line reply reads.3 fails (asked words files reads.0 reads.1 reply reads.2 answer)
reached_fails words files name line reply (inr reads) fails answer =
    let after = devices_asked words files reads.0 reads.1 reply reads.2 answer in
    ⊎_elim (λ r. bytes_fail (devices_after reads.1 files) files reads.0 name line reply r fails after) (λ r. behind_fails files reads.0 reads.1 name line reply r fails after) reads.3

-- so a status below 4 is 3, with that line on err and nothing on out
pub reached_answer : (o : Option Files) (words : List (List ℕ)) (out out' err err' : Option (List ℕ)) (result : ℕ) → IfSome o (λ files. Answers words files out out' err err' result)
    → IfSome o (λ files. RefusesReached words files out out' err err' result)
reached_answer None words out out' err err' result answered = tt
reached_answer (Some files) words out out' err err' result answered = λ name line reads fails below.
    let of = answered below in
    let is : of.0 ≡ refused line 3 = reached_fails words files name line of.0 reads fails of.1 in
    (of.2 ∙ ap (λ (r : Reply). r.status) is, of.3 ∙ ap (λ (r : Reply). append_known out r.out) is ∙ sym (append_known-nil out), of.4 ∙ ap (λ (r : Reply). append_known err r.err) is)

-- a status from 4 up is none below 4
pub reached_fault : (o : Option Files) (words : List (List ℕ)) (out out' err err' : Option (List ℕ)) (result : ℕ) → 4 ≤ result
    → IfSome o (λ files. RefusesReached words files out out' err err' result)
reached_fault None words out out' err err' result high = tt
reached_fault (Some files) words out out' err err' result high = λ name line reads fails below. absurd (omega (arith, below, high))
