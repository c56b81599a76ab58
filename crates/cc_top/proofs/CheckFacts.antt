-- What is told of the reading of a project's files, and of what is read.
use Rattle.std.proofs.Common.{◌≡◌, ◌≢◌, ◌<◌, ◌≤◌, ◌++◌, ℕ, List, [], ◌∷◌, length, Option, Some, None, IfSome, IfErr, Result, Ok, Err, inl, inr, refl, sym, ap, ◌∙◌, arith, append_assoc, subst}
use Rattle.std.proofs.lemmas.List.{append-nil}
use Rattle.std.specs.FinMap.{get}
use Rattle.cc_io.specs.Shelf.{Files}
use Rattle.cc_first.specs.Limit.{limit}
use Rattle.cc_project.specs.Project.{Project}
use Rattle.cc_project.specs.Outcome.{IsProject}
use Rattle.cc_project.specs.WellMade.{file_names_of}
use Rattle.cc_top.proofs.Tells.{Outcome, after_read, beside_weaker, names_weaker, tells_weaker}
use Rattle.cc_top.specs.Answer.{Reply, AfterRead, AfterFiles, OfBytes, OfFiles, Refuses, refused, reply_of}
use Rattle.cc_top.specs.Refused.{IsRefusal}
use Rattle.cc_top.specs.Holds.{AllHold, AddsHeld}
use Rattle.cc_top.specs.Reads.{Beside, IsIncludedIn, IsReached, MayBeReached}
use Rattle.cc_top.specs.Refusal.{FaultNames, IsOfInput, RefusesOne, RefusesRead, line_of, status_of, missing_line, long_line}
use Rattle.cc_top.specs.Tells.{Tells, IsNamed}
use Rattle.cc_top.specs.declared.work.Work.{Work}
use Rattle.cc_top.specs.declared.refusal.Refusal.{Refusal}
use Rattle.cc_top.specs.declared.refusal.Refusal.TheVariants as why

-- no file adds nothing
pub adds_nothing : (o : Option Files) (old : List (List ℕ)) → IfSome o (λ files. AddsHeld files [] old old)
adds_nothing None old = tt
adds_nothing (Some files) old = ([], sym (append-nil old), tt)

-- a file that is held, and then those of the rest
pub adds_one : (o : Option Files) (name bytes : List ℕ) (names old mid new : List (List ℕ)) → IfSome o (λ files. get files name ≡ Some bytes) → length bytes ≤ limit → mid ≡ old ++ bytes ∷ []
    → IfSome o (λ files. AddsHeld files names mid new) → IfSome o (λ files. AddsHeld files (name ∷ names) old new)
adds_one None name bytes names old mid new held short e rest = tt
adds_one (Some files) name bytes names old mid new held short e rest =
    (bytes ∷ rest.0, rest.1 ∙ ap (λ (l : List (List ℕ)). l ++ rest.0) e ∙ append_assoc old (bytes ∷ []) rest.0, ((held, short), rest.2))

-- the reading of the first file is refused
pub refuses_first : (o : Option Files) (name : List ℕ) (names : List (List ℕ)) (refusal : Refusal) → IfSome o (λ files. RefusesRead files name refusal)
    → IfSome o (λ files. RefusesOne files (name ∷ names) refusal)
refuses_first None name names refusal h = tt
refuses_first (Some files) name names refusal h = inl h

-- the first file is held, and the reading of the rest is refused
pub refuses_rest : (o : Option Files) (name bytes : List ℕ) (names : List (List ℕ)) (r : Result Unit Refusal) → IfSome o (λ files. get files name ≡ Some bytes) → length bytes ≤ limit
    → IfSome o (λ files. IfErr r (RefusesOne files names)) → IfSome o (λ files. IfErr r (RefusesOne files (name ∷ names)))
refuses_rest None name bytes names r held short h = tt
refuses_rest (Some files) name bytes names (Ok x) held short h = tt
refuses_rest (Some files) name bytes names (Err refusal) held short h = inr (bytes, (held, short), h)

-- files that are held lead on
leads_on : (files : Files) (names contents : List (List ℕ)) (next : List (List ℕ) → Reply → Type 0) (reply : Reply) → AllHold files names contents → next contents reply
    → AfterFiles files names next reply
leads_on files [] [] next reply held h = h
leads_on files [] (bytes ∷ contents) next reply held h = absurd held
leads_on files (name ∷ names) [] next reply held h = absurd held
leads_on files (name ∷ names) (bytes ∷ contents) next reply held h =
    after_read files name bytes (λ it. AfterFiles files names (λ rest. next (it ∷ rest))) reply held.0.0 held.0.1 (leads_on files names contents (λ rest. next (bytes ∷ rest)) reply held.1 h)

-- what is told of the files' bytes is told of their reading
pub files_led : (o : Option Files) (names contents : List (List ℕ)) (next : Files → List (List ℕ) → Reply → Type 0) (r : Outcome)
    → IfSome o (λ files. AddsHeld files names [] contents) → IfSome o (λ files. Tells (next files contents) r) → IfSome o (λ files. Tells (AfterFiles files names (next files)) r)
files_led None names contents next r adds h = tt
files_led (Some files) names contents next r adds h =
    let held : AllHold files names contents = subst (AllHold files names) (sym adds.1) adds.2 in
    tells_weaker (next files contents) (AfterFiles files names (next files)) (λ reply of. leads_on files names contents (next files) reply held of) r h

read_refused : (files : Files) (name : List ℕ) (next : List ℕ → Reply → Type 0) (refusal : Refusal) → RefusesRead files name refusal → status_of refusal < 4
    → AfterRead files name next (reply_of refusal)
read_refused files name next (why.Missing told) h below = rw h.1 (ap (λ n. refused (missing_line n) 3) h.0)
read_refused files name next (why.TooLong told) h below = rw h.2 (inl (h.3, ap (λ n. refused (long_line n) 3) h.0))
read_refused files name next (why.ReadFault told) h below = absurd (omega (arith, below))
read_refused files name next why.Memory h below = absurd (omega (arith, below))
read_refused files name next why.Usage h below = absurd h
read_refused files name next (why.TooManyPoints count) h below = absurd h
read_refused files name next why.TooManyFacts h below = absurd h
read_refused files name next why.TooManyRows h below = absurd h
read_refused files name next (why.NotToml told) h below = absurd h
read_refused files name next (why.Shape told key rule) h below = absurd h
read_refused files name next (why.DeviceShape told key rule) h below = absurd h
read_refused files name next (why.At at) h below = absurd h
read_refused files name next (why.Entry told rule) h below = absurd h
read_refused files name next (why.Environment told rule) h below = absurd h
read_refused files name next (why.Test test call rule) h below = absurd h
read_refused files name next why.TooManyNodes h below = absurd h
read_refused files name next (why.NoSuchRow told index) h below = absurd h
read_refused files name next (why.Covered told index row test) h below = absurd h
read_refused files name next (why.Internal what) h below = absurd h

one_refused : (files : Files) (names : List (List ℕ)) (next : List (List ℕ) → Reply → Type 0) (refusal : Refusal) → RefusesOne files names refusal → status_of refusal < 4
    → AfterFiles files names next (reply_of refusal)
one_refused files [] next refusal h below = absurd h
one_refused files (name ∷ names) next refusal (inl h) below = read_refused files name (λ bytes. AfterFiles files names (λ rest. next (bytes ∷ rest))) refusal h below
one_refused files (name ∷ names) next refusal (inr h) below =
    after_read files name h.0 (λ bytes. AfterFiles files names (λ rest. next (bytes ∷ rest))) (reply_of refusal) h.1.0 h.1.1 (one_refused files names (λ rest. next (h.0 ∷ rest)) refusal h.2 below)

-- a refusal of the reading is what the reading gives
pub files_refused : (o : Option Files) (names : List (List ℕ)) (next : Files → List (List ℕ) → Reply → Type 0) (refusal : Refusal) → IfSome o (λ files. RefusesOne files names refusal)
    → IfSome o (λ files. status_of refusal < 4 → AfterFiles files names (next files) (reply_of refusal))
files_refused None names next refusal h = tt
files_refused (Some files) names next refusal h = λ below. one_refused files names (next files) refusal h below

names_read : (files : Files) (name : List ℕ) (refusal : Refusal) → RefusesRead files name refusal → FaultNames (λ told. told ≡ name) refusal
names_read files name (why.ReadFault told) h = h
names_read files name (why.Missing told) h = tt
names_read files name (why.TooLong told) h = tt
names_read files name why.Memory h = tt
names_read files name why.Usage h = tt
names_read files name (why.TooManyPoints count) h = tt
names_read files name why.TooManyFacts h = tt
names_read files name why.TooManyRows h = tt
names_read files name (why.NotToml told) h = tt
names_read files name (why.Shape told key rule) h = tt
names_read files name (why.DeviceShape told key rule) h = tt
names_read files name (why.At at) h = tt
names_read files name (why.Entry told rule) h = tt
names_read files name (why.Environment told rule) h = tt
names_read files name (why.Test test call rule) h = tt
names_read files name why.TooManyNodes h = tt
names_read files name (why.NoSuchRow told index) h = tt
names_read files name (why.Covered told index row test) h = tt
names_read files name (why.Internal what) h = tt

names_one : (files : Files) (names : List (List ℕ)) (refusal : Refusal) → RefusesOne files names refusal → FaultNames (IsReached files names) refusal
names_one files [] refusal h = absurd h
names_one files (name ∷ names) refusal (inl h) = names_weaker (λ told. told ≡ name) (IsReached files (name ∷ names)) (λ told e. inl e) (Err refusal) (names_read files name refusal h)
names_one files (name ∷ names) refusal (inr h) =
    names_weaker (IsReached files names) (IsReached files (name ∷ names)) (λ told of. inr (h.0, h.1, of)) (Err refusal) (names_one files names refusal h.2)

-- a read fault names a file that is reached
pub files_named : (o : Option Files) (w : Work) (names : List (List ℕ)) (refusal : Refusal) → IfSome o (λ files. RefusesOne files names refusal)
    → IfSome o (λ files. FaultNames (Beside w (MayBeReached files names)) refusal)
files_named None w names refusal h = tt
files_named (Some files) w names refusal h =
    names_weaker (IsReached files names) (Beside w (MayBeReached files names)) (λ name of. inr (inl of)) (Err refusal) (names_one files names refusal h)

-- a read fault of files that are all held names one that they include
pub included_named : (o : Option Files) (w : Work) (names contents : List (List ℕ)) (r : Outcome) → IfSome o (λ files. AddsHeld files names [] contents)
    → IfSome o (λ files. IfErr r (FaultNames (Beside w (IsIncludedIn files contents)))) → IfSome o (λ files. IfErr r (FaultNames (Beside w (MayBeReached files names))))
included_named None w names contents r adds h = tt
included_named (Some files) w names contents r adds h =
    let held : AllHold files names contents = subst (AllHold files names) (sym adds.1) adds.2 in
    beside_weaker w (IsIncludedIn files contents) (MayBeReached files names) (λ name of. inr (contents, held, of)) r h

-- a refusal of what is read is no reading
pub input_named : (P : List ℕ → Type 0) (refusal : Refusal) → IsOfInput refusal → FaultNames P refusal
input_named P why.Usage h = tt
input_named P (why.ReadFault name) h = absurd h
input_named P (why.Missing name) h = tt
input_named P (why.TooLong name) h = tt
input_named P (why.TooManyPoints count) h = tt
input_named P why.TooManyFacts h = tt
input_named P why.TooManyRows h = tt
input_named P (why.NotToml name) h = tt
input_named P (why.Shape name key rule) h = tt
input_named P (why.DeviceShape name key rule) h = tt
input_named P (why.At at) h = tt
input_named P (why.Entry name rule) h = tt
input_named P (why.Environment name rule) h = tt
input_named P (why.Test test call rule) h = tt
input_named P why.TooManyNodes h = tt
input_named P (why.NoSuchRow told index) h = tt
input_named P (why.Covered told index row test) h = tt
input_named P (why.Internal what) h = tt
input_named P why.Memory h = tt

status_3 : (refusal : Refusal) → status_of refusal ≢ 2 → status_of refusal < 4 → reply_of refusal ≡ refused (line_of refusal) 3
status_3 why.Usage h below = absurd (h refl)
status_3 (why.ReadFault name) h below = absurd (omega (arith, below))
status_3 (why.Missing name) h below = refl
status_3 (why.TooLong name) h below = refl
status_3 (why.TooManyPoints count) h below = refl
status_3 why.TooManyFacts h below = refl
status_3 why.TooManyRows h below = refl
status_3 (why.NotToml name) h below = refl
status_3 (why.Shape name key rule) h below = refl
status_3 (why.DeviceShape name key rule) h below = refl
status_3 (why.At at) h below = refl
status_3 (why.Entry name rule) h below = refl
status_3 (why.Environment name rule) h below = refl
status_3 (why.Test test call rule) h below = refl
status_3 why.TooManyNodes h below = refl
status_3 (why.NoSuchRow told index) h below = refl
status_3 (why.Covered told index row test) h below = refl
status_3 (why.Internal what) h below = refl
status_3 why.Memory h below = absurd (omega (arith, below))

-- a refusal that is meant, and that is not the usage line, is the reply where its status is below 4
pub refuses : (meant refused : Refusal) → status_of refused ≢ 2 → IsRefusal meant refused → status_of refused < 4 → Refuses meant (reply_of refused)
refuses meant refused kind (inl e) below =
    (ap status_of (sym e) ∙ ap (λ (r : Reply). r.status) (status_3 refused kind below), ap reply_of e)
refuses meant refused kind (inr e) below = absurd (omega (arith, subst (λ r. status_of r < 4) e below))

-- what is told of the files is told of the project that names them
pub document_told : (o : Option Files) (w : Work) (name bytes : List ℕ) (project : Project) (r : Outcome) → IsProject bytes project
    → IfSome o (λ files. Tells (AfterFiles files (file_names_of project.files) (OfFiles w files name bytes project)) r) → IfSome o (λ files. Tells (OfBytes w files name bytes) r)
document_told None w name bytes project r is h = tt
document_told (Some files) w name bytes project r is h =
    tells_weaker (AfterFiles files (file_names_of project.files) (OfFiles w files name bytes project)) (OfBytes w files name bytes) (λ reply of. inr (inr (project, is, of))) r h

pub document_named : (o : Option Files) (w : Work) (bytes : List ℕ) (project : Project) (r : Outcome) → IsProject bytes project
    → IfSome o (λ files. IfErr r (FaultNames (Beside w (MayBeReached files (file_names_of project.files))))) → IfSome o (λ files. IfErr r (FaultNames (Beside w (IsNamed files bytes))))
document_named None w bytes project r is h = tt
document_named (Some files) w bytes project r is h =
    beside_weaker w (MayBeReached files (file_names_of project.files)) (IsNamed files bytes) (λ name of. (project, is, of)) r h

-- what is told whatever the files are is told over them
pub some_told : (o : Option Files) (P : Reply → Type 0) (r : Outcome) → Tells P r → IfSome o (λ files. Tells P r)
some_told None P r h = tt
some_told (Some files) P r h = h

-- a read fault of an included file may be one of those and the file of devices
pub included_beside : (o : Option Files) (w : Work) (contents : List (List ℕ)) (r : Outcome) → IfSome o (λ files. IfErr r (FaultNames (IsIncludedIn files contents)))
    → IfSome o (λ files. IfErr r (FaultNames (Beside w (IsIncludedIn files contents))))
included_beside None w contents r h = tt
included_beside (Some files) w contents r h = names_weaker (IsIncludedIn files contents) (Beside w (IsIncludedIn files contents)) (λ name of. inr of) r h
