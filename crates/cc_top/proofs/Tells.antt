-- What a text or a refusal tells, from one step to the next.
use Rattle.std.specs.Prelude.{◌↔◌}
use Rattle.std.proofs.Common.{◌≡◌, ◌≢◌, ◌≤◌, ◌∙◌, ℕ, List, length, Option, Some, None, IfSome, IfErr, Result, Ok, Err, inl, inr, ⊎_elim, refl, sym, subst}
use Rattle.std.specs.FinMap.{get}
use Rattle.cc_io.specs.Shelf.{Files}
use Rattle.cc_first.specs.Limit.{limit}
use Rattle.std.specs.Fmt.{decimal}
use Rattle.cc_top.proofs.WordFacts.{two_are_not_three}
use Rattle.cc_top.specs.Words.{IsCount, IsNoCommand, devices_word, devices_words, gen_word, gen_words, word_of, words_of}
use Rattle.cc_top.specs.declared.work.Work.{Work}
use Rattle.cc_top.specs.declared.words.Task.{Task}
use Rattle.cc_top.specs.declared.words.Task.TheVariants as task
use Rattle.cc_top.specs.Answer.{Reply, AfterRead, OfBytes, OfDeviceBytes, OfGenerated, IsAnswer, work_of}
use Rattle.cc_top.specs.Reads.{Beside, IsBeside, MayBeReadFor, MayRead}
use Rattle.cc_top.specs.Refusal.{FaultNames, status_of}
use Rattle.cc_top.specs.Tells.{Tells, IsNamed}
use Rattle.cc_top.specs.declared.output.Output.{Output}
use Rattle.cc_top.specs.declared.refusal.Refusal.TheVariants as why
use Rattle.cc_top.specs.declared.refusal.Refusal.{Refusal}

abbrev pub Outcome : Type 0
Outcome = Result Output Refusal

pub tells_weaker : (P Q : Reply → Type 0) → ((reply : Reply) → P reply → Q reply) → (r : Outcome) → Tells P r → Tells Q r
tells_weaker P Q f (Ok output) h = f _ h
tells_weaker P Q f (Err refusal) h = λ below. f _ (h below)

pub after_read : (files : Files) (name bytes : List ℕ) (next : List ℕ → Reply → Type 0) (reply : Reply) → get files name ≡ Some bytes → length bytes ≤ limit → next bytes reply → AfterRead files name next reply
after_read files name bytes next reply held short h = rw held (inr (short, h))

-- what is told of a file's bytes is told of its reading
pub read_told : (o : Option Files) (name bytes : List ℕ) (next : Files → List ℕ → Reply → Type 0) (r : Outcome) → length bytes ≤ limit
    → IfSome o (λ files. get files name ≡ Some bytes) → IfSome o (λ files. Tells (next files bytes) r) → IfSome o (λ files. Tells (AfterRead files name (next files)) r)
read_told None name bytes next r short held h = tt
read_told (Some files) name bytes next r short held h =
    tells_weaker (next files bytes) (AfterRead files name (next files)) (λ reply of. after_read files name bytes (next files) reply held short of) r h

-- what is told of the project is told of the words that ask for it
pub answer_told : (o : Option Files) (words : List (List ℕ)) (t : Task) (name : List ℕ) (r : Outcome) → words ≡ words_of t name
    → IfSome o (λ files. Tells (AfterRead files name (OfBytes (work_of t) files name)) r) → IfSome o (λ files. Tells (IsAnswer words files) r)
answer_told None words t name r is h = tt
answer_told (Some files) words t name r is h =
    tells_weaker (AfterRead files name (OfBytes (work_of t) files name)) (IsAnswer words files) (λ reply of. inr (inl (t, name, is, of))) r h

-- what is told of the generated project is told of the words that ask for it
pub generated_told : (o : Option Files) (words : List (List ℕ)) (n : ℕ) (r : Outcome) → IsCount n → words ≡ gen_words n → Tells (OfGenerated n) r → IfSome o (λ files. Tells (IsAnswer words files) r)
generated_told None words n r count is h = tt
generated_told (Some files) words n r count is h = tells_weaker (OfGenerated n) (IsAnswer words files) (λ reply of. inr (inr (inl (n, count, is, of)))) r h

-- no task is asked for by the words that ask for a generated project
pub no_generated : (t : Task) (name : List ℕ) (n : ℕ) → words_of t name ≡ gen_words n → ⊥
no_generated task.List name n e = let f = e in cc
no_generated task.Check name n e = let f = e in cc
no_generated task.Score name n e = let f = e in cc
no_generated task.Tests name n e = let f = e in cc
no_generated task.Pairs name n e = let f = e in cc
no_generated task.Reduce name n e = let f = e in cc
no_generated task.Order name n e = let f = e in cc

-- so words that ask for a task ask for no generated project
pub apart : {A : Type 0} (words : List (List ℕ)) (t : Task) (name : List ℕ) (n : ℕ) → words ≡ words_of t name → words ≡ gen_words n → A
apart words t name n is gen = absurd (no_generated t name n (sym is ∙ gen))

-- a refusal of words that ask for something is not the usage line
pub answer_usage : (words : List (List ℕ)) (t : Task) (name : List ℕ) (r : Outcome) → words ≡ words_of t name → IfErr r (λ refusal. status_of refusal ≢ 2) → (r ≡ Err why.Usage) ↔ IsNoCommand words
answer_usage words t name r is kind = (λ e. absurd ((subst (λ (q : Outcome). IfErr q (λ refusal. status_of refusal ≢ 2)) e kind) refl), λ none. absurd (none.0 t name is))

-- nor is a refusal of words that ask for a generated project
pub generated_usage : (words : List (List ℕ)) (n : ℕ) (r : Outcome) → IsCount n → words ≡ gen_words n → IfErr r (λ refusal. status_of refusal ≢ 2) → (r ≡ Err why.Usage) ↔ IsNoCommand words
generated_usage words n r count is kind =
    (λ e. absurd ((subst (λ (q : Outcome). IfErr q (λ refusal. status_of refusal ≢ 2)) e kind) refl), λ none. absurd (none.1 n count is))

pub names_weaker : (P Q : List ℕ → Type 0) → ((name : List ℕ) → P name → Q name) → (r : Outcome) → IfErr r (FaultNames P) → IfErr r (FaultNames Q)
names_weaker P Q f (Ok output) h = tt
names_weaker P Q f (Err (why.ReadFault name)) h = f _ h
names_weaker P Q f (Err why.Usage) h = tt
names_weaker P Q f (Err (why.Missing name)) h = tt
names_weaker P Q f (Err (why.TooLong name)) h = tt
names_weaker P Q f (Err (why.TooManyPoints count)) h = tt
names_weaker P Q f (Err why.TooManyFacts) h = tt
names_weaker P Q f (Err why.TooManyRows) h = tt
names_weaker P Q f (Err (why.NotToml name)) h = tt
names_weaker P Q f (Err (why.Shape name key rule)) h = tt
names_weaker P Q f (Err (why.DeviceShape name key rule)) h = tt
names_weaker P Q f (Err (why.At at)) h = tt
names_weaker P Q f (Err (why.Entry name rule)) h = tt
names_weaker P Q f (Err (why.Environment name rule)) h = tt
names_weaker P Q f (Err (why.Test test call rule)) h = tt
names_weaker P Q f (Err why.TooManyNodes) h = tt
names_weaker P Q f (Err (why.NoSuchRow told index)) h = tt
names_weaker P Q f (Err (why.Covered told index row test)) h = tt
names_weaker P Q f (Err (why.Internal what)) h = tt
names_weaker P Q f (Err why.Memory) h = tt

-- the same of what is read beside
in_beside : (w : Work) (P Q : List ℕ → Type 0) → ((name : List ℕ) → P name → Q name) → (name : List ℕ) → Beside w P name → Beside w Q name
in_beside w P Q f name (inl is) = inl is
in_beside w P Q f name (inr of) = inr (f name of)

pub beside_weaker : (w : Work) (P Q : List ℕ → Type 0) → ((name : List ℕ) → P name → Q name) → (r : Outcome) → IfErr r (FaultNames (Beside w P)) → IfErr r (FaultNames (Beside w Q))
beside_weaker w P Q f r h = names_weaker (Beside w P) (Beside w Q) (in_beside w P Q f) r h

-- a fault at a file of the project names one that is read for it
pub read_names : (o : Option Files) (w : Work) (name bytes : List ℕ) (r : Outcome) → length bytes ≤ limit → IfSome o (λ files. get files name ≡ Some bytes)
    → IfSome o (λ files. IfErr r (FaultNames (Beside w (IsNamed files bytes)))) → IfSome o (λ files. IfErr r (FaultNames (Beside w (MayBeReadFor files name))))
read_names None w name bytes r short held h = tt
read_names (Some files) w name bytes r short held h =
    beside_weaker w (IsNamed files bytes) (MayBeReadFor files name) (λ told of. inr (bytes, of.0, (held, short), of.1, of.2)) r h

-- a fault at the project names it
pub project_names : (o : Option Files) (w : Work) (name : List ℕ) (refusal : Refusal) → FaultNames (λ told. told ≡ name) refusal
    → IfSome o (λ files. FaultNames (Beside w (MayBeReadFor files name)) refusal)
project_names None w name refusal h = tt
project_names (Some files) w name refusal h = names_weaker (λ told. told ≡ name) (Beside w (MayBeReadFor files name)) (λ told e. inr (inl e)) (Err refusal) h

-- for a task nothing is read beside
nothing_beside : (t : Task) (P : List ℕ → Type 0) (name : List ℕ) → Beside (work_of t) P name → P name
nothing_beside task.List P name (inl is) = absurd is
nothing_beside task.Check P name (inl is) = absurd is
nothing_beside task.Score P name (inl is) = absurd is
nothing_beside task.Tests P name (inl is) = absurd is
nothing_beside task.Pairs P name (inl is) = absurd is
nothing_beside task.Reduce P name (inl is) = absurd is
nothing_beside task.Order P name (inl is) = absurd is
nothing_beside t P name (inr of) = of

-- what is read for a project is read for the words that ask for it
pub answer_names : (o : Option Files) (words : List (List ℕ)) (t : Task) (name : List ℕ) (r : Outcome) → words ≡ words_of t name
    → IfSome o (λ files. IfErr r (FaultNames (Beside (work_of t) (MayBeReadFor files name)))) → IfSome o (λ files. IfErr r (FaultNames (MayRead words files)))
answer_names None words t name r is h = tt
answer_names (Some files) words t name r is h =
    names_weaker (Beside (work_of t) (MayBeReadFor files name)) (MayRead words files) (λ told of. inl (t, name, is, nothing_beside t (MayBeReadFor files name) told of)) r h

-- the same of the words that ask for device couplings
pub devices_told : (o : Option Files) (words : List (List ℕ)) (name devices : List ℕ) (r : Outcome) → words ≡ devices_words name devices
    → IfSome o (λ files. Tells (AfterRead files name (OfDeviceBytes devices files name)) r) → IfSome o (λ files. Tells (IsAnswer words files) r)
devices_told None words name devices r is h = tt
devices_told (Some files) words name devices r is h =
    tells_weaker (AfterRead files name (OfDeviceBytes devices files name)) (IsAnswer words files) (λ reply of. inr (inr (inr (name, devices, is, of)))) r h

pub devices_names : (o : Option Files) (words : List (List ℕ)) (w : Work) (name devices : List ℕ) (r : Outcome) → words ≡ devices_words name devices → ((told : List ℕ) → IsBeside w told → told ≡ devices)
    → IfSome o (λ files. IfErr r (FaultNames (Beside w (MayBeReadFor files name)))) → IfSome o (λ files. IfErr r (FaultNames (MayRead words files)))
devices_names None words w name devices r is beside h = tt
devices_names (Some files) words w name devices r is beside h =
    names_weaker (Beside w (MayBeReadFor files name)) (MayRead words files) (λ told of. inr (name, devices, is, ⊎_elim (λ b. inl (beside told b)) (λ m. inr m) of)) r h

pub devices_usage : (words : List (List ℕ)) (name devices : List ℕ) (r : Outcome) → words ≡ devices_words name devices → IfErr r (λ refusal. status_of refusal ≢ 2) → (r ≡ Err why.Usage) ↔ IsNoCommand words
devices_usage words name devices r is kind =
    (λ e. absurd ((subst (λ (q : Outcome). IfErr q (λ refusal. status_of refusal ≢ 2)) e kind) refl), λ none. absurd (none.2 name devices is))

-- words that ask for device couplings ask for no generated project, and for no task
pub devices_not_generated : {A : Type 0} (words : List (List ℕ)) (name devices : List ℕ) (n : ℕ) → words ≡ devices_words name devices → words ≡ gen_words n → A
devices_not_generated words name devices n is gen = two_are_not_three gen_word (decimal n) devices_word name devices (sym gen ∙ is)

pub devices_no_task : {A : Type 0} (words : List (List ℕ)) (name devices : List ℕ) (t : Task) (project : List ℕ) → words ≡ devices_words name devices → words ≡ words_of t project → A
devices_no_task words name devices t project is task = two_are_not_three (word_of t) project devices_word name devices (sym task ∙ is)
