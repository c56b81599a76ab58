-- What is told of a generated project.
use Rattle.std.proofs.Common.{◌≢◌, ◌<◌, ℕ, Ok, Err, inl, inr, refl}
use Rattle.cc_gen.specs.Generated.{generated}
use Rattle.cc_reports.specs.declared.kinds.Report.TheVariants.{Summary}
use Rattle.cc_top.proofs.Tells.{Outcome}
use Rattle.cc_top.specs.Answer.{AfterRead, OfBytes, OfGenerated, Reply, generated_name, reply_of}
use Rattle.cc_top.specs.Refusal.{IsOfInput, of_generated, status_of}
use Rattle.cc_top.specs.Tells.{Tells}
use Rattle.cc_top.specs.declared.refusal.Refusal.{Refusal}
use Rattle.cc_top.specs.declared.refusal.Refusal.TheVariants as why
use Rattle.cc_top.specs.declared.work.Work.TheVariants as work

-- what is answered for the files of the generated project
abbrev pub OverFiles : ℕ → Reply → Type 0
OverFiles n = AfterRead (generated n) generated_name (OfBytes (work.Report (Summary n)) (generated n) generated_name)

-- a text is the answer
pub text_told : (n : ℕ) (r : Outcome) → Tells (OverFiles n) r → Tells (OfGenerated n) r
text_told n (Ok output) h = inl h
text_told n (Err refusal) h = λ below. inl (h below)

-- a refusal of status 2 doesn't come, and one to read is made another one
pub refusal_input : (refusal : Refusal) → status_of refusal ≢ 2 → IsOfInput (of_generated refusal)
refusal_input why.Usage kind = absurd (kind refl)
refusal_input (why.ReadFault told) kind = tt
refusal_input (why.Missing told) kind = tt
refusal_input (why.TooLong told) kind = tt
refusal_input (why.NotToml told) kind = tt
refusal_input (why.Shape told key rule) kind = tt
refusal_input (why.DeviceShape told key rule) kind = tt
refusal_input (why.At at) kind = tt
refusal_input (why.Entry told rule) kind = tt
refusal_input (why.Environment told rule) kind = tt
refusal_input (why.Test test call rule) kind = tt
refusal_input why.TooManyNodes kind = tt
refusal_input (why.TooManyPoints count) kind = tt
refusal_input why.TooManyFacts kind = tt
refusal_input why.TooManyRows kind = tt
refusal_input (why.NoSuchRow told index) kind = tt
refusal_input (why.Covered told index row test) kind = tt
refusal_input (why.Internal what) kind = tt
refusal_input why.Memory kind = tt

pub refusal_told : (n : ℕ) (refusal : Refusal) → status_of refusal ≢ 2 → (status_of refusal < 4 → OverFiles n (reply_of refusal))
    → status_of (of_generated refusal) < 4 → OfGenerated n (reply_of (of_generated refusal))
refusal_told n why.Usage kind h below = absurd (kind refl)
refusal_told n (why.ReadFault told) kind h below = inr refl
refusal_told n (why.Missing told) kind h below = inr refl
refusal_told n (why.TooLong told) kind h below = inr refl
refusal_told n (why.NotToml told) kind h below = inl (h below)
refusal_told n (why.Shape told key rule) kind h below = inl (h below)
refusal_told n (why.DeviceShape told key rule) kind h below = inl (h below)
refusal_told n (why.At at) kind h below = inl (h below)
refusal_told n (why.Entry told rule) kind h below = inl (h below)
refusal_told n (why.Environment told rule) kind h below = inl (h below)
refusal_told n (why.Test test call rule) kind h below = inl (h below)
refusal_told n why.TooManyNodes kind h below = inl (h below)
refusal_told n (why.TooManyPoints count) kind h below = inl (h below)
refusal_told n why.TooManyFacts kind h below = inl (h below)
refusal_told n why.TooManyRows kind h below = inl (h below)
refusal_told n (why.NoSuchRow told index) kind h below = inl (h below)
refusal_told n (why.Covered told index row test) kind h below = inl (h below)
refusal_told n (why.Internal what) kind h below = inl (h below)
refusal_told n why.Memory kind h below = inl (h below)
