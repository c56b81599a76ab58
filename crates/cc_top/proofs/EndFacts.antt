-- What stands after a put.
use Rattle.std.specs.Prelude.{Bool, true, false}
use Rattle.std.proofs.Common.{◌≤◌, ◌⊎◌, ◌<◌, IfSome, inl, inr, arith, ◌≡◌, ℕ, List, length, [], Option, Some, None, OnOk, IsErrOf, Result, Ok, Err, refl, sym, ap, ◌∙◌}
use Rattle.std.specs.Io.KnownBytes.{append_known}
use Rattle.std.proofs.lemmas.List.{append-nil}
use Rattle.std.proofs.Math.Seq.{take-length}
use Rattle.cc_io.specs.Count.{Rose}
use Rattle.cc_io.specs.Shelf.{Files}
use Rattle.cc_io.specs.Sink.{GrowsByPrefix}
use Rattle.cc_io.specs.declared.sink.SinkFault.{SinkFault}
use Rattle.cc_io.specs.declared.sink.SinkFault.TheVariants.{Failed, Memory}
use Rattle.cc_top.specs.Counts.{Counts}
use Rattle.cc_top.specs.Run.{Answers, SomeEnd}
use Rattle.cc_top.specs.Answer.{IsAnswer, made, reply_of, status_when}
use Rattle.cc_top.specs.Reads.{MayRead}
use Rattle.cc_top.specs.Refusal.{line_of, status_of, FaultNames, IsReadFault}
use Rattle.cc_top.specs.Tells.{EndTells}
use Rattle.cc_top.specs.Ends.{done, refused, write_fault, memory, write_line, Held, EndCaused}
use Rattle.cc_top.specs.Told.{Told, Reported}
use Rattle.cc_top.specs.declared.output.Output.{Output}
use Rattle.cc_top.specs.declared.refusal.Refusal.{Refusal}
use Rattle.cc_top.specs.declared.refusal.Refusal.TheVariants as why

pub append_known-nil : (o : Option (List ℕ)) → o ≡ append_known o []
append_known-nil None = refl
append_known-nil (Some xs) = ap Some (sym (append-nil xs))

-- whatever a put answers, what is held grows by a prefix
pub prefix_of_put : {T : Type 0} (old new : Option (List ℕ)) (line : List ℕ) (r : Result T SinkFault) → OnOk r (new ≡ append_known old line)
    → (IsErrOf r Failed → GrowsByPrefix old new line) → (IsErrOf r Memory → new ≡ old) → GrowsByPrefix old new line
prefix_of_put old new line (Ok x) ok failed kept = (length line, ok ∙ ap (append_known old) (sym (take-length line)))
prefix_of_put old new line (Err Failed) ok failed kept = failed refl
prefix_of_put old new line (Err Memory) ok failed kept = (0, kept refl ∙ append_known-nil old)

pub answered_report : (o : Option Files) (words : List (List ℕ)) (refusal : Refusal) (out err err' : Option (List ℕ)) (faults faults' result : ℕ)
    → IfSome o (λ files. status_of refusal < 4 → IsAnswer words files (reply_of refusal)) → Reported (line_of refusal) (status_of refusal) err err' faults faults' result
    → IfSome o (λ files. Answers words files out out err err' result)
answered_report None words refusal out err err' faults faults' result told reported = tt
answered_report (Some files) words refusal out err err' faults faults' result told reported = λ below.
    elim reported [
      | inl first ↦ elim first [
        | inl whole ↦ (reply_of refusal, told (omega (arith, whole.0)), whole.0, append_known-nil out, whole.1)
        | inr less ↦ elim less [ inl part ↦ absurd (omega (arith, part.0)) | inr none ↦ absurd (omega (arith, none.0)) ]
      ]
      | inr second ↦ elim second [
        | inl whole ↦ absurd (omega (arith, whole.0))
        | inr less ↦ elim less [ inl part ↦ absurd (omega (arith, part.0)) | inr none ↦ absurd (omega (arith, none.0)) ]
      ]
    ]

pub answered_output : (o : Option Files) (words : List (List ℕ)) (output : Output) (out out' err : Option (List ℕ)) (result : ℕ) → result ≡ status_when output.is_met
    → IfSome o (λ files. IsAnswer words files (made output.text.items output.is_met)) → out' ≡ append_known out output.text.items → IfSome o (λ files. Answers words files out out' err err result)
answered_output None words output out out' err result status told put = tt
answered_output (Some files) words output out out' err result status told put = λ below. (made output.text.items output.is_met, told, status, put, append_known-nil err)

-- the status of a text is at most 1
pub status_is_low : (is_met : Bool) → status_when is_met ≤ 1
status_is_low true = omega arith
status_is_low false = omega arith

nothing_told : (o : Option Files) (words : List (List ℕ)) → IfSome o (λ files. EndTells (IsAnswer words files) memory)
nothing_told None words = tt
nothing_told (Some files) words = tt

pub end_of_report : (o : Option Files) (words : List (List ℕ)) (refusal : Refusal) (out err err' : Held) (shelf shelf' : Counts) (result : ℕ)
    → IfSome o (λ files. status_of refusal < 4 → IsAnswer words files (reply_of refusal)) → IfSome o (λ files. FaultNames (MayRead words files) refusal) → EndCaused shelf shelf' (refused refusal)
    → Reported (line_of refusal) (status_of refusal) err.bytes err'.bytes err.faults err'.faults result → SomeEnd o words out out err err' shelf shelf' result
end_of_report o words refusal out err err' shelf shelf' result told reads caused reported =
    elim reported [
      | inl first ↦ (refused refusal, record { stands = (refl, first); caused = caused }, told, reads)
      | inr second ↦ (memory, record { stands = (refl, second); caused = tt }, nothing_told o words, nothing_told o words)
    ]

pub end_of_output : (o : Option Files) (words : List (List ℕ)) (output : Output) (out out' err err' : Held) (shelf shelf' : Counts) (result : ℕ) → result ≡ status_when output.is_met
    → IfSome o (λ files. IsAnswer words files (made output.text.items output.is_met)) → out'.bytes ≡ append_known out.bytes output.text.items → err'.bytes ≡ err.bytes
    → SomeEnd o words out out' err err' shelf shelf' result
end_of_output o words output out out' err err' shelf shelf' result status told put same =
    (done output.text.items output.is_met, record { stands = (status, put, same); caused = tt }, told, nothing_told o words)

pub end_of_write_fault : (o : Option Files) (words : List (List ℕ)) (text : List ℕ) (is_met : Bool) (out out' err err' : Held) (shelf shelf' : Counts)
    → IfSome o (λ files. IsAnswer words files (made text is_met)) → Rose out.faults out'.faults → GrowsByPrefix out.bytes out'.bytes text → GrowsByPrefix err.bytes err'.bytes write_line
    → SomeEnd o words out out' err err' shelf shelf' 4
end_of_write_fault o words text is_met out out' err err' shelf shelf' told rose prefix line = (write_fault text is_met, record { stands = (refl, rose, prefix, line); caused = tt }, told, nothing_told o words)

of_status_4 : (refusal : Refusal) → status_of refusal ≡ 4 → IsReadFault refusal
of_status_4 (why.ReadFault name) e = tt
of_status_4 why.Usage e = absurd (omega (arith, e))
of_status_4 (why.Missing name) e = absurd (omega (arith, e))
of_status_4 (why.TooLong name) e = absurd (omega (arith, e))
of_status_4 (why.TooManyPoints count) e = absurd (omega (arith, e))
of_status_4 why.TooManyFacts e = absurd (omega (arith, e))
of_status_4 why.TooManyRows e = absurd (omega (arith, e))
of_status_4 (why.NotToml name) e = absurd (omega (arith, e))
of_status_4 (why.Shape name key rule) e = absurd (omega (arith, e))
of_status_4 (why.DeviceShape name key rule) e = absurd (omega (arith, e))
of_status_4 (why.At at) e = absurd (omega (arith, e))
of_status_4 (why.Entry name rule) e = absurd (omega (arith, e))
of_status_4 (why.Environment name rule) e = absurd (omega (arith, e))
of_status_4 (why.Test test call rule) e = absurd (omega (arith, e))
of_status_4 why.TooManyNodes e = absurd (omega (arith, e))
of_status_4 (why.NoSuchRow told index) e = absurd (omega (arith, e))
of_status_4 (why.Covered told index row test) e = absurd (omega (arith, e))
of_status_4 (why.Internal what) e = absurd (omega (arith, e))
of_status_4 why.Memory e = absurd (omega (arith, e))

-- a status 4 of a report has its count
pub fault_of_report : (refusal : Refusal) (A B : Type 0) (err err' : Option (List ℕ)) (faults faults' result : ℕ) → (IsReadFault refusal → A)
    → Reported (line_of refusal) (status_of refusal) err err' faults faults' result → result ≡ 4 → (A ⊎ B) ⊎ Rose faults faults'
fault_of_report refusal A B err err' faults faults' result rose reported four =
    elim reported [
      | inl first ↦ elim first [
        | inl whole ↦ inl (inl (rose (of_status_4 refusal (sym whole.0 ∙ four))))
        | inr less ↦ elim less [ inl part ↦ inr part.1 | inr none ↦ absurd (omega (arith, none.0)) ]
      ]
      | inr second ↦ elim second [
        | inl whole ↦ absurd (omega (arith, whole.0))
        | inr less ↦ elim less [ inl part ↦ inr part.1 | inr none ↦ absurd (omega (arith, none.0)) ]
      ]
    ]

of_status_2 : (refusal : Refusal) → status_of refusal ≡ 2 → refusal ≡ why.Usage
of_status_2 why.Usage e = refl
of_status_2 (why.ReadFault name) e = absurd (omega (arith, e))
of_status_2 (why.Missing name) e = absurd (omega (arith, e))
of_status_2 (why.TooLong name) e = absurd (omega (arith, e))
of_status_2 (why.TooManyPoints count) e = absurd (omega (arith, e))
of_status_2 why.TooManyFacts e = absurd (omega (arith, e))
of_status_2 why.TooManyRows e = absurd (omega (arith, e))
of_status_2 (why.NotToml name) e = absurd (omega (arith, e))
of_status_2 (why.Shape name key rule) e = absurd (omega (arith, e))
of_status_2 (why.DeviceShape name key rule) e = absurd (omega (arith, e))
of_status_2 (why.At at) e = absurd (omega (arith, e))
of_status_2 (why.Entry name rule) e = absurd (omega (arith, e))
of_status_2 (why.Environment name rule) e = absurd (omega (arith, e))
of_status_2 (why.Test test call rule) e = absurd (omega (arith, e))
of_status_2 why.TooManyNodes e = absurd (omega (arith, e))
of_status_2 (why.NoSuchRow told index) e = absurd (omega (arith, e))
of_status_2 (why.Covered told index row test) e = absurd (omega (arith, e))
of_status_2 (why.Internal what) e = absurd (omega (arith, e))
of_status_2 why.Memory e = absurd (omega (arith, e))

-- a status 2 of a report is that of the usage line
pub usage_of_report : (refusal : Refusal) (N : Type 0) (err err' : Option (List ℕ)) (faults faults' result : ℕ) → (refusal ≡ why.Usage → N)
    → Reported (line_of refusal) (status_of refusal) err err' faults faults' result → result ≡ 2 → N
usage_of_report refusal N err err' faults faults' result usage reported two =
    elim reported [
      | inl first ↦ elim first [
        | inl whole ↦ usage (of_status_2 refusal (sym whole.0 ∙ two))
        | inr less ↦ elim less [ inl part ↦ absurd (omega (arith, part.0, two)) | inr none ↦ absurd (omega (arith, none.0, two)) ]
      ]
      | inr second ↦ elim second [
        | inl whole ↦ absurd (omega (arith, whole.0, two))
        | inr less ↦ elim less [ inl part ↦ absurd (omega (arith, part.0, two)) | inr none ↦ absurd (omega (arith, none.0, two)) ]
      ]
    ]

-- a line whose status isn't 0 leaves none that is
pub told_is_high : (line : List ℕ) (status : ℕ) (old new : Option (List ℕ)) (faults faults' result : ℕ) → 0 < status → Told line status old new faults faults' result → 0 < result
told_is_high line status old new faults faults' result high told =
    elim told [
      | inl whole ↦ omega (arith, whole.0, high)
      | inr less ↦ elim less [ inl part ↦ omega (arith, part.0) | inr none ↦ omega (arith, none.0) ]
    ]
