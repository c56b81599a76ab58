-- How a call ends, and what stands on out and err afterwards.
use Rattle.std.specs.Prelude.{◌≡◌, ℕ, List, Bool, Option, codes}
use Rattle.std.specs.Io.KnownBytes.{append_known}
use Rattle.cc_io.specs.Count.{Rose}
use Rattle.cc_io.specs.Sink.{GrowsByPrefix}
use Rattle.cc_top.specs.declared.refusal.Refusal.{Refusal}
use Rattle.cc_top.specs.Answer.{status_when}
use Rattle.cc_top.specs.Counts.{Caused, Counts}
use Rattle.cc_top.specs.Refusal.{line_of, status_of, memory_line}
use Rattle.cc_top.specs.Told.{Told}

pub data End : Type 0 where
  -- out took the text, which may judge criteria
  done : (text : List ℕ) (is_met : Bool) → End
  -- there is no text, for this reason
  refused : Refusal → End
  -- out did not take the text whole
  write_fault : (text : List ℕ) (is_met : Bool) → End
  -- memory was wanting
  memory : End

abbrev pub write_line : List ℕ
write_line = codes "write fault\n"

-- what a sink holds, and how often it failed
pub record Held : Type 0 where
  pub bytes : Option (List ℕ)
  pub faults : ℕ

abbrev pub held_of : (bytes : Option (List ℕ)) (faults : ℕ) → Held
held_of bytes faults = record { bytes = bytes; faults = faults }

-- what stands after each end
abbrev pub EndStands : (out out' err err' : Held) (result : ℕ) → End → Type 0
EndStands out out' err err' result (done text is_met) =
    (result ≡ status_when is_met) × (out'.bytes ≡ append_known out.bytes text) × (err'.bytes ≡ err.bytes)
EndStands out out' err err' result (refused refusal) =
    (out'.bytes ≡ out.bytes) × Told (line_of refusal) (status_of refusal) err.bytes err'.bytes err.faults err'.faults result
EndStands out out' err err' result (write_fault text is_met) =
    (result ≡ 4) × Rose out.faults out'.faults × GrowsByPrefix out.bytes out'.bytes text × GrowsByPrefix err.bytes err'.bytes write_line
EndStands out out' err err' result memory =
    (out'.bytes ≡ out.bytes) × Told memory_line 5 err.bytes err'.bytes err.faults err'.faults result

-- a refusal to read has its count
abbrev pub EndCaused : (old new : Counts) → End → Type 0
EndCaused old new (done text is_met) = Unit {0}
EndCaused old new (refused refusal) = Caused old new refusal
EndCaused old new (write_fault text is_met) = Unit {0}
EndCaused old new memory = Unit {0}

-- the end of a call: what stands, and why
pub record Ends (out out' err err' : Held) (shelf shelf' : Counts) (result : ℕ) (end : End) : Type 0 where
  pub stands : EndStands out out' err err' result end
  pub caused : EndCaused shelf shelf' end
