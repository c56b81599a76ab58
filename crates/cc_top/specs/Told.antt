-- What a sink was told, and the status that this gives.
use Rattle.std.specs.Prelude.{◌≡◌, ◌⊎◌, ℕ, List, Option}
use Rattle.std.specs.Io.KnownBytes.{append_known}
use Rattle.cc_io.specs.Count.{Rose}
use Rattle.cc_io.specs.Sink.{GrowsByPrefix}
use Rattle.cc_top.specs.Refusal.{memory_line}

-- a sink was told a line, and the status that this gives: a put that fails makes it 4, want of memory 5
abbrev pub Told : (line : List ℕ) (status : ℕ) (old new : Option (List ℕ)) (faults faults' : ℕ) (result : ℕ) → Type 0
Told line status old new faults faults' result =
    ((result ≡ status) × (new ≡ append_known old line))
    ⊎ ((result ≡ 4) × Rose faults faults' × GrowsByPrefix old new line)
    ⊎ ((result ≡ 5) × (new ≡ old))

-- a sink was told a refusal's line, or that memory was wanting
abbrev pub Reported : (line : List ℕ) (status : ℕ) (old new : Option (List ℕ)) (faults faults' : ℕ) (result : ℕ) → Type 0
Reported line status old new faults faults' result = Told line status old new faults faults' result ⊎ Told memory_line 5 old new faults faults' result
