-- What a contract sees of a sink in memory with a room, whose puts fail where a list says so.
use Rattle.std.specs.Prelude.{ℕ, ◌-◌, List, ◌++◌, length, take, Bool, true, cond, nat_lt}
use Rattle.cc_io.specs.Count.{one_more}
use Rattle.cc_io_memory.specs.Calls.{is_listed}
use Rattle.cc_io_memory.specs.declared.sink.MemorySink.{MemorySink}

-- the bytes that are held and how many fit, how many puts there were and failed, and the numbers of those that are to fail
pub record Vessel : Type 0 where
  pub held : List ℕ
  pub room : ℕ
  pub faults : ℕ
  pub calls : ℕ
  pub fails : List ℕ

abbrev pub vessel_of : MemorySink → Vessel
vessel_of s = record { held = take s.used s.space.items; room = length s.space.items; faults = s.faults; calls = s.calls; fails = s.fails.items }

-- the next put is one of those that are to fail
abbrev pub is_due : Vessel → Bool
is_due v = is_listed v.fails (one_more v.calls)

-- the part of the bytes that fits
abbrev pub part_of : Vessel → List ℕ → List ℕ
part_of v bytes = take (v.room - length v.held) bytes

-- the bytes don't fit
abbrev pub overflows : Vessel → List ℕ → Bool
overflows v bytes = nat_lt (v.room - length v.held) (length bytes)

-- after a put of these bytes: one that is to fail holds nothing of them, and of each other what fits is held
abbrev pub after_put : Vessel → List ℕ → Vessel
after_put v bytes = record {
  held = cond (is_due v) v.held (v.held ++ part_of v bytes);
  room = v.room;
  faults = cond (is_due v) (one_more v.faults) (cond (overflows v bytes) (one_more v.faults) v.faults);
  calls = one_more v.calls;
  fails = v.fails;
}

-- a put of these bytes fails
abbrev pub put_fails : Vessel → List ℕ → Bool
put_fails v bytes = cond (is_due v) true (overflows v bytes)
