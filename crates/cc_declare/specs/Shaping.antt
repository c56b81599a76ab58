-- What a declarator makes of a type, and what its forms break.
use Rattle.std.specs.Prelude.{ℕ, Bool, false, Option, Some, None, if◌then◌else◌}
use Rattle.cc_symbols.specs.Offences.{lesser}
use Rattle.cc_symbols.specs.declared.offence.Offence.{Offence}
use Rattle.cc_tree_notes.specs.declared.note.Counted.{Counted}
use Rattle.cc_types.specs.declared.shape.TypeId.{TypeId}
use Rattle.cc_declare.specs.Naming.{is_some}
use Rattle.cc_declare.specs.declared.shaped.Shaped.{Shaped}

abbrev pub based : Option TypeId → Shaped
based t = record { kind = t; is_judged = is_some t; fault = None }

abbrev pub with_kind : Shaped → Option TypeId → Shaped
with_kind d t = record d { kind = t }

abbrev pub unjudged : Shaped → Shaped
unjudged d = record { kind = None; is_judged = false; fault = d.fault }

abbrev pub excused_if : Shaped → Bool → Shaped
excused_if d b = if b then record d { fault = None } else d

abbrev pub faulted : Shaped → Counted → ℕ → Shaped
faulted d n r = record d { fault = lesser d.fault (Some (record { spot = n.spot; rule = r })) }

abbrev pub faulted_if : Shaped → Bool → Counted → ℕ → Shaped
faulted_if d b n r = if b then faulted d n r else d

-- what is broken, where the declarator is judged
abbrev pub judged_fault : Shaped → Option Offence
judged_fault d = if d.is_judged then d.fault else None
