-- What a recorder stands for, of a program that a predicate names.
use Rattle.std.specs.Prelude.{List}
use Rattle.cc_program.specs.declared.program.Program.{Program}
use Rattle.cc_meaning.specs.declared.event.Event.{Event}
use Rattle.cc_record.specs.declared.recorder.Recorder.{Recorder}
use Rattle.cc_record.specs.Recording.{Stands}

-- the recorder stands for the list, of runs of each program that is named
abbrev pub StandsFor : (Program → Type 0) → Recorder → List Event → Type 0
StandsFor named r told = (p : Program) → named p → Stands p r told

-- it stands for some list
abbrev pub IsReady : (Program → Type 0) → Recorder → Type 0
IsReady named r = (told : List Event) × StandsFor named r told
