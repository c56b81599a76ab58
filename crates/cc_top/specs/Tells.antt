-- What a text or a refusal tells of the answer.
use Rattle.std.specs.Prelude.{◌<◌, ℕ, List, Result, Ok, Err, Vec, IfOk, IfErr, true}
use Rattle.std.specs.declared.alloc.Global.{Global}
use Rattle.cc_first_list.specs.declared.answer.Answer.{Answer}
use Rattle.cc_first_list.specs.declared.answer.Answer.TheVariants as answer
use Rattle.cc_io.specs.Shelf.{Files}
use Rattle.cc_listing.specs.Answers.{IsTable, RefusedWhole}
use Rattle.cc_listing.specs.declared.fault.ListFault.{ListFault}
use Rattle.cc_program.specs.declared.program.Program.{Program}
use Rattle.cc_top.specs.Answer.{Reply, made, reply_of}
use Rattle.cc_top.specs.Ends.{End, write_fault, memory}
use Rattle.cc_top.specs.Ends as ends
use Rattle.cc_top.specs.Refusal.{status_of, FaultNames}
use Rattle.cc_project.specs.Project.{Project}
use Rattle.cc_project.specs.Outcome.{IsProject}
use Rattle.cc_project.specs.WellMade.{file_names_of}
use Rattle.cc_top.specs.Reads.{MayBeReached}
use Rattle.cc_top.specs.declared.output.Output.{Output}
use Rattle.cc_top.specs.declared.refusal.Refusal.{Refusal}
use Rattle.cc_top.specs.declared.refusal.Refusal.TheVariants.{TooManyPoints}

-- a text that judges no criterion
abbrev pub plain : Vec ℕ Global → Output
plain text = record { text = text; is_met = true }

-- what is answered for a project of the first form, as a text or a refusal
abbrev pub answered : Answer → Result Output Refusal
answered (answer.Table text) = Ok (plain text)
answered (answer.TooManyPoints count) = Err (TooManyPoints count)

-- a text is the table of a program, and a fault is why it has none
abbrev pub IsListed : Result (Vec ℕ Global) ListFault → Type 0
IsListed list = (P : Program) × IfOk list (λ text. IsTable P text.items) × IfErr list (RefusedWhole P)

-- P holds of the reply that a text stands for, or that a refusal of a status below 4 stands for
abbrev pub Tells : (Reply → Type 0) → Result Output Refusal → Type 0
Tells P (Ok output) = P (made output.text.items output.is_met)
Tells P (Err refusal) = status_of refusal < 4 → P (reply_of refusal)

-- the name is that of a file of the project that the bytes say, and those before it can be had, or of one that is included
abbrev pub IsNamed : Files → List ℕ → List ℕ → Type 0
IsNamed files bytes name = (project : Project) × IsProject bytes project × MayBeReached files (file_names_of project.files) name

-- what an end tells of the answer: the text, whole or in part, and a refusal of a status below 4
abbrev pub EndTells : (Reply → Type 0) → End → Type 0
EndTells P (ends.done text is_met) = P (made text is_met)
EndTells P (ends.refused refusal) = status_of refusal < 4 → P (reply_of refusal)
EndTells P (write_fault text is_met) = P (made text is_met)
EndTells P memory = Unit {0}

-- a read fault names a file of which P holds
abbrev pub EndReads : (List ℕ → Type 0) → End → Type 0
EndReads P (ends.refused refusal) = FaultNames P refusal
EndReads P _ = Unit {0}
