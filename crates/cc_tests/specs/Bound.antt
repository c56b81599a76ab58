-- Tests whose calls are tied to functions of the program.
use Rattle.std.specs.Prelude.{◌≡◌, ℕ, List, map, Option, Some, None}
use Rattle.cc_meaning.specs.declared.test.Test.{Test}
use Rattle.cc_meaning.specs.declared.test.TestCall.{TestCall}
use Rattle.cc_program.specs.declared.function.FuncId.{FuncId}
use Rattle.cc_program.specs.declared.program.Program.{Program}
use Rattle.cc_project.specs.declared.project.RawCall.{RawCall}
use Rattle.cc_project.specs.declared.project.RawTest.{RawTest}
use Rattle.cc_tests.specs.Entries.{entry_named}
use Rattle.cc_tests.specs.Rules.{tests_fault}

abbrev pub number : ℕ → FuncId
number n = record { 0 = n }

abbrev pub or_first : Option FuncId → FuncId
or_first (Some f) = f
or_first None = number 0

-- the entry of this name; where there is none, the first function
abbrev pub entry_of : Program → List ℕ → FuncId
entry_of program name = or_first (entry_named program name)

abbrev pub bound_call : Program → RawCall → TestCall
bound_call program call = record { entry = entry_of program call.entry; args = call.args }

abbrev pub bound_test : Program → RawTest → Test
bound_test program test = record {
  name = test.name;
  calls = map (bound_call program) test.calls;
  answers = test.answers;
  turns = test.turns;
  requirements = test.requirements;
}

-- no call of these tests breaks a rule, and the tests are those with each call tied to the entry that it names
abbrev pub AreBound : Program → List RawTest → List Test → Type 0
AreBound program raw tests = (tests_fault program 0 raw ≡ None) × (tests ≡ map (bound_test program) raw)
