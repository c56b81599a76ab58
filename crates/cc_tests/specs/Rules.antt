-- The rules on the calls of tests, and which of them fails first.
use Rattle.std.specs.Prelude.{ℕ, ◌+◌, ◌≡◌, ◌==◌, ℤ, Bool, true, false, List, [], ◌∷◌, length, Option, Some, None, if◌then◌else◌}
use Rattle.cc_program.specs.declared.function.FuncId.{FuncId}
use Rattle.cc_program.specs.declared.program.Program.{Program}
use Rattle.cc_program.specs.declared.variable.VarId.{VarId}
use Rattle.cc_project.specs.Project.{Project}
use Rattle.cc_project.specs.declared.project.RawCall.{RawCall}
use Rattle.cc_project.specs.declared.project.RawTest.{RawTest}
use Rattle.cc_tests.specs.declared.fault.TestFault.{TestFault}
use Rattle.cc_tests.specs.declared.fault.TestFault.TheVariants as fault
use Rattle.cc_tests.specs.Entries.{entry_named, formals_of, is_in_range}

-- whether each argument is in the range of its formal
abbrev pub are_in_range : Program → List VarId → List ℤ → Bool
are_in_range program formals [] = true
are_in_range program [] (number ∷ numbers) = true
are_in_range program (formal ∷ formals) (number ∷ numbers) = if is_in_range program formal number then are_in_range program formals numbers else false

-- B2: the entry has as many formals as there are arguments; B3: each argument is in the range of its formal
abbrev pub entry_fault : Program → FuncId → List ℤ → Option ℕ
entry_fault program entry numbers =
    if length (formals_of program entry) == length numbers then (if are_in_range program (formals_of program entry) numbers then None else Some 3) else Some 2

-- B1: the name is that of an entry
abbrev pub named_fault : Program → Option FuncId → List ℤ → Option ℕ
named_fault program (Some entry) numbers = entry_fault program entry numbers
named_fault program None numbers = Some 1

-- the least rule that the call breaks
abbrev pub call_fault : Program → RawCall → Option ℕ
call_fault program call = named_fault program (entry_named program call.entry) call.args

-- the fault of call n, or else what is found behind it
abbrev pub faulty_or : ℕ → Option ℕ → Option (ℕ × ℕ) → Option (ℕ × ℕ)
faulty_or n (Some rule) later = Some (n, rule)
faulty_or n None later = later

-- the first of these calls that breaks a rule, numbered from n on, and the rule
abbrev pub first_fault : Program → ℕ → List RawCall → Option (ℕ × ℕ)
first_fault program n [] = None
first_fault program n (call ∷ calls) = faulty_or n (call_fault program call) (first_fault program (n + 1) calls)

-- the fault of test n, or else what is found behind it
abbrev pub shape_or : ℕ → Option (ℕ × ℕ) → Option TestFault → Option TestFault
shape_or n (Some found) later = Some (fault.Shape n found.0 found.1)
shape_or n None later = later

-- the first of these tests with a call that breaks a rule, numbered from n on
abbrev pub tests_fault : Program → ℕ → List RawTest → Option TestFault
tests_fault program n [] = None
tests_fault program n (test ∷ tests) = shape_or n (first_fault program 0 test.calls) (tests_fault program (n + 1) tests)

-- the first test and call of the project that break one of B1 to B3
abbrev pub test_fault : Program → Project → Option TestFault
test_fault program project = tests_fault program 0 project.tests

-- the fault is that one, or memory was wanting
abbrev pub Reports : Option TestFault → TestFault → Type 0
Reports first (fault.Shape test call rule) = first ≡ Some (fault.Shape test call rule)
Reports first fault.Memory = Unit {0}
