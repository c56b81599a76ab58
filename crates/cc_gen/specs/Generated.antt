-- The files of a generated project.
use Rattle.std.specs.Prelude.{ℕ, ◌+◌, zero, suc, List, [], ◌++◌, codes, cond, nat_lt}
use Rattle.std.specs.Fmt.{decimal}
use Rattle.std.specs.FinMap as map
use Rattle.cc_io.specs.Shelf.{Files}

-- the variable, and the function, of number j in component i
abbrev pub variable : (i j : ℕ) → List ℕ
variable i j = codes "v" ++ (decimal i ++ (codes "_" ++ decimal j))

abbrev pub function : (i j : ℕ) → List ℕ
function i j = codes "s" ++ (decimal i ++ (codes "_" ++ decimal j))

-- the lines that declare what is called and read, and what is written
abbrev pub external : (variable : List ℕ) → List ℕ
external v = codes "extern int " ++ (v ++ codes ";\n")

abbrev pub declared : (variable : List ℕ) → List ℕ
declared v = codes "int " ++ (v ++ codes ";\n")

abbrev pub prototype : (function : List ℕ) → List ℕ
prototype s = codes "int " ++ (s ++ codes "(int n);\n")

-- the beginning of a function's line: it writes its variable
abbrev pub begun : (function variable : List ℕ) → List ℕ
begun s v = codes "int " ++ (s ++ (codes "(int n) { " ++ (v ++ codes " = n;")))

-- the call of another function, and the read of its variable
abbrev pub calls_on : (function variable : List ℕ) → List ℕ
calls_on s v = codes " if (n > 0) n = " ++ (s ++ (codes "(n - 1) + " ++ (v ++ codes ";")))

abbrev pub ended : List ℕ
ended = codes " return n; }\n"

-- what a file says of the function that it calls, and of its own variable
unfoldable pub declarations : (other own callee : List ℕ) → List ℕ
declarations other own callee = (external other ++ declared own) ++ prototype callee

-- a function that writes its variable, calls another one, and reads that one's variable
unfoldable pub definition : (caller own callee other : List ℕ) → List ℕ
definition caller own callee other = (begun caller own ++ calls_on callee other) ++ ended

-- Function j of component i, where the next component is k: it writes its variable, calls function j of the next
-- component, and reads that one's variable.
abbrev pub calling : (i k j : ℕ) → List ℕ
calling i k j =
    declarations (variable k j) (variable i j) (function k j)
    ++ definition (function i j) (variable i j) (function k j) (variable k j)

-- function j of the last component, i
abbrev pub ending : (i j : ℕ) → List ℕ
ending i j = (declared (variable i j) ++ begun (function i j) (variable i j)) ++ ended

-- function j of component i of n
abbrev pub function_text : (n i j : ℕ) → List ℕ
function_text n i j = cond (nat_lt i n) (calling i (i + 1) j) (ending i j)

-- the first `count` functions of component i of n
abbrev pub functions_text : (n i count : ℕ) → List ℕ
functions_text n i zero = []
functions_text n i (suc count) = functions_text n i count ++ function_text n i (count + 1)

-- the file of component i of n
abbrev pub unit_text : (n i : ℕ) → List ℕ
unit_text n i = functions_text n i 20

abbrev pub unit_name : ℕ → List ℕ
unit_name i = codes "c" ++ (decimal i ++ codes ".c")

-- what stands before one more of a list
abbrev pub comma : (before : ℕ) → List ℕ
comma before = cond (nat_lt 0 before) (codes ", ") []

abbrev pub entry_text : (j : ℕ) → List ℕ
entry_text j = codes "\"s1_" ++ (decimal j ++ codes "\"")

-- the first `count` entries, with commas between
abbrev pub entries_text : (count : ℕ) → List ℕ
entries_text zero = []
entries_text (suc count) = (entries_text count ++ comma count) ++ entry_text (count + 1)

abbrev pub call_text : (argument j : ℕ) → List ℕ
call_text argument j = codes "[\"s1_" ++ (decimal j ++ (codes "\", " ++ (decimal argument ++ codes "]")))

-- calls of the first `count` entries with an argument
abbrev pub calls_text : (argument count : ℕ) → List ℕ
calls_text argument zero = []
calls_text argument (suc count) = (calls_text argument count ++ comma count) ++ call_text argument (count + 1)

-- component i
abbrev pub component_text : (i : ℕ) → List ℕ
component_text i = codes "\n[[component]]\nname = \"C" ++ (decimal i ++ (codes "\"\nfiles = [\"c" ++ (decimal i ++ codes ".c\"]\n")))

abbrev pub components_text : (count : ℕ) → List ℕ
components_text zero = []
components_text (suc count) = components_text count ++ component_text (count + 1)

-- a test that calls all entries with an argument
abbrev pub test_text : (name argument : ℕ) → List ℕ
test_text name argument = codes "\n[[test]]\nname = \"T" ++ (decimal name ++ (codes "\"\nturns = 100000\ncalls = [" ++ (calls_text argument 20 ++ codes "]\n")))

-- the project file of n components
abbrev pub project_text : (n : ℕ) → List ℕ
project_text n =
    ((((codes "format = 1\nentries = [" ++ entries_text 20) ++ codes "]\n") ++ components_text n) ++ test_text 1 0) ++ test_text 2 n

-- the project file, and the files of the first `count` components of n
abbrev pub files_to : (n count : ℕ) → Files
files_to n zero = map.insert map.empty (codes "p.toml") (project_text n)
files_to n (suc count) = map.insert (files_to n count) (unit_name (count + 1)) (unit_text n (count + 1))

-- the files of the project of n components
abbrev pub generated : (n : ℕ) → Files
generated n = files_to n n
