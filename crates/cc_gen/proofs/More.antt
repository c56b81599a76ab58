-- One more function, entry, call, component or file.
use Rattle.std.proofs.Common.{◌≡◌, ℕ, suc, ◌+◌, ◌++◌, ap, arith}
use Rattle.std.specs.FinMap as map
use Rattle.cc_gen.specs.Generated.{functions_text, function_text, entries_text, entry_text, comma, calls_text, call_text, components_text, component_text, files_to, unit_name, unit_text}

pub functions_more : (n i count : ℕ) → functions_text n i (count + 1) ≡ functions_text n i count ++ function_text n i (count + 1)
functions_more n i count = let e : count + 1 ≡ suc count = omega arith in ap (functions_text n i) e

pub entries_more : (count : ℕ) → entries_text (count + 1) ≡ (entries_text count ++ comma count) ++ entry_text (count + 1)
entries_more count = let e : count + 1 ≡ suc count = omega arith in ap entries_text e

pub calls_more : (argument count : ℕ) → calls_text argument (count + 1) ≡ (calls_text argument count ++ comma count) ++ call_text argument (count + 1)
calls_more argument count = let e : count + 1 ≡ suc count = omega arith in ap (calls_text argument) e

pub components_more : (count : ℕ) → components_text (count + 1) ≡ components_text count ++ component_text (count + 1)
components_more count = let e : count + 1 ≡ suc count = omega arith in ap components_text e

pub files_more : (n count : ℕ) → files_to n (count + 1) ≡ map.insert (files_to n count) (unit_name (count + 1)) (unit_text n (count + 1))
files_more n count = let e : count + 1 ≡ suc count = omega arith in ap (files_to n) e
