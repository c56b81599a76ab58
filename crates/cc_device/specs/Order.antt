-- The order of the rules, and the first that fails.
use Rattle.std.specs.Prelude.{ℕ, ◌+◌, List, [], ◌∷◌, ◌++◌, Option, codes}
use Rattle.toml.specs.Data.{Data, get}
use Rattle.cc_project.specs.Order.{Rule, ◌then◌, at, at_each_new, first_failing, name_of}
use Rattle.cc_project.specs.Values.{items_in, texts_in}
use Rattle.cc_device.specs.Keys.{device_text, member_text}
use Rattle.cc_device.specs.Rules.{is_device_array, is_device_name, is_function_array, is_free, has_only_device_keys, has_only_document_keys}

-- V3 or V4: the array of functions at this key as a whole, and then each item; `before` are the functions that were named before it
abbrev pub function_rules : (environment : List (List ℕ)) → (key : List ℕ) → (number : ℕ) → (before : List (List ℕ)) → Option Data → List Rule
function_rules environment key number before value =
    at key number (is_function_array value) then at_each_new key number (is_free environment) 0 before (texts_in value)

abbrev pub writes_of : Data → List (List ℕ)
writes_of device = texts_in (get (codes "writes") device)

abbrev pub reads_of : Data → List (List ℕ)
reads_of device = texts_in (get (codes "reads") device)

-- all functions that a device names
abbrev pub functions_of : Data → List (List ℕ)
functions_of device = writes_of device ++ reads_of device

-- V2 to V5 for device i; `names` and `functions` are those of the devices before it
unfoldable pub device_rules : (environment : List (List ℕ)) → ℕ → (names functions : List (List ℕ)) → Data → List Rule
device_rules environment i names functions device =
    at (member_text i (codes "name")) 2 (is_device_name names (get (codes "name") device))
    then function_rules environment (member_text i (codes "writes")) 3 functions (get (codes "writes") device)
    then function_rules environment (member_text i (codes "reads")) 4 (functions ++ writes_of device) (get (codes "reads") device)
    then at (device_text i) 5 (has_only_device_keys device)

-- the rules of these devices, the first of which is number i
abbrev pub devices_rules : (environment : List (List ℕ)) → ℕ → (names functions : List (List ℕ)) → List Data → List Rule
devices_rules environment i names functions [] = []
devices_rules environment i names functions (device ∷ rest) =
    device_rules environment i names functions device
    then devices_rules environment (i + 1) (names ++ name_of device ∷ []) (functions ++ functions_of device) rest

-- all rules of a document, in order
unfoldable pub rules_of : (environment : List (List ℕ)) → Data → List Rule
rules_of environment document =
    at (codes "device") 1 (is_device_array (get (codes "device") document))
    then devices_rules environment 0 [] [] (items_in (get (codes "device") document))
    then at (codes "top") 5 (has_only_document_keys document)

-- the fault of a document, beside a project with this environment: the key text and the number of the first rule that fails
abbrev pub shape_fault : (environment : List (List ℕ)) → Data → Option (List ℕ × ℕ)
shape_fault environment document = first_failing (rules_of environment document)
