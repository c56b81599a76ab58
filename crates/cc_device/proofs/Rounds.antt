-- Rounds of the loops over items and devices.
use Rattle.std.proofs.Common.{◌≡◌, ℕ, ◌+◌, ◌<◌, ◌≤◌, Bool, ◌&&◌, List, [], ◌∷◌, ◌++◌, length, map, drop, get_or, Option, None, refl, ap, sym, ◌∙◌, append_assoc}
use Rattle.toml.specs.View.{view}
use Rattle.toml.specs.declared.value.Value.{Value}
use Rattle.cc_project.specs.Names.{is_among, is_new}
use Rattle.cc_project.specs.Places.{item_key}
use Rattle.cc_project.specs.Values.{text_of}
use Rattle.cc_project.specs.Order.{at, at_each_new, first_failing, name_of}
use Rattle.cc_project.specs.Views.{all_data, texts_of}
use Rattle.cc_project.proofs.Firsts.{Fault, round_holds}
use Rattle.cc_project.proofs.Rounds.{data_left, no_data_left}
use Rattle.cc_device.specs.Order.{device_rules, devices_rules, functions_of}
use Rattle.cc_device.specs.Outcome.{Reports}
use Rattle.cc_device.specs.Rules.{is_free}
use Rattle.cc_device.specs.declared.fault.DeviceFault.{DeviceFault}
use Rattle.cc_device.proofs.Firsts.{round_fails}

pub new_fails : (key : List ℕ) (n : ℕ) (test : List (List ℕ) → List ℕ → Bool) (k : ℕ) (before : List (List ℕ)) (vs : List Value) (value : Value) (whole : Option Fault) (e : DeviceFault) (holds : Bool)
    → k < length vs → value ≡ get_or vs k value → first_failing (at_each_new key n test k before (texts_of (drop k vs))) ≡ whole
    → holds ≡ test before (text_of (view value)) → Reports (first_failing (at (item_key key k) n holds)) e → Reports whole e
new_fails key n test k before vs value whole e holds below is left same r =
    let more = at_each_new key n test (k + 1) (before ++ text_of (view value) ∷ []) (texts_of (drop (k + 1) vs)) in
    round_fails _ (at (item_key key k) n holds) more whole e left
    (ap (λ ds. first_failing (at_each_new key n test k before (map text_of ds))) (data_left vs k value below is) ∙ ap (λ b. first_failing (at (item_key key k) n b ++ more)) (sym same)) r

-- what is asked of a function, in the words of the code
pub free_holds : (holds added : Bool) (environment before : List (List ℕ)) (text same : List ℕ) → holds ≡ (is_among environment text && added)
    → added ≡ is_new before text → text ≡ same → holds ≡ is_free environment before same
free_holds holds added environment before text same a b d =
    a ∙ ap (λ x. is_among environment text && x) b ∙ ap (λ t. is_among environment t && is_new before t) d

pub device_fails : (environment : List (List ℕ)) (i : ℕ) (names functions : List (List ℕ)) (vs : List Value) (value : Value) (whole : Option Fault) (e : DeviceFault)
    → i < length vs → value ≡ get_or vs i value → first_failing (devices_rules environment i names functions (all_data (drop i vs))) ≡ whole
    → Reports (first_failing (device_rules environment i names functions (view value))) e → Reports whole e
device_fails environment i names functions vs value whole e below is left r =
    round_fails _ (device_rules environment i names functions (view value)) _ whole e left
    (ap (λ ds. first_failing (devices_rules environment i names functions ds)) (data_left vs i value below is)) r

pub device_holds : (environment : List (List ℕ)) (i : ℕ) (names functions names' functions' : List (List ℕ)) (vs : List Value) (value : Value) (whole : Option Fault)
    → i < length vs → value ≡ get_or vs i value → first_failing (devices_rules environment i names functions (all_data (drop i vs))) ≡ whole
    → first_failing (device_rules environment i names functions (view value)) ≡ None
    → names' ≡ names ++ name_of (view value) ∷ [] → functions' ≡ functions ++ functions_of (view value)
    → first_failing (devices_rules environment (i + 1) names' functions' (all_data (drop (i + 1) vs))) ≡ whole
device_holds environment i names functions names' functions' vs value whole below is left none named worked =
    ap (λ seen. first_failing (devices_rules environment (i + 1) seen functions' (all_data (drop (i + 1) vs)))) named
    ∙ ap (λ seen. first_failing (devices_rules environment (i + 1) (names ++ name_of (view value) ∷ []) seen (all_data (drop (i + 1) vs)))) worked
    ∙ round_holds _ (device_rules environment i names functions (view value)) _ whole left
    (ap (λ ds. first_failing (devices_rules environment i names functions ds)) (data_left vs i value below is)) none

none_of_none : first_failing [] ≡ None
unfolding first_failing
none_of_none = refl

pub devices_end : (environment : List (List ℕ)) (i : ℕ) (names functions : List (List ℕ)) (vs : List Value) (whole : Option Fault)
    → length vs ≤ i → first_failing (devices_rules environment i names functions (all_data (drop i vs))) ≡ whole → whole ≡ None
devices_end environment i names functions vs whole past left =
    sym left ∙ ap (λ ds. first_failing (devices_rules environment i names functions ds)) (no_data_left vs i past) ∙ none_of_none

-- the functions that were written, and then those that were read
pub both_functions : (old mid new w r w' r' : List (List ℕ)) → mid ≡ old ++ w → w ≡ w' → new ≡ mid ++ r → r ≡ r' → new ≡ old ++ (w' ++ r')
both_functions old mid new w r w' r' first same second likewise =
    second ∙ ap (λ x. x ++ r) (first ∙ ap (λ x. old ++ x) same) ∙ append_assoc old w' r ∙ ap (λ x. old ++ (w' ++ x)) likewise
