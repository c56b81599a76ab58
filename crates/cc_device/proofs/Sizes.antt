-- A document that breaks no rule has at most 64 devices.
use Rattle.std.proofs.Common.{◌≡◌, ◌≤◌, ℕ, List, length, None, codes, ap, subst, sym, ◌∙◌}
use Rattle.std.proofs.lemmas.List.{length-map}
use Rattle.toml.specs.Data.{Data, get}
use Rattle.cc_project.specs.Values.{items_in, is_table}
use Rattle.cc_project.specs.Order.{at, first_failing}
use Rattle.cc_project.proofs.Firsts.{first-parts, at-holds}
use Rattle.cc_project.proofs.Limits.{there_size}
use Rattle.cc_device.specs.Devices.{device_of, devices_of}
use Rattle.cc_device.specs.Order.{rules_of, shape_fault}
use Rattle.cc_device.specs.Rules.{is_device_array}
use Rattle.cc_device.specs.declared.device.Device.{Device}

array_holds : (environment : List (List ℕ)) (document : Data) → shape_fault environment document ≡ None
    → first_failing (at (codes "device") 1 (is_device_array (get (codes "device") document))) ≡ None
unfolding rules_of
array_holds environment document none = (first-parts _ _ none).0

pub few_devices : (environment : List (List ℕ)) (document : Data) (devices : List Device) → shape_fault environment document ≡ None → devices ≡ devices_of document
    → length devices ≤ 64
few_devices environment document devices none is =
    let few = (there_size 1 64 is_table _ (at-holds _ _ _ (array_holds environment document none))).1 in
    subst (λ n. n ≤ 64) (sym (ap length is ∙ length-map (items_in (get (codes "device") document)) device_of)) few
