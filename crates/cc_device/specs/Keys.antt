-- The key texts of the places that the code speaks of.
use Rattle.std.specs.Prelude.{ℕ, List, codes}
use Rattle.cc_project.specs.Places.{item_key, member_key}
use Rattle.cc_device.specs.declared.fault.Place.{Place}
use Rattle.cc_device.specs.declared.fault.Place.TheVariants.{Top, Device, Member, Item}

-- `device[i]`
abbrev pub device_text : ℕ → List ℕ
device_text i = item_key (codes "device") i

-- `device[i].name`
abbrev pub member_text : ℕ → List ℕ → List ℕ
member_text i name = member_key (device_text i) name

abbrev pub key_text : Place → List ℕ
key_text (Top name) = name.now
key_text (Device i) = device_text i
key_text (Member i name) = member_text i name.now
key_text (Item i name k) = item_key (member_text i name.now) k
