-- What the reading of a file of devices answers.
use Rattle.std.specs.Prelude.{◌≡◌, ℕ, List, Option, Some, None}
use Rattle.toml.specs.Data.{Members, table}
use Rattle.cc_project.specs.Outcome.{IsDocument}
use Rattle.cc_device.specs.Devices.{devices_of}
use Rattle.cc_device.specs.Order.{shape_fault}
use Rattle.cc_device.specs.declared.device.Device.{Device}
use Rattle.cc_device.specs.declared.fault.DeviceFault.{DeviceFault}
use Rattle.cc_device.specs.declared.fault.DeviceFault.TheVariants.{NotToml, Shape, Memory}

-- beside a project with this environment the bytes are a document that breaks no rule and says these devices
abbrev pub IsDevices : (environment : List (List ℕ)) → List ℕ → List Device → Type 0
IsDevices environment bytes devices =
    (document : Members) × IsDocument bytes document × (shape_fault environment (table document) ≡ None) × (devices ≡ devices_of (table document))

-- the fault is the first of these, if it is one of shape
abbrev pub Reports : Option (List ℕ × ℕ) → DeviceFault → Type 0
Reports first NotToml = ⊥
Reports first (Shape key rule) = first ≡ Some (key, rule)
Reports first Memory = Unit {0}

-- NotToml: the bytes are no document. Shape: they are one, and this is the first rule that fails, with its key text.
-- Memory says nothing.
abbrev pub IsFault : (environment : List (List ℕ)) → List ℕ → DeviceFault → Type 0
IsFault environment bytes NotToml = (document : Members) → IsDocument bytes document → ⊥
IsFault environment bytes (Shape key rule) = (document : Members) × IsDocument bytes document × (shape_fault environment (table document) ≡ Some (key, rule))
IsFault environment bytes Memory = Unit {0}
