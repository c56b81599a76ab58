-- What a document says, where it breaks no rule.
use Rattle.std.specs.Prelude.{List, map, codes}
use Rattle.toml.specs.Data.{Data, get}
use Rattle.cc_project.specs.Order.{name_of}
use Rattle.cc_project.specs.Values.{items_in}
use Rattle.cc_device.specs.Order.{writes_of, reads_of}
use Rattle.cc_device.specs.declared.device.Device.{Device}

abbrev pub device_of : Data → Device
device_of device = record { name = name_of device; writes = writes_of device; reads = reads_of device }

-- the devices, in the order of the document
abbrev pub devices_of : Data → List Device
devices_of document = map device_of (items_in (get (codes "device") document))
