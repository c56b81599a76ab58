use Rattle.std.proofs.Common.{map, string_bytes}
use Rattle.cc_top.proofs.Tells.{devices_names, devices_not_generated, devices_told, devices_usage, generated_told}
use Rattle.cc_top.specs.declared.work.Work.TheVariants as work
use Rattle.cc_top.proofs.steps.text_for.Goals as goal

pub returns-in-Some-Generated-clause-told : goal.returns-in-Some-Generated-clause-told
returns-in-Some-Generated-clause-told g c =
    let is = rw c.in-Some-Generated.field-0-is at c.in-Some-Generated.ensures.some in
    generated_told (g.S.Shelf.files c.args.shelf.now) (map string_bytes c.args.words.now) c.in-Some-Generated.count c.generated_text.result is.0 is.1 c.generated_text.ensures.told

pub returns-in-Some-Devices-clause-told : goal.returns-in-Some-Devices-clause-told
returns-in-Some-Devices-clause-told g c =
    let is = rw c.in-Some-Devices.field-0-is at c.in-Some-Devices.ensures.some in
    devices_told (g.S.Shelf.files c.args.shelf.now) (map string_bytes c.args.words.now) c.in-Some-Devices.name.now c.in-Some-Devices.devices.now c.task_text-in-Some-Devices.result is c.task_text-in-Some-Devices.ensures.told

pub returns-in-Some-Devices-clause-names : goal.returns-in-Some-Devices-clause-names
returns-in-Some-Devices-clause-names g c =
    let is = rw c.in-Some-Devices.field-0-is at c.in-Some-Devices.ensures.some in
    devices_names (g.S.Shelf.files c.args.shelf.now) (map string_bytes c.args.words.now) (work.Devices c.in-Some-Devices.devices) c.in-Some-Devices.name.now c.in-Some-Devices.devices.now c.task_text-in-Some-Devices.result is (λ told e. e)
    c.task_text-in-Some-Devices.ensures.names

pub returns-in-Some-Devices-clause-usage : goal.returns-in-Some-Devices-clause-usage
returns-in-Some-Devices-clause-usage g c =
    let is = rw c.in-Some-Devices.field-0-is at c.in-Some-Devices.ensures.some in
    devices_usage (map string_bytes c.args.words.now) c.in-Some-Devices.name.now c.in-Some-Devices.devices.now c.task_text-in-Some-Devices.result is c.task_text-in-Some-Devices.ensures.kind

pub returns-in-Some-Devices-clause-apart : goal.returns-in-Some-Devices-clause-apart
returns-in-Some-Devices-clause-apart g c =
    let is = rw c.in-Some-Devices.field-0-is at c.in-Some-Devices.ensures.some in
    λ n gen. devices_not_generated (map string_bytes c.args.words.now) c.in-Some-Devices.name.now c.in-Some-Devices.devices.now n is gen
