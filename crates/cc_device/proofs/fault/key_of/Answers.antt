use Rattle.std.proofs.Common.{codes, sym, ap, ◌∙◌}
use Rattle.cc_device.specs.Keys.{key_text}
use Rattle.cc_device.proofs.KeyTexts.{member_written, item_written}
use Rattle.cc_device.proofs.fault.key_of.Goals as goal

pub returns-in_ok-key-in-Member : goal.returns-in_ok-key-in-Member
returns-in_ok-key-in-Member c =
    c.in_ok-key-in-Member.ensures.ok ∙ member_written (codes "device") c.in-Member.i c.in-Member.name.now ∙ sym (ap key_text c.in-Member.is)

pub returns-in_ok-key-in-Item : goal.returns-in_ok-key-in-Item
returns-in_ok-key-in-Item c =
    c.in_ok-key-in-Item.ensures.ok ∙ item_written (codes "device") c.in-Item.i c.in-Item.name.now c.in-Item.k ∙ sym (ap key_text c.in-Item.is)
