use Rattle.std.proofs.Common.{◌∙◌, ap, Some, sym, arith}
use Rattle.cc_io.proofs.FilesFacts.{found_file}
use Rattle.cc_io.proofs.sure.SureShelfShelf.read.Goals as goal

pub returns-in_default-clause-told : goal.returns-in_default-clause-told
returns-in_default-clause-told c =
    rw c.in_default.is at (found_file c.args.self.now.files c.args.name.now c.get.result c.get.ensures.value)

pub returns-then-len-cap-clause-told : goal.returns-then-len-cap-clause-told
returns-then-len-cap-clause-told c =
    let found = found_file c.args.self.now.files c.args.name.now c.get.result c.get.ensures.value in
    (c.in-Some.bytes.now.items, rw c.in-Some.is at found, omega (arith, c.in-Some.bytes.now.ok.0))

pub returns-in-Ok-clause-told : goal.returns-in-Ok-clause-told
returns-in-Ok-clause-told c =
    let found = found_file c.args.self.now.files c.args.name.now c.get.result c.get.ensures.value in
    rw c.in-Some.is at found ∙ ap Some (sym (c.new.ensures ∙ c.in-Ok.ensures ∙ c.deref.ensures.value))
