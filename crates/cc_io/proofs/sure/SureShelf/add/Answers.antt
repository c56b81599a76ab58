use Rattle.std.proofs.Common.{ap}
use Rattle.cc_io.specs.Shelf.{Files}
use Rattle.cc_io.specs.SureShelf.{Stock}
use Rattle.cc_io.proofs.FilesFacts.{files_of-insert}
use Rattle.cc_io.proofs.sure.SureShelf.add.Goals as goal

pub returns-clause-ok : goal.returns-clause-ok
returns-clause-ok c =
    let added = files_of-insert c.args.self.now.files c.insert.new.self c.in_ok-name.name c.in_ok-bytes.bytes c.in_ok-insert.ensures.updates in
    let of : Files → Stock = λ files. record { files = files; misses = c.args.self.now.misses; longs = c.args.self.now.longs } in
    ap of (rw (c.in_ok-name.ensures.ok, c.in_ok-bytes.ensures) at added)
