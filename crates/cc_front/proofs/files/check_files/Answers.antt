use Rattle.std.proofs.Common.{subst, sym}
use Rattle.std.specs.Prelude.{Contains, IfSome}
use Rattle.cc_front.specs.Faults.{IsFileTold}
use Rattle.cc_front.proofs.FileFacts.{item_among, told_in}
use Rattle.cc_front.proofs.files.check_files.Goals as goal

pub returns-in-Err-clause-told : goal.returns-in-Err-clause-told
returns-in-Err-clause-told g c =
    let bytes = c.bytes-bytes.result.now in
    let among = subst (Contains c.args.files.now) (sym c.bytes-bytes.ensures) (item_among c.args.files.now c.loop-file.file c.get.result.now c.get.ensures) in
    let told = subst (λ o. IfSome o (λ held. IsFileTold held bytes c.in-Err.fault)) c.loop-file.invariant.keeps c.in-Err.ensures.told in
    told_in (g.S.Shelf.files c.args.shelf.now) c.args.files.now bytes c.in-Err.fault c.loop-file.file c.in_file.result c.in_file.ensures among told
