use Rattle.std.proofs.Common.{sym, subst, option_to_list}
use Rattle.std.specs.Prelude.{All}
use Rattle.cc_prep.specs.Files.{IsOpen}
use Rattle.cc_prep.proofs.FileFacts.{all_front}
use Rattle.cc_prep.proofs.expansion.read_all.Goals as goal

pub read_innermost-requires-clause-others : goal.read_innermost-requires-clause-others
read_innermost-requires-clause-others g c =
    let name = c.args.source.now.name.now in
    let bytes = c.args.source.now.bytes.now in
    let P = IsOpen (g.S.Shelf.files c.args.shelf.now) name bytes in
    let all = all_front P c.pop.new.self.items (option_to_list c.pop.result) (subst (All P) c.pop.ensures.items c.loop-file.invariant.open_files) in
    subst (λ held. All (IsOpen held name bytes) c.pop.new.self.items) (sym c.loop-file.invariant.keeps) all
