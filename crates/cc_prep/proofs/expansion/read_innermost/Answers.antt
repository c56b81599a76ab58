use Rattle.std.proofs.Common.{◌≡◌, ◌+◌, ◌++◌, ◌∷◌, [], sym, subst, arith}
use Rattle.std.specs.Prelude.{All}
use Rattle.std.proofs.lemmas.Result.{on_ok_weaker}
use Rattle.cc_prep.specs.Files.{IsOpen}
use Rattle.cc_prep.proofs.FileFacts.{all_two, length_two, may_less, still_open}
use Rattle.cc_prep.proofs.expansion.read_innermost.Goals as goal

pub returns-in-Ok-clause-others : goal.returns-in-Ok-clause-others
returns-in-Ok-clause-others g c =
    let P = IsOpen (g.S.Shelf.files c.args.shelf.now) c.args.source.now.name.now c.args.source.now.bytes.now in
    let back = still_open (g.S.Shelf.files c.args.shelf.now) c.args.source.now.name.now c.args.source.now.bytes.now c.args.file c.read_on.new.file
    c.requires.file c.read_on.ensures.name c.read_on.ensures.bytes c.read_on.ensures.outermost c.in-Ok-Some.ensures.mark in
    on_ok_weaker c.put_both.result
    (λ (e : c.put_both.new.files.items ≡ (c.args.others.now.items ++ c.read_on.new.file ∷ []) ++ c.in-Ok.inner ∷ []).
    subst (All P) (sym e) (all_two P c.args.others.now.items c.read_on.new.file c.in-Ok.inner c.requires.others back c.in-Ok.ensures.open))
    c.put_both.ensures.ok

pub returns-in-Ok-clause-less : goal.returns-in-Ok-clause-less
returns-in-Ok-clause-less g c =
    let few = may_less (c.len.result + 1) c.args.includes.now c.if-not-may_include.ensures in
    on_ok_weaker c.put_both.result
    (λ (e : c.put_both.new.files.items ≡ (c.args.others.now.items ++ c.read_on.new.file ∷ []) ++ c.in-Ok.inner ∷ []).
    omega (arith, few, length_two c.args.others.now.items c.put_both.new.files.items c.read_on.new.file c.in-Ok.inner e))
    c.put_both.ensures.ok
