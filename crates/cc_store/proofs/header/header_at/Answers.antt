use Rattle.std.proofs.Common.{sym, ap, ◌∙◌, reverse}
use Rattle.std.proofs.lemmas.List.{reverse-reverse}
use Rattle.cc_store.specs.Layout.{found_in}
use Rattle.cc_store.proofs.Layouts.{at_place, found_back}
use Rattle.cc_store.proofs.header.header_at.Goals as goal

pub returns-then-header-instance : goal.returns-then-header-instance
returns-then-header-instance c =
    sym (at_place c.args.headers.now _ _ _ c.args.instance c.in-Some.header c.requires.2 (sym c.in-Some.ensures) c.if-header-instance.true)

pub returns : goal.returns
returns c =
    c.found.ensures
    ∙ ap (found_in c.args.instance) (sym (reverse-reverse c.as_slice.result.now) ∙ ap reverse c.as_slice.ensures)
    ∙ found_back c.args.headers.now _ _ c.args.instance c.requires.2
