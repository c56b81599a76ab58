use Rattle.std.proofs.Common.{◌≡◌, sym, subst, Some}
use Rattle.std.specs.Prelude.{IfSome}
use Rattle.std.specs.FinMap.{get}
use Rattle.cc_prep.specs.Faults.{IsUnread}
use Rattle.cc_prep.specs.Marks.{IsSpotIn}
use Rattle.cc_prep.proofs.FileFacts.{included_by, inner_file, outermost_some, outermost_none, opened_file, unread_told}
use Rattle.cc_prep.proofs.expansion.open.Goals as goal
use Rattle.cc_prep.proofs.expansion.open.Goals.{in-Some, in-None}

pub returns-in-Ok-clause-open : goal.returns-in-Ok-clause-open
returns-in-Ok-clause-open g c =
    let files = g.S.Shelf.files c.args.shelf.now in
    let name = c.args.source.now.name.now in
    let bytes = c.args.source.now.bytes.now in
    let outer = c.args.outer.now in
    let included = included_by files name bytes outer.name outer.bytes c.args.include.name outer.outermost c.requires.outer.source c.requires.include.named in
    let held = subst (λ n. IfSome files (λ held. get held n ≡ Some c.in-Ok.bytes)) c.as_str.ensures c.in-Ok.ensures.held in
    let spot : IsSpotIn bytes c.match-outer.outermost =
    elim c.match-outer.branch [
      | in-Some w ↦ subst (IsSpotIn bytes) (sym w.outermost-is) (outermost_some files name bytes outer.name outer.bytes outer.outermost w.in-Some.spot c.requires.outer.source w.in-Some.is)
      | in-None w ↦ subst (IsSpotIn bytes) (sym w.outermost-is) (outermost_none files name bytes outer.name outer.bytes outer.outermost c.args.include.hash c.requires.outer.source w.in-None.is c.requires.include.hash)
    ] in
    opened_file files name bytes c.included_file.result c.args.include.name c.in-Ok.bytes c.match-outer.outermost
    c.included_file.ensures.name c.included_file.ensures.bytes c.included_file.ensures.outermost c.included_file.ensures.mark c.in-Ok.ensures.within
    (inner_file files bytes c.args.include.name c.in-Ok.bytes included held) spot

pub returns-in-Err-clause-told : goal.returns-in-Err-clause-told
returns-in-Err-clause-told g c =
    let files = g.S.Shelf.files c.args.shelf.now in
    let name = c.args.source.now.name.now in
    let bytes = c.args.source.now.bytes.now in
    let outer = c.args.outer.now in
    let included = included_by files name bytes outer.name outer.bytes c.args.include.name outer.outermost c.requires.outer.source c.requires.include.named in
    unread_told files bytes c.args.include.name c.in-Err.fault included (subst (λ n. IfSome files (λ held. IsUnread held n c.in-Err.fault)) c.as_str.ensures c.in-Err.ensures.told)
