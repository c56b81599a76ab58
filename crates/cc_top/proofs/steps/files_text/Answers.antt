use Rattle.std.proofs.Common.{IfErr, IfSome, sym, subst}
use Rattle.cc_top.proofs.CheckFacts.{included_beside, some_told}
use Rattle.cc_top.specs.Answer.{OfChecked, OfFiles, OfListed, OfReport}
use Rattle.cc_top.specs.Reads.{Beside, IsIncludedIn}
use Rattle.cc_top.specs.Refusal.{FaultNames}
use Rattle.cc_top.specs.Tells.{Tells}
use Rattle.cc_top.proofs.steps.files_text.Goals as goal

pub returns-in-List-clause-told : goal.returns-in-List-clause-told
returns-in-List-clause-told g c =
    subst (λ w. IfSome (g.S.Shelf.files c.args.shelf.now) (λ held. Tells (OfFiles w held c.args.name.now c.args.bytes.now c.args.project.now c.args.files.now) c.files_listed.result)) (sym c.in-List.is)
    (some_told (g.S.Shelf.files c.args.shelf.now) (OfListed c.args.bytes.now c.args.project.now c.args.files.now) c.files_listed.result c.files_listed.ensures.told)

pub returns-in-Check-clause-told : goal.returns-in-Check-clause-told
returns-in-Check-clause-told g c =
    subst (λ w. IfSome (g.S.Shelf.files c.args.shelf.now) (λ held. Tells (OfFiles w held c.args.name.now c.args.bytes.now c.args.project.now c.args.files.now) c.files_checked.result)) (sym c.in-Check.is)
    (some_told (g.S.Shelf.files c.args.shelf.now) (OfChecked c.args.project.now c.args.files.now) c.files_checked.result c.files_checked.ensures.told)

pub returns-in-Report-clause-told : goal.returns-in-Report-clause-told
returns-in-Report-clause-told g c =
    subst (λ w. IfSome (g.S.Shelf.files c.args.shelf.now) (λ held. Tells (OfFiles w held c.args.name.now c.args.bytes.now c.args.project.now c.args.files.now) c.files_reported.result)) (sym c.in-Report.is)
    (some_told (g.S.Shelf.files c.args.shelf.now) (OfReport c.in-Report.what c.args.name.now c.args.project.now) c.files_reported.result c.files_reported.ensures.told)

pub returns-in-Devices-clause-told : goal.returns-in-Devices-clause-told
returns-in-Devices-clause-told g c =
    subst (λ w. IfSome (g.S.Shelf.files c.args.shelf.now) (λ held. Tells (OfFiles w held c.args.name.now c.args.bytes.now c.args.project.now c.args.files.now) c.devices_reported.result)) (sym c.in-Devices.is)
    c.devices_reported.ensures.told

pub returns-in-List-clause-names : goal.returns-in-List-clause-names
returns-in-List-clause-names g c = included_beside (g.S.Shelf.files c.args.shelf.now) c.args.work c.args.files.now c.files_listed.result c.files_listed.ensures.names

pub returns-in-Check-clause-names : goal.returns-in-Check-clause-names
returns-in-Check-clause-names g c = included_beside (g.S.Shelf.files c.args.shelf.now) c.args.work c.args.files.now c.files_checked.result c.files_checked.ensures.names

pub returns-in-Report-clause-names : goal.returns-in-Report-clause-names
returns-in-Report-clause-names g c = included_beside (g.S.Shelf.files c.args.shelf.now) c.args.work c.args.files.now c.files_reported.result c.files_reported.ensures.names

pub returns-in-Devices-clause-names : goal.returns-in-Devices-clause-names
returns-in-Devices-clause-names g c =
    subst (λ w. IfSome (g.S.Shelf.files c.args.shelf.now) (λ held. IfErr c.devices_reported.result (FaultNames (Beside w (IsIncludedIn held c.args.files.now))))) (sym c.in-Devices.is)
    c.devices_reported.ensures.names
