use Rattle.std.proofs.Common.{◌∙◌, ap, inl, inr, ℕ, Vec, Global}
use Rattle.cc_top.specs.Answer.{done, made}
use Rattle.cc_top.specs.declared.output.Output.{Output}
use Rattle.cc_top.proofs.FrontFacts.{front_caused, front_kind, front_named, front_told}
use Rattle.cc_top.proofs.check.files_checked.Goals as goal

pub returns-in_ok-counts-in-Ok-clause-told : goal.returns-in_ok-counts-in-Ok-clause-told
returns-in_ok-counts-in-Ok-clause-told g c =
    inl (c.in-Ok.functions, c.in-Ok.objects, ap (λ (o : Output). made o.text.items o.is_met) c.plain.ensures ∙ ap (λ (v : Vec ℕ Global). done v.items) c.into_bytes.ensures.value ∙ ap done c.in_ok-counts-in-Ok.ensures)

pub returns-in-Err-clause-told : goal.returns-in-Err-clause-told
returns-in-Err-clause-told g c = λ below. inr (front_told c.args.project.now c.in-Err.fault c.of_front.result c.of_front.ensures below)

pub returns-in-Err-clause-caused : goal.returns-in-Err-clause-caused
returns-in-Err-clause-caused g c = front_caused _ _ c.args.project.now c.in-Err.fault c.of_front.result c.in-Err.ensures.caused c.of_front.ensures

pub returns-in-Err-clause-kind : goal.returns-in-Err-clause-kind
returns-in-Err-clause-kind g c = front_kind c.args.project.now c.in-Err.fault c.of_front.result c.of_front.ensures

pub returns-in-Err-clause-names : goal.returns-in-Err-clause-names
returns-in-Err-clause-names g c = front_named (g.S.Shelf.files c.args.shelf.now) c.args.files.now c.args.project.now c.in-Err.fault c.of_front.result c.in-Err.ensures.told c.of_front.ensures
