use Rattle.std.proofs.Common.{◌∙◌}
use Rattle.std.specs.Option.{option_copied}
use Rattle.cc_top.proofs.ReportFacts.{fault_told, report_told}
use Rattle.cc_top.proofs.reports.built_reported.Goals as goal

pub returns-in-Ok-report-clause-told : goal.returns-in-Ok-report-clause-told
returns-in-Ok-report-clause-told c =
    let it = c.in-Ok-report.reported in
    report_told c.args.what c.args.name.now c.args.project.now c.args.built.now.program c.args.built.now.tests (option_copied c.as_ref.result) it.text.items it.is_met c.judged.result
    c.requires.bound (c.as_ref.ensures.value ∙ c.in-Ok.ensures) c.in-Ok-report.ensures.report c.judged.ensures

pub returns-clause-told : goal.returns-clause-told
returns-clause-told c =
    fault_told c.args.what c.args.name.now c.args.project.now c.args.built.now.program c.args.built.now.tests (option_copied c.as_ref.result) c.in-Err-report.fault c.of_report.result
    c.requires.bound (c.as_ref.ensures.value ∙ c.in-Ok.ensures) c.in-Err-report.ensures.fault c.of_report.ensures.input c.of_report.ensures.is
