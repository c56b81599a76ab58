-- Faults of single steps as faults of a report.
use Rattle.cc_listing.specs.declared.fault.ListFault.{ListFault}
use Rattle.cc_listing.specs.declared.fault.ListFault.TheVariants as list
use Rattle.cc_scoring.specs.declared.fault.ScoreFault.{ScoreFault}
use Rattle.cc_scoring.specs.declared.fault.ScoreFault.TheVariants as score
use Rattle.cc_tables.specs.declared.justified.JustifyFault.{JustifyFault}
use Rattle.cc_tables.specs.declared.justified.JustifyFault.TheVariants as justify
use Rattle.cc_reports.specs.declared.fault.ReportFault.{ReportFault}
use Rattle.cc_reports.specs.declared.fault.ReportFault.TheVariants as fault

abbrev pub of_list : ListFault → ReportFault
of_list list.Memory = fault.Memory
of_list other = fault.List other

abbrev pub of_justify : JustifyFault → ReportFault
of_justify (justify.NoSuchRow index) = fault.NoSuchRow index
of_justify justify.Memory = fault.Memory

abbrev pub of_score : ScoreFault → ReportFault
of_score score.Lost = fault.Lost
of_score score.Unfit = fault.Unfit
of_score score.Memory = fault.Memory
