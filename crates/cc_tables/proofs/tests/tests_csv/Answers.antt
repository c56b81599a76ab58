use Rattle.std.proofs.Common.{ap, sym, ◌∙◌, ◌++◌}
use Rattle.std.proofs.lemmas.List.{append-nil}
use Rattle.cc_tables.specs.Records.{record_text}
use Rattle.cc_tables.specs.TestTable.{tests_header}
use Rattle.cc_tables.proofs.tests.tests_csv.Goals as goal

pub loop-i-init : goal.loop-i-init
loop-i-init c =
    let put = c.in_ok-put_record.ensures in
    (put.0, put.1 ∙ (ap (λ text. text ++ record_text tests_header) c.no_records-records.ensures.empty ∙ sym (append-nil (record_text tests_header))))
