use Rattle.std.proofs.Common.{arith, ◌≡◌, ◌∙◌, Err, map, string_bytes, refl, ap}
use Rattle.std.specs.Io.KnownBytes.{append_known}
use Rattle.cc_io.specs.declared.sink.SinkFault.TheVariants.{Failed}
use Rattle.cc_top.proofs.Sound.{sound_answer, sound_refusal}
use Rattle.cc_top.proofs.Reached.{reached_answer, reached_fault}
use Rattle.cc_top.proofs.EndFacts.{answered_output, answered_report, end_of_output, end_of_report, end_of_write_fault, fault_of_report, status_is_low, told_is_high, usage_of_report}
use Rattle.cc_top.specs.Words.{IsNoCommand}
use Rattle.cc_top.proofs.call.run.Goals as goal

pub returns-in-Err-clause-told : goal.returns-in-Err-clause-told
returns-in-Err-clause-told g c =
    answered_report (g.S.Shelf.files c.args.shelf.now) (map string_bytes c.args.words.now) c.in-Err.refusal (g.K.Sink.held c.args.out.now) (g.E.Sink.held c.args.err.now) (g.E.Sink.held c.report.new.err)
    (g.E.Sink.faults c.args.err.now) (g.E.Sink.faults c.report.new.err) c.report.result c.in-Err.ensures.told c.report.ensures

pub returns-in-Err-clause-reached : goal.returns-in-Err-clause-reached
returns-in-Err-clause-reached g c =
    let answered = answered_report (g.S.Shelf.files c.args.shelf.now) (map string_bytes c.args.words.now) c.in-Err.refusal (g.K.Sink.held c.args.out.now) (g.E.Sink.held c.args.err.now) (g.E.Sink.held c.report.new.err)
    (g.E.Sink.faults c.args.err.now) (g.E.Sink.faults c.report.new.err) c.report.result c.in-Err.ensures.told c.report.ensures in
    reached_answer (g.S.Shelf.files c.args.shelf.now) (map string_bytes c.args.words.now) _ _ _ _ c.report.result answered

pub returns-in-Err-clause-ends : goal.returns-in-Err-clause-ends
returns-in-Err-clause-ends g c =
    end_of_report (g.S.Shelf.files c.args.shelf.now) (map string_bytes c.args.words.now) c.in-Err.refusal _ _ _ _ _ c.report.result c.in-Err.ensures.told c.in-Err.ensures.names
    c.in-Err.ensures.caused c.report.ensures

pub returns-in-Err-clause-fault : goal.returns-in-Err-clause-fault
returns-in-Err-clause-fault g c =
    fault_of_report c.in-Err.refusal _ _ (g.E.Sink.held c.args.err.now) (g.E.Sink.held c.report.new.err) (g.E.Sink.faults c.args.err.now) (g.E.Sink.faults c.report.new.err) c.report.result
    c.in-Err.ensures.caused.0 c.report.ensures

pub returns-in-Ok-put-clause-told : goal.returns-in-Ok-put-clause-told
returns-in-Ok-put-clause-told g c =
    answered_output (g.S.Shelf.files c.args.shelf.now) (map string_bytes c.args.words.now) c.in-Ok.output (g.K.Sink.held c.args.out.now) (g.K.Sink.held c.put.new.self) (g.E.Sink.held c.args.err.now)
    c.status.result c.status.ensures c.in-Ok.ensures.told (c.in-Ok-put.ensures.ok ∙ ap (append_known (g.K.Sink.held c.args.out.now)) c.deref.ensures.value)

pub returns-in-Ok-put-clause-reached : goal.returns-in-Ok-put-clause-reached
returns-in-Ok-put-clause-reached g c =
    let answered = answered_output (g.S.Shelf.files c.args.shelf.now) (map string_bytes c.args.words.now) c.in-Ok.output (g.K.Sink.held c.args.out.now) (g.K.Sink.held c.put.new.self) (g.E.Sink.held c.args.err.now)
    c.status.result c.status.ensures c.in-Ok.ensures.told (c.in-Ok-put.ensures.ok ∙ ap (append_known (g.K.Sink.held c.args.out.now)) c.deref.ensures.value) in
    reached_answer (g.S.Shelf.files c.args.shelf.now) (map string_bytes c.args.words.now) _ _ _ _ c.status.result answered

pub returns-in-Ok-put-clause-ends : goal.returns-in-Ok-put-clause-ends
returns-in-Ok-put-clause-ends g c =
    end_of_output (g.S.Shelf.files c.args.shelf.now) (map string_bytes c.args.words.now) c.in-Ok.output _ _ _ _ _ _
    c.status.result c.status.ensures c.in-Ok.ensures.told (c.in-Ok-put.ensures.ok ∙ ap (append_known (g.K.Sink.held c.args.out.now)) c.deref.ensures.value) refl

pub returns-in-Ok-put-clause-most : goal.returns-in-Ok-put-clause-most
returns-in-Ok-put-clause-most g c = let low = status_is_low c.in-Ok.output.is_met in let is = c.status.ensures in omega (arith, low, is)

pub returns-in-Ok-put-clause-fault : goal.returns-in-Ok-put-clause-fault
returns-in-Ok-put-clause-fault g c = λ four. let low = status_is_low c.in-Ok.output.is_met in let is = c.status.ensures in absurd (omega (arith, low, is, four))

pub returns-in-Ok-put-clause-not_usage : goal.returns-in-Ok-put-clause-not_usage
returns-in-Ok-put-clause-not_usage g c = λ two. let low = status_is_low c.in-Ok.output.is_met in let is = c.status.ensures in absurd (omega (arith, low, is, two))

pub returns-in-Err-Failed-clause-ends : goal.returns-in-Err-Failed-clause-ends
returns-in-Err-Failed-clause-ends g c =
    let failed : c.put.result ≡ Err Failed = c.in-Err-Failed.is ∙ ap Err c.in-Err-Failed.field-0-is in
    let prefix = c.put.ensures.prefix failed in
    end_of_write_fault (g.S.Shelf.files c.args.shelf.now) (map string_bytes c.args.words.now) c.in-Ok.output.text.items c.in-Ok.output.is_met _ _ _ _ _ _
    c.in-Ok.ensures.told (c.put.ensures.failed failed) (rw c.deref.ensures.value at prefix) c.tell_last.ensures

pub returns-in-Err-Failed-clause-reached : goal.returns-in-Err-Failed-clause-reached
returns-in-Err-Failed-clause-reached g c = reached_fault (g.S.Shelf.files c.args.shelf.now) (map string_bytes c.args.words.now) _ _ _ _ 4 (omega arith)

pub returns-in-Err-clause-sound : goal.returns-in-Err-clause-sound
returns-in-Err-clause-sound g c =
    let answered = answered_report (g.S.Shelf.files c.args.shelf.now) (map string_bytes c.args.words.now) c.in-Err.refusal (g.K.Sink.held c.args.out.now) (g.E.Sink.held c.args.err.now) (g.E.Sink.held c.report.new.err)
    (g.E.Sink.faults c.args.err.now) (g.E.Sink.faults c.report.new.err) c.report.result c.in-Err.ensures.told c.report.ensures in
    sound_answer c.listed_leaves_none_out.ensures (g.S.Shelf.files c.args.shelf.now) (map string_bytes c.args.words.now) _ _ _ _ c.report.result answered

pub returns-in-Ok-put-clause-sound : goal.returns-in-Ok-put-clause-sound
returns-in-Ok-put-clause-sound g c =
    let answered = answered_output (g.S.Shelf.files c.args.shelf.now) (map string_bytes c.args.words.now) c.in-Ok.output (g.K.Sink.held c.args.out.now) (g.K.Sink.held c.put.new.self) (g.E.Sink.held c.args.err.now)
    c.status.result c.status.ensures c.in-Ok.ensures.told (c.in-Ok-put.ensures.ok ∙ ap (append_known (g.K.Sink.held c.args.out.now)) c.deref.ensures.value) in
    sound_answer c.listed_leaves_none_out.ensures (g.S.Shelf.files c.args.shelf.now) (map string_bytes c.args.words.now) _ _ _ _ c.status.result answered

pub returns-in-Err-Failed-clause-sound : goal.returns-in-Err-Failed-clause-sound
returns-in-Err-Failed-clause-sound g c = sound_refusal (g.S.Shelf.files c.args.shelf.now) (map string_bytes c.args.words.now) _ _ 4 (omega arith)

pub returns-clause-sound : goal.returns-clause-sound
returns-clause-sound g c =
    sound_refusal (g.S.Shelf.files c.args.shelf.now) (map string_bytes c.args.words.now) _ _ c.tell_memory.result (told_is_high _ 5 _ _ _ _ c.tell_memory.result (omega arith) c.tell_memory.ensures)

pub returns-in-Err-clause-not_usage : goal.returns-in-Err-clause-not_usage
returns-in-Err-clause-not_usage g c = λ two.
    usage_of_report c.in-Err.refusal (IsNoCommand (map string_bytes c.args.words.now)) (g.E.Sink.held c.args.err.now) (g.E.Sink.held c.report.new.err)
    (g.E.Sink.faults c.args.err.now) (g.E.Sink.faults c.report.new.err) c.report.result (λ is. c.in-Err.ensures.usage.0 (ap Err is)) c.report.ensures two
