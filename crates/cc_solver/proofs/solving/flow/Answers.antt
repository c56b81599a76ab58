use Rattle.std.proofs.Common.{Err, ap, sym, ◌∙◌}
use Rattle.std.proofs.lemmas.Result.{err_from_is_err_and}
use Rattle.cc_blocks.specs.Pairs.{pair_bit}
use Rattle.cc_blocks.proofs.Tables.{pair_bit-lt}
use Rattle.cc_solver.proofs.Grown.{IsGiven, grown, still_state, given, exceeded}
use Rattle.cc_solver.proofs.solving.flow.Goals as goal

pub returns-clause-state : goal.returns-clause-state
returns-clause-state c =
    let s = c.args.state.now in
    let e = c.in_ok-added.ensures in
    let g : IsGiven s.pairs.rows.items c.flow.new.self.rows.items s.fresh.rows.items c.flow.new.fresh.rows.items c.args.to (pair_bit s.pairs.rows.items c.args.from) c.in_ok-added.added =
    record { same_length = e.holders; fresh_length = e.fresh_holders; bits = pair_bit-lt s.pairs.rows.items c.args.from; at = e.at; others = e.others; fresh_at = e.fresh_at; fresh_others = e.fresh_others; count = e.count; none = e.none } in
    let n = c.note.ensures in
    still_state c.args.limits c.args.to c.in_ok-added.added s c.note.new.state _ _ (pair_bit s.pairs.rows.items c.args.from) g n.pairs n.fresh n.edges c.requires.state c.requires.to c.in_ok-note.ensures.count c.in_ok-note.ensures.work c.in_ok-note.ensures.told

pub returns-clause-grows : goal.returns-clause-grows
returns-clause-grows c =
    let s = c.args.state.now in
    let e = c.in_ok-added.ensures in
    let g : IsGiven s.pairs.rows.items c.flow.new.self.rows.items s.fresh.rows.items c.flow.new.fresh.rows.items c.args.to (pair_bit s.pairs.rows.items c.args.from) c.in_ok-added.added =
    record { same_length = e.holders; fresh_length = e.fresh_holders; bits = pair_bit-lt s.pairs.rows.items c.args.from; at = e.at; others = e.others; fresh_at = e.fresh_at; fresh_others = e.fresh_others; count = e.count; none = e.none } in
    let n = c.note.ensures in
    grown c.args.limits c.args.to c.in_ok-added.added s c.note.new.state _ _ (pair_bit s.pairs.rows.items c.args.from) g n.pairs n.fresh n.edges c.requires.state c.requires.to c.in_ok-note.ensures.count c.in_ok-note.ensures.work

pub returns-clause-got : goal.returns-clause-got
returns-clause-got c =
    let s = c.args.state.now in
    let e = c.in_ok-added.ensures in
    let g : IsGiven s.pairs.rows.items c.flow.new.self.rows.items s.fresh.rows.items c.flow.new.fresh.rows.items c.args.to (pair_bit s.pairs.rows.items c.args.from) c.in_ok-added.added =
    record { same_length = e.holders; fresh_length = e.fresh_holders; bits = pair_bit-lt s.pairs.rows.items c.args.from; at = e.at; others = e.others; fresh_at = e.fresh_at; fresh_others = e.fresh_others; count = e.count; none = e.none } in
    let n = c.note.ensures in
    given c.args.limits c.args.to c.in_ok-added.added s c.note.new.state _ _ (pair_bit s.pairs.rows.items c.args.from) g n.pairs n.fresh n.edges c.requires.state c.requires.to

pub returns-in_err-note-clause-many : goal.returns-in_err-note-clause-many
returns-in_err-note-clause-many c = λ is.
    let s = c.args.state.now in
    let e = c.in_ok-added.ensures in
    let g : IsGiven s.pairs.rows.items c.flow.new.self.rows.items s.fresh.rows.items c.flow.new.fresh.rows.items c.args.to (pair_bit s.pairs.rows.items c.args.from) c.in_ok-added.added =
    record { same_length = e.holders; fresh_length = e.fresh_holders; bits = pair_bit-lt s.pairs.rows.items c.args.from; at = e.at; others = e.others; fresh_at = e.fresh_at; fresh_others = e.fresh_others; count = e.count; none = e.none } in
    let n = c.note.ensures in
    let p = err_from_is_err_and c.from_residual-in_err-note.result c.from_residual-in_err-note.ensures.1 in
    exceeded c.args.limits c.args.to c.in_ok-added.added s c.note.new.state _ _ (pair_bit s.pairs.rows.items c.args.from) g n.pairs n.fresh n.edges c.requires.state c.requires.to (c.in_err-note.ensures.many (ap Err (sym p.2) ∙ sym p.1 ∙ is))
