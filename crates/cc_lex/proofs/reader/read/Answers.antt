use Rattle.std.proofs.Common.{◌≡◌, ◌+◌, length, take, sym, ap, ◌∙◌, arith}
use Rattle.cc_lex.proofs.Loop.{turn, step_right, step_moves, step_lengths, read_stopped}
use Rattle.cc_lex.proofs.reader.read.Goals as goal

pub returns-in-Err-clause-stopped : goal.returns-in-Err-clause-stopped
returns-in-Err-clause-stopped c = read_stopped c.args.bytes.now c.loop-z.z.now c.loop-z.starts c.loop-z.spot c.loop-z.tokens c.in-Err.fault c.loop-z.invariant.read (omega arith) (sym c.in-Err.ensures.value)

pub add-requires-clause-meant : goal.add-requires-clause-meant
add-requires-clause-meant c = rw (c.front-piece.ensures.value, c.len_of.ensures) ((step_right c.loop-z.starts c.in-Ok.step c.loop-z.z.now (sym c.in-Ok.ensures.value)).meant_so)

pub loop-z-smaller : goal.loop-z-smaller
loop-z-smaller c = step_moves c.loop-z.starts c.in-Ok.step c.loop-z.z.now c.back-z.result.now c.len_of-in-loop-z.result (sym c.in-Ok.ensures.value) c.len_of-in-loop-z.ensures c.back-z.ensures.value

pub loop-z-preserved : goal.loop-z-preserved
loop-z-preserved c =
    let same : c.len_of.result ≡ c.len_of-in-loop-z.result = c.len_of.ensures ∙ sym c.len_of-in-loop-z.ensures in
    let piece : c.front-piece.result.now ≡ take c.len_of-in-loop-z.result c.loop-z.z.now = c.front-piece.ensures.value ∙ ap (λ k. take k c.loop-z.z.now) same in
    let n : length c.front-piece.result.now + length c.back-z.result.now ≡ length c.loop-z.z.now = step_lengths c.loop-z.z.now c.front-piece.result.now c.back-z.result.now c.len_of-in-loop-z.result piece c.back-z.ensures.value in
    record {
      read = turn c.args.bytes.now c.loop-z.z.now c.front-piece.result.now c.back-z.result.now c.len_of-in-loop-z.result c.loop-z.starts c.starts_after-starts.result c.loop-z.spot c.spot_after-spot.result c.loop-z.tokens c.add.new.tokens c.in-Ok.step
          c.loop-z.invariant.read (sym c.in-Ok.ensures.value) c.len_of-in-loop-z.ensures piece c.back-z.ensures.value c.starts_after-starts.ensures c.spot_after-spot.ensures.value c.in-Ok-add.ensures;
      within = omega arith;
      line = omega (arith, c.spot_after-spot.ensures.line);
      column = omega (arith, c.spot_after-spot.ensures.column);
    }
