use Rattle.std.proofs.Common.{rules, ◌≡◌, length, arith}
use Rattle.cc_flows.proofs.Passing.{exact, sweeps_none}
use Rattle.cc_flows.proofs.sweeping.sweep.Goals as goal

pub returns : goal.returns
returns c =
    let next = c.args.next.now in
    let clears = c.args.clears.now in
    let starts = c.args.starts.now in
    let same_length : length c.in_ok-dirty.dirty.items ≡ length next = search rules in
    record {
      exact = exact next clears starts (length starts) c.settle.new.reach.items c.settle.new.dirty.items (omega arith) c.settle.ensures.idle
          (c.settle.ensures.visits.kept starts (length starts) (c.begin.ensures.begun clears (sweeps_none next clears starts c.in_ok-reach.reach.items c.in_ok-dirty.dirty.items c.in_ok-reach.ensures.long same_length c.in_ok-reach.ensures.none)));
    }
