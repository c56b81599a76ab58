use Rattle.std.proofs.Common.{◌≡◌, ◌++◌, map, drop}
use Rattle.cc_device_runs.specs.Listed.{row_of}
use Rattle.cc_device_runs.proofs.listing.rows_of.Given as goal

abbrev pub invariant-loop-it : goal.invariant-loop-it
invariant-loop-it l = l.rows ++ map row_of (drop l.it-index l.found) ≡ map row_of l.found
