use Rattle.std.proofs.Common.{◌≡◌, drop}
use Rattle.cc_store.specs.Layout.{found_in}
use Rattle.cc_store.proofs.header.found.Given as goal

abbrev pub invariant-loop-header : goal.invariant-loop-header
invariant-loop-header l = found_in l.instance (drop l.header-index l.headers) ≡ found_in l.instance l.headers
