use Rattle.std.proofs.Common.{◌≡◌, ℕ, length, take}
use Rattle.cc_base.specs.Search.{HasEdge, AreRowsOf}
use Rattle.cc_base.proofs.reach.rows_of.Given as goal

abbrev pub invariant-loop : goal.invariant-loop
invariant-loop l = record {
  len : length l.rows.items ≡ l.counter;
  no_edge : (a b : ℕ) → HasEdge l.rows.items a b → ⊥;
}

abbrev pub invariant-loop-edge : goal.invariant-loop-edge
invariant-loop-edge l = record {
  len : length l.rows.items ≡ l.points;
  exact : AreRowsOf (take l.edge-index l.edges) l.rows.items;
}
