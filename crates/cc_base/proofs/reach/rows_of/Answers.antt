use Rattle.std.proofs.Common.{◌≡◌, ◌<◌, ◌∙◌, ◌+◌, ◌++◌, ◌∷◌, [], refl, arith, subst, length, take, slice_index_or, length-append, length-set}
use Rattle.std.proofs.lemmas.List.{take_more, take_all}
use Rattle.std.proofs.lemmas.Option.{slice_get_read}
use Rattle.cc_base.specs.Search.{AreRowsOf}
use Rattle.cc_base.proofs.Rows.{no_edge_more, rows_of_none, rows_of_more}
use Rattle.cc_base.proofs.reach.rows_of.Goals as goal

pub loop-preserved : goal.loop-preserved
loop-preserved c = record {
  len = rw c.in_ok-push.ensures.items (omega (arith, length-append c.loop.rows.items (c.new.result ∷ []), c.loop.invariant.len));
  no_edge = rw c.in_ok-push.ensures.items (no_edge_more _ _ c.new.ensures.items c.loop.invariant.no_edge);
}

pub loop-edge-init : goal.loop-edge-init
loop-edge-init c = record {
  len = omega arith;
  exact = rows_of_none c.loop.rows.items c.loop.invariant.no_edge;
}

pub loop-edge-preserved : goal.loop-edge-preserved
loop-edge-preserved c =
    let i = c.loop-edge.edge-index in
    let edges = c.args.edges.now in
    let rows = c.loop-edge.rows.items in
    let edge = slice_index_or edges i (record { from = 0; to = 0 }) in
    let more : take (i + 1) edges ≡ take i edges ++ edge ∷ [] = take_more edges i (record { from = 0; to = 0 }) c.loop-edge-test.true in
    let below : (edge.from < c.args.points) × (edge.to < c.args.points) = c.requires i (record { from = 0; to = 0 }) c.loop-edge-test.true in
    let within : edge.from < length rows = omega (arith, below.0, c.loop-edge.invariant.len) in
    let at = slice_get_read rows (length rows) edge.from c.index_mut.result.now refl within c.index_mut.ensures.value in
    record {
      len = length-set rows edge.from c.push-in-loop-edge.new.self ∙ c.loop-edge.invariant.len;
      exact = rw more (rows_of_more _ edge rows c.index_mut.result.now c.push-in-loop-edge.new.self at c.in_ok-push-2.ensures.items c.loop-edge.invariant.exact);
    }

pub returns-clause-exact : goal.returns-clause-exact
returns-clause-exact c =
    let all : take c.loop-edge.edge-index c.args.edges.now ≡ c.args.edges.now = take_all _ _ c.loop-edge-test.false in
    subst (λ edges. AreRowsOf edges c.loop-edge.rows.items) all c.loop-edge.invariant.exact
