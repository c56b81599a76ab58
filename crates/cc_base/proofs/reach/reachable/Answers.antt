use Rattle.std.proofs.Common.{ℕ, Bool}
use Rattle.std.specs.Prelude.{◌↔◌}
use Rattle.std.specs.declared.vec.Vec.{Vec}
use Rattle.std.specs.declared.alloc.Global.{Global}
use Rattle.std.proofs.lemmas.Result.{IfOk-weaker}
use Rattle.cc_base.specs.Edges.{IsMarked, Leads}
use Rattle.cc_base.specs.Paths.{Reaches}
use Rattle.cc_base.specs.Search.{HasEdge}
use Rattle.cc_base.proofs.Paths.{Reaches-same}
use Rattle.cc_base.proofs.Rows.{rows_stay_within}
use Rattle.cc_base.proofs.reach.reachable.Goals as goal

pub search-requires-clause-rows : goal.search-requires-clause-rows
search-requires-clause-rows c = rw c.deref.ensures.value (rows_stay_within c.args.points c.args.edges.now c.in_ok-rows.rows.items c.requires.edges c.in_ok-rows.ensures.len c.in_ok-rows.ensures.exact)

pub returns-clause-exact : goal.returns-clause-exact
returns-clause-exact c =
    let rows = c.deref.result.now in
    let edges = c.args.edges.now in
    let start = c.args.start in
    let same : (a b : ℕ) → HasEdge rows a b ↔ Leads edges a b = rw c.deref.ensures.value c.in_ok-rows.ensures.exact in
    let paths = Reaches-same (HasEdge rows) (Leads edges) start same in
    IfOk-weaker c.search.result
    (λ (marks : Vec Bool Global). (point : ℕ) → IsMarked marks.items point ↔ Reaches (HasEdge rows) start point)
    (λ (marks : Vec Bool Global). (point : ℕ) → IsMarked marks.items point ↔ Reaches (Leads edges) start point)
    (λ marks exact point. (λ marked. (paths point).0 ((exact point).0 marked), λ path. (exact point).1 ((paths point).1 path)))
    c.search.ensures.exact
