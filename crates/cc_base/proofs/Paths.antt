-- Paths over two relations.
use Rattle.std.specs.Prelude.{◌↔◌}
use Rattle.cc_base.specs.Paths.{Reaches, Start, More}

-- where each step over one relation is a step over another, so is each path
pub Reaches-weaker : {A : Type 0} (Next Wider : A → A → Type 0) (start : A) → ((a b : A) → Next a b → Wider a b) → (point : A) → Reaches Next start point → Reaches Wider start point
Reaches-weaker Next Wider start wider point Start = Start
Reaches-weaker Next Wider start wider point (More {a = a} path next) = More (Reaches-weaker Next Wider start wider a path) (wider a point next)

-- relations that have the same steps have the same paths
pub Reaches-same : {A : Type 0} (Next Same : A → A → Type 0) (start : A) → ((a b : A) → Next a b ↔ Same a b) → (point : A) → Reaches Next start point ↔ Reaches Same start point
Reaches-same Next Same start same point = (
  Reaches-weaker Next Same start (λ a b. (same a b).0) point,
  Reaches-weaker Same Next start (λ a b. (same a b).1) point,
)
