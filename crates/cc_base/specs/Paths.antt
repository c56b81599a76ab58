-- Paths over a relation.

-- a path leads from the start to the point: the start itself, and what comes next after a point to which one leads
pub data Reaches {A : Type 0} (Next : A → A → Type 0) (start : A) : A → Type 0 where
  Start : Reaches Next start start
  More : {a b : A} → Reaches Next start a → Next a b → Reaches Next start b
