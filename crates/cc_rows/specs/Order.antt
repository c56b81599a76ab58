-- The order of rows.
use Rattle.std.specs.Prelude.{ℕ}
use Rattle.std.specs.declared.cmp.Ordering.{Ordering}
use Rattle.std.specs.Ordering.{nat_cmp, ordering_then}
use Rattle.cc_rows.specs.declared.row.Row.{Row}
use Rattle.cc_rows.specs.declared.row.Row.TheVariants as row

-- which kind of row comes first
abbrev pub rank : Row → ℕ
rank (row.Call s g) = 0
rank (row.Shared d u x) = 1
rank (row.Parameter d s k g u) = 2
rank (row.Return d s g) = 3

-- by kind, then by the numbers from left to right
abbrev pub row_cmp : Row → Row → Ordering
row_cmp (row.Call s g) (row.Call s' g') = ordering_then (nat_cmp s s') (nat_cmp g g')
row_cmp (row.Shared d u x) (row.Shared d' u' x') = ordering_then (nat_cmp d d') (ordering_then (nat_cmp u u') (nat_cmp x x'))
row_cmp (row.Parameter d s k g u) (row.Parameter d' s' k' g' u') =
    ordering_then (nat_cmp d d') (ordering_then (nat_cmp s s') (ordering_then (nat_cmp k k') (ordering_then (nat_cmp g g') (nat_cmp u u'))))
row_cmp (row.Return d s g) (row.Return d' s' g') = ordering_then (nat_cmp d d') (ordering_then (nat_cmp s s') (nat_cmp g g'))
row_cmp a b = nat_cmp (rank a) (rank b)
