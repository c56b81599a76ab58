-- The numbers of the holders: the values, the slots, the parts of lvalues, the results of functions, what struct assignments copy, and a spare one.
use Rattle.std.specs.Prelude.{ℕ, zero, suc, ◌+◌, ◌<◌, ◌^◌, cond, nat_lt, List, [], ◌∷◌, length}
use Rattle.cc_points_base.specs.declared.view.Seen.{Seen}
use Rattle.cc_points_base.specs.declared.view.What.{What}
use Rattle.cc_points_base.specs.declared.view.What.TheVariants as what
use Rattle.cc_points_base.specs.declared.view.Class.{Class}
use Rattle.cc_points_base.specs.declared.view.Class.TheVariants as class
use Rattle.cc_points_base.specs.Parts.{part_list, slots_in}
use Rattle.cc_points_base.specs.declared.view.View.{View}
use Rattle.cc_points_base.specs.declared.layout.Layout.{Layout}

-- how many pointers an occurrence copies
abbrev pub copies_in : List ℕ → What → Class → ℕ
copies_in lists (what.Assign l r) (class.Struct id paths) = length (part_list lists paths)
copies_in lists _ _ = 0

-- how many pointers these occurrences copy
abbrev pub all_copies : List ℕ → List Seen → ℕ
all_copies lists [] = 0
all_copies lists (x ∷ xs) = copies_in lists x.what x.class + all_copies lists xs

-- how many the ones before the n-th copy
abbrev pub before : List ℕ → List Seen → ℕ → ℕ
before lists xs zero = 0
before lists [] (suc n) = 0
before lists (x ∷ xs) (suc n) = copies_in lists x.what x.class + before lists xs n

abbrev pub layout_of : View → Layout
layout_of P = record { nodes = length P.nodes; slots = slots_in P; functions = length P.functions; copies = all_copies P.lists P.nodes }

abbrev pub IsSmall : Layout → Type 0
IsSmall L = (L.nodes < 2 ^ 29) × (L.slots < 2 ^ 29) × (L.functions < 2 ^ 29) × (L.copies < 2 ^ 29)

-- the holder of a number that is out of range
unfoldable pub spare : Layout → ℕ
spare L = L.nodes + L.slots + L.nodes + L.functions + L.copies

unfoldable pub value : Layout → ℕ → ℕ
value L n = cond (nat_lt n L.nodes) n (spare L)

unfoldable pub slot : Layout → ℕ → ℕ
slot L s = cond (nat_lt s L.slots) (L.nodes + s) (spare L)

unfoldable pub place : Layout → ℕ → ℕ
place L n = cond (nat_lt n L.nodes) (L.nodes + L.slots + n) (spare L)

unfoldable pub result : Layout → ℕ → ℕ
result L i = cond (nat_lt i L.functions) (L.nodes + L.slots + L.nodes + i) (spare L)

unfoldable pub copy : Layout → ℕ → ℕ
copy L k = cond (nat_lt k L.copies) (L.nodes + L.slots + L.nodes + L.functions + k) (spare L)
