-- What stands inside the parentheses of each node, and which nodes are lvalues by name.
use Rattle.std.specs.Prelude.{ℕ, ◌+◌, ◌-◌, Bool, true, false, nat_lt, if◌then◌else◌, List, [], ◌∷◌, drop, Option, Some, None, slice_get, slice_set}
use Rattle.cc_arena.specs.declared.arena.Placed.{Placed}
use Rattle.cc_arena.specs.declared.node.Node.{Node}
use Rattle.cc_arena.specs.declared.node.Node.TheVariants as node
use Rattle.cc_uses.specs.declared.peel.Peeled.{Peeled}

abbrev pub a_node : ℕ → Bool → Peeled
a_node inner by_name = record { inner = inner; by_name = by_name }

-- what is known of the part e of the node n, where `later` has what is known of the nodes that come after n
abbrev pub part_in : ℕ → ℕ → List Peeled → Option Peeled
part_in n e later = if nat_lt n e then slice_get later (e - (n + 1)) else None

abbrev pub inner_in : ℕ → Option Peeled → ℕ
inner_in n (Some p) = p.inner
inner_in n None = n

abbrev pub is_by_name : Option Peeled → Bool
is_by_name (Some p) = p.by_name
is_by_name None = false

-- The node n. A name is an lvalue by name, and so is a member of one, and one in parentheses.
abbrev pub peel : ℕ → Node → List Peeled → Peeled
peel n node.Name later = a_node n true
peel n (node.Paren e) later = a_node (inner_in n (part_in n e later)) (is_by_name (part_in n e later))
peel n (node.Member e) later = a_node n (is_by_name (part_in n e later))
peel n x later = a_node n false

-- these nodes, the first of which is the n-th; a node's parts come after it
abbrev pub peeled : List Placed → ℕ → List Peeled
peeled [] n = []
peeled (x ∷ xs) n = peel n x.node (peeled xs (n + 1)) ∷ peeled xs (n + 1)

-- the node inside the parentheses that stand at n, if any do
abbrev pub inner_at : List Peeled → ℕ → ℕ
inner_at all n = inner_in n (slice_get all n)

-- with the node n, if it is there
abbrev pub with_peeled : ℕ → Option Placed → List Peeled → List Peeled
with_peeled n (Some x) all = slice_set all n (peel n x.node (drop (n + 1) all))
with_peeled n None all = all
