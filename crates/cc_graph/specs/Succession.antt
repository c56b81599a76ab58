-- Which point may come next after which, within a function.
use Rattle.std.specs.Prelude.{ℕ, ◌≡◌, Bool, true, false, ◌||◌, ◌⊎◌, if◌then◌else◌, List, [], ◌∷◌, Option, Some, None, slice_get}
use Rattle.std.specs.List.{Contains}
use Rattle.cc_arena.specs.Arenas.{node_of, stretch}
use Rattle.cc_arena.specs.declared.arena.Arena.{Arena}
use Rattle.cc_arena.specs.declared.arena.Placed.{Placed}
use Rattle.cc_arena.specs.declared.node.Node.{Node}
use Rattle.cc_arena.specs.declared.node.Node.TheVariants as node
use Rattle.cc_program.specs.declared.program.Program.{Program}
use Rattle.cc_tree.specs.declared.operator.BinaryOp.{BinaryOp}
use Rattle.cc_tree.specs.declared.operator.BinaryOp.TheVariants as op
use Rattle.cc_graph.specs.declared.position.Position.{Position}
use Rattle.cc_graph.specs.declared.position.Position.TheVariants.{Entry, Exit, Before, At, After}
use Rattle.cc_graph.specs.declared.position.Row.{Row}
use Rattle.cc_graph.specs.declared.scope.Scope.{Scope}
use Rattle.cc_graph.specs.Parts.{item_parts, start_parts}
use Rattle.cc_graph.specs.Points.{number, source, rows_of}
use Rattle.cc_graph.specs.Scopes.{or, scope_at, scopes_of}

-- one point and another that may come next
abbrev pub Step : Type 0
Step = Position × Position

-- from a point through these parts in order to q
abbrev pub through : Position → List ℕ → Position → List Step
through p [] q = (p, q) ∷ []
through p (a ∷ parts) q = (p, Before a) ∷ through (After a) parts q

-- a node with these evaluated parts in order
abbrev pub runs : ℕ → List ℕ → List Step
runs n parts = through (Before n) parts (After n)

abbrev pub option_list : Option ℕ → List ℕ
option_list None = []
option_list (Some e) = e ∷ []

-- of `&&` and `||`: after the left part to the right one and to the end; of another operator both parts in order
abbrev pub binary_steps : BinaryOp → ℕ → ℕ → ℕ → List Step
binary_steps op.AndAnd n a b = (Before n, Before a) ∷ (After a, Before b) ∷ (After a, After n) ∷ (After b, After n) ∷ []
binary_steps op.OrOr n a b = (Before n, Before a) ∷ (After a, Before b) ∷ (After a, After n) ∷ (After b, After n) ∷ []
binary_steps (op.Int o) n a b = runs n (a ∷ b ∷ [])

-- after the condition c to a and to b, from each to the end
abbrev pub choice : ℕ → ℕ → ℕ → ℕ → List Step
choice n c a b = (Before n, Before c) ∷ (After c, Before a) ∷ (After c, Before b) ∷ (After a, After n) ∷ (After b, After n) ∷ []

-- `if` without `else`
abbrev pub if_then : ℕ → ℕ → ℕ → List Step
if_then n c s = (Before n, Before c) ∷ (After c, Before s) ∷ (After c, After n) ∷ (After s, After n) ∷ []

abbrev pub while_loop : ℕ → ℕ → ℕ → List Step
while_loop n c s = (Before n, Before c) ∷ (After c, Before s) ∷ (After c, After n) ∷ (After s, Before c) ∷ []

abbrev pub do_loop : ℕ → ℕ → ℕ → List Step
do_loop n s c = (Before n, Before s) ∷ (After s, Before c) ∷ (After c, Before s) ∷ (After c, After n) ∷ []

-- Of a `for`, a round begins with the condition, or with the body s where there is none.

-- from the beginning through the parts of the first clause to the round; after the condition to the body and to the end
abbrev pub for_test : ℕ → List ℕ → Option ℕ → ℕ → List Step
for_test n parts None s = through (Before n) parts (Before s)
for_test n parts (Some c) s = (After c, Before s) ∷ (After c, After n) ∷ through (Before n) parts (Before c)

-- the same, and after the third clause to the round
abbrev pub for_each : ℕ → List ℕ → Option ℕ → Option ℕ → ℕ → List Step
for_each n parts test None s = for_test n parts test s
for_each n parts test (Some e) s = (After e, Before (or test s)) ∷ for_test n parts test s

-- the same, and after the body to the third clause, or to the round where there is none
abbrev pub for_loop : ℕ → List ℕ → Option ℕ → Option ℕ → ℕ → List Step
for_loop n parts test each s = (After s, Before (or each (or test s))) ∷ for_each n parts test each s

abbrev pub is_label_node : Node → Bool
is_label_node (node.Case e) = true
is_label_node node.Default = true
is_label_node _ = false

abbrev pub is_default_node : Node → Bool
is_default_node node.Default = true
is_default_node _ = false

abbrev pub is_label : Option Node → Bool
is_label (Some what) = is_label_node what
is_label None = false

abbrev pub is_default : Option Node → Bool
is_default (Some what) = is_default_node what
is_default None = false

abbrev pub node_at : Arena → ℕ → Option Node
node_at A n = node_of (slice_get A.nodes n)

-- after the expression e to before each label among these items
abbrev pub labels : Arena → ℕ → List ℕ → List Step
labels A e [] = []
labels A e (i ∷ items) = if is_label (node_at A i) then (After e, Before i) ∷ labels A e items else labels A e items

abbrev pub has_default : Arena → List ℕ → Bool
has_default A [] = false
has_default A (i ∷ items) = is_default (node_at A i) || has_default A items

-- the same, and where none of them is `default`, to after the `switch` n
abbrev pub chosen : Arena → ℕ → ℕ → List ℕ → List Step
chosen A n e items = if has_default A items then labels A e items else (After e, After n) ∷ labels A e items

abbrev pub items_in : Arena → Option Node → List ℕ
items_in A (Some (node.Block items)) = stretch A.lists items
items_in A what = []

-- What the node n says. Its own points and those of its parts stand in its steps, and no others.
abbrev pub says : Arena → List Row → ℕ → Node → List Step
says A rows n node.Name = runs n []
says A rows n (node.Int v k) = runs n []
says A rows n (node.Char v) = runs n []
says A rows n (node.Str bytes) = runs n []
says A rows n (node.Paren e) = runs n (e ∷ [])
says A rows n (node.Unary o e) = runs n (e ∷ [])
says A rows n (node.Binary o a b) = binary_steps o n a b
says A rows n (node.Assign o a b) = runs n (a ∷ b ∷ [])
says A rows n (node.Step o side e) = runs n (e ∷ [])
says A rows n (node.Cond c a b) = choice n c a b
says A rows n (node.Comma a b) = runs n (a ∷ b ∷ [])
says A rows n (node.Call f es) = (At n, After n) ∷ through (Before n) (f ∷ stretch A.lists es) (At n)
says A rows n (node.Member e) = runs n (e ∷ [])
says A rows n (node.Arrow e) = runs n (e ∷ [])
says A rows n (node.Index a i) = runs n (a ∷ i ∷ [])
says A rows n (node.Cast t e) = runs n (e ∷ [])
says A rows n (node.SizeExpr e) = runs n []
says A rows n (node.SizeType t) = runs n []
says A rows n (node.TypeName d) = []
says A rows n (node.Word w) = []
says A rows n node.Named = []
says A rows n (node.Struct ms) = []
says A rows n (node.Enum cs) = []
says A rows n (node.Members ds) = []
says A rows n (node.Constant e) = []
says A rows n (node.Declared e) = runs n (option_list e)
says A rows n (node.Pointer d) = []
says A rows n (node.Array d e) = []
says A rows n (node.Function d ts) = []
says A rows n (node.Group d) = []
says A rows n (node.Braces vs) = runs n (stretch A.lists vs)
says A rows n (node.Declaration ds) = []
says A rows n (node.Block items) = runs n (item_parts A rows (stretch A.lists items))
says A rows n (node.Plain e) = runs n (e ∷ [])
says A rows n node.Empty = runs n []
says A rows n (node.If c s) = if_then n c s
says A rows n (node.IfElse c s o) = choice n c s o
says A rows n (node.Switch e b) = (Before n, Before e) ∷ (After b, After n) ∷ chosen A n e (items_in A (node_at A b))
says A rows n (node.While c s) = while_loop n c s
says A rows n (node.Do s c) = do_loop n s c
says A rows n (node.For start test each s) = for_loop n (start_parts A rows start) test each s
says A rows n node.Break = runs n []
says A rows n node.Continue = runs n []
says A rows n (node.Return e) = runs n (option_list e)
says A rows n (node.Case e) = runs n []
says A rows n node.Default = runs n []
says A rows n (node.Definition d block) = through (Entry n) (block ∷ []) (Exit n)

abbrev pub leads_after : Position → Option ℕ → List Step
leads_after p (Some m) = (p, After m) ∷ []
leads_after p None = []

abbrev pub leads_before : Position → Option ℕ → List Step
leads_before p (Some m) = (p, Before m) ∷ []
leads_before p None = []

abbrev pub leads_out : Position → Option ℕ → List Step
leads_out p (Some m) = (p, Exit m) ∷ []
leads_out p None = []

-- where the word of a jump says that its after leads
abbrev pub jump : Scope → ℕ → Node → List Step
jump S n node.Break = leads_after (After n) S.leaves
jump S n node.Continue = leads_before (After n) S.goes_on
jump S n (node.Return e) = leads_out (After n) S.function
jump S n _ = []

-- the node n, which is x, says that q follows p
pub record Says (A : Arena) (rows : List Row) (n : ℕ) (x : Placed) (p q : Position) : Type 0 where
  pub there : slice_get A.nodes n ≡ Some x
  pub has : Contains (says A rows n x.node) (p, q)

-- the word of the jump n says so
pub record Jumps (A : Arena) (scopes : List Scope) (n : ℕ) (x : Placed) (p q : Position) : Type 0 where
  pub there : slice_get A.nodes n ≡ Some x
  pub has : Contains (jump (scope_at scopes x.parent) n x.node) (p, q)

-- The point q, whose number is j, follows the point p, whose number is k: some node says so, and p isn't after a jump; or p is
-- after a jump, and its word says so.
abbrev pub FollowsAt : Arena → List Row → List Scope → Position → Position → ℕ → ℕ → Type 0
FollowsAt A rows scopes p q k j =
    (n : ℕ) × (x : Placed)
    × ((Says A rows n x p q × (source rows p ≡ Some k)) ⊎ (Jumps A scopes n x p q × (number rows p ≡ Some k)))
    × (number rows q ≡ Some j)

-- the point of the number j follows that of the number k
abbrev pub Follows : Arena → List Row → List Scope → ℕ → ℕ → Type 0
Follows A rows scopes k j = (p : Position) × (q : Position) × FollowsAt A rows scopes p q k j

-- in the program P, q follows p within a function
abbrev pub Within : Program → Position → Position → Type 0
Within P p q = (k : ℕ) × (j : ℕ) × FollowsAt P.arena (rows_of P) (scopes_of P.arena) p q k j
