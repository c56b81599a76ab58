-- What a node asks of the facts, by the kinds of nodes.
use Rattle.std.specs.Prelude.{ℕ, ◌+◌, Bool, true, false, List, [], ◌∷◌, ◌++◌}
use Rattle.cc_points_base.specs.declared.view.View.{View}
use Rattle.cc_points_base.specs.declared.view.Seen.{Seen}
use Rattle.cc_points_base.specs.declared.view.What.{What}
use Rattle.cc_points_base.specs.declared.view.What.TheVariants as what
use Rattle.cc_points_base.specs.declared.view.Class.{Class}
use Rattle.cc_points_base.specs.declared.view.Class.TheVariants as class
use Rattle.cc_points_base.specs.declared.layout.Layout.{Layout}
use Rattle.cc_points_base.specs.declared.constraint.Constraint.{Constraint}
use Rattle.cc_points_base.specs.declared.constraint.Constraint.TheVariants.{Has, Joins, Watches}
use Rattle.cc_points_base.specs.declared.constraint.Watch.TheVariants as watch
use Rattle.cc_points_base.specs.Layouts.{value, slot, place, result, copy, copies_in}
use Rattle.cc_points_base.specs.Parts.{part_list}

-- the arguments of a call from the k-th on go to the formals of what is called
abbrev pub passes : Layout → ℕ → List ℕ → ℕ → List Constraint
passes L f [] k = []
passes L f (a ∷ args) k = Watches (value L f) (watch.Passes k (value L a)) ∷ passes L f args (k + 1)

-- an assignment of structs of this type copies the pointers that come so many parts after them, the first of which is the
-- j-th; its first copy is the k-th
abbrev pub copies : Layout → ℕ → ℕ → ℕ → ℕ → List ℕ → ℕ → List Constraint
copies L id k l r [] j = []
copies L id k l r (w ∷ paths) j = Watches (place L r) (watch.Copies id w (copy L (k + j))) ∷ Watches (place L l) (watch.Pastes id w (copy L (k + j))) ∷ copies L id k l r paths (j + 1)

-- an assignment of a pointer or a struct
abbrev pub stores : Layout → List ℕ → ℕ → Class → ℕ → ℕ → List Constraint
stores L lists k class.Pointer l r = Watches (place L l) (watch.Stores (value L r)) ∷ []
stores L lists k (class.Struct id paths) l r = copies L id k l r (part_list lists paths) 0
stores L lists k _ l r = []

-- what the kind of node asks; what it copies begins at the k-th copy
abbrev pub asks : Layout → List ℕ → ℕ → ℕ → Class → What → List Constraint
asks L lists n k c (what.Name q) = Has (place L n) q ∷ []
asks L lists n k c (what.Designator g) = Has (value L n) g ∷ []
asks L lists n k c (what.Paren e) = Joins (value L e) (value L n) ∷ Joins (place L e) (place L n) ∷ []
asks L lists n k c (what.Address e) = Joins (place L e) (value L n) ∷ Watches (value L e) (watch.Functions (value L n)) ∷ []
asks L lists n k c (what.Deref e) = Watches (value L e) (watch.Parts (place L n)) ∷ Watches (value L e) (watch.Functions (value L n)) ∷ []
asks L lists n k c (what.Index a) = Watches (value L a) (watch.Parts (place L n)) ∷ []
asks L lists n k c (what.Member e m) = Watches (place L e) (watch.Member m (place L n)) ∷ []
asks L lists n k c (what.Arrow e m) = Watches (value L e) (watch.Member m (place L n)) ∷ []
asks L lists n k c (what.Assign l r) = Joins (value L r) (value L n) ∷ stores L lists k c l r
asks L lists n k c (what.Offset e) = Joins (value L e) (value L n) ∷ []
asks L lists n k c (what.Cond a b) = Joins (value L a) (value L n) ∷ Joins (value L b) (value L n) ∷ []
asks L lists n k c (what.Comma b) = Joins (value L b) (value L n) ∷ []
asks L lists n k c (what.Call f args) = Watches (value L f) (watch.Returns (value L n)) ∷ passes L f (part_list lists args) 0
asks L lists n k c (what.Return i e) = Joins (value L e) (result L i) ∷ []
asks L lists n k c (what.Init s e) = Joins (value L e) (slot L s) ∷ []
asks L lists n k c what.Other = []

-- what an lvalue of this type asks that is used as a value
abbrev pub reads : Layout → ℕ → Class → Bool → List Constraint
reads L n class.Pointer true = Watches (place L n) (watch.Loads (value L n)) ∷ []
reads L n class.Array true = Watches (place L n) (watch.Element (value L n)) ∷ []
reads L n _ _ = []

-- with these at the end
abbrev pub all_pushed : List Constraint → List Constraint → List Constraint
all_pushed [] out = out
all_pushed (c ∷ cs) out = all_pushed cs (out ++ c ∷ [])

-- with what the node n asks at the end
abbrev pub asked : Layout → List ℕ → ℕ → ℕ → Seen → List Constraint → List Constraint
asked L lists n k x out = all_pushed (reads L n x.class x.used) (all_pushed (asks L lists n k x.class x.what) out)

-- with what these nodes ask, the first of which is the n-th, and its first copy the k-th
abbrev pub all_asked : Layout → List ℕ → List Seen → ℕ → ℕ → List Constraint → List Constraint
all_asked L lists [] n k out = out
all_asked L lists (x ∷ xs) n k out = all_asked L lists xs (n + 1) (k + copies_in lists x.what x.class) (asked L lists n k x out)
