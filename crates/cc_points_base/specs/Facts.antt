-- The points-to facts: what follows from what.
use Rattle.std.specs.Prelude.{ℕ, ◌≡◌, ◌<◌, Bool, true, false, List, [], ◌∷◌, ◌++◌, length, Contains, slice_get, Option, Some, None}
use Rattle.cc_points_base.specs.declared.view.View.{View}
use Rattle.cc_arena.specs.declared.node.Span.{Span}
use Rattle.cc_points_base.specs.declared.view.Seen.{Seen}
use Rattle.cc_points_base.specs.declared.view.What.{What}
use Rattle.cc_points_base.specs.declared.view.What.TheVariants.{Name, Designator, Paren, Address, Deref, Index, Member, Arrow, Assign, Offset, Cond, Comma, Call, Return, Init}
use Rattle.cc_points_base.specs.declared.view.What.TheVariants as what
use Rattle.cc_points_base.specs.declared.view.Class.{Class}
use Rattle.cc_points_base.specs.declared.view.Class.TheVariants.{Pointer, Array, Struct}
use Rattle.cc_points_base.specs.Parts.{part_list, slot_of, element_of, member_of, leaf_of, formal_of, function_of, is_function, is_part, slots_in}

-- the value of an occurrence may be a target, or a slot may hold one
pub data Fact : Type 0 where
  MayBe : ℕ → ℕ → Fact
  MayHold : ℕ → ℕ → Fact

-- at n stands this node, with a type of this class, used as a value or not
abbrev pub Stands : View → ℕ → What → Class → Bool → Type 0
Stands P n x c u = slice_get P.nodes n ≡ Some (record { what = x; class = c; used = u })

-- the parts of the lvalue at n
pub data PartOf (P : View) (S : Fact → Type 0) : ℕ → ℕ → Type 0 where
  OfName : {n q : ℕ} {c : Class} {u : Bool} → Stands P n (Name q) c u → PartOf P S n q
  OfMember : {n e m p q : ℕ} {c : Class} {u : Bool} → Stands P n (Member e m) c u → PartOf P S e p → member_of P p m ≡ Some q → PartOf P S n q
  OfDeref : {n e q : ℕ} {c : Class} {u : Bool} → Stands P n (Deref e) c u → S (MayBe e q) → is_part P q ≡ true → PartOf P S n q
  OfIndex : {n a q : ℕ} {c : Class} {u : Bool} → Stands P n (Index a) c u → S (MayBe a q) → is_part P q ≡ true → PartOf P S n q
  OfArrow : {n e m p q : ℕ} {c : Class} {u : Bool} → Stands P n (Arrow e m) c u → S (MayBe e p) → member_of P p m ≡ Some q → PartOf P S n q
  OfParen : {n e q : ℕ} {c : Class} {u : Bool} → Stands P n (Paren e) c u → PartOf P S e q → PartOf P S n q

-- from the facts S it follows that the value at n may be t
pub data ValueFollows (P : View) (S : Fact → Type 0) : ℕ → ℕ → Type 0 where
  -- F1: `&e` with part p of e; the name of a function; `&e` or `*e` where the value of e may be a function
  Addresses : {n e p : ℕ} {c : Class} {u : Bool} → Stands P n (Address e) c u → PartOf P S e p → ValueFollows P S n p
  Names : {n g : ℕ} {c : Class} {u : Bool} → Stands P n (Designator g) c u → ValueFollows P S n g
  AddressesFunction : {n e g : ℕ} {c : Class} {u : Bool} → Stands P n (Address e) c u → S (MayBe e g) → is_function P g ≡ true → ValueFollows P S n g
  ReachesFunction : {n e g : ℕ} {c : Class} {u : Bool} → Stands P n (Deref e) c u → S (MayBe e g) → is_function P g ≡ true → ValueFollows P S n g
  -- F2: an lvalue of array type, used as a value
  Decays : {n p q : ℕ} {x : What} → Stands P n x Array true → PartOf P S n p → element_of P p ≡ Some q → ValueFollows P S n q
  -- F3: an lvalue of pointer type, used as a value
  Reads : {n p s t : ℕ} {x : What} → Stands P n x Pointer true → PartOf P S n p → slot_of P p ≡ Some s → S (MayHold s t) → ValueFollows P S n t
  -- F5: what hands the value of a part of it on
  Wraps : {n e t : ℕ} {c : Class} {u : Bool} → Stands P n (Paren e) c u → S (MayBe e t) → ValueFollows P S n t
  First : {n a b t : ℕ} {c : Class} {u : Bool} → Stands P n (Cond a b) c u → S (MayBe a t) → ValueFollows P S n t
  Second : {n a b t : ℕ} {c : Class} {u : Bool} → Stands P n (Cond a b) c u → S (MayBe b t) → ValueFollows P S n t
  GoesOn : {n b t : ℕ} {c : Class} {u : Bool} → Stands P n (Comma b) c u → S (MayBe b t) → ValueFollows P S n t
  Assigns : {n l r t : ℕ} {c : Class} {u : Bool} → Stands P n (Assign l r) c u → S (MayBe r t) → ValueFollows P S n t
  Moves : {n e t : ℕ} {c : Class} {u : Bool} → Stands P n (Offset e) c u → S (MayBe e t) → ValueFollows P S n t
  -- F8: a call, and what a return of the function may be that it calls
  Returns : (r : ℕ) {n f g i e t : ℕ} {args : Span} {c d : Class} {u v : Bool} → Stands P n (Call f args) c u → S (MayBe f g) → function_of P g ≡ Some i → Stands P r (Return i e) d v → S (MayBe e t) → ValueFollows P S n t

-- from the facts S it follows that the slot s may hold t
pub data SlotFollows (P : View) (S : Fact → Type 0) : ℕ → ℕ → Type 0 where
  -- F4: an assignment of a pointer
  Stores : (n : ℕ) {l r p s t : ℕ} {u : Bool} → Stands P n (Assign l r) Pointer u → PartOf P S l p → slot_of P p ≡ Some s → S (MayBe r t) → SlotFollows P S s t
  -- F6: an initialiser of a pointer cell
  Begins : (n : ℕ) {s e t : ℕ} {c : Class} {u : Bool} → Stands P n (Init s e) c u → S (MayBe e t) → SlotFollows P S s t
  -- F7: the k-th argument of a call, and the formal of the function that it calls
  Passes : (n k : ℕ) {f a g s t : ℕ} {args : Span} {c : Class} {u : Bool} → Stands P n (Call f args) c u → S (MayBe f g) → slice_get (part_list P.lists args) k ≡ Some a → formal_of P g k ≡ Some s → S (MayBe a t) → SlotFollows P S s t
  -- F9: a struct assignment, and the j-th pointer in the struct
  Copies : (n j : ℕ) {id l r w p q d s t : ℕ} {paths : Span} {u : Bool} → Stands P n (Assign l r) (Struct id paths) u → slice_get (part_list P.lists paths) j ≡ Some w → PartOf P S l p → PartOf P S r q → leaf_of P id p w ≡ Some s → leaf_of P id q w ≡ Some d → S (MayHold d t) → SlotFollows P S s t

-- what follows from the facts S
abbrev pub Follows : View → (Fact → Type 0) → Fact → Type 0
Follows P S (MayBe n t) = ValueFollows P S n t
Follows P S (MayHold s t) = SlotFollows P S s t

-- each of these facts follows from earlier ones
abbrev pub Derives : View → List Fact → List Fact → Type 0
Derives P earlier [] = Unit {0}
Derives P earlier (f ∷ facts) = Follows P (Contains earlier) f × Derives P (earlier ++ f ∷ []) facts

-- each fact of the list follows from earlier ones, and each that follows is in the list
pub record IsPointsTo (P : View) (facts : List Fact) : Type 0 where
  pub derived : Derives P [] facts
  pub closed : (f : Fact) → Follows P (Contains facts) f → Contains facts f

-- the parts of a node are nodes, slots and functions of the program
abbrev pub IsSeenWithin : View → What → Type 0
IsSeenWithin P (Name q) = Unit {0}
IsSeenWithin P (Designator g) = Unit {0}
IsSeenWithin P (Paren e) = e < length P.nodes
IsSeenWithin P (Address e) = e < length P.nodes
IsSeenWithin P (Deref e) = e < length P.nodes
IsSeenWithin P (Index a) = a < length P.nodes
IsSeenWithin P (Member e m) = e < length P.nodes
IsSeenWithin P (Arrow e m) = e < length P.nodes
IsSeenWithin P (Assign l r) = (l < length P.nodes) × (r < length P.nodes)
IsSeenWithin P (Offset e) = e < length P.nodes
IsSeenWithin P (Cond a b) = (a < length P.nodes) × (b < length P.nodes)
IsSeenWithin P (Comma b) = b < length P.nodes
IsSeenWithin P (Call f args) = (f < length P.nodes) × ((k a : ℕ) → slice_get (part_list P.lists args) k ≡ Some a → a < length P.nodes)
IsSeenWithin P (Return i e) = (i < length P.functions) × (e < length P.nodes)
IsSeenWithin P (Init s e) = (s < slots_in P) × (e < length P.nodes)
IsSeenWithin P what.Other = Unit {0}

pub record IsWithin (P : View) : Type 0 where
  pub nodes : (n : ℕ) (x : Seen) → slice_get P.nodes n ≡ Some x → IsSeenWithin P x.what
  pub slots : (q s : ℕ) → slot_of P q ≡ Some s → s < slots_in P
  pub leaves : (id q w s : ℕ) → leaf_of P id q w ≡ Some s → s < slots_in P
  pub formals : (g k s : ℕ) → formal_of P g k ≡ Some s → s < slots_in P
  pub functions : (g i : ℕ) → function_of P g ≡ Some i → i < length P.functions
