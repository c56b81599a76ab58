-- Each pair of the least set is a fact: each constraint is an instance of a rule.
use Rattle.std.proofs.Common.{ℕ, suc, ◌+◌, ◌<◌, ◌≡◌, Bool, true, false, List, [], ◌∷◌, Option, Some, None, length, refl, sym, ap, ◌∙◌, subst, arith}
use Rattle.std.specs.Prelude.{Contains, slice_get, cond}
use Rattle.std.proofs.lemmas.Option.{slice_get_within}
use Rattle.cc_points_base.specs.declared.view.View.{View}
use Rattle.cc_points_base.specs.declared.view.Seen.{Seen}
use Rattle.cc_arena.specs.declared.node.Span.{Span}
use Rattle.cc_points_base.specs.declared.view.What.{What}
use Rattle.cc_points_base.specs.declared.view.What.TheVariants as what
use Rattle.cc_points_base.specs.declared.view.Class.{Class}
use Rattle.cc_points_base.specs.declared.view.Class.TheVariants as class
use Rattle.cc_points_base.specs.declared.constraint.Constraint.{Constraint}
use Rattle.cc_points_base.specs.declared.constraint.Constraint.TheVariants.{Has, Joins, Watches}
use Rattle.cc_points_base.specs.declared.constraint.Watch.{Watch}
use Rattle.cc_points_base.specs.declared.constraint.Watch.TheVariants as watch
use Rattle.cc_points_base.specs.Layouts.{layout_of, value, slot, place, result, copy, all_copies, before}
use Rattle.cc_points_base.specs.Parts.{part_list, slot_of, element_of, member_of, leaf_of, formal_of, function_of, is_function, is_part, slots_in}
use Rattle.cc_points_base.specs.Saying.{passes, copies, stores, asks, reads}
use Rattle.cc_points_base.specs.Facts.{Fact, MayBe, MayHold, Stands, PartOf, OfName, OfMember, OfDeref, OfIndex, OfArrow, OfParen, Addresses, Names, AddressesFunction, ReachesFunction, Decays, Reads, Wraps, First, Second, GoesOn, Assigns, Moves, Returns, Stores, Begins, Passes, Copies, Follows, IsSeenWithin, IsWithin}
use Rattle.cc_solver.specs.declared.rules.Pair.{Pair}
use Rattle.cc_solver.specs.declared.rules.Edge.{Edge}
use Rattle.cc_solver.specs.Least.{Least, Given, Flows, Triggers, Hands}
use Rattle.cc_points_solve.specs.Watching as rule
use Rattle.cc_points_solve.specs.Law.{holder_of, target_of, holders_of, IsFactWithin}
use Rattle.cc_points_solve.specs.Solving.{asked_by}
use Rattle.cc_points_solve.proofs.Lists.{none, Every}
use Rattle.cc_points_solve.proofs.Asked.{asked_are, before_within, one_copy}
use Rattle.cc_points_solve.proofs.Numbers.{Holder, Value, Slot, PlaceOf, Result, Copied, decode, decode_value, decode_slot, decode_place, decode_result, decode_copy}
use Rattle.cc_points_solve.proofs.Knowing.{Knows}

-- an expression that a function returns may be a target
abbrev Returned : View → (Fact → Type 0) → ℕ → ℕ → Type 0
Returned P S i t = (r : ℕ) × (e : ℕ) × (c : Class) × (u : Bool) × Stands P r (what.Return i e) c u × S (MayBe e t)

abbrev left_in : What → ℕ
left_in (what.Assign l r) = l
left_in _ = 0

abbrev left_at : Option Seen → ℕ
left_at (Some x) = left_in x.what
left_at None = 0

abbrev paths_in : Class → Span
paths_in (class.Struct id paths) = paths
paths_in _ = record { start = 0; «end» = 0 }

abbrev id_in : Class → ℕ
id_in (class.Struct id paths) = id
id_in _ = 0

abbrev id_at : Option Seen → ℕ
id_at (Some x) = id_in x.class
id_at None = 0

abbrev paths_at : Option Seen → Span
paths_at (Some x) = paths_in x.class
paths_at None = record { start = 0; «end» = 0 }

-- by the k-th copy a struct assignment may copy a target: its right side has a part in which a pointer may hold it
pub record IsCopied (P : View) (S : Fact → Type 0) (k t : ℕ) : Type 0 where
  pub n : ℕ
  pub j : ℕ
  pub id : ℕ
  pub l : ℕ
  pub r : ℕ
  pub w : ℕ
  pub q : ℕ
  pub d : ℕ
  pub paths : Span
  pub u : Bool
  pub at : Stands P n (what.Assign l r) (class.Struct id paths) u
  pub path : slice_get (part_list P.lists paths) j ≡ Some w
  pub number : before P.lists P.nodes n + j ≡ k
  pub right : PartOf P S r q
  pub leaf : leaf_of P id q w ≡ Some d
  pub held : S (MayHold d t)

-- what a pair of a holder says
abbrev Says : View → (Fact → Type 0) → Holder → ℕ → Type 0
Says P S (Value n) t = S (MayBe n t)
Says P S (Slot s) t = S (MayHold s t)
Says P S (PlaceOf n) t = PartOf P S n t
Says P S (Result i) t = Returned P S i t
Says P S (Copied k) t = IsCopied P S k t

abbrev pub an_edge : ℕ → ℕ → Option Edge
an_edge g h = Some (record { from = g; to = h })

abbrev pub a_pair : ℕ → ℕ → Option Pair
a_pair h t = Some (record { holder = h; target = t })

abbrev pub the_from : Option Edge → ℕ
the_from (Some e) = e.from
the_from None = 0

abbrev pub the_to : Option Edge → ℕ
the_to (Some e) = e.to
the_to None = 0

abbrev pub the_holder : Option Pair → ℕ
the_holder (Some p) = p.holder
the_holder None = 0

abbrev pub the_target : Option Pair → ℕ
the_target (Some p) = p.target
the_target None = 0

module _ (P : View) (S : Fact → Type 0) where
  abbrev Means : ℕ → ℕ → Type 0
  Means h t = Says P S (decode (layout_of P) h) t

  -- what a target of a holder does is right
  abbrev IsRightWatch : Watch → ℕ → Type 0
  IsRightWatch (watch.Loads to) q = (s t : ℕ) → slot_of P q ≡ Some s → Means (slot (layout_of P) s) t → Means to t
  IsRightWatch (watch.Stores from) q = (s t : ℕ) → slot_of P q ≡ Some s → Means from t → Means (slot (layout_of P) s) t
  IsRightWatch (watch.Member m to) q = (r : ℕ) → member_of P q m ≡ Some r → Means to r
  IsRightWatch (watch.Element to) q = (r : ℕ) → element_of P q ≡ Some r → Means to r
  IsRightWatch (watch.Parts to) q = is_part P q ≡ true → Means to q
  IsRightWatch (watch.Functions to) q = is_function P q ≡ true → Means to q
  IsRightWatch (watch.Passes k from) q = (s t : ℕ) → formal_of P q k ≡ Some s → Means from t → Means (slot (layout_of P) s) t
  IsRightWatch (watch.Copies id w to) q = (s t : ℕ) → leaf_of P id q w ≡ Some s → Means (slot (layout_of P) s) t → Means to t
  IsRightWatch (watch.Pastes id w from) q = (s t : ℕ) → leaf_of P id q w ≡ Some s → Means from t → Means (slot (layout_of P) s) t
  IsRightWatch (watch.Returns to) q = (i t : ℕ) → function_of P q ≡ Some i → Means (result (layout_of P) i) t → Means to t

  -- a constraint is right
  abbrev IsRight : Constraint → Type 0
  IsRight (Has h t) = Means h t
  IsRight (Joins g h) = (t : ℕ) → Means g t → Means h t
  IsRight (Watches p w) = (q : ℕ) → Means p q → IsRightWatch w q

  along : (a b g h t : ℕ) → an_edge a b ≡ an_edge g h → (Means a t → Means b t) → Means g t → Means h t
  along a b g h t e f m = subst (λ x. Means x t) (ap the_to e) (f (subst (λ x. Means x t) (sym (ap the_from e)) m))

  loaded : (o : Option ℕ) (to g h t : ℕ) → ((s : ℕ) → o ≡ Some s → Means (slot (layout_of P) s) t → Means to t) → rule.loads (layout_of P) o to ≡ Some (record { from = g; to = h }) → Means g t → Means h t
  loaded (Some s) to g h t r e m = along (slot (layout_of P) s) to g h t e (r s refl) m
  loaded None to g h t r e m = absurd (let q = e in cc)

  stored : (o : Option ℕ) (from g h t : ℕ) → ((s : ℕ) → o ≡ Some s → Means from t → Means (slot (layout_of P) s) t) → rule.stores (layout_of P) o from ≡ Some (record { from = g; to = h }) → Means g t → Means h t
  stored (Some s) from g h t r e m = along from (slot (layout_of P) s) g h t e (r s refl) m
  stored None from g h t r e m = absurd (let q = e in cc)

  returned : (o : Option ℕ) (to g h t : ℕ) → ((i : ℕ) → o ≡ Some i → Means (result (layout_of P) i) t → Means to t) → rule.returns (layout_of P) o to ≡ Some (record { from = g; to = h }) → Means g t → Means h t
  returned (Some i) to g h t r e m = along (result (layout_of P) i) to g h t e (r i refl) m
  returned None to g h t r e m = absurd (let q = e in cc)

  edge_right : (w : Watch) (q g h t : ℕ) → IsRightWatch w q → rule.edge_of P (layout_of P) w q ≡ Some (record { from = g; to = h }) → Means g t → Means h t
  edge_right (watch.Loads to) q g h t r e m = loaded (slot_of P q) to g h t (λ s is. r s t is) e m
  edge_right (watch.Stores from) q g h t r e m = stored (slot_of P q) from g h t (λ s is. r s t is) e m
  edge_right (watch.Member k to) q g h t r e m = absurd (let x = e in cc)
  edge_right (watch.Element to) q g h t r e m = absurd (let x = e in cc)
  edge_right (watch.Parts to) q g h t r e m = absurd (let x = e in cc)
  edge_right (watch.Functions to) q g h t r e m = absurd (let x = e in cc)
  edge_right (watch.Passes k from) q g h t r e m = stored (formal_of P q k) from g h t (λ s is. r s t is) e m
  edge_right (watch.Copies id w to) q g h t r e m = loaded (leaf_of P id q w) to g h t (λ s is. r s t is) e m
  edge_right (watch.Pastes id w from) q g h t r e m = stored (leaf_of P id q w) from g h t (λ s is. r s t is) e m
  edge_right (watch.Returns to) q g h t r e m = returned (function_of P q) to g h t (λ i is. r i t is) e m

  handed : (a b h t : ℕ) → a_pair a b ≡ a_pair h t → Means a b → Means h t
  handed a b h t e m = subst (λ x. Means x t) (ap the_holder e) (subst (λ x. Means a x) (ap the_target e) m)

  given_right : (o : Option ℕ) (to h t : ℕ) → ((r : ℕ) → o ≡ Some r → Means to r) → rule.gives o to ≡ Some (record { holder = h; target = t }) → Means h t
  given_right (Some r) to h t f e = handed to r h t e (f r refl)
  given_right None to h t f e = absurd (let q = e in cc)

  chosen_right : (b : Bool) (to q h t : ℕ) → (b ≡ true → Means to q) → cond b (a_pair to q) None ≡ a_pair h t → Means h t
  chosen_right true to q h t f e = handed to q h t e (f refl)
  chosen_right false to q h t f e = absurd (let x = e in cc)

  pair_right : (w : Watch) (q h t : ℕ) → IsRightWatch w q → rule.pair_of P w q ≡ Some (record { holder = h; target = t }) → Means h t
  pair_right (watch.Loads to) q h t r e = absurd (let x = e in cc)
  pair_right (watch.Stores from) q h t r e = absurd (let x = e in cc)
  pair_right (watch.Member k to) q h t r e = given_right (member_of P q k) to h t r e
  pair_right (watch.Element to) q h t r e = given_right (element_of P q) to h t r e
  pair_right (watch.Parts to) q h t r e = chosen_right (is_part P q) to q h t r e
  pair_right (watch.Functions to) q h t r e = chosen_right (is_function P q) to q h t r e
  pair_right (watch.Passes k from) q h t r e = absurd (let x = e in cc)
  pair_right (watch.Copies id w to) q h t r e = absurd (let x = e in cc)
  pair_right (watch.Pastes id w from) q h t r e = absurd (let x = e in cc)
  pair_right (watch.Returns to) q h t r e = absurd (let x = e in cc)

  -- a pair of a holder that is there says what it says
  get_value : (n t : ℕ) → n < length P.nodes → Means (value (layout_of P) n) t → S (MayBe n t)
  get_value n t lt m = subst (λ x. Says P S x t) (decode_value (layout_of P) n lt) m

  put_value : (n t : ℕ) → n < length P.nodes → S (MayBe n t) → Means (value (layout_of P) n) t
  put_value n t lt m = subst (λ x. Says P S x t) (sym (decode_value (layout_of P) n lt)) m

  get_slot : (s t : ℕ) → s < slots_in P → Means (slot (layout_of P) s) t → S (MayHold s t)
  get_slot s t lt m = subst (λ x. Says P S x t) (decode_slot (layout_of P) s lt) m

  put_slot : (s t : ℕ) → s < slots_in P → S (MayHold s t) → Means (slot (layout_of P) s) t
  put_slot s t lt m = subst (λ x. Says P S x t) (sym (decode_slot (layout_of P) s lt)) m

  get_place : (n t : ℕ) → n < length P.nodes → Means (place (layout_of P) n) t → PartOf P S n t
  get_place n t lt m = subst (λ x. Says P S x t) (decode_place (layout_of P) n lt) m

  put_place : (n t : ℕ) → n < length P.nodes → PartOf P S n t → Means (place (layout_of P) n) t
  put_place n t lt m = subst (λ x. Says P S x t) (sym (decode_place (layout_of P) n lt)) m

  get_result : (i t : ℕ) → i < length P.functions → Means (result (layout_of P) i) t → Returned P S i t
  get_result i t lt m = subst (λ x. Says P S x t) (decode_result (layout_of P) i lt) m

  put_result : (i t : ℕ) → i < length P.functions → Returned P S i t → Means (result (layout_of P) i) t
  put_result i t lt m = subst (λ x. Says P S x t) (sym (decode_result (layout_of P) i lt)) m

  get_copy : (k t : ℕ) → k < all_copies P.lists P.nodes → Means (copy (layout_of P) k) t → IsCopied P S k t
  get_copy k t lt m = subst (λ x. Says P S x t) (decode_copy (layout_of P) k lt) m

  put_copy : (k t : ℕ) → k < all_copies P.lists P.nodes → IsCopied P S k t → Means (copy (layout_of P) k) t
  put_copy k t lt m = subst (λ x. Says P S x t) (sym (decode_copy (layout_of P) k lt)) m

  module _ (within : IsWithin P) (closed : (f : Fact) → Follows P S f → S f) where
    -- the arguments of a call
    passes_right : (n f : ℕ) (c : Class) (u : Bool) (all : Span) → Stands P n (what.Call f all) c u → f < length P.nodes → (args : List ℕ) (j : ℕ) →
        ((k a : ℕ) → slice_get args k ≡ Some a → (a < length P.nodes) × (slice_get (part_list P.lists all) (j + k) ≡ Some a)) → Every IsRight (passes (layout_of P) f args j)
    passes_right n f c u all at lt [] j are = tt
    passes_right n f c u all at lt (a ∷ args) j are =
        let first = are 0 a refl in (
          λ q called s t is m. put_slot s t (within.formals q j s is) (closed (MayHold s t) (Passes n j at (get_value f q lt called) (subst (λ i. slice_get (part_list P.lists all) i ≡ Some a) (omega arith) first.1) is (get_value a t first.0 m))),
          passes_right n f c u all at lt args (j + 1) (λ k b is. let more = are (suc k) b is in (more.0, subst (λ i. slice_get (part_list P.lists all) i ≡ Some b) (omega arith) more.1)),
        )

    -- a copy is pasted by the assignment that makes it
    pasted : (n j id l r w p s t : ℕ) (paths : Span) (u : Bool) → Stands P n (what.Assign l r) (class.Struct id paths) u → slice_get (part_list P.lists paths) j ≡ Some w → PartOf P S l p → leaf_of P id p w ≡ Some s → IsCopied P S (before P.lists P.nodes n + j) t → S (MayHold s t)
    pasted n j id l r w p s t paths u at path left is x =
        let one = one_copy (layout_of P) P.lists P.nodes n x.n j x.j _ _ at x.at (slice_get_within (part_list P.lists paths) j w path) (slice_get_within (part_list P.lists x.paths) x.j x.w x.path) (sym x.number) in
        let at' : Stands P n (what.Assign x.l x.r) (class.Struct x.id x.paths) x.u = subst (λ i. Stands P i (what.Assign x.l x.r) (class.Struct x.id x.paths) x.u) (sym one.0) x.at in
        let e_l : l ≡ x.l = ap left_at (sym at ∙ at') in
        let e_id : id ≡ x.id = ap id_at (sym at ∙ at') in
        let e_paths : x.paths ≡ paths = ap paths_at (sym at' ∙ at) in
        let path' : slice_get (part_list P.lists paths) j ≡ Some x.w = subst (λ (ps : Span). slice_get (part_list P.lists ps) j ≡ Some x.w) e_paths (subst (λ i. slice_get (part_list P.lists x.paths) i ≡ Some x.w) (sym one.1) x.path) in
        let e_w : w ≡ x.w = (let a = path in let b = path' in cc) in
        closed (MayHold s t) (Copies n j at' (subst (λ (ps : Span). slice_get (part_list P.lists ps) j ≡ Some x.w) (sym e_paths) path') (subst (λ i. PartOf P S i p) e_l left) x.right (subst (λ i. leaf_of P i p x.w ≡ Some s) e_id (subst (λ i. leaf_of P id p i ≡ Some s) e_w is)) x.leaf x.held)

    copies_right : (n id l r : ℕ) (all : Span) (u : Bool) → Stands P n (what.Assign l r) (class.Struct id all) u → l < length P.nodes → r < length P.nodes → (paths : List ℕ) (j : ℕ) →
        ((i w : ℕ) → slice_get paths i ≡ Some w → slice_get (part_list P.lists all) (j + i) ≡ Some w) → Every IsRight (copies (layout_of P) id (before P.lists P.nodes n) l r paths j)
    copies_right n id l r all u at l_lt r_lt [] j are = tt
    copies_right n id l r all u at l_lt r_lt (w ∷ paths) j are =
        let path : slice_get (part_list P.lists all) j ≡ Some w = subst (λ i. slice_get (part_list P.lists all) i ≡ Some w) (omega arith) (are 0 w refl) in
        let k = before P.lists P.nodes n + j in
        let lt : k < all_copies P.lists P.nodes = omega (arith, before_within (layout_of P) P.lists P.nodes n _ at, slice_get_within (part_list P.lists all) j w path) in (
          λ q m d t is h. put_copy k t lt (record { n = n; j = j; id = id; l = l; r = r; w = w; q = q; d = d; paths = all; u = u; at = at; path = path; number = refl; right = get_place r q r_lt m; leaf = is; held = get_slot d t (within.leaves id q w d is) h }),
          (
            λ q m s t is h. put_slot s t (within.leaves id q w s is) (pasted n j id l r w q s t all u at path (get_place l q l_lt m) is (get_copy k t lt h)),
            copies_right n id l r all u at l_lt r_lt paths (j + 1) (λ i v e. subst (λ x. slice_get (part_list P.lists all) x ≡ Some v) (omega arith) (are (suc i) v e)),
          ),
        )

    stores_right : (n l r : ℕ) (c : Class) (u : Bool) → Stands P n (what.Assign l r) c u → l < length P.nodes → r < length P.nodes → Every IsRight (stores (layout_of P) P.lists (before P.lists P.nodes n) c l r)
    stores_right n l r class.Pointer u at l_lt r_lt = (λ q p s t is m. put_slot s t (within.slots q s is) (closed (MayHold s t) (Stores n at (get_place l q l_lt p) is (get_value r t r_lt m))), tt)
    stores_right n l r class.Array u at l_lt r_lt = tt
    stores_right n l r (class.Struct id paths) u at l_lt r_lt = copies_right n id l r paths u at l_lt r_lt (part_list P.lists paths) 0 (λ i w e. subst (λ x. slice_get (part_list P.lists paths) x ≡ Some w) (omega arith) e)
    stores_right n l r class.Other u at l_lt r_lt = tt

    asks_right : (n : ℕ) (x : What) (c : Class) (u : Bool) → Stands P n x c u → n < length P.nodes → IsSeenWithin P x → Every IsRight (asks (layout_of P) P.lists n (before P.lists P.nodes n) c x)
    asks_right n (what.Name q) c u at lt w = (put_place n q lt (OfName at), tt)
    asks_right n (what.Designator g) c u at lt w = (put_value n g lt (closed (MayBe n g) (Names at)), tt)
    asks_right n (what.Paren e) c u at lt w = (
      λ t m. put_value n t lt (closed (MayBe n t) (Wraps at (get_value e t w m))),
      (λ t m. put_place n t lt (OfParen at (get_place e t w m)), tt),
    )
    asks_right n (what.Address e) c u at lt w = (
      λ t m. put_value n t lt (closed (MayBe n t) (Addresses at (get_place e t w m))),
      (λ q m is. put_value n q lt (closed (MayBe n q) (AddressesFunction at (get_value e q w m) is)), tt),
    )
    asks_right n (what.Deref e) c u at lt w = (
      λ q m is. put_place n q lt (OfDeref at (get_value e q w m) is),
      (λ q m is. put_value n q lt (closed (MayBe n q) (ReachesFunction at (get_value e q w m) is)), tt),
    )
    asks_right n (what.Index a) c u at lt w = (λ q m is. put_place n q lt (OfIndex at (get_value a q w m) is), tt)
    asks_right n (what.Member e k) c u at lt w = (λ q m r is. put_place n r lt (OfMember at (get_place e q w m) is), tt)
    asks_right n (what.Arrow e k) c u at lt w = (λ q m r is. put_place n r lt (OfArrow at (get_value e q w m) is), tt)
    asks_right n (what.Assign l r) c u at lt w =
        (λ t m. put_value n t lt (closed (MayBe n t) (Assigns at (get_value r t w.1 m))), stores_right n l r c u at w.0 w.1)
    asks_right n (what.Offset e) c u at lt w = (λ t m. put_value n t lt (closed (MayBe n t) (Moves at (get_value e t w m))), tt)
    asks_right n (what.Cond a b) c u at lt w = (
      λ t m. put_value n t lt (closed (MayBe n t) (First at (get_value a t w.0 m))),
      (λ t m. put_value n t lt (closed (MayBe n t) (Second at (get_value b t w.1 m))), tt),
    )
    asks_right n (what.Comma b) c u at lt w = (λ t m. put_value n t lt (closed (MayBe n t) (GoesOn at (get_value b t w m))), tt)
    asks_right n (what.Call f args) c u at lt w = (
      λ q called i t is m. let r = get_result i t (within.functions q i is) m in put_value n t lt (closed (MayBe n t) (Returns r.0 at (get_value f q w.0 called) is r.4 r.5)),
      passes_right n f c u args at w.0 (part_list P.lists args) 0 (λ k a is. (w.1 k a is, subst (λ i. slice_get (part_list P.lists args) i ≡ Some a) (omega arith) is)),
    )
    asks_right n (what.Return i e) c u at lt w = (λ t m. put_result i t w.0 (n, e, c, u, at, get_value e t w.1 m), tt)
    asks_right n (what.Init s e) c u at lt w = (λ t m. put_slot s t w.0 (closed (MayHold s t) (Begins n at (get_value e t w.1 m))), tt)
    asks_right n what.Other c u at lt w = tt

    reads_right : (n : ℕ) (x : What) (c : Class) (u : Bool) → Stands P n x c u → n < length P.nodes → Every IsRight (reads (layout_of P) n c u)
    reads_right n x class.Pointer true at lt = (λ q m s t is h. put_value n t lt (closed (MayBe n t) (Reads at (get_place n q lt m) is (get_slot s t (within.slots q s is) h))), tt)
    reads_right n x class.Pointer false at lt = tt
    reads_right n x class.Array true at lt = (λ q m r is. put_value n r lt (closed (MayBe n r) (Decays at (get_place n q lt m) is)), tt)
    reads_right n x class.Array false at lt = tt
    reads_right n x (class.Struct id paths) u at lt = tt
    reads_right n x class.Other u at lt = tt

    number : (m j i : ℕ) → m ≡ 0 + i → j ≡ 0 + before P.lists P.nodes i → j ≡ before P.lists P.nodes m
    number m j i e f = let same : i ≡ m = omega arith in omega (arith, f, ap (before P.lists P.nodes) same)

    all_right : (y : Constraint) → Contains (asked_by P) y → IsRight y
    all_right = asked_are (layout_of P) P.lists IsRight P.nodes 0 0 [] (λ y is. absurd (none y is)) (λ i m j x e f at.
        let here : slice_get P.nodes m ≡ Some x = subst (λ k. slice_get P.nodes k ≡ Some x) (omega arith) at in
        (subst (λ k. Every IsRight (asks (layout_of P) P.lists m k x.class x.what)) (sym (number m j i e f)) (asks_right m x.what x.class x.used here (slice_get_within P.nodes m x here) (within.nodes m x here)), reads_right m x.what x.class x.used here (slice_get_within P.nodes m x here)))

    module _ (given : List Pair) (joins : List Edge) (Adds Gives : ℕ → ℕ → ℕ → ℕ → Type 0) (knows : Knows P (layout_of P) (holders_of (layout_of P)) (asked_by P) given joins Adds Gives) where
      pub means : (h t : ℕ) → Least given joins Adds Gives h t → Means h t
      means h t (Given is) = all_right (Has h t) (knows.given_only h t is)
      means h t (Flows {g = g} is l) = all_right (Joins g h) (knows.joins_only g h is) t (means g t l)
      means h t (Triggers {p = p} {q = q} {g = g} l a m) =
          let x = knows.adds_only p q g h a in
          edge_right x.0 q g h t (all_right (Watches p x.0) x.1 q (means p q l)) x.2 (means g t m)
      means h t (Hands {p = p} {q = q} l a) =
          let x = knows.gives_only p q h t a in
          pair_right x.0 q h t (all_right (Watches p x.0) x.1 q (means p q l)) x.2

      pub is_fact : (f : Fact) → IsFactWithin P f → Least given joins Adds Gives (holder_of (layout_of P) f) (target_of f) → S f
      is_fact (MayBe n t) lt l = get_value n t lt (means (value (layout_of P) n) t l)
      is_fact (MayHold s t) lt l = get_slot s t lt (means (slot (layout_of P) s) t l)

      pub is_part_of : (n q : ℕ) → n < length P.nodes → Least given joins Adds Gives (place (layout_of P) n) q → PartOf P S n q
      is_part_of n q lt l = get_place n q lt (means (place (layout_of P) n) q l)
