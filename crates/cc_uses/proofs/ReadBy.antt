-- What lvalues read.
use Rattle.std.proofs.Common.{◌≡◌, ℕ, ◌⊎◌, inl, inr, Bool, true, false, ◌&&◌, if◌then◌else◌, List, [], Option, Some, None, refl, sym, ap, ◌∙◌, subst}
use Rattle.std.specs.Prelude.{slice_get, Contains, ◌↔◌}
use Rattle.cc_arena.specs.Arenas.{node_of}
use Rattle.cc_arena.specs.declared.arena.Placed.{Placed}
use Rattle.cc_arena.specs.declared.node.Node.{Node}
use Rattle.cc_facts.specs.declared.facts.Facts.{Facts}
use Rattle.cc_graph.specs.declared.graph.Graph.{Graph}
use Rattle.cc_listed.specs.declared.table.Access.{Access}
use Rattle.cc_program.specs.declared.program.Program.{Program}
use Rattle.cc_rows.specs.Gains.{Gains}
use Rattle.cc_rows.proofs.Gained.{gains_none, gains_as, gains_on, gains_all}
use Rattle.cc_types.specs.declared.expr_type.ExprType.{ExprType}
use Rattle.cc_uses.specs.declared.put.Reach.{Reach}
use Rattle.cc_uses.specs.declared.put.Reach.TheVariants.{Itself, Inner}
use Rattle.cc_uses.specs.Peeling.{peeled, inner_at}
use Rattle.cc_uses.specs.Accessing.{reach_of, with_lvalue}
use Rattle.cc_uses.specs.Writing.{type_of, after}
use Rattle.cc_uses.specs.Reading.{is_lvalue, is_value, itself, inner_if, read_reach, copy_reach, right_of, with_right, with_right_of, with_copied, put_read, all_around, reads_of}
use Rattle.cc_uses.specs.Uses.{MayHave, ReadsValue, ReadsStruct, IsRead, IsInGraph}
use Rattle.cc_uses.proofs.Gaining.{SomeOf, all_gains}
use Rattle.cc_uses.proofs.Having.{IsOf, lvalue_gains}
use Rattle.cc_uses.proofs.Pointing.{read_point, all_in}

both : (a b : Bool) → (a && b) ≡ true → (a ≡ true) × (b ≡ true)
both true b is = (refl, is)
both false b is = absurd (let e = is in cc)

chosen : (b : Bool) (o : Option Reach) (r : Reach) → (if b then o else None) ≡ Some r → (b ≡ true) × (o ≡ Some r)
chosen true o r is = (refl, is)
chosen false o r is = absurd (let e = is in cc)

is_itself : (o : Option Reach) (r : Reach) → itself o ≡ Some r → (o ≡ Some Itself) × (r ≡ Itself)
is_itself (Some Itself) r is = (refl, let e = is in cc)
is_itself (Some Inner) r is = absurd (let e = is in cc)
is_itself None r is = absurd (let e = is in cc)

is_inner : (b : Bool) (o : Option Reach) (r : Reach) → inner_if b o ≡ Some r → (b ≡ true) × (o ≡ Some Inner) × (r ≡ Inner)
is_inner true (Some Itself) r is = absurd (let e = is in cc)
is_inner true (Some Inner) r is = (refl, refl, let e = is in cc)
is_inner true None r is = absurd (let e = is in cc)
is_inner false o r is = absurd (let e = is in cc)

read_told : (x : Node) (used : Bool) (t : Option ExprType) (r : Reach) → read_reach x used t ≡ Some r
    → (is_lvalue x ≡ true) × (used ≡ true) × (reach_of t ≡ Some Itself) × (r ≡ Itself)
read_told x used t r is =
    let c = chosen (is_lvalue x && used) (itself (reach_of t)) r is in
    let b = both (is_lvalue x) used c.0 in
    let i = is_itself (reach_of t) r c.1 in
    (b.0, b.1, i.0, i.1)

read_tells : (x : Node) (used : Bool) (t : Option ExprType) → is_lvalue x ≡ true → used ≡ true → reach_of t ≡ Some Itself → read_reach x used t ≡ Some Itself
read_tells x used t lvalue is_used typed =
    ap (λ b. if b && used then itself (reach_of t) else None) lvalue ∙ (ap (λ b. if b then itself (reach_of t) else None) is_used ∙ ap itself typed)

copy_told : (o : Option Placed) (t : Option ExprType) (r : Reach) → copy_reach (node_of o) t ≡ Some r
    → (x : Placed) × (o ≡ Some x) × (is_lvalue x.node ≡ true) × (reach_of t ≡ Some Inner) × (r ≡ Inner)
copy_told (Some x) t r is = let h = is_inner (is_lvalue x.node) (reach_of t) r is in (x, refl, h.0, h.1, h.2)
copy_told None t r is = absurd (let e = is in cc)

copy_tells : (o : Option Placed) (x : Placed) (t : Option ExprType) → o ≡ Some x → is_lvalue x.node ≡ true → reach_of t ≡ Some Inner → copy_reach (node_of o) t ≡ Some Inner
copy_tells o x t at lvalue typed =
    ap (λ y. copy_reach (node_of y) t) at ∙ (ap (λ b. inner_if b (reach_of t)) lvalue ∙ ap (λ y. inner_if true y) typed)

module _ (p : Program) (g : Graph) (F : Facts) where
  abbrev pub inner : ℕ → ℕ
  inner e = inner_at (peeled p.arena.nodes 0) e

  abbrev pub Value : ℕ → Placed → Access → Type 0
  Value n x a = IsOf F (read_reach x.node (is_value (slice_get (all_around p) n)) (type_of p n)) (after g n) n a

  abbrev pub Right : ℕ → Access → Type 0
  Right l a = IsOf F (copy_reach (node_of (slice_get p.arena.nodes l)) (type_of p l)) (after g l) l a

  abbrev pub Copies : Option ℕ → Access → Type 0
  Copies o a = (b : ℕ) × (o ≡ Some b) × Right (inner b) a

  right_gains : (o : Option ℕ) (out : List Access) → Gains out (with_right_of p g F (peeled p.arena.nodes 0) o out) (Copies o)
  right_gains (Some b) out =
      gains_as out (with_right p g F (inner b) out) (Right (inner b)) (Copies (Some b))
      (λ a h. (b, refl, h))
      (λ a (d, is, h). let same : d ≡ b = cc in subst (λ m. Right (inner m) a) same h)
      (lvalue_gains F (copy_reach (node_of (slice_get p.arena.nodes (inner b))) (type_of p (inner b))) (after g (inner b)) (inner b) out)
  right_gains None out = gains_none out (Copies None) (λ a (b, is, h). cc)

  abbrev pub ReadsAt : ℕ → Placed → Access → Type 0
  ReadsAt n x a = Value n x a ⊎ Copies (right_of x.node) a

  read_gains : (n : ℕ) (x : Placed) (out : List Access) → Gains out (put_read p g F (peeled p.arena.nodes 0) (all_around p) n x out) (ReadsAt n x)
  read_gains n x out =
      let mid = with_lvalue F (read_reach x.node (is_value (slice_get (all_around p) n)) (type_of p n)) (after g n) n out in
      gains_on out mid (with_copied p g F (peeled p.arena.nodes 0) x.node mid) (Value n x) (Copies (right_of x.node)) (ReadsAt n x)
      (lvalue_gains F (read_reach x.node (is_value (slice_get (all_around p) n)) (type_of p n)) (after g n) n out)
      (right_gains (right_of x.node) mid)
      (λ a h. h) (λ a v. inl v) (λ a c. inr c)

  to_value : (a : Access) (n : ℕ) (x : Placed) → slice_get p.arena.nodes n ≡ Some x → Value n x a → ReadsValue p g F a
  to_value a n x at of =
      let t = read_told x.node (is_value (slice_get (all_around p) n)) (type_of p n) of.r of.reaches in
      record {
        placed = x;
        at = subst (λ m. slice_get p.arena.nodes m ≡ Some x) of.lvalue at;
        lvalue = t.0;
        used = subst (λ m. is_value (slice_get (all_around p) m) ≡ true) of.lvalue t.1;
        typed = subst (λ m. reach_of (type_of p m) ≡ Some Itself) of.lvalue t.2;
        point = subst (λ m. after g m ≡ Some a.point) of.lvalue of.at;
        slot = subst (λ m. MayHave F Itself m a.slot) of.lvalue (subst (λ r. MayHave F r n a.slot) t.3 of.slot);
      }

  from_value : (a : Access) (w : ReadsValue p g F a) → Value a.occurrence w.placed a
  from_value a w = record {
    r = Itself;
    reaches = read_tells w.placed.node (is_value (slice_get (all_around p) a.occurrence)) (type_of p a.occurrence) w.lvalue w.used w.typed;
    at = w.point;
    lvalue = refl;
    slot = w.slot;
  }

  to_struct : (a : Access) (n b : ℕ) (x : Placed) → slice_get p.arena.nodes n ≡ Some x → right_of x.node ≡ Some b → Right (inner b) a → ReadsStruct p g F a
  to_struct a n b x at is of =
      let t = copy_told (slice_get p.arena.nodes (inner b)) (type_of p (inner b)) of.r of.reaches in
      record {
        node = n;
        placed = x;
        at = at;
        right = b;
        assigns = is;
        aside = of.lvalue;
        inside = t.0;
        there = subst (λ m. slice_get p.arena.nodes m ≡ Some t.0) of.lvalue t.1;
        lvalue = t.2;
        typed = subst (λ m. reach_of (type_of p m) ≡ Some Inner) of.lvalue t.3;
        point = subst (λ m. after g m ≡ Some a.point) of.lvalue of.at;
        slot = subst (λ m. MayHave F Inner m a.slot) of.lvalue (subst (λ r. MayHave F r (inner b) a.slot) t.4 of.slot);
      }

  from_struct : (a : Access) (w : ReadsStruct p g F a) → Right (inner w.right) a
  from_struct a w = subst (λ m. Right m a) (sym w.aside) (record {
    r = Inner;
    reaches = copy_tells (slice_get p.arena.nodes a.occurrence) w.inside (type_of p a.occurrence) w.there w.lvalue w.typed;
    at = w.point;
    lvalue = refl;
    slot = w.slot;
  })

  to_read : (a : Access) → SomeOf ReadsAt p.arena.nodes a → IsRead p g F a
  to_read a (i, x, at, inl of) = inl (to_value a i x at of)
  to_read a (i, x, at, inr (b, is, of)) = inr (to_struct a i b x at is of)

  from_read : (a : Access) → IsRead p g F a → SomeOf ReadsAt p.arena.nodes a
  from_read a (inl w) = (a.occurrence, w.placed, w.at, inl (from_value a w))
  from_read a (inr w) = (w.node, w.placed, w.at, inr (w.right, w.assigns, from_struct a w))

  pub read_by : (a : Access) → Contains (reads_of p g F) a ↔ IsRead p g F a
  read_by a =
      let h = gains_all [] (reads_of p g F) (SomeOf ReadsAt p.arena.nodes) refl
      (all_gains (put_read p g F (peeled p.arena.nodes 0) (all_around p)) ReadsAt read_gains p.arena.nodes []) a in
      (λ is. to_read a (h.0 is), λ w. h.1 (from_read a w))

  -- the list has all of them, and no others
  pub read_by_all : (out : List Access) → out ≡ reads_of p g F → (a : Access) → Contains out a ↔ IsRead p g F a
  read_by_all out is a = subst (λ (l : List Access). Contains l a ↔ IsRead p g F a) (sym is) (read_by a)

  pub read_by_in : (out : List Access) → out ≡ reads_of p g F → IsInGraph g out
  read_by_in out is = all_in g out (IsRead p g F) (read_by_all out is) (read_point p g F)
