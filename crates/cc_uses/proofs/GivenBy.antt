-- The definitions that are neither lvalues nor arguments.
use Rattle.std.proofs.Common.{◌≡◌, ℕ, ◌⊎◌, inl, inr, List, [], drop, Option, Some, None, refl, sym, ap, subst}
use Rattle.std.specs.Prelude.{slice_get, Contains, ◌↔◌}
use Rattle.cc_graph.specs.declared.graph.Graph.{Graph}
use Rattle.cc_graph.specs.Graphs.{entry_of}
use Rattle.cc_listed.specs.declared.table.Access.{Access}
use Rattle.cc_parts.specs.declared.parts.Object.{Object}
use Rattle.cc_parts.specs.declared.parts.Parts.{Parts}
use Rattle.cc_program.specs.declared.function.FuncId.{FuncId}
use Rattle.cc_program.specs.declared.function.Function.{Function}
use Rattle.cc_program.specs.declared.program.Program.{Program}
use Rattle.cc_program.specs.declared.variable.VarId.{VarId}
use Rattle.cc_rows.specs.Gains.{Gains}
use Rattle.cc_rows.proofs.Gained.{gains_none, gains_as, gains_on, gains_all, contains_at, place}
use Rattle.cc_uses.specs.declared.put.Reach.TheVariants.{Inner}
use Rattle.cc_uses.specs.Putting.{put_from}
use Rattle.cc_uses.specs.Accessing.{with_part}
use Rattle.cc_uses.specs.Giving.{start_of, with_object, put_object, put_formal, with_function, put_entry, given_of}
use Rattle.cc_uses.specs.Uses.{IsIn, Begins, Enters, IsGiven, IsInGraph}
use Rattle.cc_uses.proofs.Gaining.{SomeOf, all_gains}
use Rattle.cc_uses.proofs.Having.{InPart, part_gains, whole}
use Rattle.cc_uses.proofs.Pointing.{given_point, all_in}

module _ (p : Program) (g : Graph) (parts : Parts) where
  -- an access of an object at a point
  abbrev pub OfObject : Option Object → Option ℕ → Access → Type 0
  OfObject o point a = (x : Object) × (o ≡ Some x) × (point ≡ Some a.point) × (x.node ≡ a.occurrence) × IsIn parts x a.slot

  to_object : (o : Object) (point : ℕ) (a : Access) → InPart parts.parts point o.node Inner o.first a → OfObject (Some o) (Some point) a
  to_object o point a (low, high, slot, same) =
      (o, refl, ap (λ (b : Access). Some b.point) same, ap (λ (b : Access). b.occurrence) same, (low, high, slot))

  from_object : (o : Object) (point : ℕ) (a : Access) → OfObject (Some o) (Some point) a → InPart parts.parts point o.node Inner o.first a
  from_object o point a (x, is, at, node, within) =
      let same : x ≡ o = cc in
      let here : point ≡ a.point = cc in
      let low : IsIn parts o a.slot = subst (λ y. IsIn parts y a.slot) same within in
      let named : o.node ≡ a.occurrence = subst (λ (y : Object). y.node ≡ a.occurrence) same node in
      (low.0, low.1, low.2, whole a point o.node here named)

  object_gains : (o : Option Object) (point : Option ℕ) (out : List Access) → Gains out (with_object parts o point out) (OfObject o point)
  object_gains (Some o) (Some point) out =
      gains_as out (with_part Inner point o.node (drop o.first parts.parts) o.first out) (InPart parts.parts point o.node Inner o.first) (OfObject (Some o) (Some point))
      (to_object o point) (from_object o point)
      (part_gains parts.parts point o.node Inner o.first (drop o.first parts.parts) out refl)
  object_gains (Some o) None out = gains_none out (OfObject (Some o) None) (λ a (x, is, at, node, within). cc)
  object_gains None point out = gains_none out (OfObject None point) (λ a (x, is, at, node, within). cc)

  abbrev pub Starts : ℕ → Object → Access → Type 0
  Starts k o a = OfObject (Some o) (start_of p g k o.node) a

  abbrev pub OfFormal : Option ℕ → ℕ → VarId → Access → Type 0
  OfFormal point i v a = OfObject (slice_get parts.objects v.0) point a

  abbrev pub OfFunction : FuncId → Option Function → Access → Type 0
  OfFunction f o a = (x : Function) × (o ≡ Some x) × SomeOf (OfFormal (entry_of g f)) x.formals a

  function_gains : (f : FuncId) (o : Option Function) (out : List Access) → Gains out (with_function g parts f o out) (OfFunction f o)
  function_gains f (Some x) out =
      gains_as out (put_from (put_formal parts (entry_of g f)) x.formals 0 out) (SomeOf (OfFormal (entry_of g f)) x.formals) (OfFunction f (Some x))
      (λ a h. (x, refl, h))
      (λ a (y, is, h). let same : y ≡ x = cc in subst (λ (z : Function). SomeOf (OfFormal (entry_of g f)) z.formals a) same h)
      (all_gains (put_formal parts (entry_of g f)) (OfFormal (entry_of g f)) (λ i v made. object_gains (slice_get parts.objects v.0) (entry_of g f) made) x.formals out)
  function_gains f None out = gains_none out (OfFunction f None) (λ a (x, is, h). cc)

  abbrev pub OfEntry : ℕ → FuncId → Access → Type 0
  OfEntry i f a = OfFunction f (slice_get p.functions f.0) a

  to_begin : (a : Access) → SomeOf Starts parts.objects a → Begins p g parts a
  to_begin a (k, o, at, (x, is, point, node, within)) =
      let same : x ≡ o = cc in
      record {
        number = k;
        object = o;
        at = at;
        node = subst (λ (y : Object). y.node ≡ a.occurrence) same node;
        point = point;
        slot = subst (λ y. IsIn parts y a.slot) same within;
      }

  from_begin : (a : Access) → Begins p g parts a → SomeOf Starts parts.objects a
  from_begin a b = (b.number, b.object, b.at, (b.object, refl, b.point, b.node, b.slot))

  to_enter : (a : Access) → SomeOf OfEntry p.entries a → Enters p g parts a
  to_enter a (i, f, at, (x, is, (j, v, there, (o, named, point, node, within)))) = record {
    f = f;
    entry = contains_at p.entries i f at;
    function = x;
    at = is;
    v = v;
    formal = contains_at x.formals j v there;
    object = o;
    there = named;
    node = node;
    point = point;
    slot = within;
  }

  from_enter : (a : Access) → Enters p g parts a → SomeOf OfEntry p.entries a
  from_enter a e =
      (e.entry.0, e.f, place p.entries e.f e.entry, (e.function, e.at, (e.formal.0, e.v, place e.function.formals e.v e.formal, (e.object, e.there, e.point, e.node, e.slot))))

  pub given_by : (a : Access) → Contains (given_of p g parts) a ↔ IsGiven p g parts a
  given_by a =
      let mid = put_from (put_object p g parts) parts.objects 0 [] in
      let both : Gains [] (given_of p g parts) (IsGiven p g parts) =
      gains_on [] mid (given_of p g parts) (SomeOf Starts parts.objects) (SomeOf OfEntry p.entries) (IsGiven p g parts)
      (all_gains (put_object p g parts) Starts (λ k o out. object_gains (Some o) (start_of p g k o.node) out) parts.objects [])
      (all_gains (put_entry p g parts) OfEntry (λ i f out. function_gains f (slice_get p.functions f.0) out) p.entries mid)
      split
      (λ b h. inl (to_begin b h)) (λ b h. inr (to_enter b h)) in
      gains_all [] (given_of p g parts) (IsGiven p g parts) refl both a
    where
      split : (b : Access) → IsGiven p g parts b → SomeOf Starts parts.objects b ⊎ SomeOf OfEntry p.entries b
      split b (inl h) = inl (from_begin b h)
      split b (inr h) = inr (from_enter b h)

  -- the list has all of them, and no others
  pub given_by_all : (out : List Access) → out ≡ given_of p g parts → (a : Access) → Contains out a ↔ IsGiven p g parts a
  given_by_all out is a = subst (λ (l : List Access). Contains l a ↔ IsGiven p g parts a) (sym is) (given_by a)

  pub given_by_in : (out : List Access) → out ≡ given_of p g parts → IsInGraph g out
  given_by_in out is = all_in g out (IsGiven p g parts) (given_by_all out is) (given_point p g parts)
