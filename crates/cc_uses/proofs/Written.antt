-- What assignments and steps write.
use Rattle.std.proofs.Common.{◌≡◌, ℕ, List, [], Option, Some, None, refl, sym, subst}
use Rattle.std.specs.Prelude.{Contains, ◌↔◌}
use Rattle.cc_arena.specs.declared.arena.Placed.{Placed}
use Rattle.cc_facts.specs.declared.facts.Facts.{Facts}
use Rattle.cc_graph.specs.declared.graph.Graph.{Graph}
use Rattle.cc_listed.specs.declared.table.Access.{Access}
use Rattle.cc_program.specs.declared.program.Program.{Program}
use Rattle.cc_rows.specs.Gains.{Gains}
use Rattle.cc_rows.proofs.Gained.{gains_none, gains_as, gains_all}
use Rattle.cc_uses.specs.Peeling.{peeled, inner_at}
use Rattle.cc_uses.specs.Accessing.{reach_of, with_lvalue}
use Rattle.cc_uses.specs.Writing.{target_of, type_of, after, with_target, put_write, writes_of}
use Rattle.cc_uses.specs.Uses.{MayHave, IsWrite, IsInGraph}
use Rattle.cc_uses.proofs.Gaining.{SomeOf, all_gains}
use Rattle.cc_uses.proofs.Having.{IsOf, lvalue_gains}
use Rattle.cc_uses.proofs.Pointing.{write_point, all_in}

module _ (p : Program) (g : Graph) (F : Facts) where
  abbrev pub inner : ℕ → ℕ
  inner e = inner_at (peeled p.arena.nodes 0) e

  -- by the target e, after the node n
  abbrev pub ByTarget : ℕ → ℕ → Access → Type 0
  ByTarget n e a = IsOf F (reach_of (type_of p (inner e))) (after g n) (inner e) a

  abbrev pub Writes : ℕ → Option ℕ → Access → Type 0
  Writes n o a = (e : ℕ) × (o ≡ Some e) × ByTarget n e a

  target_gains : (n : ℕ) (o : Option ℕ) (out : List Access) → Gains out (with_target p g F (peeled p.arena.nodes 0) n o out) (Writes n o)
  target_gains n (Some e) out =
      gains_as out (with_lvalue F (reach_of (type_of p (inner e))) (after g n) (inner e) out) (ByTarget n e) (Writes n (Some e))
      (λ a h. (e, refl, h))
      (λ a (d, is, h). let same : d ≡ e = cc in subst (λ m. ByTarget n m a) same h)
      (lvalue_gains F (reach_of (type_of p (inner e))) (after g n) (inner e) out)
  target_gains n None out = gains_none out (Writes n None) (λ a (e, is, h). cc)

  abbrev pub WritesAt : ℕ → Placed → Access → Type 0
  WritesAt n x a = Writes n (target_of x.node) a

  to_write : (a : Access) → SomeOf WritesAt p.arena.nodes a → IsWrite p g F a
  to_write a (i, x, at, (e, is, of)) = record {
    node = i;
    placed = x;
    at = at;
    target = e;
    assigns = is;
    aside = of.lvalue;
    point = of.at;
    reach = of.r;
    typed = subst (λ m. reach_of (type_of p m) ≡ Some of.r) of.lvalue of.reaches;
    slot = subst (λ m. MayHave F of.r m a.slot) of.lvalue of.slot;
  }

  from_write : (a : Access) → IsWrite p g F a → SomeOf WritesAt p.arena.nodes a
  from_write a w =
      let of : ByTarget w.node w.target a = record {
        r = w.reach;
        reaches = subst (λ m. reach_of (type_of p m) ≡ Some w.reach) (sym w.aside) w.typed;
        at = w.point;
        lvalue = w.aside;
        slot = subst (λ m. MayHave F w.reach m a.slot) (sym w.aside) w.slot;
      } in
      (w.node, w.placed, w.at, (w.target, w.assigns, of))

  pub written : (a : Access) → Contains (writes_of p g F) a ↔ IsWrite p g F a
  written a =
      let h = gains_all [] (writes_of p g F) (SomeOf WritesAt p.arena.nodes) refl
      (all_gains (put_write p g F (peeled p.arena.nodes 0)) WritesAt (λ n x out. target_gains n (target_of x.node) out) p.arena.nodes []) a in
      (λ is. to_write a (h.0 is), λ w. h.1 (from_write a w))

  -- the list has all of them, and no others
  pub written_all : (out : List Access) → out ≡ writes_of p g F → (a : Access) → Contains out a ↔ IsWrite p g F a
  written_all out is a = subst (λ (l : List Access). Contains l a ↔ IsWrite p g F a) (sym is) (written a)

  pub written_in : (out : List Access) → out ≡ writes_of p g F → IsInGraph g out
  written_in out is = all_in g out (IsWrite p g F) (written_all out is) (write_point p g F)
