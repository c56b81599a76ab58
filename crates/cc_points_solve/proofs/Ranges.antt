-- Each number in what the nodes ask is one of a holder.
use Rattle.std.proofs.Common.{ℕ, ◌+◌, ◌<◌, ◌≡◌, Bool, true, false, List, [], ◌∷◌, Option, Some, None, ap, subst}
use Rattle.std.specs.Prelude.{Contains, cond}
use Rattle.cc_points_base.specs.declared.view.View.{View}
use Rattle.cc_points_base.specs.declared.view.What.{What}
use Rattle.cc_points_base.specs.declared.view.What.TheVariants as what
use Rattle.cc_points_base.specs.declared.view.Class.{Class}
use Rattle.cc_points_base.specs.declared.view.Class.TheVariants as class
use Rattle.cc_points_base.specs.declared.layout.Layout.{Layout}
use Rattle.cc_points_base.specs.declared.constraint.Constraint.{Constraint}
use Rattle.cc_points_base.specs.declared.constraint.Constraint.TheVariants.{Has, Joins, Watches}
use Rattle.cc_points_base.specs.declared.constraint.Watch.{Watch}
use Rattle.cc_points_base.specs.declared.constraint.Watch.TheVariants as watch
use Rattle.cc_points_base.specs.Layouts.{layout_of, value, place}
use Rattle.cc_points_base.specs.Parts.{part_list, slot_of, element_of, member_of, leaf_of, formal_of, function_of, is_function, is_part}
use Rattle.cc_points_base.specs.Saying.{passes, copies, asks, reads}
use Rattle.cc_points_solve.specs.Watching as rule
use Rattle.cc_points_solve.specs.Law.{holders_of}
use Rattle.cc_points_solve.specs.Solving.{asked_by}
use Rattle.cc_points_solve.proofs.Lists.{none, Every}
use Rattle.cc_points_solve.proofs.Asked.{asked_are}
use Rattle.cc_points_solve.proofs.Numbers.{value_within, slot_within, place_within, result_within, copy_within}
use Rattle.cc_points_solve.proofs.Right.{an_edge, a_pair, the_from, the_to, the_holder}

abbrev pub IsWatchWithin : ℕ → Watch → Type 0
IsWatchWithin H (watch.Loads to) = to < H
IsWatchWithin H (watch.Stores from) = from < H
IsWatchWithin H (watch.Member m to) = to < H
IsWatchWithin H (watch.Element to) = to < H
IsWatchWithin H (watch.Parts to) = to < H
IsWatchWithin H (watch.Functions to) = to < H
IsWatchWithin H (watch.Passes k from) = from < H
IsWatchWithin H (watch.Copies id w to) = to < H
IsWatchWithin H (watch.Pastes id w from) = from < H
IsWatchWithin H (watch.Returns to) = to < H

abbrev pub IsConstraintWithin : ℕ → Constraint → Type 0
IsConstraintWithin H (Has h t) = h < H
IsConstraintWithin H (Joins g h) = (g < H) × (h < H)
IsConstraintWithin H (Watches p w) = (p < H) × IsWatchWithin H w

module _ (L : Layout) where
  v : (n : ℕ) → value L n < holders_of L
  v n = value_within L n

  p : (n : ℕ) → place L n < holders_of L
  p n = place_within L n

  passes_within : (f : ℕ) (args : List ℕ) (k : ℕ) → Every (IsConstraintWithin (holders_of L)) (passes L f args k)
  passes_within f [] k = tt
  passes_within f (a ∷ args) k = ((value_within L f, value_within L a), passes_within f args (k + 1))

  copies_within : (id k l r : ℕ) (paths : List ℕ) (j : ℕ) → Every (IsConstraintWithin (holders_of L)) (copies L id k l r paths j)
  copies_within id k l r [] j = tt
  copies_within id k l r (w ∷ paths) j = ((p r, copy_within L (k + j)), ((p l, copy_within L (k + j)), copies_within id k l r paths (j + 1)))

  asks_within : (lists : List ℕ) (n k : ℕ) (c : Class) (x : What) → Every (IsConstraintWithin (holders_of L)) (asks L lists n k c x)
  asks_within lists n k c (what.Name q) = (p n, tt)
  asks_within lists n k c (what.Designator g) = (v n, tt)
  asks_within lists n k c (what.Paren e) = ((v e, v n), ((p e, p n), tt))
  asks_within lists n k c (what.Address e) = ((p e, v n), ((v e, v n), tt))
  asks_within lists n k c (what.Deref e) = ((v e, p n), ((v e, v n), tt))
  asks_within lists n k c (what.Index a) = ((v a, p n), tt)
  asks_within lists n k c (what.Member e m) = ((p e, p n), tt)
  asks_within lists n k c (what.Arrow e m) = ((v e, p n), tt)
  asks_within lists n k class.Pointer (what.Assign l r) = ((v r, v n), ((p l, v r), tt))
  asks_within lists n k class.Array (what.Assign l r) = ((v r, v n), tt)
  asks_within lists n k (class.Struct id paths) (what.Assign l r) = ((v r, v n), copies_within id k l r (part_list lists paths) 0)
  asks_within lists n k class.Other (what.Assign l r) = ((v r, v n), tt)
  asks_within lists n k c (what.Offset e) = ((v e, v n), tt)
  asks_within lists n k c (what.Cond a b) = ((v a, v n), ((v b, v n), tt))
  asks_within lists n k c (what.Comma b) = ((v b, v n), tt)
  asks_within lists n k c (what.Call f args) = ((v f, v n), passes_within f (part_list lists args) 0)
  asks_within lists n k c (what.Return i e) = ((v e, result_within L i), tt)
  asks_within lists n k c (what.Init s e) = ((v e, slot_within L s), tt)
  asks_within lists n k c what.Other = tt

  reads_within : (n : ℕ) (c : Class) (u : Bool) → Every (IsConstraintWithin (holders_of L)) (reads L n c u)
  reads_within n class.Pointer true = ((p n, v n), tt)
  reads_within n class.Pointer false = tt
  reads_within n class.Array true = ((p n, v n), tt)
  reads_within n class.Array false = tt
  reads_within n (class.Struct id paths) u = tt
  reads_within n class.Other u = tt

  loads_within : (o : Option ℕ) (to g h : ℕ) → to < holders_of L → rule.loads L o to ≡ an_edge g h → (g < holders_of L) × (h < holders_of L)
  loads_within (Some s) to g h lt e = (subst (λ x. x < holders_of L) (ap the_from e) (slot_within L s), subst (λ x. x < holders_of L) (ap the_to e) lt)
  loads_within None to g h lt e = absurd (let q = e in cc)

  stores_within : (o : Option ℕ) (from g h : ℕ) → from < holders_of L → rule.stores L o from ≡ an_edge g h → (g < holders_of L) × (h < holders_of L)
  stores_within (Some s) from g h lt e = (subst (λ x. x < holders_of L) (ap the_from e) lt, subst (λ x. x < holders_of L) (ap the_to e) (slot_within L s))
  stores_within None from g h lt e = absurd (let q = e in cc)

  returns_within : (o : Option ℕ) (to g h : ℕ) → to < holders_of L → rule.returns L o to ≡ an_edge g h → (g < holders_of L) × (h < holders_of L)
  returns_within (Some i) to g h lt e = (subst (λ x. x < holders_of L) (ap the_from e) (result_within L i), subst (λ x. x < holders_of L) (ap the_to e) lt)
  returns_within None to g h lt e = absurd (let q = e in cc)

  pub edge_within : (P : View) (w : Watch) (q g h : ℕ) → IsWatchWithin (holders_of L) w → rule.edge_of P L w q ≡ an_edge g h → (g < holders_of L) × (h < holders_of L)
  edge_within P (watch.Loads to) q g h lt e = loads_within (slot_of P q) to g h lt e
  edge_within P (watch.Stores from) q g h lt e = stores_within (slot_of P q) from g h lt e
  edge_within P (watch.Member m to) q g h lt e = absurd (let x = e in cc)
  edge_within P (watch.Element to) q g h lt e = absurd (let x = e in cc)
  edge_within P (watch.Parts to) q g h lt e = absurd (let x = e in cc)
  edge_within P (watch.Functions to) q g h lt e = absurd (let x = e in cc)
  edge_within P (watch.Passes k from) q g h lt e = stores_within (formal_of P q k) from g h lt e
  edge_within P (watch.Copies id w to) q g h lt e = loads_within (leaf_of P id q w) to g h lt e
  edge_within P (watch.Pastes id w from) q g h lt e = stores_within (leaf_of P id q w) from g h lt e
  edge_within P (watch.Returns to) q g h lt e = returns_within (function_of P q) to g h lt e

  gives_within : (o : Option ℕ) (to h t : ℕ) → to < holders_of L → rule.gives o to ≡ a_pair h t → h < holders_of L
  gives_within (Some q) to h t lt e = subst (λ x. x < holders_of L) (ap the_holder e) lt
  gives_within None to h t lt e = absurd (let q = e in cc)

  chosen_within : (b : Bool) (q to h t : ℕ) → to < holders_of L → cond b (a_pair to q) None ≡ a_pair h t → h < holders_of L
  chosen_within true q to h t lt e = subst (λ x. x < holders_of L) (ap the_holder e) lt
  chosen_within false q to h t lt e = absurd (let x = e in cc)

  pub pair_within : (P : View) (w : Watch) (q h t : ℕ) → IsWatchWithin (holders_of L) w → rule.pair_of P w q ≡ a_pair h t → h < holders_of L
  pair_within P (watch.Loads to) q h t lt e = absurd (let x = e in cc)
  pair_within P (watch.Stores from) q h t lt e = absurd (let x = e in cc)
  pair_within P (watch.Member m to) q h t lt e = gives_within (member_of P q m) to h t lt e
  pair_within P (watch.Element to) q h t lt e = gives_within (element_of P q) to h t lt e
  pair_within P (watch.Parts to) q h t lt e = chosen_within (is_part P q) q to h t lt e
  pair_within P (watch.Functions to) q h t lt e = chosen_within (is_function P q) q to h t lt e
  pair_within P (watch.Passes k from) q h t lt e = absurd (let x = e in cc)
  pair_within P (watch.Copies id w to) q h t lt e = absurd (let x = e in cc)
  pair_within P (watch.Pastes id w from) q h t lt e = absurd (let x = e in cc)
  pair_within P (watch.Returns to) q h t lt e = absurd (let x = e in cc)

pub all_within : (P : View) (y : Constraint) → Contains (asked_by P) y → IsConstraintWithin (holders_of (layout_of P)) y
all_within P = asked_are (layout_of P) P.lists (IsConstraintWithin (holders_of (layout_of P))) P.nodes 0 0 [] (λ y is. absurd (none y is)) (λ i m j x e f at. (asks_within (layout_of P) P.lists m j x.class x.what, reads_within (layout_of P) m x.class x.used))
