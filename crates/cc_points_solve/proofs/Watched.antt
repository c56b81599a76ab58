-- The edges and pairs that a row of a table adds.
use Rattle.std.proofs.Common.{ℕ, ◌≡◌, ◌⊎◌, inl, inr, ⊎_elim, List, [], ◌∷◌, Option, Some, None, sym, ap, ◌∙◌, subst}
use Rattle.std.specs.Prelude.{Contains, ◌↔◌}
use Rattle.std.proofs.lemmas.List.Elements.{Contains-push, Contains-push_cases, Contains-append_left}
use Rattle.cc_points_base.specs.declared.view.View.{View}
use Rattle.cc_points_base.specs.declared.layout.Layout.{Layout}
use Rattle.cc_points_base.specs.declared.constraint.Watch.{Watch}
use Rattle.cc_solver.specs.declared.rules.Pair.{Pair}
use Rattle.cc_solver.specs.declared.rules.Edge.{Edge}
use Rattle.cc_points_solve.specs.Watching.{edge_of, pair_of, edge_pushed, edges_by, pair_pushed, pairs_by, AddsEdge, GivesPair}
use Rattle.cc_points_solve.proofs.Lists.{none, cons_cases, here, later}

edge_kept : (o : Option Edge) (out : List Edge) (e : Edge) → Contains out e → Contains (edge_pushed o out) e
edge_kept (Some x) out e is = Contains-append_left out _ e is
edge_kept None out e is = is

edge_cases : (o : Option Edge) (out : List Edge) (e : Edge) → Contains (edge_pushed o out) e → Contains out e ⊎ (o ≡ Some e)
edge_cases (Some x) out e is = ⊎_elim inl (λ same. inr (ap Some same)) (Contains-push_cases out x e is)
edge_cases None out e is = inl is

edge_new : (o : Option Edge) (out : List Edge) (e : Edge) → o ≡ Some e → Contains (edge_pushed o out) e
edge_new o out e is = subst (λ x. Contains (edge_pushed x out) e) (sym is) (Contains-push out e)

edges_has : (P : View) (L : Layout) (ws : List Watch) (t : ℕ) (out : List Edge) (e : Edge) → Contains out e ⊎ AddsEdge P L ws t e → Contains (edges_by P L ws t out) e
edges_has P L [] t out e (inl is) = is
edges_has P L [] t out e (inr never) = absurd (none _ never.1)
edges_has P L (w ∷ ws) t out e (inl is) = edges_has P L ws t (edge_pushed (edge_of P L w t) out) e (inl (edge_kept (edge_of P L w t) out e is))
edges_has P L (w ∷ ws) t out e (inr a) = ⊎_elim
    (λ same. edges_has P L ws t (edge_pushed (edge_of P L w t) out) e (inl (edge_new (edge_of P L w t) out e (ap (λ v. edge_of P L v t) same ∙ a.2))))
    (λ more. edges_has P L ws t (edge_pushed (edge_of P L w t) out) e (inr (a.0, more, a.2)))
    (cons_cases w ws a.0 a.1)

edges_only : (P : View) (L : Layout) (ws : List Watch) (t : ℕ) (out : List Edge) (e : Edge) → Contains (edges_by P L ws t out) e → Contains out e ⊎ AddsEdge P L ws t e
edges_only P L [] t out e is = inl is
edges_only P L (w ∷ ws) t out e is = ⊎_elim
    (λ old. ⊎_elim inl (λ new. inr (w, here w ws, new)) (edge_cases (edge_of P L w t) out e old))
    (λ a. inr (a.0, later w ws a.0 a.1, a.2))
    (edges_only P L ws t (edge_pushed (edge_of P L w t) out) e is)

pub edges_are : (P : View) (L : Layout) (ws : List Watch) (t : ℕ) (out new : List Edge) → new ≡ edges_by P L ws t out → (e : Edge) → Contains new e ↔ (Contains out e ⊎ AddsEdge P L ws t e)
edges_are P L ws t out new is e = (λ has. edges_only P L ws t out e (subst (λ xs. Contains xs e) is has), λ why. subst (λ xs. Contains xs e) (sym is) (edges_has P L ws t out e why))

pair_kept : (o : Option Pair) (out : List Pair) (e : Pair) → Contains out e → Contains (pair_pushed o out) e
pair_kept (Some x) out e is = Contains-append_left out _ e is
pair_kept None out e is = is

pair_cases : (o : Option Pair) (out : List Pair) (e : Pair) → Contains (pair_pushed o out) e → Contains out e ⊎ (o ≡ Some e)
pair_cases (Some x) out e is = ⊎_elim inl (λ same. inr (ap Some same)) (Contains-push_cases out x e is)
pair_cases None out e is = inl is

pair_new : (o : Option Pair) (out : List Pair) (e : Pair) → o ≡ Some e → Contains (pair_pushed o out) e
pair_new o out e is = subst (λ x. Contains (pair_pushed x out) e) (sym is) (Contains-push out e)

pairs_has : (P : View) (ws : List Watch) (t : ℕ) (out : List Pair) (e : Pair) → Contains out e ⊎ GivesPair P ws t e → Contains (pairs_by P ws t out) e
pairs_has P [] t out e (inl is) = is
pairs_has P [] t out e (inr never) = absurd (none _ never.1)
pairs_has P (w ∷ ws) t out e (inl is) = pairs_has P ws t (pair_pushed (pair_of P w t) out) e (inl (pair_kept (pair_of P w t) out e is))
pairs_has P (w ∷ ws) t out e (inr a) = ⊎_elim
    (λ same. pairs_has P ws t (pair_pushed (pair_of P w t) out) e (inl (pair_new (pair_of P w t) out e (ap (λ v. pair_of P v t) same ∙ a.2))))
    (λ more. pairs_has P ws t (pair_pushed (pair_of P w t) out) e (inr (a.0, more, a.2)))
    (cons_cases w ws a.0 a.1)

pairs_only : (P : View) (ws : List Watch) (t : ℕ) (out : List Pair) (e : Pair) → Contains (pairs_by P ws t out) e → Contains out e ⊎ GivesPair P ws t e
pairs_only P [] t out e is = inl is
pairs_only P (w ∷ ws) t out e is = ⊎_elim
    (λ old. ⊎_elim inl (λ new. inr (w, here w ws, new)) (pair_cases (pair_of P w t) out e old))
    (λ a. inr (a.0, later w ws a.0 a.1, a.2))
    (pairs_only P ws t (pair_pushed (pair_of P w t) out) e is)

pub pairs_are : (P : View) (ws : List Watch) (t : ℕ) (out new : List Pair) → new ≡ pairs_by P ws t out → (e : Pair) → Contains new e ↔ (Contains out e ⊎ GivesPair P ws t e)
pairs_are P ws t out new is e = (λ has. pairs_only P ws t out e (subst (λ xs. Contains xs e) is has), λ why. subst (λ xs. Contains xs e) (sym is) (pairs_has P ws t out e why))
