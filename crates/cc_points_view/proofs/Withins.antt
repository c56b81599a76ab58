-- The parts of each occurrence of a view are occurrences of it, and what targets have are slots and functions of it.
use Rattle.std.proofs.Common.{◌≡◌, ℕ, zero, suc, ◌+◌, ◌-◌, ◌<◌, ◌≤◌, ⊎_elim, Bool, true, false, not, ◌&&◌, ◌||◌, nat_lt, nat_le, cond, if◌then◌else◌, List, [], ◌∷◌, ◌++◌, length, Option, Some, None, refl, sym, ap, ◌∙◌, subst, arith, length-append}
use Rattle.std.specs.Prelude.{Contains, slice_get}
use Rattle.std.proofs.lemmas.Bool.{false≢true, ltb-true, leb-true, leb-false}
use Rattle.std.proofs.lemmas.Option.{slice_get_within}
use Rattle.cc_arena.specs.declared.arena.Placed.{Placed}
use Rattle.cc_arena.specs.declared.node.Node.{Node}
use Rattle.cc_arena.specs.declared.node.Span.{Span}
use Rattle.cc_arena_rules.specs.declared.around.Around.{Around}
use Rattle.cc_parts.specs.declared.part.Part.{Part}
use Rattle.cc_parts.specs.declared.part.Form.{Form}
use Rattle.cc_parts.specs.declared.part.Form.TheVariants as form
use Rattle.cc_parts.specs.declared.parts.Parts.{Parts}
use Rattle.cc_parts.specs.PartTables as table
use Rattle.cc_parts.specs.Objects.{parts_of_program}
use Rattle.cc_program.specs.declared.function.Function.{Function}
use Rattle.cc_program.specs.declared.program.Program.{Program}
use Rattle.cc_points_base.specs.declared.view.Callee.{Callee}
use Rattle.cc_points_base.specs.declared.view.Seen.{Seen}
use Rattle.cc_points_base.specs.declared.view.View.{View}
use Rattle.cc_points_base.specs.declared.view.What.{What}
use Rattle.cc_points_base.specs.declared.view.What.TheVariants as what
use Rattle.cc_points_base.specs.Parts.{part_list, slots_in, slot_of, slot_in, leaf_of, formal_of, formal_in, function_of, callee_of, callee_at, place_of, if_defined}
use Rattle.cc_points_base.specs.Facts.{IsSeenWithin, IsWithin}
use Rattle.cc_points_view.specs.declared.functions.Tables.{Tables}
use Rattle.cc_points_view.specs.declared.standing.Standing.{Standing}
use Rattle.cc_points_view.specs.Functions.{with_functions, with_callee, with_formals, callee, is_defined}
use Rattle.cc_points_view.specs.Paths.{with_paths, with_part, with_struct, first_parts, is_known}
use Rattle.cc_points_view.specs.Initialisers.{is_braces, cell_if, pointer_cell, init, with_cell, with_initialisers}
use Rattle.cc_points_view.specs.Seeing as seeing
use Rattle.cc_points_view.specs.Views.{all_below, stretch, is_within, unseen, guarded, seen_at, seen_if, with_seen, view_with, view_of, nodes_of, all_seen, all_standings, all_around, tables_of, is_value, literal_at, after, no_tables, copied}

both : (a b : Bool) → (a && b) ≡ true → (a ≡ true) × (b ≡ true)
both true b e = (refl, e)
both false b e = absurd (false≢true e)

-- ---- the targets

chosen : (b : Bool) (q s : ℕ) → cond b (Some q) None ≡ Some s → (b ≡ true) × (q ≡ s)
chosen true q s e = (refl, (let f = e in cc))
chosen false q s e = absurd (let f = e in cc)

slot_within : (P : View) (q s : ℕ) → slot_of P q ≡ Some s → s < slots_in P
slot_within P q s e =
    let c = chosen (nat_lt q (slots_in P) && table.is_slot P.parts.parts q) q s e in
    subst (λ n. n < slots_in P) c.1 (ltb-true q (slots_in P) (both _ _ c.0).0)

refused : {A : Type 0} (b : Bool) (x : Option A) (s : A) → (if b then None else x) ≡ Some s → (b ≡ false) × (x ≡ Some s)
refused true x s e = absurd (let f = e in cc)
refused false x s e = (refl, e)

neither : (a b : Bool) → (a || b) ≡ false → (a ≡ false) × (b ≡ false)
neither true b e = absurd (false≢true (sym e))
neither false b e = (refl, e)

leaf_within : (P : View) (id q w s : ℕ) → leaf_of P id q w ≡ Some s → s < slots_in P
leaf_within P id q w s e =
    let parts = P.parts.parts in
    let r = refused (not (table.is_struct parts id q) || nat_le (table.size_at parts q) w || nat_le (slots_in P) q || nat_le (slots_in P - q) w) (table.pointer_at parts (q + w)) s e in
    let d = neither (not (table.is_struct parts id q) || nat_le (table.size_at parts q) w || nat_le (slots_in P) q) (nat_le (slots_in P - q) w) r.0 in
    let c = neither (not (table.is_struct parts id q) || nat_le (table.size_at parts q) w) (nat_le (slots_in P) q) d.0 in
    let at = (chosen (table.is_pointer parts (q + w)) (q + w) s r.1).1 in
    omega (arith, at, leb-false (slots_in P) q c.1, leb-false (slots_in P - q) w d.1)

formal_slot : (P : View) (o : Option ℕ) (s : ℕ) → slot_in P o ≡ Some s → s < slots_in P
formal_slot P (Some q) s e = slot_within P q s e
formal_slot P None s e = absurd (let f = e in cc)

formal_by : (P : View) (c : Option Callee) (k s : ℕ) → formal_in P c k ≡ Some s → s < slots_in P
formal_by P (Some c) k s e = formal_slot P (slice_get (part_list P.lists c.formals) k) s e
formal_by P None k s e = absurd (let f = e in cc)

defined_by : (P : View) (place : Option ℕ) (i : ℕ) → if_defined (callee_at P place) place ≡ Some i → i < length P.functions
defined_by P (Some j) i e = by (slice_get P.functions j) refl e
  where
    by : (c : Option Callee) → slice_get P.functions j ≡ c → if_defined c (Some j) ≡ Some i → i < length P.functions
    by (Some c) at f =
        let same = (chosen c.is_defined j i f).1 in
        subst (λ n. n < length P.functions) same (slice_get_within P.functions j c at)
    by None at f = absurd (let g = f in cc)
defined_by P None i e = absurd (let f = e in cc)

-- ---- the occurrences

abbrev Every : (Seen → Type 0) → List Seen → Type 0
Every Q xs = (n : ℕ) (x : Seen) → slice_get xs n ≡ Some x → Q x

every_push : (Q : Seen → Type 0) (xs : List Seen) (y : Seen) → Every Q xs → Q y → Every Q (xs ++ y ∷ [])
every_push Q [] y all is zero x at = subst Q (let e : y ≡ x = (let f = at in cc) in e) is
every_push Q [] y all is (suc n) x at = absurd (let e = at in cc)
every_push Q (z ∷ xs) y all is zero x at = all zero x at
every_push Q (z ∷ xs) y all is (suc n) x at = every_push Q xs y (λ m v e. all (suc m) v e) is n x at

below_at : (count : ℕ) (xs : List ℕ) (k a : ℕ) → all_below count xs ≡ true → slice_get xs k ≡ Some a → a < count
below_at count [] k a all at = absurd (let e = at in cc)
below_at count (x ∷ xs) zero a all at =
    let same : x ≡ a = (let e = at in cc) in
    subst (λ n. n < count) same (ltb-true x count (both _ _ all).0)
below_at count (x ∷ xs) (suc k) a all at = below_at count xs k a (both _ _ all).1 at

module _ (P : View) (count : ℕ) (le : count ≤ length P.nodes) where
  abbrev Good : Seen → Type 0
  Good s = IsSeenWithin P s.what

  low : (e : ℕ) → nat_lt e count ≡ true → e < length P.nodes
  low e is = omega (arith, ltb-true e count is, le)

  within_good : (x : What) → is_within count (length P.functions) P.lists x ≡ true → IsSeenWithin P x
  within_good (what.Paren e) is = low e is
  within_good (what.Address e) is = low e is
  within_good (what.Deref e) is = low e is
  within_good (what.Index e) is = low e is
  within_good (what.Offset e) is = low e is
  within_good (what.Comma e) is = low e is
  within_good (what.Member e m) is = low e is
  within_good (what.Arrow e m) is = low e is
  within_good (what.Assign a b) is = (low a (both _ _ is).0, low b (both _ _ is).1)
  within_good (what.Cond a b) is = (low a (both _ _ is).0, low b (both _ _ is).1)
  within_good (what.Call f args) is = (low f (both _ _ is).0, λ k a at. omega (arith, below_at count (part_list P.lists args) k a (both _ _ is).1 at, le))
  within_good (what.Return i e) is = (ltb-true i (length P.functions) (both _ _ is).0, low e (both _ _ is).1)
  within_good (what.Init q e) is = absurd (false≢true is)
  within_good (what.Name q) is = tt
  within_good (what.Designator g) is = tt
  within_good what.Other is = tt

  guarded_good : (s : Seen) → IsSeenWithin P (guarded count (length P.functions) P.lists s).what
  guarded_good s = by (is_within count (length P.functions) P.lists s.what) refl
    where
      by : (b : Bool) → is_within count (length P.functions) P.lists s.what ≡ b → IsSeenWithin P (if b then s else unseen).what
      by true e = within_good s.what e
      by false e = tt

  module _ (p : Program) (parts : Parts) (T : Tables) (around : List Around) (standings : List Standing) (e_lists : T.lists ≡ P.lists) where
    seen_good : (n object : ℕ) (x : Node) (o : Option Standing) → IsSeenWithin P (seen_if p parts T around count (length P.functions) n object x o).what
    seen_good n object x (Some standing) =
        let s = seeing.seen_of parts standing (is_value (slice_get around n)) (seeing.what_of p parts (literal_at parts object) n x standing.function) (seeing.class_of T.paths (seeing.type_of p n)) in
        subst (λ lists. IsSeenWithin P (guarded count (length P.functions) lists s).what) (sym e_lists) (guarded_good s)
    seen_good n object x None = tt

    all_good : (xs : List Placed) (n object : ℕ) (nodes : List Seen) → Every Good nodes → Every Good (with_seen p parts T around count (length P.functions) standings xs n object nodes)
    all_good [] n object nodes all = all
    all_good (x ∷ xs) n object nodes all =
        all_good xs (n + 1) (after x.node object) _ (every_push Good nodes _ all (seen_good n object x.node (slice_get standings n)))

  module _ (standings : List Standing) where
    cell_low : (b : Bool) (o : Option ℕ) (q : ℕ) → cell_if P.parts b o ≡ Some q → q < slots_in P
    cell_low b (Some r) q e =
        let c = chosen (b && nat_lt r (slots_in P) && table.is_pointer P.parts.parts r) r q e in
        subst (λ n. n < slots_in P) c.1 (ltb-true r (slots_in P) (both b (nat_lt r (slots_in P)) (both (b && nat_lt r (slots_in P)) (table.is_pointer P.parts.parts r) c.0).0).1)
    cell_low b None q e = absurd (let f = e in cc)

    pointer_low : (x : Node) (o : Option Standing) (q : ℕ) → pointer_cell P.parts x o ≡ Some q → q < slots_in P
    pointer_low x (Some s) q e = cell_low (s.is_evaluated && not (is_braces x)) s.cell q e
    pointer_low x None q e = absurd (let f = e in cc)

    put_good : (o : Option ℕ) (n : ℕ) (nodes : List Seen) → n < count → ((q : ℕ) → o ≡ Some q → q < slots_in P) → Every Good nodes → Every Good (with_cell o n nodes)
    put_good (Some q) n nodes lt is all = every_push Good nodes (init q n) all (is q refl, omega (arith, lt, le))
    put_good None n nodes lt is all = all

    inits_good : (xs : List Placed) (n : ℕ) (nodes : List Seen) → n + length xs ≤ count → Every Good nodes → Every Good (with_initialisers P.parts standings xs n nodes)
    inits_good [] n nodes small all = all
    inits_good (x ∷ xs) n nodes small all =
        inits_good xs (n + 1) _ (omega (arith, small)) (put_good (pointer_cell P.parts x.node (slice_get standings n)) n nodes (omega (arith, small)) (λ q e. pointer_low x.node (slice_get standings n) q e) all)

-- ---- how many occurrences there are

seen_long : (p : Program) (parts : Parts) (T : Tables) (around : List Around) (count functions : ℕ) (standings : List Standing) (xs : List Placed) (n object : ℕ) (nodes : List Seen) →
    length (with_seen p parts T around count functions standings xs n object nodes) ≡ length nodes + length xs
seen_long p parts T around count functions standings [] n object nodes = omega arith
seen_long p parts T around count functions standings (x ∷ xs) n object nodes =
    let y = seen_if p parts T around count functions n object x.node (slice_get standings n) in
    omega (arith, seen_long p parts T around count functions standings xs (n + 1) (after x.node object) (nodes ++ y ∷ []), length-append nodes (y ∷ []))

cell_long : (o : Option ℕ) (n : ℕ) (nodes : List Seen) → length nodes ≤ length (with_cell o n nodes)
cell_long (Some q) n nodes = omega (arith, length-append nodes (init q n ∷ []))
cell_long None n nodes = omega arith

inits_long : (parts : Parts) (standings : List Standing) (xs : List Placed) (n : ℕ) (nodes : List Seen) → length nodes ≤ length (with_initialisers parts standings xs n nodes)
inits_long parts standings [] n nodes = omega arith
inits_long parts standings (x ∷ xs) n nodes =
    let more = with_cell (pointer_cell parts x.node (slice_get standings n)) n nodes in
    omega (arith, cell_long (pointer_cell parts x.node (slice_get standings n)) n nodes, inits_long parts standings xs (n + 1) more)

-- ---- all together

module _ (p : Program) (parts : Parts) (T : Tables) (e_functions : length T.functions ≡ length p.functions) where
  pub with_within : IsWithin (view_with p parts T)
  with_within =
      let V = view_with p parts T in
      let xs = p.arena.nodes in
      let seen = with_seen p parts T (all_around p) (length xs) (length p.functions) (all_standings p parts) xs 0 (length p.variables) [] in
      let long : length xs ≤ length V.nodes = omega (arith, seen_long p parts T (all_around p) (length xs) (length p.functions) (all_standings p parts) xs 0 (length p.variables) [], inits_long parts (all_standings p parts) xs 0 seen) in
      let first : Every (λ s. IsSeenWithin V s.what) seen =
      subst (λ k. Every (λ s. IsSeenWithin V s.what) (with_seen p parts T (all_around p) (length xs) k (all_standings p parts) xs 0 (length p.variables) [])) e_functions
      (all_good V (length xs) long p parts T (all_around p) (all_standings p parts) refl xs 0 (length p.variables) [] (λ n x at. absurd (let e = at in cc))) in
      record {
        nodes = inits_good V (length xs) long (all_standings p parts) xs 0 seen (omega arith) first;
        slots = slot_within V;
        leaves = leaf_within V;
        formals = λ g k s e. formal_by V (callee_of V g) k s e;
        functions = λ g i e. defined_by V (place_of V g) i e;
      }

part_keeps : (f : Form) (size : ℕ) (parts : List Part) (T : Tables) → (with_part f size parts T).functions ≡ T.functions
part_keeps form.Number size parts T = refl
part_keeps form.Pointer size parts T = refl
part_keeps form.Array size parts T = refl
part_keeps (form.Struct id) size parts T = by (is_known T.paths id.0)
  where
    by : (b : Bool) → (if b then T else with_struct id.0 (first_parts parts size) T).functions ≡ T.functions
    by true = refl
    by false = refl
part_keeps form.Other size parts T = refl

paths_keep : (ps : List Part) (T : Tables) → (with_paths ps T).functions ≡ T.functions
paths_keep [] T = refl
paths_keep (q ∷ ps) T = paths_keep ps (with_part q.form q.size (q ∷ ps) T) ∙ part_keeps q.form q.size (q ∷ ps) T

functions_long : (parts : Parts) (fs : List Function) (T : Tables) → length (with_functions parts fs T).functions ≡ length T.functions + length fs
functions_long parts [] T = omega arith
functions_long parts (f ∷ fs) T =
    let c = callee (is_defined f.kind) (length T.lists) (length (with_formals parts f.formals T.lists)) in
    omega (arith, functions_long parts fs (with_callee parts f.formals (is_defined f.kind) T), length-append T.functions (c ∷ []))

pub view_within : (p : Program) → IsWithin (view_of p)
view_within p =
    let parts = parts_of_program p in
    let T = with_functions parts p.functions (no_tables (copied p.arena.lists [])) in
    let none : 0 + length p.functions ≡ length p.functions = omega arith in
    with_within p parts (tables_of p parts) (ap (λ (fs : List Callee). length fs) (paths_keep parts.parts T) ∙ functions_long parts p.functions (no_tables (copied p.arena.lists [])) ∙ none)
