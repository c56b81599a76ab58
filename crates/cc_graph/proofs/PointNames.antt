-- Each point stands at its number, and nothing else does.
use Rattle.std.proofs.Common.{ℕ, zero, suc, ◌+◌, ◌≤◌, ◌≡◌, ◌⊎◌, inl, inr, Bool, true, false, List, [], ◌∷◌, ◌++◌, Option, Some, None, length, slice_get, refl, sym, ap, subst, ◌∙◌, arith, length-append}
use Rattle.cc_arena.specs.declared.arena.Placed.{Placed}
use Rattle.cc_arena.specs.declared.node.Node.{Node}
use Rattle.cc_graph.specs.declared.position.Position.{Position}
use Rattle.cc_graph.specs.declared.position.Position.TheVariants.{Root, Entry, Exit, Before, At, After}
use Rattle.cc_graph.specs.declared.position.Row.{Row}
use Rattle.cc_graph.specs.declared.standing.Standing.{Standing}
use Rattle.cc_graph.specs.declared.standing.Standing.TheVariants.{Unevaluated, Declaring, Evaluated, Defining}
use Rattle.cc_graph.specs.Points.{entry, exit, before, at, after, number, is_call, jumps, row_with, row, next_point, standing_or, numbered, positions_in, positions_from, positions_of, rows_of, points_in, IsNaming}
use Rattle.cc_graph.specs.declared.graph.Points.{Points}
use Rattle.cc_graph.specs.Evaluated.{standings}
use Rattle.cc_graph.specs.Graphs.{ArePoints}
use Rattle.cc_graph.specs.Limit.{most_points}
use Rattle.cc_program.specs.declared.program.Program.{Program}

either : {A B C : Type 0} → (A → C) → (B → C) → A ⊎ B → C
either f g (inl a) = f a
either f g (inr b) = g b

get_left : {A : Type 0} (xs ys : List A) (i : ℕ) (x : A) → slice_get xs i ≡ Some x → slice_get (xs ++ ys) i ≡ Some x
get_left [] ys i x h = cc
get_left (y ∷ xs) ys zero x h = h
get_left (y ∷ xs) ys (suc i) x h = get_left xs ys i x h

get_right : {A : Type 0} (xs ys : List A) (i k : ℕ) → k ≡ length xs + i → slice_get (xs ++ ys) k ≡ slice_get ys i
get_right [] ys i k e = ap (slice_get ys) (let is : k ≡ i = omega (arith, e) in is)
get_right (y ∷ xs) ys i zero e = absurd (omega (arith, e))
get_right (y ∷ xs) ys i (suc k) e = get_right xs ys i k (omega (arith, e))

get_cases : {A : Type 0} (xs ys : List A) (k : ℕ) (x : A) → slice_get (xs ++ ys) k ≡ Some x → (slice_get xs k ≡ Some x) ⊎ ((i : ℕ) × (k ≡ length xs + i) × (slice_get ys i ≡ Some x))
get_cases [] ys k x h = inr (k, omega arith, h)
get_cases (y ∷ xs) ys zero x h = inl h
get_cases (y ∷ xs) ys (suc k) x h = either inl (λ (i, e, g). inr (i, omega (arith, e), g)) (get_cases xs ys k x h)

-- the node whose point it is; the root is no node's
abbrev place_of : Position → ℕ
place_of Root = 0
place_of (Entry n) = n
place_of (Exit n) = n
place_of (Before n) = n
place_of (At n) = n
place_of (After n) = n

abbrev IsOfNode : Position → Type 0
IsOfNode Root = ⊥
IsOfNode p = Unit {0}

-- its number, by the row of its node
abbrev said : Position → Option Row → Option ℕ
said Root o = Some 0
said (Entry n) o = entry o
said (Exit n) o = exit o
said (Before n) o = before o
said (At n) o = at o
said (After n) o = after o

number_is : (rows : List Row) (p : Position) → number rows p ≡ said p (slice_get rows (place_of p))
number_is rows Root = refl
number_is rows (Entry n) = refl
number_is rows (Exit n) = refl
number_is rows (Before n) = refl
number_is rows (At n) = refl
number_is rows (After n) = refl

-- what is said with no row is said with any
said_anyway : (p : Position) (k : ℕ) (o : Option Row) → said p None ≡ Some k → said p o ≡ Some k
said_anyway Root k o h = h
said_anyway (Entry n) k o h = cc
said_anyway (Exit n) k o h = cc
said_anyway (Before n) k o h = cc
said_anyway (At n) k o h = cc
said_anyway (After n) k o h = cc

one_of : (r s : Row) (i : ℕ) → slice_get (r ∷ []) i ≡ Some s → (i ≡ 0) × (r ≡ s)
one_of r s zero h = (refl, cc)
one_of r s (suc i) h = cc

module _ (rows : List Row) (r : Row) where
  kept_by : (p : Position) (k : ℕ) (o : Option Row) → slice_get rows (place_of p) ≡ o → said p o ≡ Some k → said p (slice_get (rows ++ r ∷ []) (place_of p)) ≡ Some k
  kept_by p k (Some s) e h = ap (said p) (get_left rows (r ∷ []) (place_of p) s e) ∙ h
  kept_by p k None e h = said_anyway p k _ h

  -- a number stays
  kept : (p : Position) (k : ℕ) → number rows p ≡ Some k → number (rows ++ r ∷ []) p ≡ Some k
  kept p k h = number_is (rows ++ r ∷ []) p ∙ kept_by p k _ refl (sym (number_is rows p) ∙ h)

  -- it is the new row's
  abbrev IsNew : Position → ℕ → Type 0
  IsNew p k = (place_of p ≡ length rows) × (said p (Some r) ≡ Some k)

  new_by : (p : Position) (k : ℕ) (o : Option Row) → slice_get (rows ++ r ∷ []) (place_of p) ≡ o → said p o ≡ Some k → (said p (slice_get rows (place_of p)) ≡ Some k) ⊎ IsNew p k
  new_by p k (Some s) e h = either
      (λ old. inl (ap (said p) old ∙ h))
      (λ (i, at, there). let is = one_of r s i there in inr (omega (arith, at, is.0), ap (λ z. said p (Some z)) is.1 ∙ h))
      (get_cases rows (r ∷ []) (place_of p) s e)
  new_by p k None e h = inl (said_anyway p k _ h)

  -- a number was there, or is the new row's
  is_new : (p : Position) (k : ℕ) → number (rows ++ r ∷ []) p ≡ Some k → (number rows p ≡ Some k) ⊎ IsNew p k
  is_new p k h = either (λ old. inl (number_is rows p ∙ old)) inr (new_by p k _ refl (sym (number_is (rows ++ r ∷ []) p) ∙ h))

  own : (p : Position) (k : ℕ) → place_of p ≡ length rows → said p (Some r) ≡ Some k → number (rows ++ r ∷ []) p ≡ Some k
  own p k place h =
      let seam : slice_get (rows ++ r ∷ []) (place_of p) ≡ Some r = get_right rows (r ∷ []) 0 (place_of p) (omega (arith, place)) in
      number_is (rows ++ r ∷ []) p ∙ ap (said p) seam ∙ h

-- the i-th point behind k stands at i
abbrev StandsAt : List Position → ℕ → ℕ → Position → Type 0
StandsAt ps k j p = (i : ℕ) × (j ≡ k + i) × (slice_get ps i ≡ Some p)

abbrev more : Standing → Bool → ℕ → ℕ → List Position
more s b k n = positions_in s (row_with s false b k).at n

same : (k i j : ℕ) → Some (k + i) ≡ Some j → j ≡ k + i
same k i j h = let e : k + i ≡ j = cc in sym e

same_first : (k j : ℕ) → Some k ≡ Some j → j ≡ k + 0
same_first k j h = let e : k ≡ j = cc in omega (arith, e)

evaluated_told : (jumps b : Bool) (k n j : ℕ) (p : Position) → IsOfNode p → place_of p ≡ n → said p (Some (row_with Evaluated jumps b k)) ≡ Some j → StandsAt (more Evaluated b k n) k j p
evaluated_told w true k n j (Before m) u e h = (0, same_first k j h, ap (λ i. Some (Before i)) (sym e))
evaluated_told w true k n j (At m) u e h = (1, same k 1 j h, ap (λ i. Some (At i)) (sym e))
evaluated_told w true k n j (After m) u e h = (2, same k 2 j h, ap (λ i. Some (After i)) (sym e))
evaluated_told w false k n j (Before m) u e h = (0, same_first k j h, ap (λ i. Some (Before i)) (sym e))
evaluated_told w false k n j (At m) u e h = cc
evaluated_told w false k n j (After m) u e h = (1, same k 1 j h, ap (λ i. Some (After i)) (sym e))
evaluated_told w b k n j (Entry m) u e h = cc
evaluated_told w b k n j (Exit m) u e h = cc
evaluated_told w b k n j Root u e h = elim u [ ]

-- a point of the new row stands among its positions
told : (what : Node) (s : Standing) (k n j : ℕ) (p : Position) → IsOfNode p → place_of p ≡ n → said p (Some (row what s k)) ≡ Some j → StandsAt (positions_in s (row what s k).at n) k j p
told what Evaluated k n j p u e h = evaluated_told (jumps what) (is_call what) k n j p u e h
told what Defining k n j (Entry m) u e h = (0, same_first k j h, ap (λ i. Some (Entry i)) (sym e))
told what Defining k n j (Exit m) u e h = (1, same k 1 j h, ap (λ i. Some (Exit i)) (sym e))
told what Defining k n j (Before m) u e h = cc
told what Defining k n j (At m) u e h = cc
told what Defining k n j (After m) u e h = cc
told what Unevaluated k n j (Entry m) u e h = cc
told what Unevaluated k n j (Exit m) u e h = cc
told what Unevaluated k n j (Before m) u e h = cc
told what Unevaluated k n j (At m) u e h = cc
told what Unevaluated k n j (After m) u e h = cc
told what Declaring k n j (Entry m) u e h = cc
told what Declaring k n j (Exit m) u e h = cc
told what Declaring k n j (Before m) u e h = cc
told what Declaring k n j (At m) u e h = cc
told what Declaring k n j (After m) u e h = cc
told what Unevaluated k n j Root u e h = elim u [ ]
told what Declaring k n j Root u e h = elim u [ ]
told what Defining k n j Root u e h = elim u [ ]

-- p is the i-th point of the row
abbrev IsPoint : Row → ℕ → ℕ → ℕ → Position → Type 0
IsPoint r k n i p = (place_of p ≡ n) × (said p (Some r) ≡ Some (k + i))

is_point : (r : Row) (k n i : ℕ) (p q : Position) → IsPoint r k n i p → Some p ≡ Some q → IsPoint r k n i q
is_point r k n i p q h e = let is : p ≡ q = cc in subst (IsPoint r k n i) is h

first : (k : ℕ) → Some k ≡ Some (k + 0)
first k = ap Some (let e : k ≡ k + 0 = omega arith in e)

evaluated_tells : (jumps b : Bool) (k n i : ℕ) (p : Position) → slice_get (more Evaluated b k n) i ≡ Some p → IsPoint (row_with Evaluated jumps b k) k n i p
evaluated_tells w true k n zero p h = is_point _ k n 0 (Before n) p (refl, first k) h
evaluated_tells w true k n (suc zero) p h = is_point _ k n 1 (At n) p (refl, refl) h
evaluated_tells w true k n (suc (suc zero)) p h = is_point _ k n 2 (After n) p (refl, refl) h
evaluated_tells w true k n (suc (suc (suc i))) p h = cc
evaluated_tells w false k n zero p h = is_point _ k n 0 (Before n) p (refl, first k) h
evaluated_tells w false k n (suc zero) p h = is_point _ k n 1 (After n) p (refl, refl) h
evaluated_tells w false k n (suc (suc i)) p h = cc

-- what stands among the positions of a row is a point of it
tells : (what : Node) (s : Standing) (k n i : ℕ) (p : Position) → slice_get (positions_in s (row what s k).at n) i ≡ Some p → IsPoint (row what s k) k n i p
tells what Evaluated k n i p h = evaluated_tells (jumps what) (is_call what) k n i p h
tells what Defining k n zero p h = is_point _ k n 0 (Entry n) p (refl, first k) h
tells what Defining k n (suc zero) p h = is_point _ k n 1 (Exit n) p (refl, refl) h
tells what Defining k n (suc (suc i)) p h = cc
tells what Unevaluated k n i p h = cc
tells what Declaring k n i p h = cc

-- the root's number is 0, where it is named so
record Names (rows : List Row) (positions : List Position) (k : ℕ) : Type 0 where
  naming : IsNaming rows positions
  counted : length positions ≡ k

told_more : (rows : List Row) (positions : List Position) (k : ℕ) (what : Node) (s : Standing) → Names rows positions k → (p : Position) (j : ℕ) → IsNew rows (row what s k) p j → IsOfNode p → slice_get (positions ++ positions_in s (row what s k).at (length rows)) j ≡ Some p
told_more rows positions k what s h p j new u =
    let t = told what s k (length rows) j p u new.0 new.1 in
    get_right positions (positions_in s (row what s k).at (length rows)) t.0 j (omega (arith, t.1, h.counted)) ∙ t.2

told_then : (rows : List Row) (positions : List Position) (k : ℕ) (what : Node) (s : Standing) → Names rows positions k → (p : Position) (j : ℕ) → number (rows ++ row what s k ∷ []) p ≡ Some j → slice_get (positions ++ positions_in s (row what s k).at (length rows)) j ≡ Some p
told_then rows positions k what s h Root j e = get_left positions _ j Root (h.naming.told Root j e)
told_then rows positions k what s h (Entry n) j e = either (λ old. get_left positions _ j (Entry n) (h.naming.told (Entry n) j old)) (λ new. told_more rows positions k what s h (Entry n) j new tt) (is_new rows (row what s k) (Entry n) j e)
told_then rows positions k what s h (Exit n) j e = either (λ old. get_left positions _ j (Exit n) (h.naming.told (Exit n) j old)) (λ new. told_more rows positions k what s h (Exit n) j new tt) (is_new rows (row what s k) (Exit n) j e)
told_then rows positions k what s h (Before n) j e = either (λ old. get_left positions _ j (Before n) (h.naming.told (Before n) j old)) (λ new. told_more rows positions k what s h (Before n) j new tt) (is_new rows (row what s k) (Before n) j e)
told_then rows positions k what s h (At n) j e = either (λ old. get_left positions _ j (At n) (h.naming.told (At n) j old)) (λ new. told_more rows positions k what s h (At n) j new tt) (is_new rows (row what s k) (At n) j e)
told_then rows positions k what s h (After n) j e = either (λ old. get_left positions _ j (After n) (h.naming.told (After n) j old)) (λ new. told_more rows positions k what s h (After n) j new tt) (is_new rows (row what s k) (After n) j e)

tells_then : (rows : List Row) (positions : List Position) (k : ℕ) (what : Node) (s : Standing) → Names rows positions k → (p : Position) (j : ℕ) → slice_get (positions ++ positions_in s (row what s k).at (length rows)) j ≡ Some p → number (rows ++ row what s k ∷ []) p ≡ Some j
tells_then rows positions k what s h p j e = either
    (λ old. kept rows (row what s k) p j (h.naming.tells p j old))
    (λ (i, at, there).
    let t = tells what s k (length rows) i p there in
    let is : k + i ≡ j = omega (arith, at, h.counted) in
    own rows (row what s k) p j t.0 (t.1 ∙ ap Some is))
    (get_cases positions _ j p e)

count_evaluated : (jumps b : Bool) (k n : ℕ) (ps : List Position) → length ps ≡ k → length (ps ++ more Evaluated b k n) ≡ (row_with Evaluated jumps b k).last + 1
count_evaluated w true k n ps e = omega (arith, e, length-append ps (more Evaluated true k n))
count_evaluated w false k n ps e = omega (arith, e, length-append ps (more Evaluated false k n))

count_more : (what : Node) (s : Standing) (k n : ℕ) (ps : List Position) → length ps ≡ k → length (ps ++ positions_in s (row what s k).at n) ≡ next_point s (row what s k) k
count_more what Evaluated k n ps e = count_evaluated (jumps what) (is_call what) k n ps e
count_more what Defining k n ps e = omega (arith, e, length-append ps (Entry n ∷ Exit n ∷ []))
count_more what Unevaluated k n ps e = omega (arith, e, length-append ps [])
count_more what Declaring k n ps e = omega (arith, e, length-append ps [])

positions_more : (rows : List Row) (r : Row) (n : ℕ) (done : List Position) → positions_from (rows ++ r ∷ []) n done ≡ positions_from rows n done ++ positions_in r.standing r.at (n + length rows)
positions_more [] r n done = ap (λ m. done ++ positions_in r.standing r.at m) (let e : n ≡ n + 0 = omega arith in e)
positions_more (x ∷ rows) r n done =
    let on = positions_more rows r (n + 1) (done ++ positions_in x.standing x.at n) in
    on ∙ ap (λ m. positions_from rows (n + 1) (done ++ positions_in x.standing x.at n) ++ positions_in r.standing r.at m) (let e : n + 1 + length rows ≡ n + length (x ∷ rows) = omega arith in e)

names_more : (rows : List Row) (k : ℕ) (what : Node) (s : Standing) → Names rows (positions_of rows) k → Names (rows ++ row what s k ∷ []) (positions_of (rows ++ row what s k ∷ [])) (next_point s (row what s k) k)
names_more rows k what s h =
    let r : Row = row what s k in
    let positions : List Position = positions_of rows in
    let zero_more : 0 + length rows ≡ length rows = omega arith in
    let is : positions_of (rows ++ r ∷ []) ≡ positions ++ positions_in s r.at (length rows) = positions_more rows r 0 (Root ∷ []) ∙ ap (λ m. positions ++ positions_in s r.at m) zero_more in
    let goal : Names (rows ++ r ∷ []) (positions ++ positions_in s r.at (length rows)) (next_point s r k) = record {
      naming = record { told = told_then rows positions k what s h; tells = tells_then rows positions k what s h };
      counted = count_more what s k (length rows) positions h.counted;
    } in
    subst (λ ps. Names (rows ++ r ∷ []) ps (next_point s r k)) (sym is) goal

names_all : (standings : List Standing) (xs : List Placed) (n : ℕ) (rows : List Row) (k : ℕ) → Names rows (positions_of rows) k → Names (numbered standings xs n rows k).rows (positions_of (numbered standings xs n rows k).rows) (numbered standings xs n rows k).points
names_all standings [] n rows k h = h
names_all standings (x ∷ xs) n rows k h = names_all standings xs (n + 1) _ _ (names_more rows k x.node (standing_or (slice_get standings n)) h)

root_told : (p : Position) (k : ℕ) → number [] p ≡ Some k → slice_get (Root ∷ []) k ≡ Some p
root_told Root zero h = refl
root_told Root (suc k) h = cc
root_told (Entry n) k h = cc
root_told (Exit n) k h = cc
root_told (Before n) k h = cc
root_told (At n) k h = cc
root_told (After n) k h = cc

root_tells : (p : Position) (k : ℕ) → slice_get (Root ∷ []) k ≡ Some p → number [] p ≡ Some k
root_tells p zero h = let is : Root ≡ p = cc in subst (λ q. number [] q ≡ Some 0) is refl
root_tells p (suc k) h = cc

root_names : Names [] (Root ∷ []) 1
root_names = record { naming = record { told = root_told; tells = root_tells }; counted = refl }

pub are_points : (P : Program) (it : Points) → it.rows ≡ rows_of P → it.points ≡ points_in P → it.points ≤ most_points → it.positions ≡ positions_of it.rows → ArePoints P it
are_points P it rows points few positions =
    let names : Names (rows_of P) (positions_of (rows_of P)) (points_in P) = names_all (standings P) P.arena.nodes 0 [] 1 root_names in
    let is : it.positions ≡ positions_of (rows_of P) = positions ∙ ap positions_of rows in
    record {
      rows = rows;
      points = points;
      few = few;
      counted = ap length is ∙ names.counted ∙ sym points;
      named = rw is (rw rows names.naming);
    }
