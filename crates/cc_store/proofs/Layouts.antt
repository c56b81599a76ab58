-- What the cells of the objects are, where they stand one behind the other.
use Rattle.std.proofs.Common.{◌≡◌, ◌≢◌, ℕ, zero, suc, ◌+◌, ◌-◌, ◌<◌, ◌≤◌, List, [], ◌∷◌, ◌++◌, length, Option, Some, None, Bool, true, false, cond, drop, take, set, refl, sym, ap, ◌∙◌, subst, arith, reverse, min}
use Rattle.std.specs.Prelude.{◌==◌, slice_get}
use Rattle.std.specs.Option.{option_map}
use Rattle.std.proofs.lemmas.Bool.{eqb-true, eqb-false, eq-eqb, ne_eqb}
use Rattle.std.proofs.lemmas.List.{reverse-append, take_all, take-take, take-set-le, drop-set-lt, drop-set-add, length-take, length-drop, length-take-le, length-set}
use Rattle.std.proofs.Math.Seq.{take-set-lt}
use Rattle.cc_store.specs.declared.value.Value.{Value}
use Rattle.cc_store.specs.Stacks.{above, first, rest, if_so, same}
use Rattle.cc_store.specs.declared.header.Header.{Header}
use Rattle.cc_store.specs.Objects.{Object, object_of, live_cells, set_cell}
use Rattle.cc_store.specs.Layout.{objects_of, Falls, header_of, found_in}

-- an instance past the last one has no header
pub none_past : (hs : List Header) (total next i : ℕ) → Falls hs total next → next ≤ i → header_of i hs ≡ None
none_past [] total next i f le = refl
none_past (h ∷ hs) total next i f le =
    let lt : h.instance < next = f.1 in
    let ne : h.instance ≢ i = omega arith in
    ap (λ b. if_so b h (header_of i hs)) (ne_eqb h.instance i ne) ∙ none_past hs h.start h.instance i f.2 (omega arith)

abbrev or_last : Option Header → Option Header → Option Header
or_last None o = o
or_last (Some h) o = Some h

-- the first with a further one at the end
found_end : (hs : List Header) (x : Header) (i : ℕ) → found_in i (hs ++ x ∷ []) ≡ or_last (found_in i hs) (if_so (x.instance == i) x None)
found_end [] x i = refl
found_end (h ∷ hs) x i = by_test (found_end hs x i) (h.instance == i)
  where
    by_test : found_in i (hs ++ x ∷ []) ≡ or_last (found_in i hs) (if_so (x.instance == i) x None) → (b : Bool) → if_so b h (found_in i (hs ++ x ∷ [])) ≡ or_last (if_so b h (found_in i hs)) (if_so (x.instance == i) x None)
    by_test below true = refl
    by_test below false = below

or_none : (o : Option Header) → or_last o None ≡ o
or_none None = refl
or_none (Some h) = refl

-- each instance has one header, so that it's the same from both ends
pub found_back : (hs : List Header) (total next i : ℕ) → Falls hs total next → found_in i (reverse hs) ≡ header_of i hs
found_back [] total next i f = refl
found_back (x ∷ hs) total next i f =
    ap (found_in i) (reverse-append (x ∷ []) hs)
    ∙ found_end (reverse hs) x i
    ∙ ap (λ o. or_last o (if_so (x.instance == i) x None)) (found_back hs x.start x.instance i f.2)
    ∙ by_test (x.instance == i) refl
  where
    by_test : (b : Bool) → (x.instance == i) ≡ b → or_last (header_of i hs) (if_so b x None) ≡ if_so b x (header_of i hs)
    by_test true e =
        let is : x.instance ≡ i = eqb-true x.instance i e in
        ap (λ o. or_last o (Some x)) (none_past hs x.start x.instance i f.2 (omega arith))
    by_test false e = or_none (header_of i hs)

-- what stands at the place with the instance is the instance's
pub at_place : (hs : List Header) (total next k i : ℕ) (h : Header) → Falls hs total next → above k hs ≡ Some h → h.instance ≡ i → header_of i hs ≡ Some h
at_place [] total next k i h f at is = (cc)
at_place (x ∷ hs) total next k i h f at is = by_place (λ e. at_place hs x.start x.instance k i h f.2 e is) (same (length hs) k) at
  where
    by_test : (b : Bool) → (x.instance == i) ≡ b → header_of i hs ≡ Some h → if_so b x (header_of i hs) ≡ Some h
    by_test true e below =
        let same_instance : x.instance ≡ i = eqb-true x.instance i e in
        let none : header_of i hs ≡ None = none_past hs x.start x.instance i f.2 (omega arith) in
        (cc)
    by_test false e below = below

    by_place : (above k hs ≡ Some h → header_of i hs ≡ Some h) → (b : Bool) → if_so b x (above k hs) ≡ Some h → if_so (x.instance == i) x (header_of i hs) ≡ Some h
    by_place below true e =
        let it : x ≡ h = (cc) in
        let same_instance : x.instance ≡ i = ap (λ (y : Header). y.instance) it ∙ is in
        ap (λ b. if_so b x (header_of i hs)) (eq-eqb x.instance i same_instance) ∙ e
    by_place below false e = by_test (x.instance == i) refl (below e)

-- an object's cells are among those of all
pub fits : (hs : List Header) (total next i : ℕ) (h : Header) → Falls hs total next → header_of i hs ≡ Some h → h.start + h.length ≤ total
fits [] total next i h f at = (cc)
fits (x ∷ hs) total next i h f at = by_test (λ e. fits hs x.start x.instance i h f.2 e) (x.instance == i) at
  where
    ends : x.start + x.length ≡ total
    ends = f.0

    by_test : (header_of i hs ≡ Some h → h.start + h.length ≤ x.start) → (b : Bool) → if_so b x (header_of i hs) ≡ Some h → h.start + h.length ≤ total
    by_test below true e =
        let it : x ≡ h = (cc) in
        let P : Header → Type 0 = λ y. y.start + y.length ≤ total in
        subst P it (omega (arith, ends))
    by_test below false e = let le = below e in omega (arith, le, ends)

-- the object with this header
abbrev pub object_at : List Value → Header → Object
object_at cells h = record { declarator = h.declarator; instance = h.instance; is_fixed = h.is_fixed; cells = drop h.start (take (h.start + h.length) cells) }

pub object_is : (hs : List Header) (cells : List Value) (next i : ℕ) → Falls hs (length cells) next → object_of i (objects_of hs cells) ≡ option_map (object_at cells) (header_of i hs)
object_is [] cells next i f = refl
object_is (x ∷ hs) cells next i f = by_test (object_is hs (take x.start cells) x.instance i (subst (λ n. Falls hs n x.instance) (sym shorter) f.2) ∙ same_below (header_of i hs) refl) (x.instance == i)
  where
    ends : x.start + x.length ≡ length cells
    ends = f.0

    shorter : length (take x.start cells) ≡ x.start
    shorter = length-take-le x.start cells (omega (arith, ends))

    all : take (x.start + x.length) cells ≡ cells
    all = take_all (x.start + x.length) cells (omega (arith, ends))

    same_below : (o : Option Header) → header_of i hs ≡ o → option_map (object_at (take x.start cells)) o ≡ option_map (object_at cells) o
    same_below None e = refl
    same_below (Some h) e =
        let le : h.start + h.length ≤ x.start = fits hs x.start x.instance i h f.2 e in
        ap (λ vs. Some (record { declarator = h.declarator; instance = h.instance; is_fixed = h.is_fixed; cells = drop h.start vs })) (take-take (h.start + h.length) x.start cells le)

    by_test : object_of i (objects_of hs (take x.start cells)) ≡ option_map (object_at cells) (header_of i hs) → (b : Bool) → if_so b (record { declarator = x.declarator; instance = x.instance; is_fixed = x.is_fixed; cells = drop x.start cells }) (object_of i (objects_of hs (take x.start cells))) ≡ option_map (object_at cells) (if_so b x (header_of i hs))
    by_test below true = ap (λ vs. Some (record { declarator = x.declarator; instance = x.instance; is_fixed = x.is_fixed; cells = drop x.start vs })) (sym all)
    by_test below false = below

-- how many cells live
pub live_is : (hs : List Header) (cells : List Value) (next : ℕ) → Falls hs (length cells) next → live_cells (objects_of hs cells) ≡ length cells
live_is [] cells next f = sym f
live_is (x ∷ hs) cells next f =
    let ends : x.start + x.length ≡ length cells = f.0 in
    let shorter : length (take x.start cells) ≡ x.start = length-take-le x.start cells (omega (arith, ends)) in
    let below = live_is hs (take x.start cells) x.instance (subst (λ n. Falls hs n x.instance) (sym shorter) f.2) in
    let last : length (drop x.start cells) ≡ length cells - x.start = length-drop x.start cells in
    ap (λ n. n + length (drop x.start cells)) (below ∙ shorter) ∙ ap (λ n. x.start + n) last ∙ omega (arith, ends)

abbrev with_cells : Header → List Value → Object
with_cells x vs = record { declarator = x.declarator; instance = x.instance; is_fixed = x.is_fixed; cells = vs }

-- a write into an object's cell
pub set_is : (hs : List Header) (cells : List Value) (next i n : ℕ) (v : Value) (h : Header) → Falls hs (length cells) next → header_of i hs ≡ Some h → n < h.length → objects_of hs (set cells (h.start + n) v) ≡ set_cell i n v (objects_of hs cells)
set_is [] cells next i n v h f at lt = refl
set_is (x ∷ hs) cells next i n v h f at lt = by_test (λ e. set_is hs (take x.start cells) x.instance i n v h (subst (λ m. Falls hs m x.instance) (sym shorter) f.2) e lt) (x.instance == i) at
  where
    ends : x.start + x.length ≡ length cells
    ends = f.0

    shorter : length (take x.start cells) ≡ x.start
    shorter = length-take-le x.start cells (omega (arith, ends))

    by_test : (header_of i hs ≡ Some h → objects_of hs (set (take x.start cells) (h.start + n) v) ≡ set_cell i n v (objects_of hs (take x.start cells))) → (b : Bool) → if_so b x (header_of i hs) ≡ Some h → with_cells x (drop x.start (set cells (h.start + n) v)) ∷ objects_of hs (take x.start (set cells (h.start + n) v)) ≡ cond b (with_cells x (set (drop x.start cells) n v) ∷ objects_of hs (take x.start cells)) (with_cells x (drop x.start cells) ∷ set_cell i n v (objects_of hs (take x.start cells)))
    by_test below true e =
        let it : h ≡ x = (cc) in
        let P : Header → Type 0 = λ y. with_cells x (drop x.start (set cells (y.start + n) v)) ∷ objects_of hs (take x.start (set cells (y.start + n) v)) ≡ with_cells x (set (drop x.start cells) n v) ∷ objects_of hs (take x.start cells) in
        subst P (sym it) (
        ap (λ vs. with_cells x vs ∷ objects_of hs (take x.start (set cells (x.start + n) v))) (drop-set-add x.start cells n v)
        ∙ ap (λ vs. with_cells x (set (drop x.start cells) n v) ∷ objects_of hs vs) (take-set-le x.start cells (x.start + n) v (omega arith))
        )
    by_test below false e =
        let le : h.start + h.length ≤ x.start = fits hs x.start x.instance i h f.2 e in
        let before : h.start + n < x.start = omega arith in
        ap (λ vs. with_cells x vs ∷ objects_of hs (take x.start (set cells (h.start + n) v))) (drop-set-lt x.start cells (h.start + n) v before)
        ∙ ap (λ vs. with_cells x (drop x.start cells) ∷ objects_of hs vs) (take-set-lt x.start cells (h.start + n) v before)
        ∙ ap (λ os. with_cells x (drop x.start cells) ∷ os) (below e)

falls_below : (hs : List Header) (total next more : ℕ) → next ≤ more → Falls hs total next → Falls hs total more
falls_below [] total next more le f = f
falls_below (h ∷ hs) total next more le f = let lt : h.instance < next = f.1 in (f.0, omega arith, f.2)

-- the headers under the last one
pub ends_well : (hs : List Header) (h : Header) (cells : List Value) (next : ℕ) → Falls hs (length cells) next → first hs ≡ Some h → Falls (rest hs) (length (take h.start cells)) next
ends_well [] h cells next f e = (cc)
ends_well (x ∷ hs) h cells next f e =
    let it : x ≡ h = (cc) in
    let ends : x.start + x.length ≡ length cells = f.0 in
    let lt : x.instance < next = f.1 in
    let shorter : length (take x.start cells) ≡ x.start = length-take-le x.start cells (omega (arith, ends)) in
    let P : Header → Type 0 = λ y. Falls hs (length (take y.start cells)) next in
    subst P it (subst (λ n. Falls hs n next) (sym shorter) (falls_below hs x.start x.instance next (omega arith) f.2))
