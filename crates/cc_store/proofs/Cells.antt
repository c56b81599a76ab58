-- What a pointer into the objects is in the list of cells.
use Rattle.std.proofs.Common.{◌≡◌, ◌≢◌, ℕ, zero, suc, ◌+◌, ◌-◌, ◌<◌, ◌≤◌, List, [], ◌∷◌, ◌++◌, length, Option, Some, None, Bool, true, false, cond, drop, take, set, refl, sym, ap, ◌∙◌, subst, arith, min}
use Rattle.std.specs.Prelude.{Result, Ok, Err, slice_get, nat_lt, ◌&&◌, is_some}
use Rattle.std.specs.Option.{option_map}
use Rattle.std.proofs.lemmas.Bool.{ltb-true}
use Rattle.std.proofs.lemmas.List.{length-drop, length-take-le}
use Rattle.cc_store.specs.declared.value.Value.{Value}
use Rattle.cc_store.specs.declared.value.Pointer.{Pointer}
use Rattle.cc_meaning.specs.declared.end.Undef.{Undef}
use Rattle.cc_meaning.specs.declared.end.Undef.TheVariants.{Ended, PastEnd, ReadOnly}
use Rattle.cc_store.specs.declared.header.Header.{Header}
use Rattle.cc_store.specs.declared.header.Cell.{Cell}
use Rattle.cc_store.specs.Objects.{Live, Object, object_of, is_within, read_of, read_in, refused_in, set_cell, put_unless, missing_in}
use Rattle.cc_store.specs.Layout.{objects_of, Falls, header_of, cell_at}
use Rattle.cc_store.proofs.Layouts.{object_at, object_is, fits, set_is}

get_drop : (xs : List Value) (s m : ℕ) → slice_get (drop s xs) m ≡ slice_get xs (s + m)
get_drop xs zero m = ap (slice_get xs) (omega arith)
get_drop [] (suc s) m = refl
get_drop (x ∷ xs) (suc s) m = get_drop xs s m ∙ ap (slice_get (x ∷ xs)) (let e : suc (s + m) ≡ suc s + m = omega arith in e)

get_take : (xs : List Value) (l m : ℕ) → m < l → slice_get (take l xs) m ≡ slice_get xs m
get_take xs zero m lt = absurd (omega arith)
get_take [] (suc l) m lt = refl
get_take (x ∷ xs) (suc l) zero lt = refl
get_take (x ∷ xs) (suc l) (suc m) lt = get_take xs l m (omega arith)

get_slot : (xs : List Value) (s l m : ℕ) → m < l → slice_get (drop s (take (s + l) xs)) m ≡ slice_get xs (s + m)
get_slot xs s l m lt = get_drop (take (s + l) xs) s m ∙ get_take xs (s + l) (s + m) (omega arith)

slot_length : (xs : List Value) (s l : ℕ) → s + l ≤ length xs → length (drop s (take (s + l) xs)) ≡ l
slot_length xs s l le = length-drop s (take (s + l) xs) ∙ (let e : length (take (s + l) xs) ≡ s + l = length-take-le (s + l) xs le in omega (arith, e))

second : (a b : Bool) → (a && b) ≡ true → b ≡ true
second true b e = e
second false b e = (cc)

pub within : (p : Pointer) (n : ℕ) → is_within p n ≡ true → p.base + p.index < n
within p n e = ltb-true (p.base + p.index) n (second (nat_lt p.index p.length) (nat_lt (p.base + p.index) n) e)

-- the number of objects
pub length_is : (hs : List Header) (cells : List Value) → length (objects_of hs cells) ≡ length hs
length_is [] cells = refl
length_is (h ∷ hs) cells = ap suc (length_is hs (take h.start cells))

pub some_is : (o : Option Header) (cells : List Value) → is_some (option_map (object_at cells) o) ≡ is_some o
some_is None cells = refl
some_is (Some h) cells = refl

-- what the cell gives to one who reads it
abbrev pub through : List Value → Result Cell Undef → Result Value Undef
through cells (Err why) = Err why
through cells (Ok c) = read_of (slice_get cells c.number)

-- why the cell isn't written
abbrev pub refusal : Result Cell Undef → Option Undef
refusal (Err why) = Some why
refusal (Ok c) = cond c.is_fixed (Some ReadOnly) None

read_object : (p : Pointer) (cells : List Value) (h : Header) → h.start + h.length ≤ length cells → read_in p (Some (object_at cells h)) ≡ through cells (cell_at p (Some h))
read_object p cells h le =
    ap (λ n. cond (is_within p n) (read_of (slice_get (object_at cells h).cells (p.base + p.index))) (Err PastEnd)) (slot_length cells h.start h.length le)
    ∙ by_test (is_within p h.length) (within p h.length)
  where
    by_test : (b : Bool) → (b ≡ true → p.base + p.index < h.length) → cond b (read_of (slice_get (object_at cells h).cells (p.base + p.index))) (Err PastEnd) ≡ through cells (cond b (Ok (record { number = h.start + (p.base + p.index); is_fixed = h.is_fixed })) (Err PastEnd))
    by_test true lt = ap read_of (get_slot cells h.start h.length (p.base + p.index) (lt refl))
    by_test false lt = refl

pub read_is : (hs : List Header) (cells : List Value) (next : ℕ) (p : Pointer) → Falls hs (length cells) next → read_in p (object_of p.instance (objects_of hs cells)) ≡ through cells (cell_at p (header_of p.instance hs))
read_is hs cells next p f = ap (read_in p) (object_is hs cells next p.instance f) ∙ by_header (header_of p.instance hs) refl
  where
    by_header : (o : Option Header) → header_of p.instance hs ≡ o → read_in p (option_map (object_at cells) o) ≡ through cells (cell_at p o)
    by_header None e = refl
    by_header (Some h) e = read_object p cells h (fits hs (length cells) next p.instance h f e)

refused_object : (p : Pointer) (cells : List Value) (h : Header) → h.start + h.length ≤ length cells → refused_in p (Some (object_at cells h)) ≡ refusal (cell_at p (Some h))
refused_object p cells h le =
    ap (λ n. cond (is_within p n) (cond h.is_fixed (Some ReadOnly) None) (Some PastEnd)) (slot_length cells h.start h.length le)
    ∙ by_test (is_within p h.length)
  where
    by_test : (b : Bool) → cond b (cond h.is_fixed (Some ReadOnly) None) (Some PastEnd) ≡ refusal (cond b (Ok (record { number = h.start + (p.base + p.index); is_fixed = h.is_fixed })) (Err PastEnd))
    by_test true = refl
    by_test false = refl

pub refused_is : (hs : List Header) (cells : List Value) (next : ℕ) (p : Pointer) → Falls hs (length cells) next → refused_in p (object_of p.instance (objects_of hs cells)) ≡ refusal (cell_at p (header_of p.instance hs))
refused_is hs cells next p f = ap (refused_in p) (object_is hs cells next p.instance f) ∙ by_header (header_of p.instance hs) refl
  where
    by_header : (o : Option Header) → header_of p.instance hs ≡ o → refused_in p (option_map (object_at cells) o) ≡ refusal (cell_at p o)
    by_header None e = refl
    by_header (Some h) e = refused_object p cells h (fits hs (length cells) next p.instance h f e)

-- why there is no cell
abbrev pub absence : Result Cell Undef → Option Undef
absence (Err why) = Some why
absence (Ok c) = None

missing_object : (p : Pointer) (cells : List Value) (h : Header) → h.start + h.length ≤ length cells → missing_in p (Some (object_at cells h)) ≡ absence (cell_at p (Some h))
missing_object p cells h le =
    ap (λ n. cond (is_within p n) None (Some PastEnd)) (slot_length cells h.start h.length le)
    ∙ by_test (is_within p h.length)
  where
    by_test : (b : Bool) → cond b None (Some PastEnd) ≡ absence (cond b (Ok (record { number = h.start + (p.base + p.index); is_fixed = h.is_fixed })) (Err PastEnd))
    by_test true = refl
    by_test false = refl

pub missing_is : (hs : List Header) (cells : List Value) (next : ℕ) (p : Pointer) → Falls hs (length cells) next → missing_in p (object_of p.instance (objects_of hs cells)) ≡ absence (cell_at p (header_of p.instance hs))
missing_is hs cells next p f = ap (missing_in p) (object_is hs cells next p.instance f) ∙ by_header (header_of p.instance hs) refl
  where
    by_header : (o : Option Header) → header_of p.instance hs ≡ o → missing_in p (option_map (object_at cells) o) ≡ absence (cell_at p o)
    by_header None e = refl
    by_header (Some h) e = missing_object p cells h (fits hs (length cells) next p.instance h f e)

-- a write into the cell is one through the pointer
pub put_is : (hs : List Header) (cells : List Value) (next : ℕ) (p : Pointer) (v : Value) (c : Cell) → Falls hs (length cells) next → cell_at p (header_of p.instance hs) ≡ Ok c → objects_of hs (set cells c.number v) ≡ set_cell p.instance (p.base + p.index) v (objects_of hs cells)
put_is hs cells next p v c f e = by_header (header_of p.instance hs) refl e
  where
    number_of : (h : Header) (b : Bool) → (b ≡ true → p.base + p.index < h.length) → cond b (Ok (record { number = h.start + (p.base + p.index); is_fixed = h.is_fixed })) (Err PastEnd) ≡ Ok c → (h.start + (p.base + p.index) ≡ c.number) × (p.base + p.index < h.length)
    number_of h true lt at =
        let it : record { number = h.start + (p.base + p.index); is_fixed = h.is_fixed } ≡ c = (cc) in
        (ap (λ (x : Cell). x.number) it, lt refl)
    number_of h false lt at = (cc)

    by_header : (o : Option Header) → header_of p.instance hs ≡ o → cell_at p o ≡ Ok c → objects_of hs (set cells c.number v) ≡ set_cell p.instance (p.base + p.index) v (objects_of hs cells)
    by_header None is at = (cc)
    by_header (Some h) is at =
        let n = number_of h (is_within p h.length) (within p h.length) at in
        ap (λ k. objects_of hs (set cells k v)) (sym n.0) ∙ set_is hs cells next p.instance (p.base + p.index) v h f is n.1

-- the memory after a write that is refused, or isn't
pub unless_some : (o : Option Undef) (why : Undef) (p : Pointer) (v : Value) (m : Live) → o ≡ Some why → m ≡ put_unless o p v m
unless_some o why p v m e = ap (λ x. put_unless x p v m) (sym e)

pub unless_none : (o : Option Undef) (p : Pointer) (v : Value) (m : Live) → o ≡ None → record m { objects = set_cell p.instance (p.base + p.index) v m.objects } ≡ put_unless o p v m
unless_none o p v m e = ap (λ x. put_unless x p v m) (sym e)
