-- From which named reads a path leads on to the call.
use Rattle.std.proofs.Common.{ℕ, zero, suc, ◌≡◌, ◌<◌, ◌⊎◌, inl, inr, ⊎_elim, Bool, true, false, cond, List, [], ◌∷◌, ◌++◌, map, filter, Option, Some, None, length, refl, sym, ap, ◌∙◌, subst, arith}
use Rattle.std.specs.Prelude.{Contains, ◌↔◌, slice_get, nat_lt}
use Rattle.std.specs.List.{filter_map, cons_option}
use Rattle.std.proofs.lemmas.Option.{slice_get_within, cond_some}
use Rattle.std.proofs.lemmas.Bool.{ltb-true, lt-ltb}
use Rattle.std.proofs.lemmas.List.{length-map}
use Rattle.std.proofs.lemmas.List.Elements.{Contains-append_left, Contains-append_right, Contains-append_cases}
use Rattle.cc_rows.specs.Gains.{Gains}
use Rattle.cc_rows.proofs.Gained.{gains_all, place, contains_at}
use Rattle.cc_flows.specs.Sweeping.{Next, HasEdge}
use Rattle.cc_flows.specs.declared.mask.Touch.{Touch}
use Rattle.cc_flows.specs.declared.flow.Found.{Found}
use Rattle.cc_flows.specs.Masks.{row_of}
use Rattle.cc_flows.specs.Flows.{ClearStretch, Reaches}
use Rattle.cc_flows.specs.Flows as flows
use Rattle.cc_lanes.specs.Rows.{Pair, Holds}
use Rattle.cc_lanes.proofs.Listing.{none, here, later, cons_cases, filter_only, filter_new, map_only, map_new}
use Rattle.cc_listed.specs.declared.table.Access.{Access}
use Rattle.cc_listed.specs.declared.calls.Argument.{Argument}
use Rattle.cc_listed.specs.Stretches.{Path, First, On}
use Rattle.cc_listing_calls.specs.Numbered.{AreItems}
use Rattle.cc_listing_calls.specs.Onward.{point_in, start_in, start_of, end_of, touch_of, AreTouches, LeadsOn, AreLeading, argument_of, none_in, is_plain, HandsFrom, Hands, AreHanding}
use Rattle.cc_listing_calls.proofs.Numbering.{map_at, at_map}

abbrev the_touch : ℕ → ℕ → Touch
the_touch p i = record { point = p; slot = i; node = i; object = 0 }

abbrev a_touch : ℕ → ℕ → ℕ → ℕ → Touch
a_touch p s n o = record { point = p; slot = s; node = n; object = o }

touch_is : (t : Touch) → t.node ≡ t.slot → t.object ≡ 0 → the_touch t.point t.slot ≡ t
touch_is t e f = ap (λ n. a_touch t.point t.slot n 0) (sym e) ∙ ap (λ n. a_touch t.point t.slot t.node n) (sym f)

pub touches_are : (points : List (Option ℕ)) (pairs pairs' : List Pair) (out : List Touch) → AreItems points pairs → pairs' ≡ pairs → out ≡ map touch_of pairs' → AreTouches points out
touches_are points pairs pairs' out items e e_out t = (
  λ is. (let m = map_only touch_of pairs t (subst (λ (ts : List Touch). Contains ts t) (e_out ∙ ap (map touch_of) e) is) in
      let at = (items m.0).0 m.1 in
      let slot : m.0.1 ≡ t.slot = ap (λ (x : Touch). x.slot) m.2 in
      let point : m.0.0 ≡ t.point = ap (λ (x : Touch). x.point) m.2 in (
        ap (slice_get points) (sym slot) ∙ at ∙ ap (λ (i : ℕ). Some (Some i)) point,
        sym (ap (λ (x : Touch). x.node) m.2) ∙ slot,
        sym (ap (λ (x : Touch). x.object) m.2),
      )),
  λ w. subst (λ (ts : List Touch). Contains ts t) (sym (e_out ∙ ap (map touch_of) e))
      (subst (λ (x : Touch). Contains (map touch_of pairs) x) (touch_is t w.1 w.2) (map_new touch_of pairs (t.point, t.slot) ((items (t.point, t.slot)).1 w.0))),
)

-- a point in range
point_cases : (o : Option Access) (points p : ℕ) → point_in points o ≡ Some p → (read : Access) × (o ≡ Some read) × (read.point ≡ p) × (p < points)
point_cases None points p e = absurd (let h = e in cc)
point_cases (Some read) points p e =
    let c = cond_some (nat_lt read.point points) read.point p e in
    (read, refl, c.1, subst (λ n. n < points) c.1 (ltb-true read.point points c.0))

point_new : (o : Option Access) (points : ℕ) (read : Access) → o ≡ Some read → read.point < points → point_in points o ≡ Some read.point
point_new o points read e lt = ap (point_in points) e ∙ ap (λ b. cond b (Some read.point) None) (lt-ltb read.point points lt)

start_cases : (named : List Access) (o : Option ℕ) (points p : ℕ) → start_in named points o ≡ Some p → (n : ℕ) × (read : Access) × (o ≡ Some n) × (slice_get named n ≡ Some read) × (read.point ≡ p) × (p < points)
start_cases named None points p e = absurd (let h = e in cc)
start_cases named (Some n) points p e = let c = point_cases (slice_get named n) points p e in (n, c.0, refl, c.1, c.2, c.3)

path_within : (next : Next) (a b : ℕ) → Path next a b → a < length next
path_within next a b (First edge) = slice_get_within next a edge.row edge.at
path_within next a b (On {a = m} path never edge) = path_within next a m path

module _ (next : Next) (named : List Access) (arguments : List Argument) (wipes : List (List ℕ)) (begins stops : List Touch)
    (are_begins : AreTouches (map (start_of named (length next)) arguments) begins)
    (are_stops : AreTouches (map end_of arguments) stops)
    (never : (p k : ℕ) → Contains (row_of wipes p) k → ⊥) where
  to_path : (k from to : ℕ) → ClearStretch next wipes k from to → Path next from to
  to_path k from to (flows.First edge) = First edge
  to_path k from to (flows.On {a = a} path clear edge) = On (to_path k from a path) (λ x. x) edge

  from_path : (k from to : ℕ) → Path next from to → ClearStretch next wipes k from to
  from_path k from to (First edge) = flows.First edge
  from_path k from to (On {a = a} path clear edge) = flows.On (from_path k from a path) (never a k) edge

  to_leading : (f : Found) → Reaches next wipes stops begins f → (a : Argument) × (slice_get arguments f.definition ≡ Some a) × LeadsOn next named a
  to_leading f h =
      let b = (are_begins h.definition).0 h.defines in
      let s = (are_stops h.read).0 h.is_read in
      let m = map_at (start_of named (length next)) arguments h.definition.slot (Some h.definition.point) b.0 in
      let n = map_at end_of arguments h.read.slot (Some h.read.point) s.0 in
      let same : n.0 ≡ m.0 = (let p = n.1 in let q = m.1 in let e = ap (slice_get arguments) h.same_slot in cc) in
      let c = start_cases named m.0.named (length next) h.definition.point m.2 in
      let number : h.definition.slot ≡ f.definition = sym b.1 ∙ ap (λ (x : Found). x.definition) h.is in
      let ends : h.read.point ≡ m.0.at = (let p = n.2 in let q = ap (λ (a : Argument). a.at) same in cc) in (
        m.0,
        ap (slice_get arguments) (sym number) ∙ m.1,
        record {
          number = c.0;
          read = c.1;
          is_named = c.2;
          at = c.3;
          path = subst (λ p. Path next p m.0.at) (sym c.4) (subst (λ p. Path next h.definition.point p) ends (to_path h.definition.slot h.definition.point h.read.point h.stretch));
        },
      )

  from_leading : (i : ℕ) (a : Argument) → slice_get arguments i ≡ Some a → LeadsOn next named a → Reaches next wipes stops begins (record { definition = i; reader = i; object = 0 })
  from_leading i a at l =
      let d = the_touch l.read.point i in
      let r = the_touch a.at i in
      let starts : start_of named (length next) a ≡ Some l.read.point = ap (start_in named (length next)) l.is_named ∙ point_new (slice_get named l.number) (length next) l.read l.at (path_within next l.read.point a.at l.path) in
      record {
        definition = d;
        read = r;
        defines = (are_begins d).1 (at_map (start_of named (length next)) arguments i a at ∙ ap (λ (o : Option ℕ). Some o) starts, refl, refl);
        is_read = (are_stops r).1 (at_map end_of arguments i a at, refl, refl);
        same_slot = refl;
        stretch = from_path i l.read.point a.at l.path;
        is = refl;
      }

  pub leading_are : (found : List Found) → ((f : Found) → Contains found f ↔ Reaches next wipes stops begins f) → AreLeading next named arguments found
  leading_are found exact i = (
    λ w. (let x = to_leading w.0 ((exact w.0).0 w.1) in (x.0, ap (slice_get arguments) (sym w.2) ∙ x.1, x.2)),
    λ v. (record { definition = i; reader = i; object = 0 }, (exact (record { definition = i; reader = i; object = 0 })).1 (from_leading i v.0 v.1 v.2), refl),
  )

pub leading_all : (next : Next) (named : List Access) (arguments : List Argument) (wipes wipes' : List (List ℕ)) (starts starts' ends ends' : List (Option ℕ)) (begins begins' stops stops' : List Touch) (points : ℕ) (before found : List Found) →
    points ≡ length next → starts ≡ map (start_of named points) arguments → starts' ≡ starts → AreTouches starts' begins → begins' ≡ begins →
    ends ≡ map end_of arguments → ends' ≡ ends → AreTouches ends' stops → stops' ≡ stops → Holds wipes [] → wipes' ≡ wipes →
    before ≡ [] → Gains before found (Reaches next wipes' stops' begins') → AreLeading next named arguments found
leading_all next named arguments wipes wipes' starts starts' ends ends' begins begins' stops stops' points before found e_points e_starts e_starts' of_begins e_begins e_ends e_ends' of_stops e_stops holds e_wipes e_before gains =
    leading_are next named arguments wipes' begins' stops'
    (subst (λ (ts : List Touch). AreTouches (map (start_of named (length next)) arguments) ts) (sym e_begins) (subst (λ (os : List (Option ℕ)). AreTouches os begins) (e_starts' ∙ e_starts ∙ ap (λ n. map (start_of named n) arguments) e_points) of_begins))
    (subst (λ (ts : List Touch). AreTouches (map end_of arguments) ts) (sym e_stops) (subst (λ (os : List (Option ℕ)). AreTouches os stops) (e_ends' ∙ e_ends) of_stops))
    (λ p k is. none_held p k (subst (λ (ws : List (List ℕ)). Contains (row_of ws p) k) e_wipes is))
    found
    (gains_all before found (Reaches next wipes' stops' begins') e_before gains)
  where
    none_held : (p k : ℕ) → Contains (row_of wipes p) k → ⊥
    none_held p k is = let w = (holds p k).0 is in none w.1.0 w.1.1

-- the starts are numbers and points
pub starts_within : (named : List Access) (arguments : List Argument) (starts starts' : List (Option ℕ)) (begins begins' : List Touch) (points slots : ℕ) → slots ≡ length arguments → starts ≡ map (start_of named points) arguments → starts' ≡ starts → AreTouches starts' begins → begins' ≡ begins →
    (d : Touch) → Contains begins' d → (d.slot < slots) × (d.point < points)
starts_within named arguments starts starts' begins begins' points slots e_slots e_starts e_starts' of_begins e_begins d is =
    let b = (of_begins d).0 (subst (λ (ts : List Touch). Contains ts d) e_begins is) in
    let m = map_at (start_of named points) arguments d.slot (Some d.point) (subst (λ (os : List (Option ℕ)). slice_get os d.slot ≡ Some (Some d.point)) (e_starts' ∙ e_starts) b.0) in
    (omega (arith, slice_get_within arguments d.slot m.0 m.1, e_slots), (start_cases named m.0.named points d.point m.2).5)

-- items that a function gives
option_cases : {Y : Type 0} (o : Option Y) (ys : List Y) (y : Y) → Contains (cons_option o ys) y → (o ≡ Some y) ⊎ Contains ys y
option_cases None ys y is = inr is
option_cases (Some x) ys y is = ⊎_elim (λ (e : x ≡ y). inl (ap (λ z. Some z) e)) inr (cons_cases x ys y is)

option_here : {Y : Type 0} (o : Option Y) (ys : List Y) (y : Y) → o ≡ Some y → Contains (cons_option o ys) y
option_here None ys y e = absurd (let h = e in cc)
option_here {Y} (Some x) ys y e = subst (λ (z : Y). Contains (x ∷ ys) z) (let h = e in cc) (here x ys)

option_later : {Y : Type 0} (o : Option Y) (ys : List Y) (y : Y) → Contains ys y → Contains (cons_option o ys) y
option_later None ys y is = is
option_later (Some x) ys y is = later x ys y is

filter_map_only : {X Y : Type 0} (h : X → Option Y) (xs : List X) (y : Y) → Contains (filter_map h xs) y → (x : X) × Contains xs x × (h x ≡ Some y)
filter_map_only h [] y is = absurd (none y is)
filter_map_only h (x ∷ xs) y is = ⊎_elim
    (λ e. (x, here x xs, e))
    (λ more. let w = filter_map_only h xs y more in (w.0, later x xs w.0 w.1, w.2))
    (option_cases (h x) (filter_map h xs) y is)

filter_map_new : {X Y : Type 0} (h : X → Option Y) (xs : List X) (x : X) (y : Y) → Contains xs x → h x ≡ Some y → Contains (filter_map h xs) y
filter_map_new h [] x y is e = absurd (none x is)
filter_map_new h (z ∷ xs) x y is e = ⊎_elim
    (λ same. option_here (h z) (filter_map h xs) y (ap h same ∙ e))
    (λ more. option_later (h z) (filter_map h xs) y (filter_map_new h xs x y more e))
    (cons_cases z xs x is)

hands_plain : (next : Next) (named : List Access) (a : Argument) (o : Option ℕ) → none_in o ≡ true → HandsFrom next named a o
hands_plain next named a None e = tt
hands_plain next named a (Some n) e = absurd (let h = e in cc)

hands_leading : (next : Next) (named : List Access) (a : Argument) → LeadsOn next named a → Hands next named a
hands_leading next named a l = subst (λ o. HandsFrom next named a o) (sym l.is_named) (l.read, l.at, l.path)

module _ (next : Next) (named : List Access) (arguments first more more' out : List Argument) (found found' : List Found)
    (leading : AreLeading next named arguments found) (e_found : found' ≡ found) (e_first : first ≡ filter is_plain arguments)
    (e_more : more ≡ filter_map (argument_of arguments) found') (e_more' : more' ≡ more) (e_out : out ≡ first ++ more') where
  second : more' ≡ filter_map (argument_of arguments) found
  second = e_more' ∙ e_more ∙ ap (filter_map (argument_of arguments)) e_found

  to_hands : (a : Argument) → Contains out a → Contains arguments a × Hands next named a
  to_hands a is = ⊎_elim
      (λ l. (let h = filter_only is_plain arguments a (subst (λ (xs : List Argument). Contains xs a) e_first l) in (h.0, hands_plain next named a a.named h.1)))
      (λ r. (let w = filter_map_only (argument_of arguments) found a (subst (λ (xs : List Argument). Contains xs a) second r) in
      let x = (leading w.0.definition).0 (w.0, w.1, refl) in
      let same : x.0 ≡ a = (let p = x.1 in let q = w.2 in cc) in
      (contains_at arguments w.0.definition a w.2, hands_leading next named a (subst (λ (b : Argument). LeadsOn next named b) same x.2))))
      (Contains-append_cases first more' a (subst (λ (xs : List Argument). Contains xs a) e_out is))

  of_option : (a : Argument) → Contains arguments a → (o : Option ℕ) → a.named ≡ o → HandsFrom next named a o → Contains first a ⊎ Contains more' a
  of_option a is None e h = inl (subst (λ (xs : List Argument). Contains xs a) (sym e_first) (filter_new is_plain arguments a is (ap none_in e)))
  of_option a is (Some n) e h =
      let w = (leading is.0).1 (a, place arguments a is, record { number = n; read = h.0; is_named = e; at = h.1; path = h.2 }) in
      inr (subst (λ (xs : List Argument). Contains xs a) (sym second) (filter_map_new (argument_of arguments) found w.0 a w.1 (ap (slice_get arguments) w.2 ∙ place arguments a is)))

  pub handing_are : AreHanding next named arguments out
  handing_are a = (
    to_hands a,
    λ w. subst (λ (xs : List Argument). Contains xs a) (sym e_out) (⊎_elim (Contains-append_left first more' a) (Contains-append_right first more' a) (of_option a w.0 a.named refl w.1)),
  )
