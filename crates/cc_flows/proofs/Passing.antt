-- Numbers that were handed on.
use Rattle.std.proofs.Common.{◌≡◌, ◌≢◌, ℕ, zero, suc, ◌+◌, ◌-◌, ◌<◌, ◌≤◌, ◌⊎◌, ◌||◌, if◌then◌else◌, inl, inr, ⊎_elim, max, Bool, true, false, List, [], ◌∷◌, ◌++◌, length, Some, refl, sym, ap, ◌∙◌, subst, arith, length-append, length-set}
use Rattle.std.specs.Prelude.{slice_get, slice_set, Contains}
use Rattle.std.proofs.lemmas.Bool.{cases_eq, cases_lt}
use Rattle.std.proofs.lemmas.List.Elements.{Contains-push, Contains-push_cases, Contains-append_left, Contains-append_right, Contains-append_cases}
use Rattle.std.proofs.lemmas.Option.{slice_get_within}
use Rattle.cc_blocks.specs.declared.block.Block.{Block}
use Rattle.cc_blocks.specs.Bits.{bit, size}
use Rattle.cc_blocks.proofs.Sizes.{bit-lt, size-le, size-less}
use Rattle.cc_flows.specs.Sweeping.{Next, HasEdge, bit_at_point, Clear, First, On, room, IsDirty, dirty_count, Passes, Sweeps, Fits, Visits, Begins}
use Rattle.cc_flows.proofs.Dirty.{dirty_here, dirty_kept, dirty_other, count_more, count_less}

pub at_row : (blocks : List Block) (q i : ℕ) (b : Block) → slice_get blocks q ≡ Some b → bit_at_point blocks q i ≡ bit b i
unfolding bit_at_point
at_row [] q i b at = absurd (let e = at in cc)
at_row (x ∷ blocks) zero i b at = ap (λ y. bit y i) (let e : x ≡ b = (let h = at in cc) in e)
at_row (x ∷ blocks) (suc q) i b at = at_row blocks q i b at

pub set_same : (blocks : List Block) (q i : ℕ) (b : Block) → q < length blocks → bit_at_point (slice_set blocks q b) q i ≡ bit b i
unfolding bit_at_point
set_same [] q i b lt = absurd (omega arith)
set_same (x ∷ blocks) zero i b lt = refl
set_same (x ∷ blocks) (suc q) i b lt = set_same blocks q i b (omega arith)

pub set_other : (blocks : List Block) (q p i : ℕ) (b : Block) → p ≢ q → bit_at_point (slice_set blocks q b) p i ≡ bit_at_point blocks p i
unfolding bit_at_point
set_other [] q p i b ne = refl
set_other (x ∷ blocks) zero zero i b ne = absurd (ne refl)
set_other (x ∷ blocks) zero (suc p) i b ne = refl
set_other (x ∷ blocks) (suc q) zero i b ne = refl
set_other (x ∷ blocks) (suc q) (suc p) i b ne = set_other blocks q p i b (λ e. ne (ap suc e))

pub point-lt : (blocks : List Block) (p i : ℕ) → bit_at_point blocks p i < 2
unfolding bit_at_point
point-lt [] p i = omega arith
point-lt (b ∷ blocks) zero i = bit-lt b i
point-lt (b ∷ blocks) (suc p) i = point-lt blocks p i

room-set : (blocks : List Block) (q : ℕ) (old new : Block) → slice_get blocks q ≡ Some old → size old < size new → room (slice_set blocks q new) + 1 ≤ room blocks
unfolding room
room-set [] q old new at less = absurd (let e = at in cc)
room-set (x ∷ blocks) zero old new at less = let e : size x ≡ size old = ap size (let same : x ≡ old = (let h = at in cc) in same) in omega (arith, size-le new, size-le x)
room-set (x ∷ blocks) (suc q) old new at less = omega (arith, room-set blocks q old new at less)

contains_one : (q point : ℕ) → Contains (point ∷ []) q → q ≡ point
contains_one q point (zero, lt, e) = sym e
contains_one q point (suc k, lt, e) = absurd (omega arith)

-- a set that has all of another one, and a number that is new to it, is larger
larger : (old new : Block) (source : ℕ → ℕ) → ((i : ℕ) → bit new i ≡ max (bit old i) (source i)) → (i : ℕ) × (source i ≡ 1) × (bit old i ≡ 0) → size old < size new
larger old new source bits more = size-less old new new (λ i. omega (arith, bits i)) (more.0, omega (arith, bits more.0, more.1, more.2), more.2)

module _ (reach : List Block) (dirty : List Bool) (point : ℕ) (old new : Block) (source : ℕ → ℕ) (at : slice_get reach point ≡ Some old) (lt : point < length reach) (long : length dirty ≡ length reach)
    (bits : (i : ℕ) → bit new i ≡ max (bit old i) (source i)) (small : (i : ℕ) → source i < 2) where
  pub pass_new : (i : ℕ) × (source i ≡ 1) × (bit old i ≡ 0) → Passes reach (slice_set reach point new) dirty (slice_set dirty point true) (point ∷ []) source
  pass_new more = record {
    same_length = length-set reach point new;
    same_dirty = length-set dirty point true;
    kept = λ q i is. elim (cases_eq q point) [
      | inl e ↦ ap (λ x. bit_at_point (slice_set reach point new) x i) e ∙ set_same reach point i new lt ∙ (let o : bit old i ≡ 1 = sym (at_row reach point i old at) ∙ ap (λ x. bit_at_point reach x i) (sym e) ∙ is in omega (arith, bits i, small i))
      | inr ne ↦ set_other reach point q i new ne ∙ is
    ];
    got = λ q i c is. ap (λ x. bit_at_point (slice_set reach point new) x i) (contains_one q point c) ∙ set_same reach point i new lt ∙ omega (arith, bits i, bit-lt old i);
    only = λ q i is. elim (cases_eq q point) [
      | inl e ↦ (let n : bit new i ≡ 1 = sym (set_same reach point i new lt) ∙ ap (λ x. bit_at_point (slice_set reach point new) x i) (sym e) ∙ is in
          elim (cases_eq (source i) 1) [
            | inl one ↦ inr (subst (Contains (point ∷ [])) (sym e) (Contains-push [] point), one, subst (IsDirty (slice_set dirty point true)) (sym e) (dirty_here dirty point (omega (arith, lt, long))))
            | inr ne ↦ inl (ap (λ x. bit_at_point reach x i) e ∙ at_row reach point i old at ∙ omega (arith, bits i, small i))
          ])
      | inr ne ↦ inl (sym (set_other reach point q i new ne) ∙ is)
    ];
    dirty_kept = λ q is. dirty_kept dirty point q is;
    paid = omega (arith, room-set reach point old new at (larger old new source bits more), count_more dirty point);
  }

  pub pass_old : ((i : ℕ) × (source i ≡ 1) × (bit old i ≡ 0) → ⊥) → Passes reach reach dirty dirty (point ∷ []) source
  pass_old no_more = record {
    same_length = refl;
    same_dirty = refl;
    kept = λ q i is. is;
    got = λ q i c is. ap (λ x. bit_at_point reach x i) (contains_one q point c) ∙ at_row reach point i old at ∙ elim (cases_eq (bit old i) 1) [
      | inl one ↦ one
      | inr ne ↦ absurd (no_more (i, is, omega (arith, bit-lt old i)))
    ];
    only = λ q i is. inl is;
    dirty_kept = λ q is. is;
    paid = omega arith;
  }

pub passes_none : (reach : List Block) (dirty : List Bool) (source : ℕ → ℕ) → Passes reach reach dirty dirty [] source
passes_none reach dirty source = record {
  same_length = refl;
  same_dirty = refl;
  kept = λ q i is. is;
  got = λ q i c is. absurd (let h = c.1 in omega arith);
  only = λ q i is. inl is;
  dirty_kept = λ q is. is;
  paid = omega arith;
}

pub passes_on : (a b c : List Block) (u v w : List Bool) (ps qs : List ℕ) (source : ℕ → ℕ) → Passes a b u v ps source → Passes b c v w qs source → Passes a c u w (ps ++ qs) source
passes_on a b c u v w ps qs source f g = record {
  same_length = g.same_length ∙ f.same_length;
  same_dirty = g.same_dirty ∙ f.same_dirty;
  kept = λ q i h. g.kept q i (f.kept q i h);
  got = λ q i h s. ⊎_elim (λ p. g.kept q i (f.got q i p s)) (λ p. g.got q i p s) (Contains-append_cases ps qs q h);
  only = λ q i h. ⊎_elim
      (λ p. ⊎_elim inl (λ r. inr (Contains-append_left ps qs q r.0, r.1, g.dirty_kept q r.2)) (f.only q i p))
      (λ r. inr (Contains-append_right ps qs q r.0, r.1, r.2))
      (g.only q i h);
  dirty_kept = λ q h. g.dirty_kept q (f.dirty_kept q h);
  paid = omega (arith, f.paid, g.paid);
}

pub has_row : (next : Next) (a b : ℕ) (row : List ℕ) → slice_get next a ≡ Some row → HasEdge next a b → Contains row b
has_row next a b row at edge = let same : edge.row ≡ row = (let p = edge.at in let q = at in cc) in subst (λ (r : List ℕ). Contains r b) same edge.has

-- one start more
pub begins_on : (next : Next) (clears : List Block) (starts : List ℕ) (k start : ℕ) (row : List ℕ) (reach reach' : List Block) (dirty dirty' : List Bool) (source : ℕ → ℕ) →
    slice_get starts k ≡ Some start → slice_get next start ≡ Some row → source k ≡ 1 → ((i : ℕ) → i ≢ k → source i ≡ 0) → Sweeps next clears starts k reach dirty → Passes reach reach' dirty dirty' row source → Sweeps next clears starts (k + 1) reach' dirty'
begins_on next clears starts k start row reach reach' dirty dirty' source at_start at one others s p = record {
  same_length = p.same_length ∙ s.same_length;
  same_dirty = p.same_dirty ∙ s.same_dirty;
  sound = λ q i is. ⊎_elim (s.sound q i)
      (λ n. elim (cases_eq i k) [
        | inl e ↦ (start, ap (slice_get starts) e ∙ at_start, First (record { row = row; at = at; has = n.0 }))
        | inr ne ↦ absurd (let z = others i ne in let o = n.1 in omega arith)
      ])
      (p.only q i is);
  begun = λ i st q lt is edge. elim (cases_eq i k) [
    | inl e ↦ (let same : st ≡ start = (let x = is in let y = ap (slice_get starts) e in let z = at_start in cc) in
        p.got q i (has_row next start q row at (subst (λ x. HasEdge next x q) same edge)) (ap source e ∙ one))
    | inr ne ↦ p.kept q i (s.begun i st q (omega arith) is edge)
  ];
  passed = λ a b i edge is clear. ⊎_elim
      (λ old. ⊎_elim (λ x. inl (p.kept b i x)) (λ c. inr (p.dirty_kept a c)) (s.passed a b i edge old clear))
      (λ n. inr n.2)
      (p.only a i is);
}

-- a point is visited
pub visits_on : (next : Next) (clears : List Block) (starts : List ℕ) (k point : ℕ) (row : List ℕ) (reach reach' : List Block) (dirty dirty' : List Bool) (source : ℕ → ℕ) →
    slice_get next point ≡ Some row → ((i : ℕ) → source i ≡ bit_at_point reach point i - bit_at_point clears point i) →
    Sweeps next clears starts k reach dirty → Passes reach reach' (slice_set dirty point false) dirty' row source → Sweeps next clears starts k reach' dirty'
visits_on next clears starts k point row reach reach' dirty dirty' source at is_source s p = record {
  same_length = p.same_length ∙ s.same_length;
  same_dirty = p.same_dirty ∙ length-set dirty point false ∙ s.same_dirty;
  sound = λ q i is. ⊎_elim (s.sound q i)
      (λ n. (let e = is_source i in let one = n.1 in
      let from = s.sound point i (omega (arith, point-lt reach point i)) in
      (from.0, from.1, On from.2 (omega (arith, point-lt reach point i)) (record { row = row; at = at; has = n.0 }))))
      (p.only q i is);
  begun = λ i st q lt is edge. p.kept q i (s.begun i st q lt is edge);
  passed = λ a b i edge is clear. ⊎_elim
      (λ old. elim (cases_eq a point) [
        | inl same ↦ inl (p.got b i (has_row next point b row at (subst (λ x. HasEdge next x b) same edge))
            (let o : bit_at_point reach point i ≡ 1 = ap (λ x. bit_at_point reach x i) (sym same) ∙ old in let z : bit_at_point clears point i ≡ 0 = ap (λ x. bit_at_point clears x i) (sym same) ∙ clear in omega (arith, is_source i, o, z)))
        | inr ne ↦ ⊎_elim
            (λ x. inl (p.kept b i x))
            (λ c. inr (p.dirty_kept a (dirty_other dirty point a ne c)))
            (s.passed a b i edge old clear)
      ])
      (λ n. inr n.2)
      (p.only a i is);
}

-- where no point is to be visited, what is reached is set
reached_set : (next : Next) (clears : List Block) (starts : List ℕ) (k : ℕ) (reach : List Block) (dirty : List Bool) → ((p : ℕ) → IsDirty dirty p → ⊥) → Sweeps next clears starts k reach dirty → (i start q : ℕ) → i < k → slice_get starts i ≡ Some start → Clear next clears i start q → bit_at_point reach q i ≡ 1
reached_set next clears starts k reach dirty idle s i start q lt is (First edge) = s.begun i start q lt is edge
reached_set next clears starts k reach dirty idle s i start q lt is (On {a = a} path clear edge) = ⊎_elim (λ x. x) (λ c. absurd (idle a c)) (s.passed a q i edge (reached_set next clears starts k reach dirty idle s i start a lt is path) clear)

pub exact : (next : Next) (clears : List Block) (starts : List ℕ) (k : ℕ) (reach : List Block) (dirty : List Bool) → length starts ≤ k → ((p : ℕ) → IsDirty dirty p → ⊥) → Sweeps next clears starts k reach dirty → (q i : ℕ) →
    ((bit_at_point reach q i ≡ 1 → (start : ℕ) × (slice_get starts i ≡ Some start) × Clear next clears i start q) × ((start : ℕ) × (slice_get starts i ≡ Some start) × Clear next clears i start q → bit_at_point reach q i ≡ 1))
exact next clears starts k reach dirty le idle s q i = (s.sound q i, λ x. reached_set next clears starts k reach dirty idle s i x.0 q (omega (arith, slice_get_within starts i x.0 x.1)) x.1 x.2)

pub none_push : (reach : List Block) (b : Block) → ((i : ℕ) → bit b i ≡ 0) → ((q i : ℕ) → bit_at_point reach q i ≡ 0) → (q i : ℕ) → bit_at_point (reach ++ b ∷ []) q i ≡ 0
unfolding bit_at_point
none_push [] b e none zero i = e i
none_push [] b e none (suc q) i = refl
none_push (x ∷ reach) b e none zero i = none 0 i
none_push (x ∷ reach) b e none (suc q) i = none_push reach b e (λ p k. none (suc p) k) q i

pub sweeps_none : (next : Next) (clears : List Block) (starts : List ℕ) (reach : List Block) (dirty : List Bool) → length reach ≡ length next → length dirty ≡ length next → ((q i : ℕ) → bit_at_point reach q i ≡ 0) → Sweeps next clears starts 0 reach dirty
sweeps_none next clears starts reach dirty long long_dirty none = record {
  same_length = long;
  same_dirty = long_dirty;
  sound = λ q i is. absurd (let z = none q i in omega arith);
  begun = λ i start q lt is edge. absurd (omega arith);
  passed = λ p q i edge is clear. absurd (let z = none p i in omega arith);
}

pub visits_none : (next : Next) (clears reach : List Block) (dirty : List Bool) → Visits next clears reach reach dirty dirty
visits_none next clears reach dirty = record {
  same_length = refl;
  same_dirty = refl;
  kept = λ starts k s. s;
  paid = omega arith;
}

pub visits_then : (next : Next) (clears a b c : List Block) (u v w : List Bool) → Visits next clears a b u v → Visits next clears b c v w → Visits next clears a c u w
visits_then next clears a b c u v w f g = record {
  same_length = g.same_length ∙ f.same_length;
  same_dirty = g.same_dirty ∙ f.same_dirty;
  kept = λ starts k s. g.kept starts k (f.kept starts k s);
  paid = omega (arith, f.paid, g.paid);
}

pub fits_still : (next : Next) (clears a b : List Block) (u v : List Bool) → Fits next clears a u → Visits next clears a b u v → Fits next clears b v
fits_still next clears a b u v f g = record {
  stays = f.stays;
  same_clears = f.same_clears;
  same_length = g.same_length ∙ f.same_length;
  same_dirty = g.same_dirty ∙ f.same_dirty;
}

-- a point that grew is visited
pub visited : (next : Next) (clears reach reach' : List Block) (dirty dirty' : List Bool) (point : ℕ) (row : List ℕ) (source : ℕ → ℕ) →
    slice_get next point ≡ Some row → ((i : ℕ) → source i ≡ bit_at_point reach point i - bit_at_point clears point i) → IsDirty dirty point →
    Passes reach reach' (slice_set dirty point false) dirty' row source → Visits next clears reach reach' dirty dirty' × (room reach' + dirty_count dirty' < room reach + dirty_count dirty)
visited next clears reach reach' dirty dirty' point row source at is_source is p =
    let less : room reach' + dirty_count dirty' < room reach + dirty_count dirty = omega (arith, p.paid, count_less dirty point is) in (
      record {
        same_length = p.same_length;
        same_dirty = p.same_dirty ∙ length-set dirty point false;
        kept = λ starts k s. visits_on next clears starts k point row reach reach' dirty dirty' source at is_source s p;
        paid = omega arith;
      },
      less,
    )

pub begins_none : (next : Next) (starts : List ℕ) (reach : List Block) (dirty : List Bool) → Begins next starts 0 reach reach dirty dirty
begins_none next starts reach dirty = record {
  same_length = refl;
  same_dirty = refl;
  begun = λ clears s. s;
}

pub begins_more : (next : Next) (starts : List ℕ) (k start : ℕ) (row : List ℕ) (a b c : List Block) (u v w : List Bool) (source : ℕ → ℕ) →
    slice_get starts k ≡ Some start → slice_get next start ≡ Some row → source k ≡ 1 → ((i : ℕ) → i ≢ k → source i ≡ 0) → Begins next starts k a b u v → Passes b c v w row source → Begins next starts (k + 1) a c u w
begins_more next starts k start row a b c u v w source at_start at one others f p = record {
  same_length = p.same_length ∙ f.same_length;
  same_dirty = p.same_dirty ∙ f.same_dirty;
  begun = λ clears s. begins_on next clears starts k start row b c v w source at_start at one others (f.begun clears s) p;
}

or_true : (a b : Bool) → (a || b) ≡ true → (a ≡ true) ⊎ (b ≡ true)
or_true true b e = inl refl
or_true false b e = inr e

or_false : (a b : Bool) → (a || b) ≡ false → (a ≡ false) × (b ≡ false)
or_false true b e = absurd (let h = e in cc)
or_false false b e = (refl, e)

-- all points below a number were visited
pub record Visited (next : Next) (clears : List Block) (any : Bool) (k : ℕ) (reach reach' : List Block) (dirty dirty' : List Bool) : Type 0 where
  pub visits : Visits next clears reach reach' dirty dirty'
  pub grew : any ≡ true → room reach' + dirty_count dirty' < room reach + dirty_count dirty
  pub idle : any ≡ false → (p : ℕ) → p < k → IsDirty dirty' p → ⊥

pub visited_none : (next : Next) (clears reach : List Block) (dirty : List Bool) → Visited next clears false 0 reach reach dirty dirty
visited_none next clears reach dirty = record {
  visits = visits_none next clears reach dirty;
  grew = λ e. absurd (let h = e in cc);
  idle = λ e p lt is. absurd (omega arith);
}

pub visited_more : (next : Next) (clears : List Block) (any grew any' : Bool) (k : ℕ) (a b c : List Block) (u v w : List Bool) → any' ≡ (any || grew) → Visited next clears any k a b u v → Visits next clears b c v w →
    (grew ≡ true → room c + dirty_count w < room b + dirty_count v) → (grew ≡ false → (w ≡ v) × (IsDirty v k → ⊥)) → Visited next clears any' (k + 1) a c u w
visited_more next clears any grew any' k a b c u v w e f g more idle = record {
  visits = visits_then next clears a b c u v w f.visits g;
  grew = λ is. ⊎_elim
      (λ old. let less = f.grew old in let paid = g.paid in omega arith)
      (λ new. let less = more new in let paid = f.visits.paid in omega arith)
      (or_true any grew (sym e ∙ is));
  idle = λ is p lt dirty_p. (let both = or_false any grew (sym e ∙ is) in
      let still = idle both.1 in
      let was : IsDirty v p = subst (λ ds. IsDirty ds p) still.0 dirty_p in
      elim (cases_eq p k) [
        | inl same ↦ still.1 (subst (IsDirty v) same was)
        | inr ne ↦ f.idle both.0 p (omega (arith, lt)) was
      ]);
}

pub visited_all : (next : Next) (clears : List Block) (any : Bool) (k : ℕ) (reach reach' : List Block) (dirty dirty' : List Bool) → Fits next clears reach dirty → length next ≤ k → Visited next clears any k reach reach' dirty dirty' → any ≡ false → (p : ℕ) → IsDirty dirty' p → ⊥
visited_all next clears any k reach reach' dirty dirty' fits le v e p is =
    let lt = slice_get_within dirty' p true is in
    v.idle e p (omega (arith, lt, le, fits.same_dirty, v.visits.same_dirty)) is

-- a round makes less work
pub settles_less : (next : Next) (clears : List Block) (busy busy' : Bool) (a b c : List Block) (u v w : List Bool) → busy ≡ true → Visits next clears a b u v → Visits next clears b c v w → (busy' ≡ true → room c + dirty_count w < room b + dirty_count v) →
    room c + dirty_count w + (if busy' then 1 else 0) < room a + dirty_count u + (if busy then 1 else 0)
settles_less next clears true true a b c u v w e f g more = let less = more refl in let paid = f.paid in omega arith
settles_less next clears true false a b c u v w e f g more = let less = g.paid in let paid = f.paid in omega arith
settles_less next clears false busy' a b c u v w e f g more = absurd (let h = e in cc)

-- what comes next after a point is a point
pub row_within : (next : Next) (point : ℕ) (row : List ℕ) → ((a b : ℕ) → HasEdge next a b → b < length next) → slice_get next point ≡ Some row → (q : ℕ) → Contains row q → q < length next
row_within next point row stays at q has = stays point q (record { row = row; at = at; has = has })
