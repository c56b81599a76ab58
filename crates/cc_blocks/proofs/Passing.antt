-- Bits that were passed on.
use Rattle.std.proofs.Common.{◌≡◌, ◌≢◌, ℕ, zero, suc, ◌+◌, ◌-◌, ◌<◌, ◌≤◌, ◌⊎◌, inl, inr, ⊎_elim, max, List, [], ◌∷◌, ◌++◌, length, Some, refl, sym, ap, ◌∙◌, subst, arith, length-append, length-set}
use Rattle.std.specs.Prelude.{slice_get, slice_set, Contains}
use Rattle.std.proofs.lemmas.Bool.{cases_eq, cases_lt}
use Rattle.std.proofs.lemmas.List.Elements.{Contains-push, Contains-push_cases, Contains-append_left, Contains-append_right, Contains-append_cases}
use Rattle.std.proofs.lemmas.Option.{slice_get_within}
use Rattle.std.specs.declared.vec.Vec.{Vec}
use Rattle.std.specs.declared.alloc.Global.{Global}
use Rattle.cc_blocks.specs.declared.block.Block.{Block}
use Rattle.cc_blocks.specs.Bits.{bit, size}
use Rattle.cc_blocks.proofs.Sizes.{bit-lt, size-le, size-less}
use Rattle.cc_blocks.specs.Sweeping.{Next, HasEdge, bit_at_point, Clear, First, On, room, Passes, Sweeps}

pub at_row : (blocks : List Block) (q i : ℕ) (b : Block) → slice_get blocks q ≡ Some b → bit_at_point blocks q i ≡ bit b i
unfolding bit_at_point
at_row [] q i b at = absurd (let e = at in cc)
at_row (x ∷ blocks) zero i b at = ap (λ y. bit y i) (let e : x ≡ b = (let h = at in cc) in e)
at_row (x ∷ blocks) (suc q) i b at = at_row blocks q i b at

pub set_same : (blocks : List Block) (q i : ℕ) (b : Block) → q < length blocks → bit_at_point (slice_set blocks q b) q i ≡ bit b i
unfolding bit_at_point
set_same [] q i b lt = absurd (omega arith)
set_same (x ∷ blocks) zero i b lt = refl
set_same (x ∷ blocks) (suc q) i b lt = set_same blocks q i b (omega arith)

pub set_other : (blocks : List Block) (q p i : ℕ) (b : Block) → p ≢ q → bit_at_point (slice_set blocks q b) p i ≡ bit_at_point blocks p i
unfolding bit_at_point
set_other [] q p i b ne = refl
set_other (x ∷ blocks) zero zero i b ne = absurd (ne refl)
set_other (x ∷ blocks) zero (suc p) i b ne = refl
set_other (x ∷ blocks) (suc q) zero i b ne = refl
set_other (x ∷ blocks) (suc q) (suc p) i b ne = set_other blocks q p i b (λ e. ne (ap suc e))

room-set : (blocks : List Block) (q : ℕ) (old new : Block) → slice_get blocks q ≡ Some old → size old < size new → room (slice_set blocks q new) + 1 ≤ room blocks
unfolding room
room-set [] q old new at less = absurd (let e = at in cc)
room-set (x ∷ blocks) zero old new at less = let e : size x ≡ size old = ap size (let same : x ≡ old = (let h = at in cc) in same) in omega (arith, size-le new, size-le x)
room-set (x ∷ blocks) (suc q) old new at less = omega (arith, room-set blocks q old new at less)

contains_one : (q point : ℕ) → Contains (point ∷ []) q → q ≡ point
contains_one q point (zero, lt, e) = sym e
contains_one q point (suc k, lt, e) = absurd (omega arith)

module _ (reach : List Block) (work : List ℕ) (point : ℕ) (old new from : Block) (at : slice_get reach point ≡ Some old) (lt : point < length reach) (bits : (i : ℕ) → bit new i ≡ max (bit old i) (bit from i)) where
  pub pass_new : (i : ℕ) × (bit from i ≡ 1) × (bit old i ≡ 0) → Passes reach (slice_set reach point new) work (work ++ point ∷ []) (point ∷ []) (bit from)
  pass_new more = record {
    same_length = length-set reach point new;
    kept = λ q i is. elim (cases_eq q point) [
      | inl e ↦ ap (λ x. bit_at_point (slice_set reach point new) x i) e ∙ set_same reach point i new lt ∙ (let o : bit old i ≡ 1 = sym (at_row reach point i old at) ∙ ap (λ x. bit_at_point reach x i) (sym e) ∙ is in omega (arith, bits i, bit-lt from i))
      | inr ne ↦ set_other reach point q i new ne ∙ is
    ];
    got = λ q i c is. ap (λ x. bit_at_point (slice_set reach point new) x i) (contains_one q point c) ∙ set_same reach point i new lt ∙ omega (arith, bits i, bit-lt old i);
    only = λ q i is. elim (cases_eq q point) [
      | inl e ↦ (let n : bit new i ≡ 1 = sym (set_same reach point i new lt) ∙ ap (λ x. bit_at_point (slice_set reach point new) x i) (sym e) ∙ is in
          elim (cases_eq (bit from i) 1) [
            | inl one ↦ inr (subst (Contains (point ∷ [])) (sym e) (Contains-push [] point), one, subst (Contains (work ++ point ∷ [])) (sym e) (Contains-push work point))
            | inr ne ↦ inl (ap (λ x. bit_at_point reach x i) e ∙ at_row reach point i old at ∙ omega (arith, bits i, bit-lt from i))
          ])
      | inr ne ↦ inl (sym (set_other reach point q i new ne) ∙ is)
    ];
    work_kept = λ q c. Contains-append_left work (point ∷ []) q c;
    work_only = λ q c. ⊎_elim inl (λ e. inr (subst (Contains (point ∷ [])) e (Contains-push [] point))) (Contains-push_cases work point q c);
    paid = omega (arith, room-set reach point old new at (size-less old from new bits more), length-append work (point ∷ []));
  }

  pub pass_old : ((i : ℕ) × (bit from i ≡ 1) × (bit old i ≡ 0) → ⊥) → Passes reach reach work work (point ∷ []) (bit from)
  pass_old no_more = record {
    same_length = refl;
    kept = λ q i is. is;
    got = λ q i c is. ap (λ x. bit_at_point reach x i) (contains_one q point c) ∙ at_row reach point i old at ∙ elim (cases_eq (bit old i) 1) [
      | inl one ↦ one
      | inr ne ↦ absurd (no_more (i, is, omega (arith, bit-lt old i)))
    ];
    only = λ q i is. inl is;
    work_kept = λ q c. c;
    work_only = λ q c. inl c;
    paid = omega arith;
  }

pub passes_none : (reach : List Block) (work : List ℕ) (source : ℕ → ℕ) → Passes reach reach work work [] source
passes_none reach work source = record {
  same_length = refl;
  kept = λ q i is. is;
  got = λ q i c is. absurd (let h = c.1 in omega arith);
  only = λ q i is. inl is;
  work_kept = λ q c. c;
  work_only = λ q c. inl c;
  paid = omega arith;
}

pub passes_on : (a b c : List Block) (u v w ps qs : List ℕ) (source : ℕ → ℕ) → Passes a b u v ps source → Passes b c v w qs source → Passes a c u w (ps ++ qs) source
passes_on a b c u v w ps qs source f g = record {
  same_length = g.same_length ∙ f.same_length;
  kept = λ q i h. g.kept q i (f.kept q i h);
  got = λ q i h s. ⊎_elim (λ p. g.kept q i (f.got q i p s)) (λ p. g.got q i p s) (Contains-append_cases ps qs q h);
  only = λ q i h. ⊎_elim
      (λ p. ⊎_elim inl (λ r. inr (Contains-append_left ps qs q r.0, r.1, g.work_kept q r.2)) (f.only q i p))
      (λ r. inr (Contains-append_right ps qs q r.0, r.1, r.2))
      (g.only q i h);
  work_kept = λ q h. g.work_kept q (f.work_kept q h);
  work_only = λ q h. ⊎_elim
      (λ p. ⊎_elim inl (λ r. inr (Contains-append_left ps qs q r)) (f.work_only q p))
      (λ r. inr (Contains-append_right ps qs q r))
      (g.work_only q h);
  paid = omega (arith, f.paid, g.paid);
}

pub has_row : (next : Next) (a b : ℕ) (row : Vec ℕ Global) → slice_get next a ≡ Some row → HasEdge next a b → Contains row.items b
has_row next a b row at edge = let same : edge.row ≡ row = (let p = edge.at in let q = at in cc) in subst (λ (r : Vec ℕ Global). Contains r.items b) same edge.has

-- one start more
pub begins_on : (next : Next) (clears : List Block) (starts : List ℕ) (k start : ℕ) (row : Vec ℕ Global) (reach reach' : List Block) (work work' : List ℕ) (block : Block) → ((a b : ℕ) → HasEdge next a b → b < length next) →
    slice_get starts k ≡ Some start → slice_get next start ≡ Some row → bit block k ≡ 1 → ((i : ℕ) → i ≢ k → bit block i ≡ 0) → Sweeps next clears starts k reach work → Passes reach reach' work work' row.items (bit block) → Sweeps next clears starts (k + 1) reach' work'
begins_on next clears starts k start row reach reach' work work' block stays at_start at one others s p = record {
  same_length = p.same_length ∙ s.same_length;
  sound = λ q i is. ⊎_elim (s.sound q i)
      (λ n. elim (cases_eq i k) [
        | inl e ↦ (start, ap (slice_get starts) e ∙ at_start, First (record { row = row; at = at; has = n.0 }))
        | inr ne ↦ absurd (let z = others i ne in let o = n.1 in omega arith)
      ])
      (p.only q i is);
  begun = λ i st q lt is edge. elim (cases_eq i k) [
    | inl e ↦ (let same : st ≡ start = (let x = is in let y = ap (slice_get starts) e in let z = at_start in cc) in
        p.got q i (has_row next start q row at (subst (λ x. HasEdge next x q) same edge)) (ap (bit block) e ∙ one))
    | inr ne ↦ p.kept q i (s.begun i st q (omega arith) is edge)
  ];
  passed = λ a b i edge is clear. ⊎_elim
      (λ old. ⊎_elim (λ x. inl (p.kept b i x)) (λ c. inr (p.work_kept a c)) (s.passed a b i edge old clear))
      (λ n. inr n.2)
      (p.only a i is);
  work_within = λ q c. ⊎_elim (s.work_within q) (λ h. stays start q (record { row = row; at = at; has = h })) (p.work_only q c);
}

-- a point was taken from the work
pub sweeps_on : (next : Next) (clears : List Block) (starts : List ℕ) (k point : ℕ) (row : Vec ℕ Global) (reach reach' : List Block) (work work' : List ℕ) (source : ℕ → ℕ) → ((a b : ℕ) → HasEdge next a b → b < length next) →
    slice_get next point ≡ Some row → ((i : ℕ) → source i ≡ bit_at_point reach point i - bit_at_point clears point i) → ((i : ℕ) → bit_at_point reach point i < 2) →
    Sweeps next clears starts k reach (work ++ point ∷ []) → Passes reach reach' work work' row.items source → Sweeps next clears starts k reach' work'
sweeps_on next clears starts k point row reach reach' work work' source stays at is_source small s p = record {
  same_length = p.same_length ∙ s.same_length;
  sound = λ q i is. ⊎_elim (s.sound q i)
      (λ n. (let e = is_source i in let one = n.1 in
      let from = s.sound point i (omega (arith, small i)) in
      (from.0, from.1, On from.2 (omega (arith, small i)) (record { row = row; at = at; has = n.0 }))))
      (p.only q i is);
  begun = λ i st q lt is edge. p.kept q i (s.begun i st q lt is edge);
  passed = λ a b i edge is clear. ⊎_elim
      (λ old. ⊎_elim
      (λ x. inl (p.kept b i x))
      (λ c. ⊎_elim
      (λ rest. inr (p.work_kept a rest))
      (λ same. inl (p.got b i (has_row next point b row at (subst (λ x. HasEdge next x b) (sym same) edge))
      (let o = ap (λ x. bit_at_point reach x i) same ∙ old in let z = ap (λ x. bit_at_point clears x i) same ∙ clear in omega (arith, is_source i))))
      (Contains-push_cases work point a c))
      (s.passed a b i edge old clear))
      (λ n. inr n.2)
      (p.only a i is);
  work_within = λ q c. ⊎_elim (λ h. s.work_within q (Contains-append_left work (point ∷ []) q h)) (λ h. stays point q (record { row = row; at = at; has = h })) (p.work_only q c);
}

-- where no work is left, what is reached is set
reached_set : (next : Next) (clears : List Block) (starts : List ℕ) (k : ℕ) (reach : List Block) → Sweeps next clears starts k reach [] → (i start q : ℕ) → i < k → slice_get starts i ≡ Some start → Clear next clears i start q → bit_at_point reach q i ≡ 1
reached_set next clears starts k reach s i start q lt is (First edge) = s.begun i start q lt is edge
reached_set next clears starts k reach s i start q lt is (On {a = a} path clear edge) = ⊎_elim (λ x. x) (λ c. absurd (let h = c.1 in omega arith)) (s.passed a q i edge (reached_set next clears starts k reach s i start a lt is path) clear)

pub exact : (next : Next) (clears : List Block) (starts : List ℕ) (k : ℕ) (reach : List Block) → length starts ≤ k → Sweeps next clears starts k reach [] → (q i : ℕ) →
    ((bit_at_point reach q i ≡ 1 → (start : ℕ) × (slice_get starts i ≡ Some start) × Clear next clears i start q) × ((start : ℕ) × (slice_get starts i ≡ Some start) × Clear next clears i start q → bit_at_point reach q i ≡ 1))
exact next clears starts k reach le s q i = (s.sound q i, λ x. reached_set next clears starts k reach s i x.0 q (omega (arith, slice_get_within starts i x.0 x.1)) x.1 x.2)

pub none_push : (reach : List Block) (b : Block) → ((i : ℕ) → bit b i ≡ 0) → ((q i : ℕ) → bit_at_point reach q i ≡ 0) → (q i : ℕ) → bit_at_point (reach ++ b ∷ []) q i ≡ 0
unfolding bit_at_point
none_push [] b e none zero i = e i
none_push [] b e none (suc q) i = refl
none_push (x ∷ reach) b e none zero i = none 0 i
none_push (x ∷ reach) b e none (suc q) i = none_push reach b e (λ p k. none (suc p) k) q i

pub sweeps_none : (next : Next) (clears : List Block) (starts : List ℕ) (reach : List Block) → length reach ≡ length next → ((q i : ℕ) → bit_at_point reach q i ≡ 0) → Sweeps next clears starts 0 reach []
sweeps_none next clears starts reach long none = record {
  same_length = long;
  sound = λ q i is. absurd (let z = none q i in omega arith);
  begun = λ i start q lt is edge. absurd (omega arith);
  passed = λ p q i edge is clear. absurd (let z = none p i in omega arith);
  work_within = λ q c. absurd (let h = c.1 in omega arith);
}
