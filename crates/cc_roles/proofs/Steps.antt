-- One step further in, or further out.
use Rattle.std.proofs.Common.{◌≡◌, ℕ, zero, suc, ◌+◌, ◌-◌, ◌<◌, Some, None, true, false, refl, ap, ◌∙◌, arith}
use Rattle.std.specs.Prelude.{slice_get}
use Rattle.cc_arena.specs.Arenas.{node_of, parent_of}
use Rattle.cc_arena.specs.declared.arena.Arena.{Arena}
use Rattle.cc_program.specs.declared.program.Program.{Program}
use Rattle.cc_roles.specs.declared.calls.Fate.TheVariants as fates
use Rattle.cc_roles.specs.Names.{inside, further, bare_within}
use Rattle.cc_roles.specs.Calls.{fate, used_by, used_around, used_within}

pub bare_step : (A : Arena) (count counter n e : ℕ) → counter < count → inside A n ≡ Some e → bare_within A (count - counter) n ≡ bare_within A (count - (counter + 1)) e
bare_step A count counter n e lt h =
    let s : count - counter ≡ suc (count - (counter + 1)) = omega arith in
    ap (λ m. bare_within A m n) s ∙ ap (further (bare_within A (count - (counter + 1))) n) h

pub bare_stop : (A : Arena) (m n : ℕ) → inside A n ≡ None → bare_within A m n ≡ n
bare_stop A zero n h = refl
bare_stop A (suc m) n h = ap (further (bare_within A m) n) h

pub bare_end : (A : Arena) (count counter n : ℕ) → count ≡ counter → bare_within A (count - counter) n ≡ n
bare_end A count counter n e = let z : count - counter ≡ 0 = omega arith in ap (λ m. bare_within A m n) z

module _ (p : Program) (n around : ℕ) (h : parent_of (slice_get p.arena.nodes n) ≡ Some around) where
  pub used_step : (count counter : ℕ) → counter < count → fate p n (node_of (slice_get p.arena.nodes around)) ≡ fates.Handed → used_within p (count - counter) n ≡ used_within p (count - (counter + 1)) around
  used_step count counter lt f =
      let s : count - counter ≡ suc (count - (counter + 1)) = omega arith in
      ap (λ m. used_within p m n) s
      ∙ (ap (used_around p (used_within p (count - (counter + 1))) n) h
      ∙ ap (used_by (used_within p (count - (counter + 1))) around) f)

  pub used_dropped : (count counter : ℕ) → counter < count → fate p n (node_of (slice_get p.arena.nodes around)) ≡ fates.Dropped → used_within p (count - counter) n ≡ false
  used_dropped count counter lt f =
      let s : count - counter ≡ suc (count - (counter + 1)) = omega arith in
      ap (λ m. used_within p m n) s
      ∙ (ap (used_around p (used_within p (count - (counter + 1))) n) h
      ∙ ap (used_by (used_within p (count - (counter + 1))) around) f)

  pub used_used : (m : ℕ) → fate p n (node_of (slice_get p.arena.nodes around)) ≡ fates.Used → used_within p m n ≡ true
  used_used zero f = refl
  used_used (suc m) f = ap (used_around p (used_within p m) n) h ∙ ap (used_by (used_within p m) around) f

pub used_none : (p : Program) (m n : ℕ) → parent_of (slice_get p.arena.nodes n) ≡ None → used_within p m n ≡ true
used_none p zero n h = refl
used_none p (suc m) n h = ap (used_around p (used_within p m) n) h

pub used_end : (p : Program) (count counter n : ℕ) → count ≡ counter → used_within p (count - counter) n ≡ true
used_end p count counter n e = let z : count - counter ≡ 0 = omega arith in ap (λ m. used_within p m n) z
