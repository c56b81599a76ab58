-- The derived test of shapes tells which are the same.
use Rattle.std.proofs.Common.{◌≡◌, true, false, refl, Bool, ◌&&◌, ℕ, rules, arith}
use Rattle.std.specs.Prelude.{Option, Some, None}
use Rattle.cc_arith.specs.contracts.kind.IntKind.{the_type}
use mathlib.Core.Bool.{beq}
use denote.Enum.Bare.{sameb, same_true}
use Rattle.std.proofs.lemmas.Grind.{common_steps}
use Rattle.cc_types.specs.declared.shape.TypeId.{TypeId}
use Rattle.cc_types.specs.declared.shape.Shape.{Shape}
use Rattle.cc_types.specs.declared.shape.Shape.TheVariants as s
use Rattle.cc_types.specs.Interning.{same_shape}

both : (a b : Bool) → (a && b) ≡ true → (a ≡ true) × (b ≡ true)
both true b e = (refl, e)
both false b e = cc

same_bool : (a b : Bool) → beq a b ≡ true → a ≡ b
same_bool true true e = refl
same_bool false false e = refl
same_bool a b e = cc

pub says : (a b : Shape) → same_shape a b ≡ true → a ≡ b
says (s.Void k) (s.Void j) e = search rules
says (s.Integer k m) (s.Integer j n) e =
    let p = both (beq k j) (sameb the_type m n) e in
    let x : k ≡ j = same_bool k j p.0 in
    let y : m ≡ n = same_true the_type (search rules) m n p.1 in
    cc
says (s.Pointer k m) (s.Pointer j n) e = search rules
says (s.Array k t m) (s.Array j u n) e = by_length k j t u m n e
  where
    by_length : (k j : Bool) (t u : TypeId) (m n : Option ℕ) → same_shape (s.Array k t m) (s.Array j u n) ≡ true → s.Array k t m ≡ s.Array j u n
    by_length k j t u (Some m) (Some n) e = search rules
    by_length k j t u None None e = search rules
    by_length k j t u m n e = grind (arith, common_steps)
says (s.Struct k t) (s.Struct j u) e = search rules
says (s.Function t) (s.Function u) e = search rules
says (s.Takes t f) (s.Takes u g) e = grind (arith, common_steps)
says a b e = cc

pub tells : (a b : Shape) → a ≡ b → same_shape a b ≡ true
tells a b e = search rules
