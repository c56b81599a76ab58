-- The test of types tells which are the same.
use Rattle.std.proofs.Common.{◌≡◌, refl, ap, ℕ, Bool, true, false, ◌&&◌, nat_eq, rules}
use Rattle.std.specs.Prelude.{Option, Some, None}
use Rattle.std.proofs.lemmas.Bool.{eqb-true, eq-eqb}
use Rattle.cc_arith.specs.declared.kind.IntKind.{IntKind}
use Rattle.cc_arith.specs.contracts.kind.IntKind.{the_type}
use denote.Enum.Bare.{same_true, true_same}
use Rattle.cc_tree.specs.declared.ids.StructId.{StructId}
use Rattle.cc_types.specs.CTypes.{CTypeTree, void, integer_of, pointer_to, array_of, returning, taking, struct_by}
use Rattle.cc_types.specs.SameTypes.{same_flag, same_kind, same_length, same_type}

two : (a b : Bool) → (a && b) ≡ true → (a ≡ true) × (b ≡ true)
two true b e = (refl, e)
two false b e = cc

both : (a b : Bool) → a ≡ true → b ≡ true → (a && b) ≡ true
both a b p q = rw (p, q) refl

flag_says : (k j : Bool) → same_flag k j ≡ true → k ≡ j
flag_says true true e = refl
flag_says false false e = refl
flag_says k j e = cc

flag_tells : (k : Bool) → same_flag k k ≡ true
flag_tells true = refl
flag_tells false = refl

kind_says : (m n : IntKind) → same_kind m n ≡ true → m ≡ n
kind_says m n e = same_true the_type (search rules) m n e

length_says : (m n : Option ℕ) → same_length m n ≡ true → m ≡ n
length_says (Some m) (Some n) e = ap Some (eqb-true m n e)
length_says None None e = refl
length_says m n e = cc

length_tells : (m : Option ℕ) → same_length m m ≡ true
length_tells (Some m) = eq-eqb m m refl
length_tells None = refl

abbrev numbered : ℕ → StructId
numbered x = record { 0 = x }

id_says : (s t : StructId) → nat_eq s.0 t.0 ≡ true → s ≡ t
id_says s t e = ap numbered (eqb-true s.0 t.0 e)

pub says : (t u : CTypeTree) → same_type t u ≡ true → t ≡ u
says (void k) (void j) e = ap void (flag_says k j e)
says (integer_of k m) (integer_of j n) e = let p = two (same_flag k j) (same_kind m n) e in let x = flag_says k j p.0 in let y = kind_says m n p.1 in cc
says (pointer_to k t) (pointer_to j u) e = let p = two (same_flag k j) (same_type t u) e in let x = flag_says k j p.0 in let y = says t u p.1 in cc
says (array_of k t m) (array_of j u n) e =
    let p = two (same_flag k j && same_type t u) (same_length m n) e in
    let q = two (same_flag k j) (same_type t u) p.0 in
    let x = flag_says k j q.0 in
    let y = says t u q.1 in
    let z = length_says m n p.1 in
    cc
says (returning t) (returning u) e = ap returning (says t u e)
says (taking t f) (taking u g) e = let p = two (same_type t u) (same_type f g) e in let x = says t u p.0 in let y = says f g p.1 in cc
says (struct_by k s) (struct_by j t) e = let p = two (same_flag k j) (nat_eq s.0 t.0) e in let x = flag_says k j p.0 in let y = id_says s t p.1 in cc
says t u e = cc

pub itself : (t : CTypeTree) → same_type t t ≡ true
itself (void k) = flag_tells k
itself (integer_of k m) = both (same_flag k k) (same_kind m m) (flag_tells k) (true_same the_type m m refl)
itself (pointer_to k t) = both (same_flag k k) (same_type t t) (flag_tells k) (itself t)
itself (array_of k t m) = both (same_flag k k && same_type t t) (same_length m m) (both (same_flag k k) (same_type t t) (flag_tells k) (itself t)) (length_tells m)
itself (returning t) = itself t
itself (taking t f) = both (same_type t t) (same_type f f) (itself t) (itself f)
itself (struct_by k s) = both (same_flag k k) (nat_eq s.0 s.0) (flag_tells k) (eq-eqb s.0 s.0 refl)

pub tells : (t u : CTypeTree) → t ≡ u → same_type t u ≡ true
tells t u e = rw (← e) (itself t)

pub one_test : (a b : Bool) → (a ≡ true → b ≡ true) → (b ≡ true → a ≡ true) → a ≡ b
one_test true true p q = refl
one_test false false p q = refl
one_test true false p q = let h = p refl in cc
one_test false true p q = let h = q refl in cc
