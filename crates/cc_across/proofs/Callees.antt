-- The functions that a call may call, one after the other.
use Rattle.std.proofs.Common.{ℕ, ◌≡◌, ◌+◌, ◌-◌, ◌^◌, ◌<◌, ◌≤◌, inl, inr, ⊎_elim, Bool, true, false, if◌then◌else◌, List, [], ◌∷◌, ◌++◌, Option, Some, None, refl, sym, ap, ◌∙◌, subst, arith}
use Rattle.std.specs.Prelude.{Contains, ◌↔◌, nat_lt, nat_le, IfSome}
use Rattle.std.proofs.lemmas.Bool.{cases_lt, cases_eq, ltb-true, lt-ltb, leb-true, le-leb, and_parts, and_from, false≢true}
use Rattle.cc_blocks.specs.Pairs.{pair_bit}
use Rattle.cc_blocks.proofs.Places.{pair_told, told_pair}
use Rattle.cc_facts.specs.declared.facts.Facts.{Facts}
use Rattle.cc_facts.specs.declared.target.Target.TheVariants.{Function}
use Rattle.cc_facts.specs.Order.{IsNextIn}
use Rattle.cc_facts.specs.Told.{parts_in, number_of, has, may_be, is_defined, called_by, designator, may_call}
use Rattle.cc_graph.specs.declared.graph.Graph.{Graph}
use Rattle.cc_rows.specs.Gains.{Gains}
use Rattle.cc_rows.proofs.Gained.{gains_none, gains_on, gains_as, gains_push}
use Rattle.cc_across.specs.Pairs.{Pair}
use Rattle.cc_across.specs.Calling.{as_function, IsNextFunction, IsCalleeBetween, IsCalleeOf, IsDefinedAt, IsCallee, IsCallAt, IsCall}
use Rattle.cc_across.specs.Sites.{IsEvaluated, is_there}
use Rattle.cc_across.proofs.Tabling.{pair, pair_is}

module _ (F : Facts) where
  has_number : (h : ℕ) (n : Option ℕ) → has F h n ≡ true → (t : ℕ) × (n ≡ Some t) × (pair_bit F.rows.rows.items h t ≡ 1)
  has_number h (Some t) e = (t, refl, pair_told F.rows.rows.items h t e)
  has_number h None e = absurd (false≢true e)

  number_if : (g t : ℕ) (b : Bool) → (if b then Some (parts_in F + g) else None) ≡ Some t → (b ≡ true) × (parts_in F + g ≡ t)
  number_if g t true e = (refl, cc)
  number_if g t false e = absurd cc

  -- an occurrence that may be a function has its number
  pub be_bit : (o g : ℕ) → may_be F o (Function g) ≡ true → (o < F.occurrences) × (g ≤ 2 ^ 32 - 1 - parts_in F) × (pair_bit F.rows.rows.items o (parts_in F + g) ≡ 1)
  be_bit o g e =
      let h = and_parts (nat_lt o F.occurrences) (has F o (number_of F (Function g))) e in
      let n = has_number o (number_of F (Function g)) h.1 in
      let w = number_if g n.0 (nat_le g (2 ^ 32 - 1 - parts_in F)) n.1 in (
        ltb-true o F.occurrences h.0,
        leb-true g (2 ^ 32 - 1 - parts_in F) w.0,
        subst (λ t. pair_bit F.rows.rows.items o t ≡ 1) (sym w.1) n.2,
      )

  number_is : (g : ℕ) (b : Bool) → b ≡ true → (if b then Some (parts_in F + g) else None) ≡ Some (parts_in F + g)
  number_is g true e = refl
  number_is g false e = absurd (false≢true e)

  pub bit_be : (o g : ℕ) → o < F.occurrences → g ≤ 2 ^ 32 - 1 - parts_in F → pair_bit F.rows.rows.items o (parts_in F + g) ≡ 1 → may_be F o (Function g) ≡ true
  bit_be o g lt le one =
      let number = number_is g (nat_le g (2 ^ 32 - 1 - parts_in F)) (le-leb g (2 ^ 32 - 1 - parts_in F) le) in
      and_from (nat_lt o F.occurrences) (has F o (number_of F (Function g))) (lt-ltb o F.occurrences lt) (ap (has F o) number ∙ told_pair F.rows.rows.items o (parts_in F + g) one)

  -- the least one from a number on
  next_some : (o from t : ℕ) → o < F.occurrences → parts_in F + (t - parts_in F) < 2 ^ 32 → IsNextIn F.rows.rows.items o (parts_in F + from) (Some t) → IsNextFunction F o from (Some (t - parts_in F))
  next_some o from t lt fits h =
      let same : parts_in F + (t - parts_in F) ≡ t = omega (arith, h.0) in
      let le : t - parts_in F ≤ 2 ^ 32 - 1 - parts_in F = omega (arith, fits) in (
        omega (arith, h.0),
        bit_be o (t - parts_in F) lt le (subst (λ u. pair_bit F.rows.rows.items o u ≡ 1) (sym same) h.1),
        λ u le_u e. elim (cases_lt u (t - parts_in F)) [
          | inl below ↦ absurd (let one = (be_bit o u e).2 in let zeros = h.2 (parts_in F + u) (omega arith) (omega (arith, h.0)) in omega arith)
          | inr ge ↦ ge
        ],
      )

  next_none : (o from : ℕ) → (o < F.occurrences → IsNextIn F.rows.rows.items o (parts_in F + from) None) → IsNextFunction F o from None
  next_none o from h u le e =
      let w = be_bit o u e in
      let zeros = h w.0 (parts_in F + u) (omega arith) in
      let one = w.2 in
      omega arith

  next_by : (o from : ℕ) (r : Option ℕ) → (o < F.occurrences → IsNextIn F.rows.rows.items o (parts_in F + from) r) → (F.occurrences ≤ o → r ≡ None) → IfSome (as_function F r) (λ g. parts_in F + g < 2 ^ 32) → IsNextFunction F o from (as_function F r)
  next_by o from (Some t) inside outside fits = elim (cases_lt o F.occurrences) [
    | inl lt ↦ next_some o from t lt fits (inside lt)
    | inr ge ↦ absurd (let e = outside ge in cc)
  ]
  next_by o from None inside outside fits = next_none o from inside

  -- the number of the function, and what comes next from it on
  pub next_is : (o from start : ℕ) (r result : Option ℕ) → number_of F (Function from) ≡ Some start → (o < F.occurrences → IsNextIn F.rows.rows.items o start r) → (F.occurrences ≤ o → r ≡ None) → result ≡ as_function F r → IfSome result (λ g. parts_in F + g < 2 ^ 32) → IsNextFunction F o from result
  next_is o from start r result number inside outside is fits =
      let w = number_if from start (nat_le from (2 ^ 32 - 1 - parts_in F)) number in
      rw is (next_by o from r (λ lt. subst (λ s. IsNextIn F.rows.rows.items o s r) (sym w.1) (inside lt)) outside (subst (λ x. IfSome x (λ g. parts_in F + g < 2 ^ 32)) is fits))

  -- none where the number itself is too large
  pub next_past : (o from : ℕ) → number_of F (Function from) ≡ None → IsNextFunction F o from None
  next_past o from e u le may =
      let w = (be_bit o u may).1 in
      let number = number_is from (nat_le from (2 ^ 32 - 1 - parts_in F)) (le-leb from (2 ^ 32 - 1 - parts_in F) (omega arith)) in
      (let h = sym e ∙ number in cc)

  pub defined_pushed : (s g : ℕ) (a : List Pair) → is_defined F g ≡ true → Gains a (a ++ (s, g) ∷ []) (IsDefinedAt F s g)
  defined_pushed s g a is = gains_push a (pair s g) (IsDefinedAt F s g) (refl, refl, is) (λ x w. sym (pair_is x s g w.0 w.1))

  pub defined_left : (s g : ℕ) (a : List Pair) → is_defined F g ≡ false → Gains a a (IsDefinedAt F s g)
  defined_left s g a is = gains_none a (IsDefinedAt F s g) (λ x w. false≢true (sym is ∙ w.2))

  module _ (s o : ℕ) where
    -- one more
    pub between_some : (from g : ℕ) (a b : List Pair) → from ≤ g → may_be F o (Function g) ≡ true → ((u : ℕ) → from ≤ u → may_be F o (Function u) ≡ true → g ≤ u) →
        Gains a b (IsDefinedAt F s g) → Gains a b (IsCalleeBetween F s o from (g + 1))
    between_some from g a b le may least = gains_as a b (IsDefinedAt F s g) (IsCalleeBetween F s o from (g + 1))
        (λ x w. (
          w.0,
          (let e = w.1 in omega (arith, e, le)),
          (let e = w.1 in omega (arith, e)),
          subst (λ f. is_defined F f ≡ true) (sym w.1) w.2,
          subst (λ f. may_be F o (Function f) ≡ true) (sym w.1) may,
        ))
        (λ x w. let same : x.1 ≡ g = (let up = least x.1 w.1 w.4 in let down = w.2 in omega arith) in (w.0, same, subst (λ f. is_defined F f ≡ true) same w.3))

    pub between_none : (from end : ℕ) (a : List Pair) → ((u : ℕ) → from ≤ u → may_be F o (Function u) ≡ true → ⊥) → Gains a a (IsCalleeBetween F s o from end)
    between_none from end a never = gains_none a (IsCalleeBetween F s o from end) (λ x w. never x.1 w.1 w.4)

    pub between_nothing : (a : List Pair) → Gains a a (IsCalleeBetween F s o 0 0)
    between_nothing a = gains_none a (IsCalleeBetween F s o 0 0) (λ x w. let lt = w.2 in omega arith)

    pub between_on : (middle end : ℕ) (a b c : List Pair) → middle < end → Gains a b (IsCalleeBetween F s o 0 middle) → Gains b c (IsCalleeBetween F s o middle end) → Gains a c (IsCalleeBetween F s o 0 end)
    between_on middle end a b c le g h = gains_on a b c (IsCalleeBetween F s o 0 middle) (IsCalleeBetween F s o middle end) (IsCalleeBetween F s o 0 end) g h
        (λ x w. elim (cases_lt x.1 middle) [
          | inl lt ↦ inl (w.0, w.1, lt, w.3, w.4)
          | inr ge ↦ inr (w.0, ge, w.2, w.3, w.4)
        ])
        (λ x w. (w.0, w.1, (let lt = w.2 in omega (arith, lt, le)), w.3, w.4))
        (λ x w. (w.0, omega arith, w.2, w.3, w.4))

    pub between_all : (end : ℕ) (a b : List Pair) → 2 ^ 32 ≤ end → Gains a b (IsCalleeBetween F s o 0 end) → Gains a b (IsCalleeOf F s o)
    between_all end a b le = gains_as a b (IsCalleeBetween F s o 0 end) (IsCalleeOf F s o)
        (λ x w. (w.0, w.3, w.4))
        (λ x w. (w.0, omega arith, (let small = (be_bit o x.1 w.2).1 in omega (arith, small, le)), w.1, w.2))

  -- by what a site calls
  pub callee_some : (s d : ℕ) (a b : List Pair) → designator F s ≡ Some d → Gains a b (IsCalleeOf F s d) → Gains a b (IsCallee F s)
  callee_some s d a b is = gains_as a b (IsCalleeOf F s d) (IsCallee F s)
      (λ x w. (w.0, ap (λ o. called_by F o x.1) is ∙ and_from (is_defined F x.1) (may_be F d (Function x.1)) w.1 w.2))
      (λ x w. let h = and_parts (is_defined F x.1) (may_be F d (Function x.1)) (sym (ap (λ o. called_by F o x.1) is) ∙ w.1) in (w.0, h.0, h.1))

  pub callee_none : (s : ℕ) (a : List Pair) → designator F s ≡ None → Gains a a (IsCallee F s)
  callee_none s a is = gains_none a (IsCallee F s) (λ x w. false≢true (sym (ap (λ o. called_by F o x.1) is) ∙ w.1))

  pub there_is : (o : Option ℕ) → is_there o ≡ true → (k : ℕ) × (o ≡ Some k)
  there_is (Some k) e = (k, refl)
  there_is None e = absurd (false≢true e)

  pub there_not : (o : Option ℕ) → is_there o ≡ false → (k : ℕ) × (o ≡ Some k) → ⊥
  there_not o e w = false≢true (sym e ∙ ap is_there w.1)

  -- by whether it is a call that is evaluated
  module _ (G : Graph) where
    pub call_some : (s : ℕ) (a b : List Pair) → IsEvaluated G s → Gains a b (IsCallee F s) → Gains a b (IsCallAt G F s)
    call_some s a b is = gains_as a b (IsCallee F s) (IsCallAt G F s) (λ x w. (is, w)) (λ x w. w.1)

    pub call_none : (s : ℕ) (a : List Pair) → (IsEvaluated G s → ⊥) → Gains a a (IsCallAt G F s)
    call_none s a never = gains_none a (IsCallAt G F s) (λ x w. never w.0)

    pub calls_none : (x : Pair) → Contains {X = Pair} [] x ↔ IsCall G F 0 x
    calls_none x = (λ is. absurd (let lt = is.1 in omega arith), λ w. absurd (let lt = w.0 in omega arith))

    pub calls_on : (n : ℕ) (a b : List Pair) → ((x : Pair) → Contains a x ↔ IsCall G F n x) → Gains a b (IsCallAt G F n) → (x : Pair) → Contains b x ↔ IsCall G F (n + 1) x
    calls_on n a b before g x = (
      λ is. ⊎_elim
          (λ old. let w = (before x).0 old in (omega (arith, w.0), w.1, w.2))
          (λ w. let same = w.1.0 in (omega (arith, same), subst (λ m. IsEvaluated G m) (sym same) w.0, subst (λ m. may_call F m x.1 ≡ true) (sym same) w.1.1))
          ((g x).0 is),
      λ w. elim (cases_eq x.0 n) [
        | inl same ↦ (g x).1 (inr (subst (λ m. IsEvaluated G m) same w.1, (same, subst (λ m. may_call F m x.1 ≡ true) same w.2)))
        | inr differ ↦ (g x).1 (inl ((before x).1 (omega (arith, w.0), w.1, w.2)))
      ],
    )
