-- Tests that some row passes.
use Rattle.std.proofs.Common.{◌≡◌, ℕ, zero, suc, ◌<◌, ◌≤◌, ⊎_elim, List, Option, Bool, true, false, length, refl, ap, sym, ◌∙◌, arith}
use Rattle.std.specs.Prelude.{slice_get, nat_lt, is_some, not, ◌&&◌, ◌||◌}
use Rattle.std.proofs.lemmas.Bool.{true≢false, ltb-true, lt-ltb, le-ltb, or_left, or_right, or_from, and_parts, and_from, and_left, and_right, cases_lt}
use Rattle.std.proofs.lemmas.Option.{slice_get_past}
use Rattle.cc_meaning.specs.declared.coupling.Coupling.{Coupling}
use Rattle.cc_meaning.specs.declared.score.RowReason.{RowReason}
use Rattle.cc_score.specs.Any.{any_to, Finds}
use Rattle.cc_score.specs.Counts.{defines, occurs_to, marked_to, reasoned_to}
use Rattle.cc_score.specs.Marks.{mark, has_reason}
use Rattle.cc_score.specs.Groups.{inside, has}
use Rattle.cc_score.specs.declared.groups.Group.{Group}
use Rattle.cc_score.specs.declared.groups.Groups.{Groups}

finds_same : (f g : ℕ → Bool) (b : Bool) → ((i : ℕ) → f i ≡ g i) → Finds f b → Finds g b
finds_same f g true same found = (found.0, sym (same found.0) ∙ found.1)
finds_same f g false same none = λ i. sym (same i) ∙ none i

finds_or : (f g : ℕ → Bool) (a b : Bool) → Finds f a → Finds g b → Finds (λ i. f i || g i) (a || b)
finds_or f g true b found other = (found.0, or_left (f found.0) (g found.0) found.1)
finds_or f g false true none found = (found.0, or_right (f found.0) (g found.0) found.1)
finds_or f g false false none other = λ i. or_from (f i) (g i) (none i) (other i)

any_found : (f : ℕ → Bool) (n i : ℕ) → i < n → f i ≡ true → any_to f n ≡ true
any_found f zero i lt h = absurd (omega arith)
any_found f (suc n) i lt h =
    ⊎_elim (λ before. or_right (f n) (any_to f n) (any_found f n i before h))
    (λ after. let same : i ≡ n = omega arith in or_left (f n) (any_to f n) (sym (ap f same) ∙ h))
    (cases_lt i n)

any_none : (f : ℕ → Bool) (n : ℕ) → ((i : ℕ) → i < n → f i ≡ false) → any_to f n ≡ false
any_none f zero h = refl
any_none f (suc n) h = or_from (f n) (any_to f n) (h n (omega arith)) (any_none f n (λ i lt. h i (omega arith)))

any_is : (f : ℕ → Bool) (n : ℕ) (b : Bool) → ((i : ℕ) → n ≤ i → f i ≡ false) → Finds f b → any_to f n ≡ b
any_is f n true past found =
    ⊎_elim (λ lt. any_found f n found.0 lt found.1) (λ ge. absurd (true≢false (sym found.1 ∙ past found.0 ge))) (cases_lt found.0 n)
any_is f n false past none = any_none f n (λ i lt. none i)

any_same : (f g : ℕ → Bool) (n : ℕ) → ((i : ℕ) → i < n → f i ≡ g i) → any_to f n ≡ any_to g n
any_same f g zero same = refl
any_same f g (suc n) same = ap (λ b. b || any_to f n) (same n (omega arith)) ∙ ap (λ b. g n || b) (any_same f g n (λ i lt. same i (omega arith)))

or_and : (s t m : Bool) → (s && m) || (t && m) ≡ (s || t) && m
or_and true true true = refl
or_and true true false = refl
or_and true false true = refl
or_and true false false = refl
or_and false t m = refl

and_or : (m s t : Bool) → (m && s) || (m && t) ≡ m && (s || t)
and_or true s t = refl
and_or false s t = refl

-- a row of the group below a number
pub seen_in : (group : Group) (row : ℕ) (b : Bool) → b ≡ (nat_lt group.start group.«end» && nat_lt group.start row) → Finds (λ i. nat_lt i row && inside group i) b
seen_in group row true e =
    let parts = and_parts (nat_lt group.start group.«end») (nat_lt group.start row) (sym e) in
    let here : inside group group.start ≡ true = and_from (not (nat_lt group.start group.start)) (nat_lt group.start group.«end») (ap not (le-ltb group.start group.start (omega arith))) parts.0 in
    (group.start, and_from (nat_lt group.start row) (inside group group.start) parts.1 here)
seen_in group row false e = λ i. by i (nat_lt i row) refl (nat_lt i group.start) refl (nat_lt i group.«end») refl
  where
    by : (i : ℕ) (a : Bool) → nat_lt i row ≡ a → (b : Bool) → nat_lt i group.start ≡ b → (c : Bool) → nat_lt i group.«end» ≡ c → nat_lt i row && (not (nat_lt i group.start) && nat_lt i group.«end») ≡ false
    by i false p b q c r = and_left _ _ p
    by i true p true q c r = and_right _ _ (and_left _ _ (ap not q))
    by i true p false q false r = and_right _ _ (and_right _ _ r)
    by i true p false q true r =
        let lt = ltb-true i row p in
        let ge : group.start ≤ i = ⊎_elim (λ less. absurd (true≢false (sym (lt-ltb i group.start less) ∙ q))) (λ ge. ge) (cases_lt i group.start) in
        let below = ltb-true i group.«end» r in
        let yes = and_from (nat_lt group.start group.«end») (nat_lt group.start row) (lt-ltb _ _ (omega arith)) (lt-ltb _ _ (omega arith)) in
        absurd (true≢false (sym yes ∙ sym e))

module _ (rows : List Coupling) (wanted : ℕ) (groups : Groups) (same : (row : ℕ) → has groups row ≡ defines (slice_get rows row) wanted) where
  past : (test : ℕ → Bool) (i : ℕ) → length rows ≤ i → defines (slice_get rows i) wanted && test i ≡ false
  past test i h = ap (λ o. defines o wanted && test i) (slice_get_past rows i h)

  -- a row of the groups below a number
  pub seen : (row : ℕ) (a b c : Bool) → Finds (λ i. nat_lt i row && inside groups.shared i) a → Finds (λ i. nat_lt i row && inside groups.parameter i) b → Finds (λ i. nat_lt i row && inside groups.returned i) c
      → a || (b || c) ≡ occurs_to rows wanted row
  seen row a b c p q r =
      let both = finds_or _ _ b c q r in
      let all = finds_or _ _ a (b || c) p both in
      let f : ℕ → Bool = λ i. nat_lt i row && defines (slice_get rows i) wanted in
      let is = finds_same _ f (a || (b || c))
      (λ i. ap (λ x. (nat_lt i row && inside groups.shared i) || x) (and_or (nat_lt i row) (inside groups.parameter i) (inside groups.returned i))
      ∙ (and_or (nat_lt i row) (inside groups.shared i) (inside groups.parameter i || inside groups.returned i) ∙ ap (λ x. nat_lt i row && x) (same i))) all in
      sym (any_is f row (a || (b || c)) (λ i le. and_left _ _ (le-ltb i row le)) is)
      ∙ any_same f (λ i. defines (slice_get rows i) wanted) row (λ i lt. ap (λ x. x && defines (slice_get rows i) wanted) (lt-ltb i row lt))

  -- a row of the groups that passes a test
  passes : (test : ℕ → Bool) (a b c : Bool) → Finds (λ i. inside groups.shared i && test i) a → Finds (λ i. inside groups.parameter i && test i) b → Finds (λ i. inside groups.returned i && test i) c
      → a || (b || c) ≡ any_to (λ i. defines (slice_get rows i) wanted && test i) (length rows)
  passes test a b c p q r =
      let both = finds_or _ _ b c q r in
      let all = finds_or _ _ a (b || c) p both in
      let f : ℕ → Bool = λ i. defines (slice_get rows i) wanted && test i in
      let is = finds_same _ f (a || (b || c))
      (λ i. ap (λ x. (inside groups.shared i && test i) || x) (or_and (inside groups.parameter i) (inside groups.returned i) (test i))
      ∙ (or_and (inside groups.shared i) (inside groups.parameter i || inside groups.returned i) (test i) ∙ ap (λ x. x && test i) (same i))) all in
      sym (any_is f (length rows) (a || (b || c)) (past test) is)

  pub marked : (marks : List (Option ℕ)) (a b c : Bool) → Finds (λ i. inside groups.shared i && is_some (mark marks i)) a → Finds (λ i. inside groups.parameter i && is_some (mark marks i)) b
      → Finds (λ i. inside groups.returned i && is_some (mark marks i)) c → a || (b || c) ≡ marked_to rows marks wanted (length rows)
  marked marks a b c p q r = passes (λ i. is_some (mark marks i)) a b c p q r

  pub reasoned : (reasons : Option (List (Option RowReason))) (a b c : Bool) → Finds (λ i. inside groups.shared i && not (has_reason reasons i)) a → Finds (λ i. inside groups.parameter i && not (has_reason reasons i)) b
      → Finds (λ i. inside groups.returned i && not (has_reason reasons i)) c → not (a || (b || c)) ≡ reasoned_to rows reasons wanted (length rows)
  reasoned reasons a b c p q r = ap not (passes (λ i. not (has_reason reasons i)) a b c p q r)

-- one row more of a group that does not pass, and none behind the last
module _ (test : ℕ → Bool) (group : Group) where
  pub one_passes : (row : ℕ) → group.start ≤ row → row < group.«end» → test row ≡ true → Finds (λ i. inside group i && test i) true
  one_passes row ge lt h = (row, and_from (inside group row) (test row) (and_from _ _ (ap not (le-ltb row group.start ge)) (lt-ltb row group.«end» lt)) h)

  pub none_passes : ((i : ℕ) → group.start ≤ i → i < group.«end» → test i ≡ false) → Finds (λ i. inside group i && test i) false
  none_passes h = λ i. by i (nat_lt i group.start) refl (nat_lt i group.«end») refl
    where
      by : (i : ℕ) (b : Bool) → nat_lt i group.start ≡ b → (c : Bool) → nat_lt i group.«end» ≡ c → (not (nat_lt i group.start) && nat_lt i group.«end») && test i ≡ false
      by i true q c r = and_left _ _ (and_left _ _ (ap not q))
      by i false q false r = and_left _ _ (and_right _ _ r)
      by i false q true r =
          let ge : group.start ≤ i = ⊎_elim (λ less. absurd (true≢false (sym (lt-ltb i group.start less) ∙ q))) (λ ge. ge) (cases_lt i group.start) in
          and_right _ _ (h i ge (ltb-true i group.«end» r))
