-- Steps of a solver.
use Rattle.std.proofs.Common.{◌≡◌, ℕ, ◌+◌, ◌<◌, ◌≤◌, ◌⊎◌, inl, inr, ⊎_elim, List, [], ◌∷◌, ◌++◌, take, Some, None, refl, sym, ap, ◌∙◌, subst, arith}
use Rattle.std.specs.Prelude.{Contains, Option, IfSome, IfNone}
use Rattle.std.proofs.lemmas.Bool.{cases_eq, cases_lt}
use Rattle.std.proofs.lemmas.List.Elements.{Contains-push_cases}
use Rattle.cc_blocks.specs.declared.cell.Cell.{Cell}
use Rattle.cc_blocks.specs.Cells.{row_bit}
use Rattle.cc_blocks.specs.Pairs.{pair_bit}
use Rattle.cc_solver.specs.declared.rules.Pair.{Pair}
use Rattle.cc_solver.specs.declared.rules.Edge.{Edge}
use Rattle.cc_solver.specs.declared.state.State.{State}
use Rattle.cc_solver.specs.declared.state.Limits.{Limits}
use Rattle.cc_solver.specs.Least.{Least, Given, Flows, Triggers, Hands, HasMore}
use Rattle.cc_solver.proofs.Counted.{has_more}
use Rattle.cc_solver.specs.Solving.{Has, In, Grows, Exceeds, Links, IsEdge, Solves, HasEdges, HasPairs, OwesNone, LagsNone, IsDue, OwesAll, LagsAll, Takes, Begins, Spreads, SpreadsMany, SpreadsTo, HasGiven, HasJoins, Keeps, left_of}

module _ (given : List Pair) (joins : List Edge) (Adds Gives : ℕ → ℕ → ℕ → ℕ → Type 0) where
  -- what flows along an edge that has to be there
  pub along : (g h t : ℕ) → IsEdge given joins Adds Gives g h → Least given joins Adds Gives g t → Least given joins Adds Gives h t
  along g h t e l = ⊎_elim (λ j. Flows j l) (λ x. Triggers x.2 x.3 l) e

  pub solves_links : (s s' : State) (Owes : ℕ → ℕ → Type 0) (Lags : ℕ → ℕ → ℕ → Type 0) (g h : ℕ) → Solves given joins Adds Gives s Owes Lags → Links s s' g h → IsEdge given joins Adds Gives g h → Solves given joins Adds Gives s' Owes Lags
  solves_links s s' Owes Lags g h v l e = record {
    sound = λ x t is. ⊎_elim
        (v.sound x t)
        (λ n. subst (λ y. Least given joins Adds Gives y t) (sym n.0) (along g h t e (v.sound g t n.1)))
        (l.grows.only x t is);
    sound_edge = λ x y is. ⊎_elim
        (v.sound_edge x y)
        (λ n. subst (λ a. IsEdge given joins Adds Gives a y) (sym n.0) (subst (IsEdge given joins Adds Gives g) (sym n.1) e))
        (l.edges_only x y is);
    handled = λ p q is. ⊎_elim
        (λ old. ⊎_elim
        (λ f. inl (l.grows.fresh_kept p q f))
        (λ r. inr (⊎_elim (λ o. inl o) (λ all. inr (λ x y a. l.edges_kept x y (all.0 x y a), λ x y a. l.grows.kept x y (all.1 x y a))) r))
        (v.handled p q old))
        (λ new. inl new)
        (l.grows.news p q is);
    flowed = λ x y t edge is. ⊎_elim
        (λ old. ⊎_elim
        (λ before. flow_old x y t before old)
        (λ n. ⊎_elim
        (λ before. flow_old x y t (ap (λ a. pair_bit s.edges.rows.items a y) n.0 ∙ ap (pair_bit s.edges.rows.items g) n.1 ∙ before) old)
        (λ got. inr (inr (ap (λ a. pair_bit s'.pairs.rows.items a t) n.1 ∙ got t (ap (λ a. pair_bit s.pairs.rows.items a t) (sym n.0) ∙ old))))
        l.got)
        (l.edges_only x y edge))
        (λ new. inl new)
        (l.grows.news x t is);
  }
    where
      flow_old : (x y t : ℕ) → Has s.edges x y → Has s.pairs x t → Has s'.fresh x t ⊎ (Lags x y t ⊎ Has s'.pairs y t)
      flow_old x y t edge is = ⊎_elim
          (λ f. inl (l.grows.fresh_kept x t f))
          (λ r. inr (⊎_elim (λ o. inl o) (λ p. inr (l.grows.kept y t p)) r))
          (v.flowed x y t edge is)

  pub solves_grows : (s s' : State) (Owes : ℕ → ℕ → Type 0) (Lags : ℕ → ℕ → ℕ → Type 0) (to : ℕ) (Source : ℕ → Type 0) → Solves given joins Adds Gives s Owes Lags → Grows s s' to Source → s'.edges.rows.items ≡ s.edges.rows.items → ((t : ℕ) → Source t → Least given joins Adds Gives to t) → Solves given joins Adds Gives s' Owes Lags
  solves_grows s s' Owes Lags to Source v l same why = record {
    sound = λ x t is. ⊎_elim
        (v.sound x t)
        (λ n. subst (λ y. Least given joins Adds Gives y t) (sym n.0) (why t n.1))
        (l.only x t is);
    sound_edge = λ x y is. v.sound_edge x y (ap (λ xs. pair_bit xs x y) (sym same) ∙ is);
    handled = λ p q is. ⊎_elim
        (λ old. ⊎_elim
        (λ f. inl (l.fresh_kept p q f))
        (λ r. inr (⊎_elim (λ o. inl o) (λ all. inr (λ x y a. ap (λ xs. pair_bit xs x y) same ∙ all.0 x y a, λ x y a. l.kept x y (all.1 x y a))) r))
        (v.handled p q old))
        (λ new. inl new)
        (l.news p q is);
    flowed = λ x y t edge is. ⊎_elim
        (λ old. ⊎_elim
        (λ f. inl (l.fresh_kept x t f))
        (λ r. inr (⊎_elim (λ o. inl o) (λ p. inr (l.kept y t p)) r))
        (v.flowed x y t (ap (λ xs. pair_bit xs x y) (sym same) ∙ edge) old))
        (λ new. inl new)
        (l.news x t is);
  }

  -- what is owed may be another description of the same
  pub solves_weaker : (s : State) (Owes Owes' : ℕ → ℕ → Type 0) (Lags Lags' : ℕ → ℕ → ℕ → Type 0) → Solves given joins Adds Gives s Owes Lags →
      ((p q : ℕ) → Has s.pairs p q → Owes p q → Owes' p q ⊎ (HasEdges s Adds p q × HasPairs s Gives p q)) →
      ((g h t : ℕ) → Has s.edges g h → Lags g h t → Lags' g h t ⊎ Has s.pairs h t) → Solves given joins Adds Gives s Owes' Lags'
  solves_weaker s Owes Owes' Lags Lags' v owes lags = record {
    sound = v.sound;
    sound_edge = v.sound_edge;
    handled = λ p q is. ⊎_elim inl (λ r. inr (⊎_elim (owes p q is) inr r)) (v.handled p q is);
    flowed = λ g h t edge is. ⊎_elim inl (λ r. inr (⊎_elim (lags g h t edge) inr r)) (v.flowed g h t edge is);
  }

  pub solves_takes : (s s' : State) (holder : ℕ) (delta : List Cell) → Solves given joins Adds Gives s OwesNone LagsNone → Takes s s' holder delta → Solves given joins Adds Gives s' (OwesAll holder delta) (LagsAll holder delta)
  solves_takes s s' holder delta v k = record {
    sound = λ h t is. v.sound h t (pairs_back h t is);
    sound_edge = λ g h is. v.sound_edge g h (edges_back g h is);
    handled = λ p q is. ⊎_elim
        (λ f. ⊎_elim inl (λ o. inr (inl o)) (k.fresh p q f))
        (λ r. ⊎_elim (λ o. absurd o) (λ all. inr (inr (λ g h a. ap (λ xs. pair_bit xs g h) k.edges ∙ all.0 g h a, λ h t a. ap (λ xs. pair_bit xs h t) k.pairs ∙ all.1 h t a))) r)
        (v.handled p q (pairs_back p q is));
    flowed = λ g h t edge is. ⊎_elim
        (λ f. ⊎_elim inl (λ o. inr (inl o)) (k.fresh g t f))
        (λ r. ⊎_elim (λ o. absurd o) (λ p. inr (inr (ap (λ xs. pair_bit xs h t) k.pairs ∙ p))) r)
        (v.flowed g h t (edges_back g h edge) (pairs_back g t is));
  }
    where
      pairs_back : (h t : ℕ) → Has s'.pairs h t → Has s.pairs h t
      pairs_back h t is = ap (λ xs. pair_bit xs h t) (sym k.pairs) ∙ is

      edges_back : (g h : ℕ) → Has s'.edges g h → Has s.edges g h
      edges_back g h is = ap (λ xs. pair_bit xs g h) (sym k.edges) ∙ is

  pub solves_begins : (s : State) → Begins given joins s → Solves given joins Adds Gives s OwesNone LagsNone
  solves_begins s b = record {
    sound = λ h t is. Given (b.is_given h t is);
    sound_edge = λ g h is. inl (b.is_join g h is);
    handled = λ p q is. inl (b.all_fresh p q is);
    flowed = λ g h t edge is. inl (b.all_fresh g t is);
  }

  -- where nothing is to be handled, all is there that has to be there
  pub complete : (s : State) → Solves given joins Adds Gives s OwesNone LagsNone → HasGiven given s → HasJoins joins s → ((h t : ℕ) → Has s.fresh h t → ⊥) → (h t : ℕ) → Least given joins Adds Gives h t → Has s.pairs h t
  complete s v has_given has_joins done h t (Given is) = has_given h t is
  complete s v has_given has_joins done h t (Flows {g = g} j l) =
      let from = complete s v has_given has_joins done g t l in
      ⊎_elim (λ f. absurd (done g t f)) (λ r. ⊎_elim (λ o. absurd o) (λ p. p) r) (v.flowed g h t (has_joins g h j) from)
  complete s v has_given has_joins done h t (Triggers {p = p} {q = q} {g = g} trigger adds l) =
      let from = complete s v has_given has_joins done g t l in
      let by = complete s v has_given has_joins done p q trigger in
      let edge : Has s.edges g h = ⊎_elim (λ f. absurd (done p q f)) (λ r. ⊎_elim (λ o. absurd o) (λ all. all.0 g h adds) r) (v.handled p q by) in
      ⊎_elim (λ f. absurd (done g t f)) (λ r. ⊎_elim (λ o. absurd o) (λ p. p) r) (v.flowed g h t edge from)
  complete s v has_given has_joins done h t (Hands {p = p} {q = q} trigger gives) =
      let by = complete s v has_given has_joins done p q trigger in
      ⊎_elim (λ f. absurd (done p q f)) (λ r. ⊎_elim (λ o. absurd o) (λ all. all.1 h t gives) r) (v.handled p q by)

  pub more_than : (limits : Limits) (s s' : State) (to : ℕ) (Source : ℕ → Type 0) → ((h t : ℕ) → Has s.pairs h t → Least given joins Adds Gives h t) → ((t : ℕ) → Source t → Least given joins Adds Gives to t) → Exceeds limits s s' to Source → HasMore limits (Least given joins Adds Gives)
  more_than limits s s' to Source sound why x = has_more limits s'.pairs.rows.items _ x.many (λ h t is. ⊎_elim (sound h t) (λ n. subst (λ y. Least given joins Adds Gives y t) (sym n.0) (why t n.1)) (x.only h t is))

-- what is due next
pub due_first : (r : Option ℕ) (cells : List Cell) (k : ℕ) → IfSome r (λ first. (0 ≤ first) × (row_bit cells first ≡ 1) × ((t : ℕ) → 0 ≤ t → t < first → row_bit cells t ≡ 0)) → IfNone r ((t : ℕ) → 0 ≤ t → row_bit cells t ≡ 0) → In cells k → IsDue r k
due_first (Some x) cells k s n is = elim (cases_lt k x) [
  | inl lt ↦ absurd (let z = s.2 k (omega arith) lt in omega arith)
  | inr ge ↦ ge
]
due_first None cells k s n is = let z = n k (omega arith) in omega arith

pub due_on : (r : Option ℕ) (cells : List Cell) (x k : ℕ) → IfSome r (λ next. (x < next) × (row_bit cells next ≡ 1) × ((t : ℕ) → x < t → t < next → row_bit cells t ≡ 0)) → IfNone r ((t : ℕ) → x < t → row_bit cells t ≡ 0) → In cells k → x < k → IsDue r k
due_on (Some y) cells x k s n is lt = elim (cases_lt k y) [
  | inl before ↦ absurd (let z = s.2 k lt before in omega arith)
  | inr ge ↦ ge
]
due_on None cells x k s n is lt = let z = n k lt in omega arith

pub keeps_refl : (s : State) → Keeps s s
keeps_refl s = record { same_length = refl; pairs = λ h t is. is; edges = λ g h is. is; paid = omega arith }

pub keeps_links : (s s' s'' : State) (from to : ℕ) → Keeps s s' → Links s' s'' from to → Keeps s s''
keeps_links s s' s'' from to k l = record {
  same_length = l.grows.same_length ∙ k.same_length;
  pairs = λ h t is. l.grows.kept h t (k.pairs h t is);
  edges = λ g h is. l.edges_kept g h (k.edges g h is);
  paid = omega (arith, k.paid, l.grows.paid);
}

pub keeps_on : (s s' s'' : State) → Keeps s s' → Keeps s' s'' → Keeps s s''
keeps_on s s' s'' k l = record {
  same_length = l.same_length ∙ k.same_length;
  pairs = λ h t is. l.pairs h t (k.pairs h t is);
  edges = λ g h is. l.edges g h (k.edges g h is);
  paid = omega (arith, k.paid, l.paid);
}

pub keeps_grows : (s s' s'' : State) (to : ℕ) (Source : ℕ → Type 0) → Keeps s s' → Grows s' s'' to Source → s''.edges.rows.items ≡ s'.edges.rows.items → Keeps s s''
keeps_grows s s' s'' to Source k l same = record {
  same_length = l.same_length ∙ k.same_length;
  pairs = λ h t is. l.kept h t (k.pairs h t is);
  edges = λ g h is. ap (λ xs. pair_bit xs g h) same ∙ k.edges g h is;
  paid = omega (arith, k.paid, l.paid);
}

-- one more edge is there
pub all_on : (edges : List Edge) (i : ℕ) (e : Edge) (s s' : State) → take (i + 1) edges ≡ take i edges ++ e ∷ [] → ((x : Edge) → Contains (take i edges) x → Has s.edges x.from x.to) → Links s s' e.from e.to → (x : Edge) → Contains (take (i + 1) edges) x → Has s'.edges x.from x.to
all_on edges i e s s' more all l x is = ⊎_elim
    (λ old. l.edges_kept x.from x.to (all x old))
    (λ new. ap (λ (y : Edge). pair_bit s'.edges.rows.items y.from y.to) (sym new) ∙ l.edge)
    (Contains-push_cases (take i edges) e x (subst (λ xs. Contains xs x) more is))

-- one more pair is there
pub all_pairs_on : (pairs : List Pair) (i : ℕ) (e : Pair) (s s' : State) → take (i + 1) pairs ≡ take i pairs ++ e ∷ [] → ((x : Pair) → Contains (take i pairs) x → Has s.pairs x.holder x.target) → Grows s s' e.holder (λ t. t ≡ e.target) → Has s'.pairs e.holder e.target → (x : Pair) → Contains (take (i + 1) pairs) x → Has s'.pairs x.holder x.target
all_pairs_on pairs i e s s' more all l got x is = ⊎_elim
    (λ old. l.kept x.holder x.target (all x old))
    (λ new. ap (λ (y : Pair). pair_bit s'.pairs.rows.items y.holder y.target) (sym new) ∙ got)
    (Contains-push_cases (take i pairs) e x (subst (λ xs. Contains xs x) more is))

pub first_in : (r : Option ℕ) (cells : List Cell) → IfSome r (λ first. (0 ≤ first) × (row_bit cells first ≡ 1) × ((t : ℕ) → 0 ≤ t → t < first → row_bit cells t ≡ 0)) → IfSome r (In cells)
first_in (Some x) cells s = s.1
first_in None cells s = s

pub next_in : (r : Option ℕ) (cells : List Cell) (x : ℕ) → IfSome r (λ next. (x < next) × (row_bit cells next ≡ 1) × ((t : ℕ) → x < t → t < next → row_bit cells t ≡ 0)) → IfSome r (In cells)
next_in (Some y) cells x s = s.1
next_in None cells x s = s

pub left_less : (r : Option ℕ) (cells : List Cell) (x : ℕ) → x < 4294967296 → IfSome r (λ next. (x < next) × (row_bit cells next ≡ 1) × ((t : ℕ) → x < t → t < next → row_bit cells t ≡ 0)) → left_of r < left_of (Some x)
left_less (Some y) cells x h s = let lt = s.0 in omega arith
left_less None cells x h s = omega arith

-- some targets were given to one more holder
pub spreads_on : (s s' s'' : State) (holder : ℕ) (delta cells : List Cell) (to : ℕ) (next next' : Option ℕ) → SpreadsTo s s' holder delta next → next ≡ Some to → Has s.edges holder to → Grows s' s'' to (In delta) → ((t : ℕ) → In delta t → Has s''.pairs to t) → s''.edges.rows.items ≡ s'.edges.rows.items →
    ((h : ℕ) → Has s.edges holder h → to < h → IsDue next' h) → SpreadsTo s s'' holder delta next'
spreads_on s s' s'' holder delta cells to next next' p is edge l got same due = record {
  same_edges = same ∙ p.same_edges;
  only = λ h t has. ⊎_elim (p.only h t) (λ n. inr (ap (pair_bit s.edges.rows.items holder) n.0 ∙ edge, n.1)) (l.only h t has);
  news = λ h t has. ⊎_elim
      (λ old. ⊎_elim inl (λ f. inr (l.fresh_kept h t f)) (p.news h t old))
      inr
      (l.news h t has);
  fresh_kept = λ h t f. l.fresh_kept h t (p.fresh_kept h t f);
  got = λ h t e d. ⊎_elim
      (λ is_due. elim (cases_eq h to) [
        | inl eq ↦ inr (ap (λ x. pair_bit s''.pairs.rows.items x t) eq ∙ got t d)
        | inr ne ↦ inl (due h e (let le : IsDue (Some to) h = subst (λ n. IsDue n h) is is_due in omega arith))
      ])
      (λ has. inr (l.kept h t has))
      (p.got h t e d);
}

module _ (given : List Pair) (joins : List Edge) (Adds Gives : ℕ → ℕ → ℕ → ℕ → Type 0) where
  pub solves_spreads : (s s' : State) (holder : ℕ) (delta : List Cell) → Solves given joins Adds Gives s OwesNone (LagsAll holder delta) → ((t : ℕ) → In delta t → Has s.pairs holder t) → Keeps s s' → Spreads s s' holder delta → Solves given joins Adds Gives s' OwesNone LagsNone
  solves_spreads s s' holder delta v there k p = record {
    sound = λ h t is. ⊎_elim (v.sound h t) (λ n. along given joins Adds Gives holder h t (v.sound_edge holder h n.0) (v.sound holder t (there t n.1))) (p.only h t is);
    sound_edge = λ g h is. v.sound_edge g h (back g h is);
    handled = λ x y is. ⊎_elim
        (λ old. ⊎_elim
        (λ f. inl (p.fresh_kept x y f))
        (λ r. inr (⊎_elim inl (λ all. inr (λ g h a. k.edges g h (all.0 g h a), λ h t a. k.pairs h t (all.1 h t a))) r))
        (v.handled x y old))
        inl
        (p.news x y is);
    flowed = λ g h t edge is. ⊎_elim
        (λ old. ⊎_elim
        (λ f. inl (p.fresh_kept g t f))
        (λ r. inr (inr (⊎_elim
        (λ lag. p.got h t (ap (λ x. pair_bit s.edges.rows.items x h) (sym lag.0) ∙ back g h edge) lag.1)
        (k.pairs h t)
        r)))
        (v.flowed g h t (back g h edge) old))
        inl
        (p.news g t is);
  }
    where
      back : (g h : ℕ) → Has s'.edges g h → Has s.edges g h
      back g h is = ap (λ xs. pair_bit xs g h) (sym p.same_edges) ∙ is

  pub more_by_spread : (limits : Limits) (s s' : State) (holder : ℕ) (delta : List Cell) → Solves given joins Adds Gives s OwesNone (LagsAll holder delta) → ((t : ℕ) → In delta t → Has s.pairs holder t) → SpreadsMany limits s s' holder delta → HasMore limits (Least given joins Adds Gives)
  more_by_spread limits s s' holder delta v there x = has_more limits s'.pairs.rows.items _ x.many (λ h t is. ⊎_elim (v.sound h t) (λ n. along given joins Adds Gives holder h t (v.sound_edge holder h n.0) (v.sound holder t (there t n.1))) (x.only h t is))
