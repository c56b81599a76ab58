-- The table of calls is exact.
use Rattle.std.proofs.Common.{ℕ, ◌≡◌, ◌+◌, ◌<◌, inl, inr, ⊎_elim, Bool, true, false, List, [], ◌∷◌, Option, Some, None, length, refl, sym, ap, ◌∙◌, subst, arith}
use Rattle.std.specs.Prelude.{Contains, ◌↔◌}
use Rattle.std.specs.List.{AllByRecursion}
use Rattle.std.specs.List.Sorted.{IsStrictlySortedBy}
use Rattle.std.specs.declared.cmp.Ordering.TheVariants.{Less}
use Rattle.std.specs.Ordering.{nat_cmp}
use Rattle.std.proofs.lemmas.Bool.{cases_eq, or_cases, or_left, or_right, false≢true}
use Rattle.std.proofs.lemmas.Bool.Decides.{nat_tests}
use Rattle.cc_arena.specs.declared.arena.Arena.{Arena}
use Rattle.cc_facts.specs.declared.facts.Facts.{Facts}
use Rattle.cc_facts.specs.Told.{may_call}
use Rattle.cc_graph.specs.declared.graph.Graph.{Graph}
use Rattle.cc_graph.specs.declared.position.Position.TheVariants.{At}
use Rattle.cc_graph.specs.Linking.{row_of}
use Rattle.cc_graph.specs.Order.{IsBelow, IsAscending}
use Rattle.cc_graph.specs.Points.{number}
use Rattle.cc_program.specs.declared.function.FuncId.{FuncId}
use Rattle.cc_program.specs.declared.program.Program.{Program}
use Rattle.cc_rows.specs.Gains.{Gains, Each}
use Rattle.cc_rows.proofs.Gained.{gains_none, gains_push, gains_all}
use Rattle.cc_across.specs.declared.calls.Calls.{Calls}
use Rattle.cc_across.specs.declared.owners.Owners.{Owners}
use Rattle.cc_across.specs.Pairs.{Pair, AreRows}
use Rattle.cc_across.specs.Sites.{IsEvaluated, StandsIn, AreOwners, functions_of}
use Rattle.cc_across.specs.Calling.{IsCall, LiveBy, IsLiveSite, AreCalls}
use Rattle.cc_across.specs.Calling as calling
use Rattle.cc_across.specs.Reaching.{live_at, IsLiveIn, Begins, Called, AreLive, any_live, stands_live, kept_if, live_calls, if_there, is_live_site, pushed_if, IsSiteBelow}
use Rattle.cc_across.proofs.Lists.{none, cons_cases, here, later, each_nil, each_cons}
use Rattle.cc_across.proofs.Owning.{defined_below, to_stands, from_stands, stands_within}

any_to : (live : List Bool) (fs : List ℕ) → any_live live fs ≡ true → (f : ℕ) × Contains fs f × (live_at live f ≡ true)
any_to live [] e = absurd (false≢true e)
any_to live (f ∷ fs) e = ⊎_elim
    (λ now. (f, here f fs, now))
    (λ more. let w = any_to live fs more in (w.0, later f fs w.0 w.1, w.2))
    (or_cases (live_at live f) (any_live live fs) e)

any_from : (live : List Bool) (fs : List ℕ) (f : ℕ) → Contains fs f → live_at live f ≡ true → any_live live fs ≡ true
any_from live [] f is e = absurd (none f is)
any_from live (g ∷ fs) f is e = ⊎_elim
    (λ same. or_left (live_at live g) (any_live live fs) (ap (live_at live) same ∙ e))
    (λ more. or_right (live_at live g) (any_live live fs) (any_from live fs f more e))
    (cons_cases g fs f is)

less_lt : (a b : ℕ) → nat_cmp a b ≡ Less → a < b
less_lt a b e = grind (arith, nat_tests)

all_above : (x : ℕ) (xs : List ℕ) → AllByRecursion (λ y. nat_cmp x y ≡ Less) xs → IsBelow x xs
all_above x [] all = tt
all_above x (y ∷ ys) all = (less_lt x y all.0, all_above x ys all.1)

pub sorted_ascends : (xs : List ℕ) → IsStrictlySortedBy nat_cmp xs → IsAscending xs
unfolding IsStrictlySortedBy
sorted_ascends [] up = tt
sorted_ascends (x ∷ xs) up = (all_above x xs up.0, sorted_ascends xs up.1)

there_to : (o : Option ℕ) (b : Bool) → if_there o b ≡ true → ((k : ℕ) × (o ≡ Some k)) × (b ≡ true)
there_to (Some k) b e = ((k, refl), e)
there_to None b e = absurd (false≢true e)

there_from : (o : Option ℕ) (b : Bool) (k : ℕ) → o ≡ Some k → b ≡ true → if_there o b ≡ true
there_from o b k is e = ap (λ p. if_there p b) is ∙ e

-- the sites below a number
module _ (A : Arena) (G : Graph) (it : Owners) (live : List Bool) where
  pub sites_none : (s : ℕ) → Contains {X = ℕ} [] s ↔ IsSiteBelow A G it live 0 s
  sites_none s = (λ is. absurd (none s is), λ w. absurd (let lt = w.0 in omega arith))

  abbrev SiteStep : ℕ → ℕ → Type 0
  SiteStep n s = (is_live_site A G it live n ≡ true) × (n ≡ s)

  site_gains : (n : ℕ) (b : Bool) (sites : List ℕ) → is_live_site A G it live n ≡ b → Gains sites (pushed_if b n sites) (SiteStep n)
  site_gains n true sites e = gains_push sites n (SiteStep n) (e, refl) (λ s w. w.1)
  site_gains n false sites e = gains_none sites (SiteStep n) (λ s w. false≢true (sym e ∙ w.0))

  pub sites_on : (n : ℕ) (a : List ℕ) (b : Bool) → b ≡ is_live_site A G it live n → ((s : ℕ) → Contains a s ↔ IsSiteBelow A G it live n s) → (s : ℕ) → Contains (pushed_if b n a) s ↔ IsSiteBelow A G it live (n + 1) s
  sites_on n a b told before s = (
    λ is. ⊎_elim
        (λ old. let w = (before s).0 old in (omega (arith, w.0), w.1))
        (λ w. let same = w.1 in (omega (arith, same), subst (λ m. is_live_site A G it live m ≡ true) same w.0))
        ((site_gains n b a (sym told) s).0 is),
    λ w. elim (cases_eq s n) [
      | inl same ↦ (site_gains n b a (sym told) s).1 (inr (subst (λ m. is_live_site A G it live m ≡ true) same w.1, sym same))
      | inr differ ↦ (site_gains n b a (sym told) s).1 (inl ((before s).1 (omega (arith, w.0), w.1)))
    ],
  )

  -- the calls that stand in live functions
  abbrev KeptStep : Pair → Pair → Type 0
  KeptStep c x = (stands_live A it live c.0 ≡ true) × (c ≡ x)

  kept_gains : (c : Pair) (b : Bool) (ps : List Pair) → stands_live A it live c.0 ≡ b → Gains ps (kept_if b c ps) (KeptStep c)
  kept_gains c true ps e = gains_push ps c (KeptStep c) (e, refl) (λ x w. w.1)
  kept_gains c false ps e = gains_none ps (KeptStep c) (λ x w. false≢true (sym e ∙ w.0))

  live_gains : (calls ps : List Pair) → Gains ps (live_calls A it live calls ps) (Each calls KeptStep)
  live_gains [] ps = each_nil KeptStep ps
  live_gains (c ∷ calls) ps =
      let new = kept_if (stands_live A it live c.0) c ps in
      each_cons KeptStep c calls ps new (live_calls A it live calls new) (kept_gains c (stands_live A it live c.0) ps refl) (live_gains calls new)

  pub kept_exact : (calls kept : List Pair) → kept ≡ live_calls A it live calls [] → (x : Pair) → Contains kept x ↔ (Contains calls x × (stands_live A it live x.0 ≡ true))
  kept_exact calls kept are x = (
    λ is. (let w = (all x).0 (subst (λ (xs : List Pair). Contains xs x) are is) in (subst (λ (y : Pair). Contains calls y) w.2.1 w.1, subst (λ (y : Pair). stands_live A it live y.0 ≡ true) w.2.1 w.2.0)),
    λ w. subst (λ (xs : List Pair). Contains xs x) (sym are) ((all x).1 (x, w.0, (w.1, refl))),
  )
    where
      all : (y : Pair) → Contains (live_calls A it live calls []) y ↔ Each calls KeptStep y
      all = gains_all [] (live_calls A it live calls []) (Each calls KeptStep) refl (live_gains calls [])

module _ (P : Program) (G : Graph) (F : Facts) (it : Owners) (own : AreOwners P.arena G it) (calls : List Pair) (live : List Bool)
    (nodes : ℕ) (count : nodes ≡ length P.arena.nodes) (are_calls : (x : Pair) → Contains calls x ↔ IsCall G F nodes x)
    (n : ℕ) (functions : n ≡ length G.definitions) (lives : AreLive P.arena it n P.entries calls live) where
  to_by : (f : ℕ) → IsLiveIn P.arena it n P.entries calls f → LiveBy P G F f
  to_by f (Begins lt is) = calling.Begins is
  to_by g (Called {f = f} l lt (s, has, is)) = let w = (are_calls (s, g)).0 is in calling.Called (to_by f l) (to_stands P.arena G it own s f w.1 has) w.2

  is_call : (s f g : ℕ) → StandsIn P.arena G s f → may_call F s g ≡ true → Contains calls (s, g)
  is_call s f g h may = (are_calls (s, g)).1 (subst (λ m. s < m) (sym count) (stands_within P.arena G it own s f h), h.evaluated, may)

  below : (s f : ℕ) → StandsIn P.arena G s f → f < n
  below s f h = subst (λ m. f < m) (sym functions) (defined_below G f h.body h.defines)

  from_by : (f : ℕ) → f < n → LiveBy P G F f → IsLiveIn P.arena it n P.entries calls f
  from_by f lt (calling.Begins is) = Begins lt is
  from_by g lt (calling.Called {f = f} {s = s} l h may) = Called (from_by f (below s f h) l) lt (s, from_stands P.arena G it own s f h, is_call s f g h may)

  live_exact : (f : ℕ) → f < n → (live_at live f ≡ true) ↔ LiveBy P G F f
  live_exact f lt = (λ e. to_by f ((lives f).0 e), λ l. (lives f).1 (from_by f lt l))

  to_site : (s : ℕ) → IsEvaluated G s → stands_live P.arena it live s ≡ true → IsLiveSite P G F s
  to_site s evaluated e =
      let w = any_to live (functions_of P.arena it s) e in
      record { caller = w.0; live = to_by w.0 ((lives w.0).0 w.2); stands = to_stands P.arena G it own s w.0 evaluated w.1 }

  from_site : (s : ℕ) → IsLiveSite P G F s → stands_live P.arena it live s ≡ true
  from_site s h = any_from live (functions_of P.arena it s) h.caller (from_stands P.arena G it own s h.caller h.stands) ((live_exact h.caller (below s h.caller h.stands)).1 h.live)

  pub are_all : (C : Calls) (kept : List Pair) → C.live.items ≡ live → ((s : ℕ) → Contains C.sites.items s ↔ IsSiteBelow P.arena G it live nodes s) → IsAscending C.sites.items →
      kept ≡ live_calls P.arena it live calls [] → AreRows C.callees.items nodes kept → ((s : ℕ) → IsAscending (row_of C.callees.items s)) → AreCalls P G F C
  are_all C kept same sites sites_up are rows rows_up = record {
    live = λ f lt. let h = live_exact f (subst (λ m. f < m) (sym functions) lt) in (λ e. h.0 (sym (ap (λ (l : List Bool). live_at l f) same) ∙ e), λ l. ap (λ (m : List Bool). live_at m f) same ∙ h.1 l);
    sites = λ s. (
      λ is. (let w = there_to (number G.rows (At s)) (stands_live P.arena it live s) ((sites s).0 is).1 in to_site s w.0 w.1),
      λ h. (sites s).1 (subst (λ m. s < m) (sym count) (stands_within P.arena G it own s h.caller h.stands), there_from (number G.rows (At s)) (stands_live P.arena it live s) h.stands.evaluated.0 h.stands.evaluated.1 (from_site s h)),
    );
    sites_ascend = sites_up;
    callees = λ s g. (
      λ is. (let w = (kept_exact P.arena G it live calls kept are (s, g)).0 ((rows s g).0 is).1 in
          let c = (are_calls (s, g)).0 w.0 in
          (to_site s c.1 w.1, c.2)),
      λ w. (rows s g).1 (
        subst (λ m. s < m) (sym count) (stands_within P.arena G it own s w.0.caller w.0.stands),
        (kept_exact P.arena G it live calls kept are (s, g)).1 (is_call s w.0.caller g w.0.stands w.1, from_site s w.0),
      ),
    );
    callees_ascend = rows_up;
  }

-- the same, by what the calls of a program's loops say
module _ (P : Program) (G : Graph) (F : Facts) (A : Arena) (here_A : A ≡ P.arena) (entries : List FuncId) (here_entries : entries ≡ P.entries) (it : Owners) (own : AreOwners A G it)
    (all live_all kept_all : List Pair) (same_live_all : live_all ≡ all) (same_kept_all : kept_all ≡ all) (live kept_live site_live : List Bool) (same_kept_live : kept_live ≡ live) (same_site_live : site_live ≡ live)
    (nodes : ℕ) (count : nodes ≡ length A.nodes) (are_calls : (x : Pair) → Contains all x ↔ IsCall G F nodes x) (n : ℕ) (functions : n ≡ length G.definitions) (lives : AreLive A it n entries live_all live) where
  pub calls_ok : (C : Calls) (kept : List Pair) → C.live.items ≡ live → ((s : ℕ) → Contains C.sites.items s ↔ IsSiteBelow A G it site_live nodes s) → IsAscending C.sites.items →
      kept ≡ live_calls A it kept_live kept_all [] → AreRows C.callees.items nodes kept → ((s : ℕ) → IsAscending (row_of C.callees.items s)) → AreCalls P G F C
  calls_ok C kept same sites up are rows rows_up =
      are_all P G F it (subst (λ B. AreOwners B G it) here_A own) all live nodes (count ∙ ap (λ (B : Arena). length B.nodes) here_A) are_calls n functions
      (subst (λ B. AreLive B it n P.entries all live) here_A (subst (λ es. AreLive A it n es all live) here_entries (subst (λ cs. AreLive A it n entries cs live) same_live_all lives)))
      C kept same
      (subst (λ B. (s : ℕ) → Contains C.sites.items s ↔ IsSiteBelow B G it live nodes s) here_A (subst (λ l. (s : ℕ) → Contains C.sites.items s ↔ IsSiteBelow A G it l nodes s) same_site_live sites))
      up
      (are ∙ ap (λ l. live_calls A it l kept_all []) same_kept_live ∙ ap (λ cs. live_calls A it live cs []) same_kept_all ∙ ap (λ B. live_calls B it live all []) here_A)
      rows rows_up
