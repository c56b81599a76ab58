-- Names that are marked.
use Rattle.std.proofs.Common.{◌≡◌, ℕ, zero, suc, ◌+◌, ◌-◌, ◌<◌, ◌≤◌, List, [], ◌∷◌, ◌++◌, length, ⊎_elim, Option, Some, None, Bool, true, false, refl, sym, ap, ◌∙◌, subst, arith, cond, take, get_or}
use Rattle.std.specs.Prelude.{slice_get, Contains, nat_eq}
use Rattle.std.proofs.lemmas.Bool.{cases_lt}
use Rattle.std.proofs.lemmas.List.{take_more}
use Rattle.std.proofs.lemmas.List.Elements.{Contains-push_cases}
use Rattle.std.proofs.lemmas.Option.{slice_get_within, get_or_from_slice_get}
use Rattle.cc_program.specs.declared.program.Program.{Program}
use Rattle.cc_arena.specs.Arenas.{node_of}
use Rattle.cc_roles.specs.Calls.{arguments, arguments_of}
use Rattle.cc_roles.specs.Names.{named, returned, returned_by}
use Rattle.cc_record_laws.specs.Watching.{Asks}
use Rattle.cc_record.specs.Asked.{is_asked, Grows, IsMarked, AreMarked, MarkedTo}
use Rattle.cc_record.specs.Roles.{roles_of, numbered}

pub grows_on : (a b c : List Bool) → Grows a b → Grows b c → Grows a c
grows_on a b c g h u i = h u (g u i)

pub marked_on : (a b : List Bool) (o : Option ℕ) → Grows a b → IsMarked a o → IsMarked b o
marked_on a b (Some u) g h = g u h
marked_on a b None g h = tt

pub are_on : (p : Program) (a b : List Bool) (xs : List ℕ) → Grows a b → AreMarked p a xs → AreMarked p b xs
are_on p a b xs g h arg i = marked_on a b (named p arg) g (h arg i)

pub are_more : (p : Program) (a b : List Bool) (xs : List ℕ) (i d : ℕ) → i < length xs → Grows a b → AreMarked p a (take i xs) → IsMarked b (named p (get_or xs i d)) → AreMarked p b (take (i + 1) xs)
are_more p a b xs i d lt g h m arg c =
    let c' : Contains (take i xs ++ get_or xs i d ∷ []) arg = subst (λ (l : List ℕ). Contains l arg) (take_more xs i d lt) c in
    ⊎_elim (λ old. marked_on a b (named p arg) g (h arg old)) (λ new. subst (λ (x : ℕ). IsMarked b (named p x)) new m) (Contains-push_cases (take i xs) (get_or xs i d) arg c')

pub marked_more : (p : Program) (a b c : List Bool) (n : ℕ) → MarkedTo p a n → Grows a b → AreMarked p b (arguments p.arena n) → Grows b c → IsMarked c (returned p n) → MarkedTo p c (n + 1)
marked_more p a b c n m g args h ret = record {
  arguments = λ k lt. ⊎_elim (λ l. are_on p a c (arguments p.arena k) (grows_on a b c g h) (m.arguments k l)) (λ l. let e : k ≡ n = omega arith in subst (λ (k : ℕ). AreMarked p c (arguments p.arena k)) (sym e) (are_on p b c (arguments p.arena n) h args)) (cases_lt k n);
  returned = λ k lt. ⊎_elim (λ l. marked_on a c (returned p k) (grows_on a b c g h) (m.returned k l)) (λ l. let e : k ≡ n = omega arith in subst (λ (k : ℕ). IsMarked c (returned p k)) (sym e) ret) (cases_lt k n);
}

none_past : {X : Type 0} (xs : List X) (n : ℕ) → length xs ≤ n → slice_get xs n ≡ None
none_past [] n h = refl
none_past (x ∷ xs) zero h = absurd (omega arith)
none_past (x ∷ xs) (suc n) h = none_past xs n (omega arith)

contains_at : (xs : List ℕ) (k x : ℕ) → slice_get xs k ≡ Some x → Contains xs x
contains_at xs k x e = (k, slice_get_within xs k x e, get_or_from_slice_get xs k x x e)

numbered_in : (xs : List ℕ) (k x : ℕ) → numbered xs k ≡ Some x → Contains xs x
numbered_in xs k x h = by (nat_eq k 0) h
  where
    by : (b : Bool) → cond b None (slice_get xs (k - 1)) ≡ Some x → Contains xs x
    by true e = absurd (let z = e in cc)
    by false e = contains_at xs (k - 1) x e

pub asks : (p : Program) (asked : List Bool) (n : ℕ) → n ≡ length p.arena.nodes → MarkedTo p asked n → Asks (roles_of p) (is_asked asked)
asks p asked n same m = record {
  argument = λ s k arg u is name. ⊎_elim
      (λ lt. let h : IsMarked asked (named p arg) = m.arguments s lt arg (numbered_in (arguments p.arena s) k arg is) in subst (IsMarked asked) name h)
      (λ le. absurd (let e : arguments p.arena s ≡ [] = ap (λ o. arguments_of p.arena (node_of o)) (none_past p.arena.nodes s (omega arith)) in no_item k arg (subst (λ (l : List ℕ). numbered l k ≡ Some arg) e is)))
      (cases_lt s n);
  returned = λ r u name. ⊎_elim
      (λ lt. subst (IsMarked asked) name (m.returned r lt))
      (λ le. absurd (let e : returned p r ≡ None = ap (λ o. returned_by p (node_of o)) (none_past p.arena.nodes r (omega arith)) in let z : None ≡ Some u = sym e ∙ name in cc))
      (cases_lt r n);
}
  where
    no_item : (k x : ℕ) → numbered [] k ≡ Some x → ⊥
    no_item k x h = by (nat_eq k 0) h
      where
        by : (b : Bool) → cond b None (slice_get [] (k - 1)) ≡ Some x → ⊥
        by true e = absurd (let z = e in cc)
        by false e = absurd (let z = e in cc)
