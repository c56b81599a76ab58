-- What is entered and not left along an orderly list is entered once.
use Rattle.std.proofs.Common.{◌≡◌, ℕ, List, [], ◌∷◌, ◌++◌, ⊎_elim, Option, Bool, true, false, refl, sym, ap, ◌∙◌, subst}
use Rattle.std.specs.Prelude.{cond, nat_eq}
use Rattle.cc_meaning.specs.declared.event.Event.{Event}
use Rattle.cc_meaning.specs.declared.event.Event.TheVariants.{Enter, Pass, Def, Use, Leave, Gone, Ask}
use Rattle.cc_record_laws.specs.Roles.{Roles}
use Rattle.cc_record_laws.specs.Past.{enters}
use Rattle.cc_record_laws.specs.Kept.{Kept, start, without, stack_on}
use Rattle.cc_record_laws.specs.Orderly.{some_of, Lives, IsOrderlyAfter, IsOrderly}
use Rattle.cc_record_laws.specs.Dropping.{live_after}
use Rattle.cc_record_laws.specs.Watching.{live_all, is_among, Distinct}
use Rattle.cc_record_laws.proofs.Drops.{none_on, none_more}
use Rattle.cc_record_laws.proofs.Exact.{eqb_is}

-- the front of an orderly list is orderly
front_after : (past told : List Event) (e : Event) → IsOrderlyAfter past (told ++ e ∷ []) → IsOrderlyAfter past told
front_after past [] e h = tt
front_after past (x ∷ told) e h = (h.0, front_after (past ++ x ∷ []) told e h.1)

pub front_orderly : (told : List Event) (e : Event) → IsOrderly (told ++ e ∷ []) → IsOrderly told
front_orderly told e h = front_after [] told e h

-- each of these activations was entered
abbrev Entered : List Event → List ℕ → Type 0
Entered past ids = (a : ℕ) → some_of (enters a) past ≡ false → is_among a ids ≡ false

without_among : (a act : ℕ) (ids : List ℕ) → is_among a ids ≡ false → is_among a (without act ids) ≡ false
without_among a act [] h = refl
without_among a act (b ∷ ids) h = by (nat_eq a b) refl h (λ g. without_among a act ids g)
  where
    keeps : (c d : Bool) → c ≡ false → is_among a (without act ids) ≡ false → is_among a (cond d (without act ids) (b ∷ without act ids)) ≡ false
    keeps c true e g = g
    keeps c false e g = skip (nat_eq a b) refl h g
      where
        skip : (n : Bool) → nat_eq a b ≡ n → cond n true (is_among a ids) ≡ false → is_among a (without act ids) ≡ false → cond n true (is_among a (without act ids)) ≡ false
        skip true m z g = absurd (let y = z in cc)
        skip false m z g = g

    by : (n : Bool) → nat_eq a b ≡ n → cond n true (is_among a ids) ≡ false → (is_among a ids ≡ false → is_among a (without act ids) ≡ false) → is_among a (cond (nat_eq act b) (without act ids) (b ∷ without act ids)) ≡ false
    by true m z g = absurd (let y = z in cc)
    by false m z g = keeps false (nat_eq act b) refl (g z)

without_distinct : (act : ℕ) (ids : List ℕ) → Distinct ids → Distinct (without act ids)
without_distinct act [] d = tt
without_distinct act (b ∷ ids) d = by (without_distinct act ids d.1) (nat_eq act b)
  where
    by : Distinct (without act ids) → (n : Bool) → Distinct (cond n (without act ids) (b ∷ without act ids))
    by g true = g
    by g false = (without_among b act ids d.0, g)

entered_more : (past : List Event) (e : Event) (ids : List ℕ) → Entered past ids → Entered (past ++ e ∷ []) ids
entered_more past e ids w a h = w a (none_on (enters a) past e h).0

entered_on : (past : List Event) (e : Event) (ids : List ℕ) → Entered past ids → Entered (past ++ e ∷ []) (stack_on ids e)
entered_on past (Enter s g b) ids w a h = by (nat_eq a b) refl
  where
    p : (some_of (enters a) past ≡ false) × (enters a (Enter s g b) ≡ false)
    p = none_on (enters a) past (Enter s g b) h

    by : (n : Bool) → nat_eq a b ≡ n → cond n true (is_among a ids) ≡ false
    by true m = absurd (let same : a ≡ b = eqb_is a b m in let z : nat_eq b a ≡ true = ap (λ x. nat_eq x a) (sym same) ∙ (ap (nat_eq a) same ∙ m) in let y : true ≡ false = sym z ∙ p.1 in cc)
    by false m = w a p.0
entered_on past (Leave r b) ids w a h = without_among a b ids (w a (none_on (enters a) past (Leave r b) h).0)
entered_on past (Pass s n x b) ids w a h = entered_more past (Pass s n x b) ids w a h
entered_on past (Def o x b) ids w a h = entered_more past (Def o x b) ids w a h
entered_on past (Use o x b) ids w a h = entered_more past (Use o x b) ids w a h
entered_on past (Gone n) ids w a h = entered_more past (Gone n) ids w a h
entered_on past (Ask t' g' a') ids w a h = entered_more past (Ask t' g' a') ids w a h

distinct_on : (past : List Event) (e : Event) (ids : List ℕ) → Lives past e → Entered past ids → Distinct ids → Distinct (stack_on ids e)
distinct_on past (Enter s g b) ids h w d = (w b h.1, d)
distinct_on past (Leave r b) ids h w d = without_distinct b ids d
distinct_on past (Pass s n x b) ids h w d = d
distinct_on past (Def o x b) ids h w d = d
distinct_on past (Use o x b) ids h w d = d
distinct_on past (Gone n) ids h w d = d
distinct_on past (Ask t' g' a') ids h w d = d

once_after : (R : Roles) (past told : List Event) (k : Kept) → IsOrderlyAfter past told → Entered past k.stack → Distinct k.stack → Distinct (live_all R k told).stack
once_after R past [] k h w d = d
once_after R past (e ∷ told) k h w d =
    once_after R (past ++ e ∷ []) told (live_after R k e) h.1 (entered_on past e k.stack w) (distinct_on past e k.stack h.0 w d)

pub stack_once : (R : Roles) (told : List Event) → IsOrderly told → Distinct (live_all R start told).stack
stack_once R told h = once_after R [] told start h (λ a e. refl) tt
