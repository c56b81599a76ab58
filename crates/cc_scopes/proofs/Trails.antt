-- What a trail says when a step comes last or goes.
use Rattle.std.proofs.Common.{◌≡◌, refl, ap, sym, subst, ◌∙◌, ℕ, Bool, true, false, ◌≤◌, ◌+◌, ◌-◌, List, [], ◌∷◌, ◌++◌, if◌then◌else◌, arith}
use Rattle.std.specs.Prelude.{Option, None, Some, Result, Ok, Err, OnOk, OnErr}
use Rattle.std.specs.Borrow.{Bor}
use Rattle.std.specs.Option.{option_to_list}
use Rattle.std.specs.Str.{bytes_eq}
use Rattle.std.proofs.lemmas.Slice.Eq.{bytes_eq-Decides}
use Rattle.cc_scopes.specs.declared.innermost.Binding.{Binding}
use Rattle.cc_scopes.specs.declared.scopes.Step.{Step}
use Rattle.cc_scopes.specs.declared.scopes.Step.TheVariants.{Block, Name}
use Rattle.cc_scopes.specs.Innermost.{binding_in}
use Rattle.cc_scopes.specs.Names.{Names}
use Rattle.cc_scopes.specs.Trail.{names_after, names_of, binding_of, depth_of, KnowHidden}
use Rattle.cc_scopes.specs.Invariant.{Agree}

-- what one step adds
abbrev pub added_by : Step → Option (List ℕ × ℕ)
added_by Block = None
added_by (Name x d hidden) = Some (x.now, d)

names_after-append : (names : Names) (steps : List Step) (s : Step) → names_after names (steps ++ s ∷ []) ≡ added_by s ∷ names_after names steps
names_after-append names [] Block = refl
names_after-append names [] (Name x d hidden) = refl
names_after-append names (Block ∷ steps) s = names_after-append (None ∷ names) steps s
names_after-append names (Name x d hidden ∷ steps) s = names_after-append (Some (x.now, d) ∷ names) steps s

pub names_of-append : (steps : List Step) (s : Step) → names_of (steps ++ s ∷ []) ≡ added_by s ∷ names_of steps
names_of-append steps s = names_after-append [] steps s

-- one step knows what it hides, after these names
abbrev KnowsHidden : Names → Step → Type 0
KnowsHidden names Block = Unit {0}
KnowsHidden names (Name x d hidden) = hidden ≡ binding_of names x.now

one_more_knows : (names : Names) (steps : List Step) (s : Step) → KnowHidden names steps → KnowsHidden (names_after names steps) s → KnowHidden names (steps ++ s ∷ [])
one_more_knows names [] Block know knows = tt
one_more_knows names [] (Name x d hidden) know knows = (knows, tt)
one_more_knows names (Block ∷ steps) s know knows = one_more_knows (None ∷ names) steps s know knows
one_more_knows names (Name x d hidden ∷ steps) s know knows = (know.0, one_more_knows (Some (x.now, d) ∷ names) steps s know.1 knows)

all_but_the_last_know : (names : Names) (steps : List Step) (s : Step) → KnowHidden names (steps ++ s ∷ []) → KnowHidden names steps × KnowsHidden (names_after names steps) s
all_but_the_last_know names [] Block know = (tt, tt)
all_but_the_last_know names [] (Name x d hidden) know = (tt, know.0)
all_but_the_last_know names (Block ∷ steps) s know = all_but_the_last_know (None ∷ names) steps s know
all_but_the_last_know names (Name x d hidden ∷ steps) s know =
    let others = all_but_the_last_know (Some (x.now, d) ∷ names) steps s know.1 in
    ((know.0, others.0), others.1)

module _ (innermost : List (Bor (List ℕ) × Option Binding)) (trail : List Step) (depth : ℕ) (agree : Agree innermost trail depth) where
  pub a_block_begins : Agree innermost (trail ++ Block ∷ []) (depth + 1)
  a_block_begins = record {
    innermost_is = λ y. agree.innermost_is y ∙ ap (λ names. binding_of names y) (sym (names_of-append trail Block));
    hidden_are = one_more_knows [] trail Block agree.hidden_are tt;
    depth_is = ap (λ k. k + 1) agree.depth_is ∙ ap depth_of (sym (names_of-append trail Block));
  }

  pub a_name_is_bound : (after : List (Bor (List ℕ) × Option Binding)) (x : Bor (List ℕ)) (d : ℕ)
      → ((y : List ℕ) → binding_in after y ≡ (if bytes_eq y x.now then Some (record { declaration = d; depth = depth }) else binding_in innermost y))
      → Agree after (trail ++ Name x d (binding_in innermost x.now) ∷ []) depth
  a_name_is_bound after x d bound =
      let s = Name x d (binding_in innermost x.now) in
      record {
        innermost_is = λ y.
            bound y
            ∙ ap (λ k. if bytes_eq y x.now then Some (record { declaration = d; depth = k }) else binding_in innermost y) agree.depth_is
            ∙ ap (λ o. if bytes_eq y x.now then Some (record { declaration = d; depth = depth_of (names_of trail) }) else o) (agree.innermost_is y)
            ∙ ap (λ names. binding_of names y) (sym (names_of-append trail s));
        hidden_are = one_more_knows [] trail s agree.hidden_are (agree.innermost_is x.now);
        depth_is = agree.depth_is ∙ ap depth_of (sym (names_of-append trail s));
      }

hidden_is_bound : (names : Names) (x y : List ℕ) (hidden : Option Binding) (same : Bool) → bytes_eq y x ≡ same → hidden ≡ binding_of names x → (if same then hidden else binding_of names y) ≡ binding_of names y
hidden_is_bound names x y hidden true is known = known ∙ ap (binding_of names) (sym ((bytes_eq-Decides y x).0 is))
hidden_is_bound names x y hidden false is known = refl

asked_twice : {A : Type 0} (b : Bool) (v w o : A) → (if b then v else (if b then w else o)) ≡ (if b then v else o)
asked_twice true v w o = refl
asked_twice false v w o = refl

-- the last step is taken from the trail
pub last_step : (others : List Step) {trail : List Step} {o : Option Step} {s : Step} → trail ≡ others ++ option_to_list o → o ≡ Some s → trail ≡ others ++ s ∷ []
last_step others taken is = taken ∙ ap (λ o. others ++ option_to_list o) is

-- and what the names were before it
pub names_before : (others : List Step) (s : Step) {trail : List Step} {names : Names} → trail ≡ others ++ s ∷ [] → names_of trail ≡ names → added_by s ∷ names_of others ≡ names
names_before others s last seen = sym (names_of-append others s) ∙ ap names_of (sym last) ∙ seen

module _ {innermost : List (Bor (List ℕ) × Option Binding)} {trail : List Step} {depth : ℕ} (agree : Agree innermost trail depth) (others : List Step) where
  at_last : (s : Step) → trail ≡ others ++ s ∷ [] → Agree innermost (others ++ s ∷ []) depth
  at_last s last = subst (λ steps. Agree innermost steps depth) last agree

  pub a_name_goes : (x : Bor (List ℕ)) (d : ℕ) (hidden : Option Binding) → trail ≡ others ++ Name x d hidden ∷ []
      → {after : List (Bor (List ℕ) × Option Binding)}
      → ((y : List ℕ) → binding_in after y ≡ (if bytes_eq y x.now then hidden else binding_in innermost y))
      → Agree after others depth
  a_name_goes x d hidden last bound =
      let s = Name x d hidden in
      let all = at_last s last in
      let know = all_but_the_last_know [] others s all.hidden_are in
      record {
        innermost_is = λ y.
            bound y
            ∙ ap (λ o. if bytes_eq y x.now then hidden else o) (all.innermost_is y ∙ ap (λ names. binding_of names y) (names_of-append others s))
            ∙ asked_twice (bytes_eq y x.now) hidden (Some (record { declaration = d; depth = depth_of (names_of others) })) (binding_of (names_of others) y)
            ∙ hidden_is_bound (names_of others) x.now y hidden (bytes_eq y x.now) refl know.1;
        hidden_are = know.0;
        depth_is = all.depth_is ∙ ap depth_of (names_of-append others s);
      }

  pub the_last_name_is_bound : (x : Bor (List ℕ)) (d : ℕ) (hidden : Option Binding) → trail ≡ others ++ Name x d hidden ∷ [] → binding_in innermost x.now ≡ None → ⊥
  the_last_name_is_bound x d hidden last unbound =
      let same : bytes_eq x.now x.now ≡ true = (bytes_eq-Decides x.now x.now).1 refl in
      let none =
      sym unbound
      ∙ (at_last (Name x d hidden) last).innermost_is x.now
      ∙ ap (λ names. binding_of names x.now) (names_of-append others (Name x d hidden))
      ∙ ap (λ b. if b then Some (record { declaration = d; depth = depth_of (names_of others) }) else binding_of (names_of others) x.now) same in
      cc

  pub a_block_goes : trail ≡ others ++ Block ∷ [] → (1 ≤ depth) × Agree innermost others (depth - 1)
  a_block_goes last =
      let all = at_last Block last in
      let deeper : depth ≡ depth_of (names_of others) + 1 = all.depth_is ∙ ap depth_of (names_of-append others Block) in (
        omega (arith, deeper),
        record {
          innermost_is = λ y. all.innermost_is y ∙ ap (λ names. binding_of names y) (names_of-append others Block);
          hidden_are = (all_but_the_last_know [] others Block all.hidden_are).0;
          depth_is = omega (arith, deeper);
        },
      )

pub surely : {R E P A : Type 0} (r : Result R E) → OnOk r P → OnErr r A → (A → ⊥) → P
surely (Ok v) holds failed never = holds
surely (Err e) holds failed never = absurd (never failed)
