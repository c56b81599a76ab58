-- What the innermost binding of a name tells: its declaration, and whether it is of the innermost block.
use Rattle.std.proofs.Common.{◌≡◌, refl, ap, sym, ◌∙◌, ℕ, Bool, true, false, ◌≤◌, ◌+◌, ◌||◌, nat_eq, List, [], ◌∷◌, if◌then◌else◌, arith}
use Rattle.std.specs.Prelude.{Option, None, Some}
use Rattle.std.specs.Borrow.{Bor}
use Rattle.std.specs.Str.{bytes_eq}
use Rattle.cc_scopes.specs.declared.innermost.Binding.{Binding}
use Rattle.cc_scopes.specs.declared.scopes.Step.{Step}
use Rattle.cc_scopes.specs.Innermost.{binding_in}
use Rattle.cc_scopes.specs.Names.{Names, declaration_of, is_here}
use Rattle.cc_scopes.specs.Trail.{names_of, binding_of, depth_of}
use Rattle.cc_scopes.specs.Invariant.{Agree}

abbrev pub declaration_in : Option Binding → Option ℕ
declaration_in None = None
declaration_in (Some b) = Some b.declaration

either_declaration : (same : Bool) (d k : ℕ) (o : Option ℕ) (b : Option Binding) → o ≡ declaration_in b → (if same then Some d else o) ≡ declaration_in (if same then Some (record { declaration = d; depth = k }) else b)
either_declaration true d k o b is = refl
either_declaration false d k o b is = is

declaration_is_bound : (names : Names) (x : List ℕ) → declaration_of names x ≡ declaration_in (binding_of names x)
declaration_is_bound [] x = refl
declaration_is_bound (None ∷ outside) x = declaration_is_bound outside x
declaration_is_bound (Some d ∷ before) x = either_declaration (bytes_eq x d.0) d.1 (depth_of before) (declaration_of before x) (binding_of before x) (declaration_is_bound before x)

-- no declaration has more blocks round it than the innermost block has
abbrev IsWithin : ℕ → Option Binding → Type 0
IsWithin k None = Unit {0}
IsWithin k (Some b) = b.depth ≤ k

one_block_more : (k : ℕ) (b : Option Binding) → IsWithin k b → IsWithin (k + 1) b
one_block_more k None within = tt
one_block_more k (Some b) within = omega (arith, within)

either_within : (same : Bool) (d k : ℕ) (b : Option Binding) → IsWithin k b → IsWithin k (if same then Some (record { declaration = d; depth = k }) else b)
either_within true d k b within = omega arith
either_within false d k b within = within

binding_is_within : (names : Names) (x : List ℕ) → IsWithin (depth_of names) (binding_of names x)
binding_is_within [] x = tt
binding_is_within (None ∷ outside) x = one_block_more (depth_of outside) (binding_of outside x) (binding_is_within outside x)
binding_is_within (Some d ∷ before) x = either_within (bytes_eq x d.0) d.1 (depth_of before) (binding_of before x) (binding_is_within before x)

abbrev pub is_at : ℕ → Option Binding → Bool
is_at k None = false
is_at k (Some b) = nat_eq b.depth k

not_further_in : (k : ℕ) (b : Option Binding) → IsWithin k b → false ≡ is_at (k + 1) b
not_further_in k None within = refl
not_further_in k (Some b) within = grind arith

either_here : (same here : Bool) (d k : ℕ) (b : Option Binding) → here ≡ is_at k b → (same || here) ≡ is_at k (if same then Some (record { declaration = d; depth = k }) else b)
either_here true here d k b is = grind arith
either_here false here d k b is = is

here_is_at_depth : (names : Names) (x : List ℕ) → is_here names x ≡ is_at (depth_of names) (binding_of names x)
here_is_at_depth [] x = refl
here_is_at_depth (None ∷ outside) x = not_further_in (depth_of outside) (binding_of outside x) (binding_is_within outside x)
here_is_at_depth (Some d ∷ before) x = either_here (bytes_eq x d.0) (is_here before x) d.1 (depth_of before) (binding_of before x) (here_is_at_depth before x)

module _ {innermost : List (Bor (List ℕ) × Option Binding)} {trail : List Step} {depth : ℕ} (agree : Agree innermost trail depth) {names : Names} (seen : names_of trail ≡ names) (x : List ℕ) {b : Option Binding} (bound : b ≡ binding_in innermost x) where
  pub declaration_is_found : declaration_in b ≡ declaration_of names x
  declaration_is_found =
      ap declaration_in (bound ∙ agree.innermost_is x)
      ∙ sym (declaration_is_bound (names_of trail) x)
      ∙ ap (λ names. declaration_of names x) seen

  pub is_at_is_here : is_at depth b ≡ is_here names x
  is_at_is_here =
      ap (is_at depth) bound
      ∙ ap (λ k. is_at k (binding_in innermost x)) agree.depth_is
      ∙ ap (is_at (depth_of (names_of trail))) (agree.innermost_is x)
      ∙ sym (here_is_at_depth (names_of trail) x)
      ∙ ap (λ names. is_here names x) seen
