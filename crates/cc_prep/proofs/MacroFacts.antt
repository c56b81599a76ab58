-- What the map of macros says after an insertion.
use Rattle.std.proofs.Common.{◌≡◌, refl, sym, ◌∙◌, ap, ℕ, Bool, true, false, List, [], ◌∷◌, if◌then◌else◌}
use Rattle.std.specs.Prelude.{Option, None, Some, cond, String, string_bytes}
use Rattle.std.specs.declared.alloc.Global.{Global}
use Rattle.std.specs.Str.{bytes_eq}
use Rattle.std.proofs.lemmas.Slice.Eq.{bytes_eq-Decides}
use Rattle.std.specs.Map.{lookup}
use Rattle.indexmap.specs.IndexMap.{insert_entry}
use Rattle.cc_lex.specs.declared.token.TokenKind.{TokenKind}
use Rattle.cc_prep.specs.Macros.{macro_in}

abbrev Entry : Type 0
Entry = String Global × Option (List TokenKind)

abbrev pub same_name : String Global → String Global → Bool
same_name x y = bytes_eq (string_bytes x) (string_bytes y)

module _ {A : Type 0} where
  asked_again : (b : Bool) (v w o : A) → (if b then v else o) ≡ (if b then v else (if b then w else o))
  asked_again true v w o = refl
  asked_again false v w o = refl

  asked_in_turn : (b c : Bool) (v w o : A) → (b ≡ true → c ≡ true → ⊥) → (if c then w else (if b then v else o)) ≡ (if b then v else (if c then w else o))
  asked_in_turn true true v w o apart = absurd (apart refl refl)
  asked_in_turn true false v w o apart = refl
  asked_in_turn false true v w o apart = refl
  asked_in_turn false false v w o apart = refl

not_both : (b : Bool) → b ≡ true → b ≡ false → ⊥
not_both b is isnt = cc

first_entry : (e : Entry) (es more : List Entry) (x : String Global) (v : Option (List TokenKind)) (y : List ℕ) (same : Bool)
    → same_name x e.0 ≡ same → macro_in more y ≡ (if bytes_eq y (string_bytes x) then v else macro_in es y)
    → macro_in (if same then (e.0, v) ∷ es else e ∷ more) y ≡ (if bytes_eq y (string_bytes x) then v else macro_in (e ∷ es) y)
first_entry e es more x v y true is others =
    let equal : string_bytes x ≡ string_bytes e.0 = (bytes_eq-Decides (string_bytes x) (string_bytes e.0)).0 is in
    rw equal (asked_again (bytes_eq y (string_bytes e.0)) v e.1 (macro_in es y))
first_entry e es more x v y false is others =
    let apart : bytes_eq y (string_bytes x) ≡ true → bytes_eq y (string_bytes e.0) ≡ true → ⊥ =
    λ a b. not_both (same_name x e.0) ((bytes_eq-Decides (string_bytes x) (string_bytes e.0)).1 (sym ((bytes_eq-Decides y (string_bytes x)).0 a) ∙ (bytes_eq-Decides y (string_bytes e.0)).0 b)) is in
    rw others (asked_in_turn (bytes_eq y (string_bytes x)) (bytes_eq y (string_bytes e.0)) v e.1 (macro_in es y) apart)

pub macro_in-insert : (es : List Entry) (x : String Global) (v : Option (List TokenKind)) (y : List ℕ) → macro_in (insert_entry same_name es x v) y ≡ (if bytes_eq y (string_bytes x) then v else macro_in es y)
macro_in-insert [] x v y = refl
macro_in-insert (e ∷ es) x v y = first_entry e es (insert_entry same_name es x v) x v y (same_name x e.0) refl (macro_in-insert es x v y)

abbrev pub joined : Option (Option (List TokenKind)) → Option (List TokenKind)
joined None = None
joined (Some b) = b

either_joined : (same : Bool) (v : Option (List TokenKind)) (o : Option (Option (List TokenKind))) (b : Option (List TokenKind)) → joined o ≡ b → joined (cond same (Some v) o) ≡ (if same then v else b)
either_joined true v o b is = refl
either_joined false v o b is = is

pub joined-lookup : (es : List Entry) (x : List ℕ) → joined (lookup (λ k. bytes_eq x (string_bytes k)) es) ≡ macro_in es x
joined-lookup [] x = refl
joined-lookup (e ∷ es) x = either_joined (bytes_eq x (string_bytes e.0)) e.1 (lookup (λ k. bytes_eq x (string_bytes k)) es) (macro_in es x) (joined-lookup es x)
