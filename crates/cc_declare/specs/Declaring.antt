-- How names are declared.
use Rattle.std.specs.Prelude.{ℕ, Bool, ◌&&◌, List, ◌∷◌, Option, Some, None, slice_get}
use Rattle.cc_scopes.specs.Names.{is_here}
use Rattle.cc_symbols.specs.Symbols as symbols
use Rattle.cc_symbols.specs.declared.declared.Declared.{Declared}
use Rattle.cc_symbols.specs.declared.declared.Form.TheVariants.{Object}
use Rattle.cc_symbols.specs.declared.declared.Life.TheVariants.{Formal}
use Rattle.cc_symbols.specs.declared.symbols.Symbols.{Symbols}
use Rattle.cc_tree_notes.specs.declared.note.Counted.{Counted}
use Rattle.cc_types.specs.declared.shape.TypeId.{TypeId}
use Rattle.cc_declare.specs.declared.checker.Checker.{Checker}
use Rattle.cc_declare.specs.Rules as rule
use Rattle.cc_declare.specs.State.{with_symbols, with_name, with_kind_at, with_declared, offended_if}

-- the name at a node declares declaration k, with this type there
abbrev pub bound : Checker → Counted → ℕ → Option TypeId → Checker
bound s n k t = with_kind_at (with_name s n.number k) n.number t

abbrev pub named_as : Checker → Counted → List ℕ → Option TypeId → ℕ → Checker × ℕ
named_as s n x t k = (record (bound s n k t) { scopes = Some (x, k) ∷ s.scopes }, k)

abbrev pub introduced_in : Checker → Counted → List ℕ → Declared → Symbols × ℕ → Checker × ℕ
introduced_in s n x d p = named_as (with_symbols s p.0) n x d.kind p.1

-- one declaration more of this name, and its number
abbrev pub introduced : Checker → Counted → List ℕ → Declared → Checker × ℕ
introduced s n x d = introduced_in s n x d (symbols.declared s.symbols x d)

-- a name that this very scope has is not to be declared again, if its declarator is judged
abbrev pub checked_once : Checker → Counted → List ℕ → Bool → Checker
checked_once s n x is_judged = offended_if s (is_judged && is_here s.scopes x) n rule.new_name

abbrev pub declared_once : Checker → Counted → List ℕ → Bool → Declared → Checker × ℕ
declared_once s n x is_judged d = introduced (checked_once s n x is_judged) n x d

-- one declarator more of declaration k
abbrev pub declared_again : Checker → Counted → ℕ → Declared → Option TypeId → Checker
declared_again s n k d t = bound (with_declared s k d) n k t

abbrev pub typed : Declared → TypeId → Declared
typed d t = record d { kind = Some t }

abbrev pub formal : Declared → Declared
formal d = record d { form = Object Formal }

abbrev pub typed_at : Checker → ℕ → TypeId → Option Declared → Checker
typed_at s k t (Some d) = with_declared s k (typed d t)
typed_at s k t None = s

abbrev pub with_kind : Checker → ℕ → TypeId → Checker
with_kind s k t = typed_at s k t (slice_get s.symbols.declared k)

-- the type of declaration k and of its name at a node becomes this
abbrev pub retyped : Checker → Counted → ℕ → TypeId → Checker
retyped s n k t = with_kind_at (with_kind s k t) n.number (Some t)

abbrev pub enlivened_at : Checker → ℕ → Option Declared → Checker
enlivened_at s k (Some d) = with_declared s k (formal d)
enlivened_at s k None = s

-- declaration k is that of a formal
abbrev pub enlivened : Checker → ℕ → Checker
enlivened s k = enlivened_at s k (slice_get s.symbols.declared k)

abbrev pub formal_at : Checker → List ℕ → Option (Option ℕ) → Checker
formal_at s x (Some (Some k)) = record (enlivened s k) { scopes = Some (x, k) ∷ s.scopes }
formal_at s x other = s

-- a parameter of a body, by the declaration that its name has
abbrev pub formal_declared : Checker → Counted → List ℕ → Checker
formal_declared s n x = formal_at s x (slice_get s.symbols.names n.number)
