-- Macros and their lists (C17 6.10.3).
use Rattle.std.specs.Prelude.{ℕ, Bool, false, List, [], ◌∷◌, slice_index_or, Option, None, String, string_bytes, if◌then◌else◌}
use Rattle.std.specs.Str.{bytes_eq}
use Rattle.std.specs.declared.alloc.Global.{Global}
use Rattle.cc_lex.specs.declared.token.TokenKind.{TokenKind}

-- The list of the macro of this name. A name whose macro was taken away has none.
abbrev pub macro_in : List (String Global × Option (List TokenKind)) → List ℕ → Option (List TokenKind)
macro_in [] name = None
macro_in (e ∷ es) name = if bytes_eq name (string_bytes e.0) then e.1 else macro_in es name

-- The macro of this number is hidden: it is being replaced (6.10.3.4).
abbrev pub is_hidden : List Bool → ℕ → Bool
is_hidden marks number = slice_index_or marks number false
