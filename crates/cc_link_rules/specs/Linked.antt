-- Names that mean the same in all files.
use Rattle.std.specs.Prelude.{ℕ, Option, None, Some, List, [], ◌∷◌, if◌then◌else◌, slice_get}
use Rattle.std.specs.Str.{bytes_eq}
use Rattle.cc_link_rules.specs.declared.linked.Linked.{Linked}

-- each with what is known of it
abbrev pub LinkedNames : Type 0
LinkedNames = List (List ℕ × Linked)

-- what is known of a name
abbrev pub known_of : LinkedNames → List ℕ → Option Linked
known_of [] x = None
known_of (d ∷ ds) x = if bytes_eq x d.0 then Some d.1 else known_of ds x

-- a known name takes what is known now, a new one goes last
abbrev pub put : LinkedNames → List ℕ → Linked → LinkedNames
put [] x l = (x, l) ∷ []
put (d ∷ ds) x l = if bytes_eq x d.0 then (d.0, l) ∷ ds else d ∷ put ds x l

abbrev pub text_or : Option (List ℕ) → List ℕ
text_or (Some x) = x
text_or None = []

abbrev pub text_at : List (List ℕ) → ℕ → List ℕ
text_at xs n = text_or (slice_get xs n)
