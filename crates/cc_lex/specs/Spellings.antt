-- Which bytes are the spelling of a token (C17 6.4). A spelling may still have a fault: these tests say how far a token
-- goes, and the module `Meanings` says which spellings mean one.
use Rattle.std.specs.Prelude.{ℕ, Bool, true, false, not, ◌&&◌, ◌||◌, ◌==◌, if◌then◌else◌, List, [], ◌∷◌, length, map}
use Rattle.std.specs.List.{list_any}
use Rattle.cc_lex.specs.Bytes.{first, second, is_digit, is_letter, is_quote, in_name, in_number, chain}
use Rattle.cc_lex.specs.declared.keyword.Keyword.{Keyword}
use Rattle.cc_lex.specs.declared.punct.Punct.{Punct}
use Rattle.cc_lex.specs.Words.{keyword_table, punct_table, digraph_table}

-- the two lists have the same bytes
abbrev pub same : List ℕ → List ℕ → Bool
same [] [] = true
same [] (b ∷ z) = false
same (a ∷ y) [] = false
same (a ∷ y) (b ∷ z) = a == b && same y z

-- the spellings of the 44 keywords, the 46 punctuators and the 5 digraphs
unfoldable pub keywords : List (List ℕ × Keyword)
keywords = keyword_table

unfoldable pub puncts : List (List ℕ × Punct)
puncts = punct_table

unfoldable pub digraphs : List (List ℕ)
digraphs = digraph_table

-- the spellings of a table
abbrev pub spellings_of : {A : Type 0} → List (List ℕ × A) → List (List ℕ)
spellings_of table = map (λ row. row.0) table

-- a keyword or an identifier (6.4.1, 6.4.2.1)
abbrev pub is_name : List ℕ → Bool
is_name [] = false
is_name (b ∷ z) = is_letter b && chain in_name b z

-- a digit, or `.` and a digit
abbrev pub begins_number : List ℕ → Bool
begins_number text = is_digit (first text) || (first text == 46 && is_digit (second text))

-- a preprocessing number (6.4.8)
abbrev pub is_number : List ℕ → Bool
is_number [] = false
is_number (b ∷ z) = begins_number (b ∷ z) && chain in_number b z

-- These bytes go up to and with the first `quote` that no backslash escapes. None is a line feed.
abbrev pub is_closed : ℕ → Bool → List ℕ → Bool
is_closed quote escaped [] = false
is_closed quote true (b ∷ z) = not (b == 10) && is_closed quote false z
is_closed quote false (b ∷ z) = if b == quote then length z == 0 else (not (b == 10) && is_closed quote (b == 92) z)

-- a character constant or a string literal, from quote to quote (6.4.4.4, 6.4.5)
abbrev pub is_quoted : List ℕ → Bool
is_quoted [] = false
is_quoted (b ∷ z) = is_quote b && is_closed b false z

-- a punctuator (6.4.6)
abbrev pub is_punct : List ℕ → Bool
is_punct w = list_any (λ p. same p w) (spellings_of puncts)

-- one of `<: :> <% %> %:`
abbrev pub is_digraph : List ℕ → Bool
is_digraph w = list_any (λ d. same d w) digraphs

abbrev pub is_token : List ℕ → Bool
is_token w = (((is_name w || is_number w) || is_quoted w) || is_punct w) || is_digraph w
