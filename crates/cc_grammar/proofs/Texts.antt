-- Texts as examples: words with one space between, each a token. A token's column is its number.
use Rattle.std.proofs.Common.{ℕ, suc, ◌+◌, ◌-◌, ◌==◌, List, [], ◌∷◌, length, Option, Some, None, Ok, Err, if◌then◌else◌}
use Rattle.cc_base.specs.declared.place.Spot.{Spot}
use Rattle.cc_lex.specs.declared.token.Token.{Token}
use Rattle.cc_lex.specs.Meanings.{meaning}
use Rattle.cc_tree.specs.Trees.{ExprTree, DeclTree, StmtTree, ExternalTree}
use Rattle.cc_grammar.specs.Outcomes.{Outcome}
use Rattle.cc_grammar.specs.Names.{Names}
use Rattle.cc_grammar.specs.Reading.{reading, readers, stmt, with_or_without}

abbrev grown : ℕ → List (List ℕ) → List (List ℕ)
grown b [] = (b ∷ []) ∷ []
grown b (w ∷ ws) = (b ∷ w) ∷ ws

abbrev words : List ℕ → List (List ℕ)
words [] = [] ∷ []
words (b ∷ bs) = if b == 32 then [] ∷ words bs else grown b (words bs)

abbrev pub at : ℕ → Spot
at column = record { line = 1; column = column }

abbrev tokens_from : ℕ → List (List ℕ) → List Token
tokens_from column [] = []
tokens_from column (w ∷ ws) = record { kind = meaning w; spot = at column } ∷ tokens_from (suc column) ws

abbrev pub tokens : List ℕ → List Token
tokens text = tokens_from 1 (words text)

-- what was read, if it is the whole text
abbrev whole : {A : Type 0} → Outcome A → Option A
whole (Ok (x, [])) = Some x
whole (Ok (x, t ∷ ts)) = None
whole (Err ts) = None

abbrev pub expr_of : Names → List ℕ → Option (ExprTree Spot)
expr_of names text = whole ((readers names 63).expr 1 (tokens text))

abbrev pub declarator_of : List ℕ → Option (DeclTree Spot)
declarator_of text = whole ((readers [] 64).declarator with_or_without (tokens text))

abbrev pub stmt_of : List ℕ → Option (StmtTree Spot)
stmt_of text = whole (stmt 64 [] (tokens text))

-- the number of the token at which reading stops, if the text is no file
abbrev stops : ℕ → Outcome (List (ExternalTree Spot)) → Option ℕ
stops count (Ok x) = None
stops count (Err ts) = Some (count - length ts + 1)

abbrev pub stop : List ℕ → Option ℕ
stop text = let ts = tokens text in stops (length ts) (reading 64 ts)
