-- The text up to a directive line, which is cut as a text of its own.
use Rattle.std.specs.Prelude.{◌≡◌, ◌≢◌, ◌≤◌, ◌<◌, ◌+◌, ◌⊎◌, ℕ, Bool, false, List, length, take, drop, Option, Some, None}
use Rattle.cc_lex.specs.Cut.{Cut, IsRefused}
use Rattle.cc_lex.specs.declared.token.LexFault.{LexFault}
use Rattle.cc_lex.specs.declared.token.LexFault.TheVariants as fault
use Rattle.cc_prep.specs.Comments.{EndsInComment}
use Rattle.cc_prep.specs.Lines.{line_len, line_of, directive_of}
use Rattle.cc_prep.specs.declared.line.Head.{Head}
use Rattle.cc_prep.specs.declared.passage.Line.{Line}
use Rattle.cc_prep.specs.declared.passage.Passage.{Passage}

-- a line of the text begins at the offset
pub data BeginsLine (text : List ℕ) : ℕ → Type 0 where
  First : BeginsLine text 0
  Next : {at : ℕ} → BeginsLine text at → BeginsLine text (at + line_len (drop at text))

-- a line that begins at the offset has the form of a directive line
pub record HasForm (text : List ℕ) (in_group : Bool) (at : ℕ) : Type 0 where
  pub head : Head
  pub within : at < length text
  pub begins : BeginsLine text at
  pub form : directive_of in_group (line_of (drop at text)) ≡ Some head

-- the line is one of the text's, and its head lies within it
pub record IsLineOf (text : List ℕ) (line : Line) : Type 0 where
  pub len_is : line.len ≡ line_len (drop line.at text)
  pub some : 0 < line.len
  pub within : line.at + line.len ≤ length text
  pub hash_within : line.head.hash ≤ line.head.rest
  pub rest_within : line.head.rest ≤ line.len

-- the line has the form of a directive line, and the text before it a cut
pub record IsDirective (text : List ℕ) (in_group : Bool) (line : Line) : Type 0 where
  pub is_line : IsLineOf text line
  pub begins : BeginsLine text line.at
  pub form : directive_of in_group (line_of (drop line.at text)) ≡ Some line.head

-- the tokens are those of the text up to the directive line, or of all of it
abbrev pub IsPassageTo : List ℕ → Bool → Passage → Option Line → Type 0
IsPassageTo text in_group passage None = Cut text passage.tokens
IsPassageTo text in_group passage (Some line) = IsDirective text in_group line × Cut (take line.at text) passage.tokens

abbrev pub IsPassage : List ℕ → Bool → Passage → Type 0
IsPassage text in_group passage = IsPassageTo text in_group passage passage.line

abbrev pub IsOtherRule : LexFault → Type 0
IsOtherRule (fault.At offset rule) = rule ≢ 2
IsOtherRule fault.Memory = Unit {0}

-- the fault is the text's first, or that of the text before a line that has the form of a directive line, and then it is
-- no open comment
abbrev pub IsPassageFault : List ℕ → Bool → LexFault → Type 0
IsPassageFault text in_group f =
    IsRefused text f ⊎ ((at : ℕ) × HasForm text in_group at × IsRefused (take at text) f × IsOtherRule f)

-- The text has no directive line: each line that has the form of one stands in a comment.
abbrev pub HasNoDirective : List ℕ → Type 0
HasNoDirective text = (at : ℕ) → HasForm text false at → EndsInComment (take at text)
