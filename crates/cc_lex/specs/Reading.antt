-- The reader's parts: counts of bytes at the front of a text, the next piece, and how far the loop has come. Only the
-- clauses of private functions speak of them.
use Rattle.std.specs.Prelude.{ℕ, zero, suc, ◌≡◌, ◌+◌, ◌<◌, ◌≤◌, max, Bool, true, false, ◌&&◌, ◌||◌, ◌==◌, nat_lt, nat_le, if◌then◌else◌, List, [], ◌∷◌, length, take, drop, Option, Some, None, Result, Ok, Err}
use Rattle.cc_base.specs.declared.place.Spot.{Spot}
use Rattle.cc_base.specs.Spots.{start, spot_behind}
use Rattle.cc_lex.specs.declared.token.Token.{Token}
use Rattle.cc_lex.specs.declared.token.LexFault.{LexFault}
use Rattle.cc_lex.specs.declared.token.LexFault.TheVariants as fault
use Rattle.cc_lex.specs.declared.step.Step.{Step}
use Rattle.cc_lex.specs.declared.step.Step.TheVariants as step
use Rattle.cc_lex.specs.declared.step.Fault.{Fault}
use Rattle.cc_lex.specs.declared.run.Class.{Class}
use Rattle.cc_lex.specs.declared.run.Class.TheVariants as class
use Rattle.cc_lex.specs.Bytes.{first, is_letter, is_quote, in_white, in_line, in_name, in_number}
use Rattle.cc_lex.specs.Spellings.{spellings_of, puncts, digraphs, begins_number, is_token}
use Rattle.cc_lex.specs.Meanings.{faults, meaning}
use Rattle.cc_lex.specs.Pieces.{Piece, white, comment, line, token, begins, begins_comment, begins_skipped, Cuts, spell, starts_after}
use Rattle.cc_lex.specs.Faults.{begins_splice, everywhere}
use Rattle.cc_lex.specs.Cut.{tokens_from}

-- ---- Counts

abbrev pub test_of : Class → ℕ → ℕ → Bool
test_of class.White = in_white
test_of class.Line = in_line
test_of class.Name = in_name
test_of class.Number = in_number

-- how many bytes at the front may follow one another
abbrev pub run : (ℕ → ℕ → Bool) → ℕ → List ℕ → ℕ
run may_follow before [] = 0
run may_follow before (b ∷ z) = if may_follow before b then suc (run may_follow b z) else 0

-- one more than a count, and 0 where there is none
abbrev pub more : ℕ → ℕ
more zero = zero
more (suc n) = suc (suc n)

abbrev pub plus : ℕ → ℕ → ℕ
plus k zero = zero
plus k (suc n) = k + suc n

-- how many bytes there are up to and with the closing quote, for bytes behind the opening one; 0 where it doesn't come
abbrev pub closing : ℕ → Bool → List ℕ → ℕ
closing quote escaped [] = 0
closing quote true (b ∷ z) = if b == 10 then 0 else more (closing quote false z)
closing quote false (b ∷ z) = if b == quote then 1 else if b == 10 then 0 else more (closing quote (b == 92) z)

-- how many bytes there are up to and with the first `*/`, or 0
abbrev pub block_len : List ℕ → ℕ
block_len [] = 0
block_len (b ∷ z) = if b == 42 && first z == 47 then 2 else more (block_len z)

-- the length of the first of the spellings with which the text begins
abbrev pub first_of : List (List ℕ) → List ℕ → ℕ
first_of [] text = 0
first_of (p ∷ ps) text = if begins p text then length p else first_of ps text

abbrev pub name_len : List ℕ → ℕ
name_len [] = 0
name_len (b ∷ z) = if is_letter b then suc (run in_name b z) else 0

abbrev pub number_len : List ℕ → ℕ
number_len [] = 0
number_len (b ∷ z) = if begins_number (b ∷ z) then suc (run in_number b z) else 0

abbrev pub quoted_len : List ℕ → ℕ
quoted_len [] = 0
quoted_len (b ∷ z) = if is_quote b then more (closing b false z) else 0

abbrev pub punct_len : List ℕ → ℕ
punct_len text = first_of (spellings_of puncts) text

abbrev pub digraph_len : List ℕ → ℕ
digraph_len text = first_of digraphs text

-- the length of the longest token at the front, or 0
unfoldable pub token_len : List ℕ → ℕ
token_len text = max (max (max (max (name_len text) (number_len text)) (quoted_len text)) (punct_len text)) (digraph_len text)

abbrev pub comment_len : List ℕ → ℕ
comment_len [] = 0
comment_len (a ∷ []) = 0
comment_len (a ∷ b ∷ z) = if a == 47 && b == 42 then plus 2 (block_len z) else if a == 47 && b == 47 then 2 + run in_line 0 z else 0

-- ---- The next piece, or the place and the rule of the first fault

abbrev pub first_fault : List (ℕ × ℕ) → Option (ℕ × ℕ)
first_fault [] = None
first_fault (f ∷ fs) = Some f

abbrev pub judged_by : List ℕ → Option (ℕ × ℕ) → Result Piece (ℕ × ℕ)
judged_by w None = Ok (token w (meaning w))
judged_by w (Some f) = Err f

abbrev pub judged : List ℕ → List (ℕ × ℕ) → Result Piece (ℕ × ℕ)
judged w fs = judged_by w (first_fault fs)

-- the rule where no token begins
abbrev pub unread : List ℕ → ℕ
unread text = if is_quote (first text) then 3 else if begins_splice text then 8 else 1

abbrev pub next : Bool → List ℕ → Result Piece (ℕ × ℕ)
next starts text =
    if in_white 0 (first text) then Ok (white (take (run in_white 0 text) text))
    else if begins_comment text then (if comment_len text == 0 then Err (0, 2) else Ok (comment (take (comment_len text) text)))
    else if first text == 35 then (if starts && begins_skipped text then Ok (line (take (run in_line 0 text) text)) else Err (0, 9))
    else if token_len text == 0 then Err (0, unread text)
    else judged (take (token_len text) text) (faults (take (token_len text) text) (first (drop (token_len text) text)))

-- ---- Steps of the code

abbrev pub len_of : Step → ℕ
len_of (step.White n) = n
len_of (step.Comment n) = n
len_of (step.Line n) = n
len_of (step.Token n) = n

-- the piece that the step says stands at the front of the text
abbrev pub piece_of : Step → List ℕ → Piece
piece_of (step.White n) text = white (take n text)
piece_of (step.Comment n) text = comment (take n text)
piece_of (step.Line n) text = line (take n text)
piece_of (step.Token n) text = token (take n text) (meaning (take n text))

abbrev pub pair_of : Fault → ℕ × ℕ
pair_of f = (f.at, f.rule)

abbrev pub stepped : List ℕ → Result Step Fault → Result Piece (ℕ × ℕ)
stepped text (Ok s) = Ok (piece_of s text)
stepped text (Err f) = Err (pair_of f)

-- the spelling is a token's, and has no fault before some byte
abbrev pub IsSound : List ℕ → Type 0
IsSound w = (is_token w ≡ true) × ((after : ℕ) × (faults w after ≡ []))

-- if the step says that the bytes are a token, they are
abbrev pub IsMeant : Step → List ℕ → Type 0
IsMeant (step.Token n) w = IsSound w
IsMeant _ w = Unit {0}

-- the token, if the step is one
abbrev pub added : Step → List ℕ → Spot → List Token
added (step.Token n) w s = record { kind = meaning w; spot = s } ∷ []
added _ w s = []

-- ---- How far the loop has come

-- the bytes up to z are read
pub record IsRead (bytes z : List ℕ) (starts : Bool) (spot : Spot) (tokens : List Token) : Type 0 where
  pub pieces : List Piece
  pub cuts : Cuts true pieces bytes z
  pub starts_is : starts ≡ starts_after true (spell pieces)
  pub spot_is : spot ≡ spot_behind start (spell pieces)
  pub tokens_is : tokens ≡ tokens_from start pieces

-- all is read
pub record IsAll (bytes : List ℕ) (tokens : List Token) : Type 0 where
  pub pieces : List Piece
  pub cuts : Cuts true pieces bytes []
  pub tokens_is : tokens ≡ tokens_from start pieces

-- where reading stopped, with a fault
pub record Stopped (bytes : List ℕ) (f : ℕ × ℕ) : Type 0 where
  pub pieces : List Piece
  pub rest : List ℕ
  pub fault_there : ℕ × ℕ
  pub cuts : Cuts true pieces bytes rest
  pub some : 0 < length rest
  pub read : next (starts_after true (spell pieces)) rest ≡ Err fault_there
  pub place : f.0 ≡ length (spell pieces) + fault_there.0
  pub rule : f.1 ≡ fault_there.1

abbrev pub HasStopped : List ℕ → LexFault → Type 0
HasStopped bytes (fault.At offset rule) = Stopped bytes (offset, rule)
HasStopped bytes fault.Memory = Unit {0}

-- the first place at which something is faulty everywhere
pub record IsFirstAnywhere (bytes : List ℕ) (f : ℕ × ℕ) : Type 0 where
  pub within : f.0 < length bytes
  pub there : everywhere (drop f.0 bytes) ≡ Some f.1
  pub first_there : (o rule : ℕ) → o < length bytes → everywhere (drop o bytes) ≡ Some rule → f.0 ≤ o

-- the lesser of two faults
abbrev pub sooner : ℕ × ℕ → LexFault → LexFault
sooner f fault.Memory = fault.Memory
sooner f (fault.At offset rule) =
    if nat_lt f.0 offset || (f.0 == offset && nat_le f.1 rule) then fault.At f.0 f.1 else fault.At offset rule
