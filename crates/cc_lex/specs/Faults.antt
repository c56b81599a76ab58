-- The faults L1 to L9 of a text, by their places and rules.
use Rattle.std.specs.Prelude.{ℕ, ◌+◌, ◌≡◌, ◌≢◌, ◌<◌, ◌≤◌, ◌⊎◌, Bool, true, false, ◌&&◌, ◌||◌, ◌==◌, if◌then◌else◌, List, ◌++◌, length, take, drop, Contains, Option, Some, None}
use Rattle.cc_lex.specs.Bytes.{first, second, is_quote}
use Rattle.cc_lex.specs.Spellings.{is_token}
use Rattle.cc_lex.specs.Meanings.{faults}
use Rattle.cc_lex.specs.Pieces.{Piece, is_white_run, is_comment, begins_comment, begins_skipped, Longest, Cuts, spell, starts_after}

-- ---- What is faulty everywhere, in comments, skipped lines and constants too

-- a backslash directly before a line feed, or before carriage return and line feed
abbrev pub begins_splice : List ℕ → Bool
begins_splice text = first text == 92 && (second text == 10 || (second text == 13 && second (drop 1 text) == 10))

-- one of `= / ' ( ) ! < > -`
abbrev pub ends_trigraph : ℕ → Bool
ends_trigraph b =
    (((b == 61 || b == 47) || (b == 39 || b == 40)) || ((b == 41 || b == 33) || (b == 60 || b == 62))) || b == 45

-- `??` and one of these (5.2.1.1)
abbrev pub begins_trigraph : List ℕ → Bool
begins_trigraph text = (first text == 63 && second text == 63) && ends_trigraph (second (drop 1 text))

-- the rule of what is faulty at the front of any text
abbrev pub everywhere : List ℕ → Option ℕ
everywhere text = if begins_splice text then Some 8 else if begins_trigraph text then Some 9 else None

-- nothing of this begins in the bytes
abbrev pub IsClean : List ℕ → Type 0
IsClean bytes = (o rule : ℕ) → o < length bytes → everywhere (drop o bytes) ≡ Some rule → ⊥

-- ---- What is faulty where a piece would begin

-- no front of the text passes
abbrev pub NoFront : (List ℕ → Bool) → List ℕ → Type 0
NoFront passes text = (m : ℕ) → m ≤ length text → passes (take m text) ≡ true → m ≡ 0

-- What begins at the front of the text has a fault of this rule at this place. `starts` says that only spaces and tabs
-- stand before it on its line.
pub data Faulty (starts : Bool) (text : List ℕ) (at rule : ℕ) : Type 0 where
  -- L1: a byte with which no piece begins, nor a quote, a `#` or a splice
  stray : at ≡ 0 → rule ≡ 1 → 0 < length text → NoFront is_white_run text → begins_comment text ≡ false → NoFront is_token text → is_quote (first text) ≡ false → first text ≢ 35 → begins_splice text ≡ false → Faulty starts text at rule
  -- L2: a comment without its end
  open_comment : at ≡ 0 → rule ≡ 2 → begins_comment text ≡ true → NoFront is_comment text → Faulty starts text at rule
  -- L3: a constant without its closing quote
  open_constant : at ≡ 0 → rule ≡ 3 → is_quote (first text) ≡ true → NoFront is_token text → Faulty starts text at rule
  -- L4 to L7, and L9 for a prefix or a digraph: a fault of the token
  inside : (w r : List ℕ) → text ≡ w ++ r → Longest is_token w text → begins_comment text ≡ false → Contains (faults w (first r)) (at, rule) → Faulty starts text at rule
  -- L9: a `#` that begins no skipped line
  hash : at ≡ 0 → rule ≡ 9 → first text ≡ 35 → (starts && begins_skipped text) ≡ false → Faulty starts text at rule

-- ---- Faults of a whole text

-- L8 and the trigraphs of L9 are judged everywhere. All else is judged only where the bytes before what is faulty have a
-- cut: they are pieces, none of which could be longer when the whole text is seen, and nothing in them is faulty.
pub data LexFaulty (bytes : List ℕ) (offset rule : ℕ) : Type 0 where
  anywhere : offset < length bytes → everywhere (drop offset bytes) ≡ Some rule → LexFaulty bytes offset rule
  piece : (ps : List Piece) (rest : List ℕ) (at : ℕ) → Cuts true ps bytes rest → IsClean (spell ps) → Faulty (starts_after true (spell ps)) rest at rule → offset ≡ length (spell ps) + at → LexFaulty bytes offset rule

-- a stands before b, or at its place with its rule or a lesser one
abbrev pub NotAfter : ℕ × ℕ → ℕ × ℕ → Type 0
NotAfter a b = (a.0 < b.0) ⊎ ((a.0 ≡ b.0) × (a.1 ≤ b.1))

-- the fault with the least offset, and there the least rule
pub record IsLeastFault (bytes : List ℕ) (f : ℕ × ℕ) : Type 0 where
  pub faulty : LexFaulty bytes f.0 f.1
  pub least : (offset rule : ℕ) → LexFaulty bytes offset rule → NotAfter f (offset, rule)
