-- Pieces of a text: white bytes, comments, skipped lines and tokens, each right at its place.
use Rattle.std.specs.Prelude.{ℕ, ◌≡◌, ◌≤◌, Bool, true, false, not, ◌&&◌, ◌||◌, ◌==◌, if◌then◌else◌, List, [], ◌∷◌, ◌++◌, length, take, drop}
use Rattle.cc_lex.specs.Bytes.{first, second, is_blank, is_digit, in_white, in_line, in_name, chain}
use Rattle.cc_lex.specs.Spellings.{is_token}
use Rattle.cc_lex.specs.Meanings.{faults, meaning}
use Rattle.cc_lex.specs.declared.token.TokenKind.{TokenKind}

-- white bytes, a comment, a skipped line, or a token: its bytes, and of a token its kind too
pub data Piece : Type 0 where
  white : List ℕ → Piece
  comment : List ℕ → Piece
  line : List ℕ → Piece
  token : List ℕ → TokenKind → Piece

abbrev pub bytes_of : Piece → List ℕ
bytes_of (white w) = w
bytes_of (comment w) = w
bytes_of (line w) = w
bytes_of (token w k) = w

-- ---- Which bytes are a piece

abbrev pub is_white_run : List ℕ → Bool
is_white_run [] = false
is_white_run (b ∷ z) = chain in_white 0 (b ∷ z)

-- It ends with its first `*/`.
abbrev pub ends_block : List ℕ → Bool
ends_block [] = false
ends_block (b ∷ z) = if b == 42 && first z == 47 then length z == 1 else ends_block z

-- `/*` up to the first `*/` after it, or `//` and no line feed (C17 6.4.9)
abbrev pub is_comment : List ℕ → Bool
is_comment [] = false
is_comment (a ∷ []) = false
is_comment (a ∷ b ∷ z) = a == 47 && ((b == 42 && ends_block z) || (b == 47 && chain in_line 0 z))

-- some bytes, and no line feed
abbrev pub is_line : List ℕ → Bool
is_line [] = false
is_line (b ∷ z) = chain in_line 0 (b ∷ z)

-- ---- What stands at the front of a text

abbrev pub begins_comment : List ℕ → Bool
begins_comment text = first text == 47 && (second text == 42 || second text == 47)

-- the text without the spaces and tabs at its front
abbrev pub skip_blanks : List ℕ → List ℕ
skip_blanks [] = []
skip_blanks (b ∷ z) = if is_blank b then skip_blanks z else b ∷ z

-- the text begins with these bytes
abbrev pub begins : List ℕ → List ℕ → Bool
begins [] text = true
begins (a ∷ y) [] = false
begins (a ∷ y) (b ∷ z) = a == b && begins y z

-- the text begins with the word, and no name goes on behind it
abbrev pub begins_word : List ℕ → List ℕ → Bool
begins_word word text = begins word text && not (in_name 0 (first (drop (length word) text)))

-- a digit, or the word `line` or `pragma`
abbrev pub is_directive : List ℕ → Bool
is_directive text =
    (is_digit (first text) || begins_word (108 ∷ 105 ∷ 110 ∷ 101 ∷ []) text)
    || begins_word (112 ∷ 114 ∷ 97 ∷ 103 ∷ 109 ∷ 97 ∷ []) text

-- `#`, spaces and tabs, and then one of these
abbrev pub begins_skipped : List ℕ → Bool
begins_skipped text = first text == 35 && is_directive (skip_blanks (drop 1 text))

-- ---- Pieces that are right where they stand

-- Of the fronts of the text that pass, this one is the longest.
pub record Longest (passes : List ℕ → Bool) (w text : List ℕ) : Type 0 where
  pub passes_itself : passes w ≡ true
  pub most : (m : ℕ) → m ≤ length text → passes (take m text) ≡ true → m ≤ length w

-- The piece is right where the text begins with it, and r follows it. `starts` says that only spaces and tabs stand
-- before it on its line. A skipped line begins with its `#`: the spaces and tabs before are white bytes. No token begins
-- with `#`, so none begins where a skipped line does.
abbrev pub IsInPlace : Bool → Piece → List ℕ → Type 0
IsInPlace starts (white w) r = Longest is_white_run w (w ++ r)
IsInPlace starts (comment w) r = Longest is_comment w (w ++ r)
IsInPlace starts (line w) r = Longest is_line w (w ++ r) × (starts ≡ true) × (begins_skipped (w ++ r) ≡ true)
IsInPlace starts (token w k) r =
    Longest is_token w (w ++ r) × (begins_comment (w ++ r) ≡ false) × (faults w (first r) ≡ []) × (k ≡ meaning w)

-- whether only spaces and tabs stand on the line so far, behind these bytes
abbrev pub starts_after : Bool → List ℕ → Bool
starts_after starts [] = starts
starts_after starts (b ∷ z) = starts_after (b == 10 || (starts && is_blank b)) z

-- The text begins with these pieces, each right at its place, and r follows them.
abbrev pub Cuts : Bool → List Piece → List ℕ → List ℕ → Type 0
Cuts starts [] text r = text ≡ r
Cuts starts (p ∷ ps) text r = (z : List ℕ) × (text ≡ bytes_of p ++ z) × IsInPlace starts p z × Cuts (starts_after starts (bytes_of p)) ps z r

-- the bytes of the pieces
abbrev pub spell : List Piece → List ℕ
spell [] = []
spell (p ∷ ps) = bytes_of p ++ spell ps
