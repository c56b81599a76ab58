-- Directive lines (C17 6.10): `#` with only spaces and tabs before it on its line, spaces or tabs or nothing, and a word.
use Rattle.std.specs.Prelude.{ℕ, suc, ◌+◌, ◌==◌, Bool, true, false, if◌then◌else◌, List, [], ◌∷◌, take, drop, Option, Some, None, codes}
use Rattle.std.specs.Str.{bytes_eq}
use Rattle.cc_lex.specs.Bytes.{first, is_blank, in_name, count_front}
use Rattle.cc_prep.specs.declared.line.Word.{Word}
use Rattle.cc_prep.specs.declared.line.Word.TheVariants.{Define, Undef, Include, Ifdef, Ifndef, If, Elif, Else, Endif}
use Rattle.cc_prep.specs.declared.line.Head.{Head}

-- how many bytes the line at the front has, with its line feed
abbrev pub line_len : List ℕ → ℕ
line_len [] = 0
line_len (b ∷ z) = if b == 10 then 1 else suc (line_len z)

-- the line at the front
abbrev pub line_of : List ℕ → List ℕ
line_of z = take (line_len z) z

-- how many spaces and tabs stand at the front
abbrev pub blank_count : List ℕ → ℕ
blank_count z = count_front is_blank z

-- how many bytes of a name stand at the front
abbrev pub name_len : List ℕ → ℕ
name_len z = count_front (in_name 0) z

abbrev pub name_of : List ℕ → List ℕ
name_of z = take (name_len z) z

abbrev pub word_of : List ℕ → Option Word
word_of w =
    if bytes_eq w (codes "define") then Some Define
    else if bytes_eq w (codes "undef") then Some Undef
    else if bytes_eq w (codes "include") then Some Include
    else if bytes_eq w (codes "ifdef") then Some Ifdef
    else if bytes_eq w (codes "ifndef") then Some Ifndef
    else if bytes_eq w (codes "if") then Some If
    else if bytes_eq w (codes "elif") then Some Elif
    else if bytes_eq w (codes "else") then Some Else
    else if bytes_eq w (codes "endif") then Some Endif
    else None

-- how many bytes of the line go up to and with its `#` and the spaces and tabs behind it
abbrev pub hash_len : List ℕ → Option ℕ
hash_len z =
    if first (drop (blank_count z) z) == 35
    then Some (blank_count z + 1 + blank_count (drop (blank_count z + 1) z))
    else None

abbrev pub head_with : (hash rest : ℕ) → Option Word → Option Head
head_with hash rest None = None
head_with hash rest (Some word) = Some (record { word = word; hash = hash; rest = rest })

abbrev pub head_behind : List ℕ → Option ℕ → Option Head
head_behind z None = None
head_behind z (Some at) = head_with (blank_count z) (at + name_len (drop at z)) (word_of (name_of (drop at z)))

-- the beginning of a line that has one of the words
abbrev pub head_of : List ℕ → Option Head
head_of z = head_behind z (hash_len z)

-- Where text is read, an `elif` counts where a group is open in its file, and an `if` doesn't.
abbrev pub counts_in_text : (in_group : Bool) → Word → Bool
counts_in_text in_group If = false
counts_in_text in_group Elif = in_group
counts_in_text in_group _ = true

-- a line that begins, turns or ends a group
abbrev pub counts_in_skipped : Word → Bool
counts_in_skipped Define = false
counts_in_skipped Undef = false
counts_in_skipped Include = false
counts_in_skipped _ = true

-- the beginning, if its word counts
abbrev pub if_counts : (Word → Bool) → Option Head → Option Head
if_counts counts None = None
if_counts counts (Some head) = if counts head.word then Some head else None

-- the beginning of a directive line where text is read
abbrev pub directive_of : Bool → List ℕ → Option Head
directive_of in_group z = if_counts (counts_in_text in_group) (head_of z)

-- the beginning of a group line where text is not read
abbrev pub group_line_of : List ℕ → Option Head
group_line_of z = if_counts counts_in_skipped (head_of z)
