-- The expansion of a file of the project (C17 6.10, as far as the profile has it): its tokens, or its first fault. What the
-- functions of this crate do is not proved against this yet (docs/open.md).
use Rattle.std.specs.Prelude.{◌≡◌, ◌≤◌, ◌<◌, ◌+◌, ◌⊎◌, ℕ, Bool, true, false, List, [], ◌∷◌, ◌++◌, length, take, drop, slice_range, map, Option, None, Some, Result, Ok, Err}
use Rattle.std.specs.FinMap.{get}
use Rattle.cc_base.specs.declared.place.Spot.{Spot}
use Rattle.cc_io.specs.Shelf.{Files}
use Rattle.cc_lex.specs.Cut.{Cut}
use Rattle.cc_lex.specs.Faults.{IsLeastFault}
use Rattle.cc_lex.specs.Spots.{spot_at}
use Rattle.cc_lex.specs.declared.token.Token.{Token}
use Rattle.cc_lex.specs.declared.token.TokenKind.{TokenKind}
use Rattle.cc_prep.specs.Comments.{EndsInComment}
use Rattle.cc_prep.specs.Directives.{Effect, Does, Passes, goes_on, includes, breaks}
use Rattle.cc_prep.specs.Groups.{is_active}
use Rattle.cc_prep.specs.Lines.{line_len, line_of, group_line_of}
use Rattle.cc_prep.specs.Marks.{shifted}
use Rattle.cc_prep.specs.Passages.{BeginsLine, HasForm, IsDirective}
use Rattle.cc_prep.specs.Replacement.{Macros, Gives}
use Rattle.cc_prep.specs.declared.fault.PrepFault.{PrepFault}
use Rattle.cc_prep.specs.declared.fault.PrepFault.TheVariants.{Lexical, Directive, Missing, TooLong}
use Rattle.cc_prep.specs.declared.group.Group.{Group}
use Rattle.cc_prep.specs.declared.line.Head.{Head}
use Rattle.cc_prep.specs.declared.passage.Line.{Line}

-- a file that is read: how deep it is included, and where all its tokens stand if it is
pub record File : Type 0 where
  pub name : List ℕ
  pub bytes : List ℕ
  pub depth : ℕ
  pub outermost : Option Spot

-- what is known so far: the macros, the tokens, and how many replacements and includes there were
pub record State : Type 0 where
  pub macros : Macros
  pub tokens : List Token
  pub replacements : ℕ
  pub includes : ℕ

-- where a token of a part of the file stands that begins at this offset
abbrev pub spot_of : File → ℕ → Option Spot → Spot → Spot
spot_of file at None spot = shifted (spot_at file.bytes at) spot
spot_of file at (Some outermost) spot = outermost

-- where the outermost `#` stands
abbrev pub outermost_of : Option Spot → Spot → Spot
outermost_of None hash = hash
outermost_of (Some outermost) hash = outermost

-- the tokens of a part that begins at this offset are added, each as what it stands for
pub data Adds (file : File) (at : ℕ) : List Token → State → Result State Spot → Type 0 where
  AllAdded : {state : State} → Adds file at [] state (Ok state)
  Added : {t : Token} {tokens : List Token} {state : State} {outcome : Result State Spot} (given : List TokenKind) (n : ℕ) → Gives state.macros [] (t.kind ∷ []) given n
      → length state.tokens + length given + (state.replacements + n) ≤ 1048576
      → Adds file at tokens (record state { tokens = state.tokens ++ map (λ k. record { kind = k; spot = spot_of file at file.outermost t.spot }) given; replacements = state.replacements + n }) outcome
      → Adds file at (t ∷ tokens) state outcome
  -- M7
  TooMany : {t : Token} {tokens : List Token} {state : State} (given : List TokenKind) (n : ℕ) → Gives state.macros [] (t.kind ∷ []) given n
      → 1048576 < length state.tokens + length given + (state.replacements + n) → Adds file at (t ∷ tokens) state (Err (spot_of file at file.outermost t.spot))

-- a part of the file has this first fault
abbrev pub HasLexical : File → (at : ℕ) → (part : List ℕ) → PrepFault → Type 0
HasLexical file at part fault = (f : ℕ × ℕ) × IsLeastFault part f × (fault ≡ Lexical file.name (spot_at file.bytes (at + f.0)) f.1)

-- no line that begins before the offset has the form of a directive line, unless it stands in a comment
abbrev pub NoneBefore : List ℕ → Bool → ℕ → Type 0
NoneBefore text in_group end = (at : ℕ) → at < end → HasForm text in_group at → EndsInComment (take at text)

abbrev pub in_group : List Group → Bool
in_group [] = false
in_group (group ∷ groups) = true

-- from the offset, with these groups open, text is read up to this directive line
pub record ReachesLine (file : File) (at : ℕ) (groups : List Group) (state after : State) (line : Line) : Type 0 where
  pub active : is_active groups ≡ true
  pub none_before : NoneBefore (drop at file.bytes) (in_group groups) line.at
  pub directive : IsDirective (drop at file.bytes) (in_group groups) line
  pub tokens : List Token
  pub cut : Cut (take line.at (drop at file.bytes)) tokens
  pub added : Adds file at tokens state (Ok after)

-- the line carried out, given by the offset at which it begins: the tokens of its rest, and what it does
pub record HasEffect (file : File) (begin : ℕ) (groups : List Group) (macros : Macros) (line : Line) (effect : Effect) : Type 0 where
  pub tokens : List Token
  pub cut : Cut (slice_range file.bytes (begin + line.head.rest) (begin + line.len)) tokens
  pub does : Does macros groups (begin + line.head.hash) line.head.word tokens effect

-- from the offset, where text is not read, this is the next group line
pub record ReachesGroupLine (file : File) (at : ℕ) (groups : List Group) (line : ℕ) (head : Head) : Type 0 where
  pub skipped : is_active groups ≡ false
  pub begins : BeginsLine (drop at file.bytes) line
  pub form : group_line_of (line_of (drop line (drop at file.bytes))) ≡ Some head
  pub first_line : (k : ℕ) → k < line → BeginsLine (drop at file.bytes) k → group_line_of (line_of (drop k (drop at file.bytes))) ≡ None

-- the text from the offset has no group line
abbrev pub HasNoGroupLine : File → ℕ → Type 0
HasNoGroupLine file at = (k : ℕ) → BeginsLine (drop at file.bytes) k → group_line_of (line_of (drop k (drop at file.bytes))) ≡ None

-- text to the end of the file
pub record ReachesEnd (file : File) (at : ℕ) (groups : List Group) (state after : State) : Type 0 where
  pub active : is_active groups ≡ true
  pub none_before : NoneBefore (drop at file.bytes) (in_group groups) (length (drop at file.bytes))
  pub tokens : List Token
  pub cut : Cut (drop at file.bytes) tokens
  pub added : Adds file at tokens state (Ok after)

-- a file that the line includes, before its first line
abbrev pub inner_of : File → (name bytes : List ℕ) → (hash : ℕ) → File
inner_of file name bytes hash =
    record { name = name; bytes = bytes; depth = file.depth + 1; outermost = Some (outermost_of file.outermost (spot_at file.bytes hash)) }

-- The file is read on from the offset, at which a line begins, with these groups open. `project` is the name of the
-- project's file.
pub data Reads (files : Files) (project : List ℕ) : File → (at : ℕ) → List Group → State → Result State PrepFault → Type 0 where
  End : {file : File} {at : ℕ} {state after : State} → ReachesEnd file at [] state after → Reads files project file at [] state (Ok after)
  -- M3: a group is open at the end, the outermost one first
  OpenAtEnd : {file : File} {at : ℕ} {group : Group} {groups : List Group} {state after : State} → ReachesEnd file at (group ∷ groups) state after ⊎ ((is_active (group ∷ groups) ≡ false) × HasNoGroupLine file at)
      → Reads files project file at (group ∷ groups) state (Err (Directive file.name (spot_at file.bytes group.hash) 3))
  -- L1 to L9 in the text up to the first line that has the form of a directive line and stands in no comment
  TextFault : {file : File} {at end : ℕ} {groups : List Group} {state : State} {fault : PrepFault} → is_active groups ≡ true → NoneBefore (drop at file.bytes) (in_group groups) end
      → (end ≡ length (drop at file.bytes)) ⊎ (HasForm (drop at file.bytes) (in_group groups) end × (EndsInComment (take end (drop at file.bytes)) → ⊥))
      → HasLexical file at (take end (drop at file.bytes)) fault → Reads files project file at groups state (Err fault)
  -- M7
  TextTooMany : {file : File} {at end : ℕ} {groups : List Group} {state : State} {spot : Spot} (tokens : List Token) → is_active groups ≡ true → NoneBefore (drop at file.bytes) (in_group groups) end
      → Cut (take end (drop at file.bytes)) tokens → Adds file at tokens state (Err spot) → Reads files project file at groups state (Err (Directive project spot 7))
  -- a directive line: its rest has a lexical fault, or breaks M1 to M6, or is carried out
  RestFault : {file : File} {at : ℕ} {groups : List Group} {state after : State} {fault : PrepFault} (line : Line) → ReachesLine file at groups state after line
      → HasLexical file (at + line.at + line.head.rest) (slice_range file.bytes (at + line.at + line.head.rest) (at + line.at + line.len)) fault → Reads files project file at groups state (Err fault)
  Broken : {file : File} {at : ℕ} {groups : List Group} {state after : State} (line : Line) (rule : ℕ) → ReachesLine file at groups state after line
      → HasEffect file (at + line.at) groups after.macros line (breaks rule) → Reads files project file at groups state (Err (Directive file.name (spot_at file.bytes (at + line.at + line.head.hash)) rule))
  CarriedOut : {file : File} {at : ℕ} {groups groups' : List Group} {state after : State} {outcome : Result State PrepFault} (line : Line) (macros : Macros) → ReachesLine file at groups state after line
      → HasEffect file (at + line.at) groups after.macros line (goes_on macros groups')
      → Reads files project file (at + line.at + line.len) groups' (record after { macros = macros }) outcome → Reads files project file at groups state outcome
  -- M5: a file that would be nested deeper than 16, or is the 1,001st
  TooManyIncludes : {file : File} {at : ℕ} {groups : List Group} {state after : State} (line : Line) (name : List ℕ) → ReachesLine file at groups state after line
      → HasEffect file (at + line.at) groups after.macros line (includes name) → (16 ≤ file.depth) ⊎ (1000 ≤ after.includes)
      → Reads files project file at groups state (Err (Directive file.name (spot_at file.bytes (at + line.at + line.head.hash)) 5))
  -- the file can't be had, or is read in the line's place
  NoFile : {file : File} {at : ℕ} {groups : List Group} {state after : State} (line : Line) (name : List ℕ) → ReachesLine file at groups state after line
      → HasEffect file (at + line.at) groups after.macros line (includes name) → file.depth < 16 → after.includes < 1000 → get files name ≡ None → Reads files project file at groups state (Err (Missing name))
  LongFile : {file : File} {at : ℕ} {groups : List Group} {state after : State} (line : Line) (name bytes : List ℕ) → ReachesLine file at groups state after line
      → HasEffect file (at + line.at) groups after.macros line (includes name) → file.depth < 16 → after.includes < 1000 → get files name ≡ Some bytes → 1048576 < length bytes
      → Reads files project file at groups state (Err (TooLong name))
  InnerFault : {file : File} {at : ℕ} {groups : List Group} {state after : State} {fault : PrepFault} (line : Line) (name bytes : List ℕ) → ReachesLine file at groups state after line
      → HasEffect file (at + line.at) groups after.macros line (includes name) → file.depth < 16 → after.includes < 1000 → get files name ≡ Some bytes → length bytes ≤ 1048576
      → Reads files project (inner_of file name bytes (at + line.at + line.head.hash)) 0 [] (record after { includes = after.includes + 1 }) (Err fault) → Reads files project file at groups state (Err fault)
  Included : {file : File} {at : ℕ} {groups : List Group} {state after inner : State} {outcome : Result State PrepFault} (line : Line) (name bytes : List ℕ) → ReachesLine file at groups state after line
      → HasEffect file (at + line.at) groups after.macros line (includes name) → file.depth < 16 → after.includes < 1000 → get files name ≡ Some bytes → length bytes ≤ 1048576
      → Reads files project (inner_of file name bytes (at + line.at + line.head.hash)) 0 [] (record after { includes = after.includes + 1 }) (Ok inner)
      → Reads files project file (at + line.at + line.len) groups inner outcome → Reads files project file at groups state outcome
  -- a group line where text is not read
  SkippedBroken : {file : File} {at : ℕ} {groups : List Group} {state : State} (line : ℕ) (head : Head) (rule : ℕ) → ReachesGroupLine file at groups line head
      → Passes groups (at + line + head.hash) head.word (breaks rule) → Reads files project file at groups state (Err (Directive file.name (spot_at file.bytes (at + line + head.hash)) rule))
  Skipped : {file : File} {at : ℕ} {groups groups' : List Group} {state : State} {outcome : Result State PrepFault} (line : ℕ) (head : Head) → ReachesGroupLine file at groups line head
      → Passes groups (at + line + head.hash) head.word (goes_on state.macros groups')
      → Reads files project file (at + line + line_len (drop (at + line) file.bytes)) groups' state outcome → Reads files project file at groups state outcome

-- the tokens of a file of the project, or its first fault
abbrev pub Expands : Files → (name bytes : List ℕ) → Result State PrepFault → Type 0
Expands files name bytes outcome =
    Reads files name (record { name = name; bytes = bytes; depth = 0; outermost = None }) 0 [] (record { macros = []; tokens = []; replacements = 0; includes = 0 }) outcome
