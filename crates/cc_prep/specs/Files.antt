-- Files that are included.
use Rattle.std.specs.Prelude.{◌≡◌, ◌≤◌, ◌⊎◌, ℕ, List, length, slice_range, Option, Some, None, IfSome}
use Rattle.std.specs.FinMap.{get}
use Rattle.cc_base.specs.declared.place.Spot.{Spot}
use Rattle.cc_io.specs.Shelf.{Files}
use Rattle.cc_lex.specs.Cut.{Cut}
use Rattle.cc_lex.specs.declared.token.Token.{Token}
use Rattle.cc_prep.specs.Kinds.{IsOneString}
use Rattle.cc_prep.specs.Marks.{IsMark, IsSpotIn}
use Rattle.cc_prep.specs.declared.file.Include.{Include}
use Rattle.cc_prep.specs.declared.file.OpenFile.{OpenFile}

-- A part of the bytes is cut into one string literal, which has these bytes.
pub record NamesFile (bytes name : List ℕ) : Type 0 where
  pub from : ℕ
  pub to : ℕ
  pub tokens : List Token
  pub cut : Cut (slice_range bytes from to) tokens
  pub only : IsOneString tokens name

-- a file that the bytes include, or a file that these include
pub data IsIncluded (files : Files) (bytes : List ℕ) : List ℕ → Type 0 where
  Here : {name : List ℕ} → NamesFile bytes name → IsIncluded files bytes name
  Further : {outer name : List ℕ} (contents : List ℕ) → IsIncluded files bytes outer → get files outer ≡ Some contents → NamesFile contents name → IsIncluded files bytes name

-- what an `include` line of the bytes says
pub record IsIncludeOf (bytes : List ℕ) (include : Include) : Type 0 where
  pub named : NamesFile bytes include.name
  pub hash : IsSpotIn bytes include.hash

-- a file that is included by the project's file, and its contents
abbrev pub IsInnerFile : Option Files → (bytes file contents : List ℕ) → Type 0
IsInnerFile files bytes file contents = IfSome files (λ files. IsIncluded files bytes file × (get files file ≡ Some contents))

-- the project's file itself, or an included one, whose tokens stand at one place of the project's
abbrev pub IsSource : Option Files → (name bytes file contents : List ℕ) → Option Spot → Type 0
IsSource files name bytes file contents None = (file ≡ name) × (contents ≡ bytes)
IsSource files name bytes file contents (Some at) = IsInnerFile files bytes file contents × IsSpotIn bytes at

-- a file that is being read
pub record IsOpen (files : Option Files) (name bytes : List ℕ) (file : OpenFile) : Type 0 where
  pub source : IsSource files name bytes file.name file.bytes file.outermost
  pub small : length file.bytes ≤ 1048576
  pub mark : IsMark file.bytes file.mark

-- the spot is a place of the project's file, or of an included one
abbrev pub IsPlace : Option Files → (name bytes file : List ℕ) → Spot → Type 0
IsPlace files name bytes file at =
    ((file ≡ name) × IsSpotIn bytes at) ⊎ ((contents : List ℕ) × IsInnerFile files bytes file contents × IsSpotIn contents at)
