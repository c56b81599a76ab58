-- The laws of typing, as statements.
use Rattle.std.specs.Prelude.{false, ◌≡◌, Option, Some, None, List, [], All, Contains}
use Rattle.cc_arith.specs.declared.kind.IntKind.TheVariants.{Char}
use Rattle.cc_tree.specs.Trees.{ExprTree}
use Rattle.cc_tree_notes.specs.declared.note.Counted.{Counted}
use Rattle.cc_symbols.specs.declared.findings.Findings.{Findings}
use Rattle.cc_symbols.specs.declared.offence.Offence.{Offence}
use Rattle.cc_symbols.specs.declared.symbols.Symbols.{Symbols}
use Rattle.cc_symbols.specs.Offences.{is_before}
use Rattle.cc_types.specs.declared.shape.Shape.TheVariants.{Integer}
use Rattle.cc_types.specs.Interning.{numbered, shape_of}
use Rattle.cc_types.specs.Shapes.{IsTable}
use Rattle.cc_typing.specs.Typing as numbers
use Rattle.cc_typing.specs.Typing.{noted}
use Rattle.cc_typing_laws.specs.Judgements.{meant, JudgedSound}
use Rattle.cc_typing_laws.specs.Typing.{all_types, judged}
use Rattle.cc_typing_laws.specs.Findings.{offences, least_of, typings, types_put}

-- the types are a table that begins with `char`
pub record IsReady (s : Symbols) : Type 0 where
  pub table : IsTable s.types
  pub char : shape_of s.types (numbered 0) ≡ Integer false Char

-- what is said of an expression by shapes and numbers means what is said of it by types
abbrev pub TypingMeans : Type 0
TypingMeans = (s : Symbols) → IsReady s → (e : ExprTree Counted) → meant (all_types s) (numbers.judged s e) ≡ judged s e

-- what the type of an expression is made of is in the table
abbrev pub TypesAreSound : Type 0
TypesAreSound = (s : Symbols) → IsReady s → (e : ExprTree Counted) → JudgedSound (all_types s) (numbers.judged s e)

-- what is kept of offences is the least of what was kept before and of the offences in the expression
abbrev pub TheLeastIsKept : Type 0
TheLeastIsKept = (s : Symbols) (e : ExprTree Counted) (f : Findings) → (noted s e f).least ≡ least_of f.least (offences s e)

-- the type of each node is put at its number
abbrev pub TypesAreKept : Type 0
TypesAreKept = (s : Symbols) (e : ExprTree Counted) (f : Findings) → (noted s e f).types ≡ types_put f.types (typings s e)

-- one of these, before which none comes
abbrev pub IsFirst : List Offence → Option Offence → Type 0
IsFirst os (Some o) = Contains os o × All (λ p. is_before p o ≡ false) os
IsFirst os None = os ≡ []

-- the least of offences is the first of them, by place, then by rule
abbrev pub TheLeastIsFirst : Type 0
TheLeastIsFirst = (os : List Offence) → IsFirst os (least_of None os)
