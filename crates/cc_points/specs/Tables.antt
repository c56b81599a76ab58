-- What the table of facts has.
use Rattle.std.specs.Prelude.{ℕ, ◌≡◌, Bool, List, [], ◌∷◌, ◌++◌, length, Option, Some, None}
use Rattle.cc_blocks.specs.declared.table.Rows.{Rows}
use Rattle.cc_facts.specs.declared.facts.Facts.{Facts}
use Rattle.cc_points_base.specs.declared.view.Callee.{Callee}
use Rattle.cc_points_base.specs.declared.view.Seen.{Seen}
use Rattle.cc_points_base.specs.declared.view.View.{View}
use Rattle.cc_points_base.specs.declared.view.What.{What}
use Rattle.cc_points_base.specs.declared.view.What.TheVariants as what

-- what an occurrence calls, if it is a call
abbrev pub called : What → Option ℕ
called (what.Call f args) = Some f
called x = None

abbrev pub sites_from : List Seen → List (Option ℕ) → List (Option ℕ)
sites_from [] done = done
sites_from (s ∷ ss) done = sites_from ss (done ++ called s.what ∷ [])

abbrev pub defined_from : List Callee → List Bool → List Bool
defined_from [] done = done
defined_from (c ∷ cs) done = defined_from cs (done ++ c.is_defined ∷ [])

-- the table of these pairs: with the parts, the designators of all calls, and which functions have a body
pub record IsTableOf (P : View) (rows : Rows) (F : Facts) : Type 0 where
  pub pairs : F.rows.rows.items ≡ rows.rows.items
  pub occurrences : F.occurrences ≡ length P.nodes
  pub parts : F.parts ≡ P.parts
  pub sites : F.sites ≡ sites_from P.nodes []
  pub defined : F.defined ≡ defined_from P.functions []
