-- The slots that an lvalue may have.
use Rattle.std.specs.Prelude.{ℕ, ◌≡◌, ◌+◌, ◌≤◌, ◌<◌, true, false, if◌then◌else◌, List, [], ◌∷◌, ◌++◌, take, Option, Some, None}
use Rattle.cc_facts.specs.declared.facts.Facts.{Facts}
use Rattle.cc_facts.specs.Told.{has_part}
use Rattle.cc_listed.specs.declared.table.Access.{Access}
use Rattle.cc_parts.specs.declared.part.Part.{Part}
use Rattle.cc_parts.specs.declared.part.Form.{Form}
use Rattle.cc_parts.specs.PartTables.{is_scalar}
use Rattle.cc_types.specs.declared.expr_type.ExprType.{ExprType}
use Rattle.cc_types.specs.declared.expr_type.ExprType.TheVariants.{Plain, Address}
use Rattle.cc_types.specs.declared.shape.Shape.TheVariants as shape
use Rattle.cc_uses.specs.declared.put.Reach.{Reach}
use Rattle.cc_uses.specs.declared.put.Reach.TheVariants.{Itself, Inner}
use Rattle.cc_uses.specs.Putting.{put_from}

-- An lvalue of scalar type may have the slots that are its parts, one of struct type those that its parts are made of.
abbrev pub reach_of : Option ExprType → Option Reach
reach_of (Some (Address t)) = Some Itself
reach_of (Some (Plain (shape.Pointer k t))) = Some Itself
reach_of (Some (Plain (shape.Integer k i))) = Some Itself
reach_of (Some (Plain (shape.Struct k id))) = Some Inner
reach_of t = None

-- how many parts, from a part on, it is about: those that a part is made of come next
abbrev pub reached : Reach → Part → ℕ
reached Itself x = 1
reached Inner x = x.size

abbrev pub access : ℕ → ℕ → ℕ → Access
access point slot occurrence = record { point = point; slot = slot; occurrence = occurrence }

abbrev pub with_slot : Access → Form → List Access → List Access
with_slot a f out = if is_scalar f then out ++ a ∷ [] else out

-- with the part q, if it is a slot
abbrev pub put_slot : ℕ → ℕ → ℕ → Part → List Access → List Access
put_slot point l q x out = with_slot (access point q l) x.form out

-- with those by the part q, where these are the parts from it on
abbrev pub with_part : Reach → ℕ → ℕ → List Part → ℕ → List Access → List Access
with_part r point l [] q out = out
with_part r point l (x ∷ xs) q out = put_from (put_slot point l) (take (reached r x) (x ∷ xs)) q out

-- with those that the lvalue l has by these parts, the first of which is the q-th
abbrev pub with_parts : Facts → Reach → ℕ → ℕ → List Part → ℕ → List Access → List Access
with_parts F r point l [] q out = out
with_parts F r point l (x ∷ xs) q out = with_parts F r point l xs (q + 1) (if has_part F l q then with_part r point l (x ∷ xs) q out else out)

-- with all slots that the lvalue l may have, at a point, if there is one
abbrev pub with_lvalue : Facts → Option Reach → Option ℕ → ℕ → List Access → List Access
with_lvalue F (Some r) (Some point) l out = with_parts F r point l F.parts.parts 0 out
with_lvalue F (Some r) None l out = out
with_lvalue F None point l out = out

-- the least part of the lvalue l from a number on, below a count, if there is one
abbrev pub IsNextPart : Facts → ℕ → ℕ → ℕ → Option ℕ → Type 0
IsNextPart F count l from (Some q) = (from ≤ q) × (q < count) × (has_part F l q ≡ true) × ((u : ℕ) → from ≤ u → u < q → has_part F l u ≡ false)
IsNextPart F count l from None = (u : ℕ) → from ≤ u → u < count → has_part F l u ≡ false
