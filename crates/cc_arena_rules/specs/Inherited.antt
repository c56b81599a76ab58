-- What each node has from the node that it is a part of. Answers stand in a list that begins with that for the node `start`.
use Rattle.std.specs.Prelude.{ℕ, ◌+◌, ◌-◌, ◌≡◌, nat_le, if◌then◌else◌, List, [], ◌∷◌, ◌++◌, Option, Some, None, length, slice_get, take}
use Rattle.cc_arena.specs.declared.arena.Placed.{Placed}

-- the answer for the node k, if it is there
abbrev pub answer_at : {V : Type 0} → List V → ℕ → ℕ → Option V
answer_at done start k = if nat_le start k then slice_get done (k - start) else None

-- the answers for the nodes from the n-th on, after those that are there; a node's is made of its parent's, if that is there
abbrev pub inherited_from : {V : Type 0} → (ℕ → Placed → Option V → V) → ℕ → List Placed → ℕ → List V → List V
inherited_from step start [] n done = done
inherited_from step start (x ∷ xs) n done = inherited_from step start xs (n + 1) (done ++ step n x (answer_at done start x.parent) ∷ [])

-- each node's answer is the step's, of the answer that its parent has, if the parent stands before it
pub record IsInherited {V : Type 0} (step : ℕ → Placed → Option V → V) (start : ℕ) (nodes : List Placed) (answers : List V) : Type 0 where
  pub long : length answers ≡ length nodes
  pub each : (i : ℕ) (x : Placed) → slice_get nodes i ≡ Some x
      → slice_get answers i ≡ Some (step (start + i) x (answer_at (take i answers) start x.parent))
