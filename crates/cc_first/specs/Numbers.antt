-- The numbers of a program's points, and the edges between them. The point of a function's entry has the function's
-- number, that of its exit stands behind all entries, and behind all exits stands for each call the point after it.
use Rattle.std.specs.Prelude.{◌≡◌, ◌<◌, ◌+◌, ◌-◌, ◌*◌, ◌==◌, ◌⊎◌, ℕ, zero, suc, List, [], ◌∷◌, Bool, true, not, Option, Some, None, slice_get, if◌then◌else◌}
use Rattle.cc_base.specs.declared.reach.Edge.{Edge}
use Rattle.cc_base.specs.Edges.{IsMarked}
use Rattle.cc_first.specs.declared.program.Call.{Call}

-- how many of the first k calls stand in function f
abbrev pub place : List Call → ℕ → ℕ → ℕ
place [] k f = 0
place (call ∷ calls) zero f = 0
place (call ∷ calls) (suc k) f = if call.caller == f then suc (place calls k f) else place calls k f

-- the call before call k
abbrev pub previous : List Call → ℕ → Option Call
previous calls zero = None
previous calls (suc k) = slice_get calls k

abbrev pub point_before : ℕ → ℕ → Option Call → Option Call → ℕ
point_before functions k None earlier = 0
point_before functions k (Some call) None = call.caller
point_before functions k (Some call) (Some earlier) = if earlier.caller == call.caller then 2 * functions + (k - 1) else call.caller

-- the point from which a path comes to call k: after the call before it in its body, or its function's entry
abbrev pub before_of : ℕ → List Call → ℕ → ℕ
before_of functions calls k = point_before functions k (slice_get calls k) (previous calls k)

abbrev pub ends_body : Option Call → Option Call → Bool
ends_body None later = true
ends_body (Some call) None = true
ends_body (Some call) (Some later) = not (later.caller == call.caller)

-- call k is the last one in its body
abbrev pub is_last_call : List Call → ℕ → Bool
is_last_call calls k = ends_body (slice_get calls k) (slice_get calls (k + 1))

-- a call gives an edge into the called function, one to the exit if it is the last in its body, and one back to behind
-- it if its function is live
abbrev pub IsEdgeOf : ℕ → List Call → List Bool → ℕ → Edge → Type 0
IsEdgeOf functions calls live k edge =
    (call : Call) × (slice_get calls k ≡ Some call)
    × ((edge ≡ record { from = before_of functions calls k; to = call.callee })
    ⊎ (((is_last_call calls k ≡ true) × (edge ≡ record { from = 2 * functions + k; to = functions + call.caller }))
    ⊎ (IsMarked live call.caller × (edge ≡ record { from = functions + call.callee; to = 2 * functions + k }))))

-- function f has a call
abbrev pub HasCall : List Call → ℕ → Type 0
HasCall calls f = (k : ℕ) × (call : Call) × (slice_get calls k ≡ Some call) × (call.caller ≡ f)

-- a function without calls gives an edge from its entry to its exit
abbrev pub IsThrough : ℕ → List Call → ℕ → Edge → Type 0
IsThrough functions calls f edge = (f < functions) × (HasCall calls f → ⊥) × (edge ≡ record { from = f; to = functions + f })
