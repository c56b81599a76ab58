-- Acts whose points have ranks, which fall along the ways on which no turn is taken.
use Rattle.std.specs.Prelude.{◌≡◌, ℕ, ◌<◌, List, [], ◌∷◌, Option, Some, None, Bool, true, false, take, drop, slice_get}
use Rattle.cc_acts.specs.declared.act.Act.{Act}
use Rattle.cc_acts.specs.declared.act.Act.TheVariants as acts
use Rattle.cc_acts.specs.declared.acts.Acts.{Acts}
use Rattle.cc_acts.specs.declared.acts.Case.{Case}
use Rattle.cc_acts.specs.declared.acts.Node.{Node}
use Rattle.cc_ends_laws.specs.declared.ways.Ways.{Ways}
use Rattle.cc_ends_laws.specs.declared.ways.Ways.TheVariants.{Nowhere, One, Two, Cases}

-- The points of its own activation to which an act may lead. After a call the caller goes on at one; an activation's end
-- leads to none.
abbrev pub ways_of : Act → Ways
ways_of (acts.Skip next) = One next
ways_of (acts.Constant occ v next) = One next
ways_of (acts.Hand occ next) = One next
ways_of (acts.Name occ object gives next) = One next
ways_of (acts.Target occ gives next) = One next
ways_of (acts.Element occ gives next) = One next
ways_of (acts.Member occ lvalue cells offset gives next) = One next
ways_of (acts.Forget next) = One next
ways_of (acts.Convert occ to next) = One next
ways_of (acts.Unary occ op kind next) = One next
ways_of (acts.Truth occ is_negated next) = One next
ways_of (acts.Binary occ operator next) = One next
ways_of (acts.Store lvalue occ to next) = One next
ways_of (acts.Copy lvalue occ count next) = One next
ways_of (acts.Update lvalue occ operator to next) = One next
ways_of (acts.Step lvalue occ operator to is_after next) = One next
ways_of (acts.Branch one other) = Two one other
ways_of (acts.Shortcut occ when right next) = Two right next
ways_of (acts.Select kind from count other) = Cases from count other
ways_of (acts.Call occ count is_used next) = One next
ways_of (acts.Ask occ callee count result next) = One next
ways_of (acts.Enter callee from formals names next) = One next
ways_of (acts.Leave names) = Nowhere
ways_of (acts.Return occ to next) = One next
ways_of (acts.ReturnNone occ next) = One next
ways_of (acts.Make declarator cells name next) = One next
ways_of (acts.Init declarator name to next) = One next
ways_of (acts.Fill declarator name from fillers count next) = One next
ways_of (acts.Drop from count next) = One next

-- each of the labels leads to such a point
abbrev pub AllCases : (ℕ → Type 0) → List Case → Type 0
AllCases P [] = Unit {0}
AllCases P (c ∷ cs) = P c.point × AllCases P cs

-- each of the ways leads to such a point, among these labels of switches
abbrev pub AllWays : (ℕ → Type 0) → List Case → Ways → Type 0
AllWays P cases Nowhere = Unit {0}
AllWays P cases (One next) = P next
AllWays P cases (Two one other) = P one × P other
AllWays P cases (Cases from count other) = P other × AllCases P (take count (drop from cases))

abbrev pub rank_by : Option ℕ → ℕ
rank_by None = 0
rank_by (Some r) = r

-- the rank of a point, by the list of ranks
abbrev pub rank : List ℕ → ℕ → ℕ
rank ranks p = rank_by (slice_get ranks p)

-- what the ranks of the points that come next stay below: where no turn is taken, the point's own rank
abbrev pub limit : Bool → ℕ → ℕ → ℕ
limit true steps r = steps
limit false steps r = r

-- the act leads to points of ranks below the limit
pub record LeadsDown (ranks : List ℕ) (cases : List Case) (limit : ℕ) (act : Act) : Type 0 where
  pub above : 0 < limit
  pub ways : AllWays (λ q. rank ranks q < limit) cases (ways_of act)

-- Each point has a rank, an entry the rank 0. From a point of a rank below the number of steps each way leads to such a
-- point, and where no turn is taken, to one of a smaller rank. So points of other ranks are never come to.
pub record AreRanked (G : Acts) (steps : ℕ) (ranks : List ℕ) : Type 0 where
  pub some : 0 < steps
  pub entries : (f e : ℕ) → slice_get G.entries f ≡ Some (Some e) → rank ranks e ≡ 0
  pub points : (p : ℕ) (n : Node) → slice_get G.nodes p ≡ Some n → rank ranks p < steps → LeadsDown ranks G.cases (limit n.takes_turn steps (rank ranks p)) n.act

-- The points of the acts have such ranks: a run takes at most so many steps for each of its turns, and one more.
abbrev pub HaveRanks : Acts → ℕ → Type 0
HaveRanks G steps = (ranks : List ℕ) × AreRanked G steps ranks
