-- Which sites in live functions may call which functions, as a list.
use Rattle.std.specs.Prelude.{ℕ, List, [], ◌∷◌, ◌++◌}
use Rattle.cc_across.specs.declared.calls.Calls.{Calls}
use Rattle.cc_across.specs.Calling.{callees_of}
use Rattle.cc_handing.specs.declared.site.Site.{Site}

abbrev pub pair : ℕ → ℕ → Site
pair site callee = record { site = site; callee = callee }

-- with the site and each of these functions
abbrev pub with_callees : ℕ → List ℕ → List Site → List Site
with_callees site [] pairs = pairs
with_callees site (g ∷ callees) pairs = with_callees site callees (pairs ++ pair site g ∷ [])

-- with each of these sites and what it may call
abbrev pub with_sites : Calls → List ℕ → List Site → List Site
with_sites C [] pairs = pairs
with_sites C (s ∷ sites) pairs = with_sites C sites (with_callees s (callees_of C s) pairs)

-- each site in a live function with each function that it may call
abbrev pub pairs_of : Calls → List Site
pairs_of C = with_sites C C.sites.items []
