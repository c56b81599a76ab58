-- The rows of edges.
use Rattle.std.proofs.Common.{◌≡◌, ℕ, ◌<◌, ⊎_elim, List, [], ◌∷◌, ◌++◌, length, slice_index_or, Some, sym, ap, ◌∙◌, subst, arith}
use Rattle.std.specs.Prelude.{slice_get, slice_set, Contains, All}
use Rattle.std.specs.declared.vec.Vec.{Vec}
use Rattle.std.specs.declared.alloc.Global.{Global}
use Rattle.std.proofs.lemmas.Bool.{cases_eq}
use Rattle.std.proofs.lemmas.Option.{slice_get_within}
use Rattle.std.proofs.lemmas.List.Elements.{All-contains, Contains-get_or, Contains-push, Contains-push_cases, Contains-append_left}
use Rattle.cc_base.specs.declared.reach.Edge.{Edge}
use Rattle.cc_base.specs.Edges.{AreBelow, Leads}
use Rattle.cc_base.specs.Search.{Rows, HasEdge, AreRowsOf, StaysWithin}
use Rattle.cc_base.proofs.Lists.{Contains-nil, slice_get-set_same, slice_get-set_other, slice_get-push_cases}

-- what comes next after a point stands in its row
pub row_has : (rows : Rows) (a b : ℕ) (row : Vec ℕ Global) → slice_get rows a ≡ Some row → HasEdge rows a b → Contains row.items b
row_has rows a b row at edge =
    let same : edge.row ≡ row = (let p = edge.at in let q = at in cc) in
    subst (λ (r : Vec ℕ Global). Contains r.items b) same edge.has

-- the points of a row have rows
pub row_stays_within : (rows : Rows) (a : ℕ) (row : Vec ℕ Global) (count : ℕ) → StaysWithin rows → slice_get rows a ≡ Some row → count ≡ length rows → All (λ b. b < count) row.items
row_stays_within rows a row count stays at is k default inside =
    omega (arith, stays a (slice_index_or row.items k default) (record { row = row; at = at; has = Contains-get_or row.items k default inside }), is)

-- one more row that is empty gives no edge
pub no_edge_more : (rows : Rows) (row : Vec ℕ Global) → row.items ≡ [] → ((a b : ℕ) → HasEdge rows a b → ⊥) → (a b : ℕ) → HasEdge (rows ++ row ∷ []) a b → ⊥
no_edge_more rows row empty none a b edge = ⊎_elim
    (λ at. none a b (record { row = edge.row; at = at; has = edge.has }))
    (λ same. Contains-nil b (subst (λ xs. Contains xs b) empty (subst (λ (r : Vec ℕ Global). Contains r.items b) (sym same) edge.has)))
    (slice_get-push_cases rows row a edge.row edge.at)

-- rows without an edge are those of no edges
pub rows_of_none : (rows : Rows) → ((a b : ℕ) → HasEdge rows a b → ⊥) → AreRowsOf [] rows
rows_of_none rows none a b = (λ edge. absurd (none a b edge), λ leads. absurd (Contains-nil (record { from = a; to = b }) leads))

-- an edge more: its end goes into the row of its beginning
pub rows_of_more : (edges : List Edge) (edge : Edge) (rows : Rows) (row row' : Vec ℕ Global) → slice_get rows edge.from ≡ Some row → row'.items ≡ row.items ++ edge.to ∷ [] → AreRowsOf edges rows → AreRowsOf (edges ++ edge ∷ []) (slice_set rows edge.from row')
rows_of_more edges edge rows row row' at pushed exact a b = (leads, has_edge)
  where
    rows' : Rows
    rows' = slice_set rows edge.from row'

    at' : slice_get rows' edge.from ≡ Some row'
    at' = slice_get-set_same rows edge.from row' (slice_get_within rows edge.from row at)

    leads_still : HasEdge rows a b → Leads (edges ++ edge ∷ []) a b
    leads_still e = Contains-append_left edges (edge ∷ []) (record { from = a; to = b }) ((exact a b).0 e)

    leads_from_row : a ≡ edge.from → Contains (row.items ++ edge.to ∷ []) b → Leads (edges ++ edge ∷ []) a b
    leads_from_row same has = ⊎_elim
        (λ old. leads_still (record { row = row; at = ap (slice_get rows) same ∙ at; has = old }))
        (λ new. subst (Contains (edges ++ edge ∷ [])) (ap (λ x. record { from = x; to = edge.to }) (sym same) ∙ ap (λ y. record { from = a; to = y }) new) (Contains-push edges edge))
        (Contains-push_cases row.items edge.to b has)

    leads : HasEdge rows' a b → Leads (edges ++ edge ∷ []) a b
    leads e = ⊎_elim
        (λ same. leads_from_row same (subst (λ xs. Contains xs b) pushed (row_has rows' a b row' (ap (slice_get rows') same ∙ at') e)))
        (λ other. leads_still (record { row = e.row; at = sym (slice_get-set_other rows edge.from a row' other) ∙ e.at; has = e.has }))
        (cases_eq a edge.from)

    has_from_row : edge.from ≡ a → Contains (row.items ++ edge.to ∷ []) b → HasEdge rows' a b
    has_from_row same has = record { row = row'; at = ap (slice_get rows') (sym same) ∙ at'; has = subst (λ xs. Contains xs b) (sym pushed) has }

    has_still : HasEdge rows a b → HasEdge rows' a b
    has_still e = ⊎_elim
        (λ same. has_from_row (sym same) (Contains-append_left row.items (edge.to ∷ []) b (row_has rows a b row (ap (slice_get rows) same ∙ at) e)))
        (λ other. record { row = e.row; at = slice_get-set_other rows edge.from a row' other ∙ e.at; has = e.has })
        (cases_eq a edge.from)

    has_edge : Leads (edges ++ edge ∷ []) a b → HasEdge rows' a b
    has_edge l = ⊎_elim
        (λ old. has_still ((exact a b).1 old))
        (λ is. has_from_row (ap (λ (e : Edge). e.from) is) (subst (Contains (row.items ++ edge.to ∷ [])) (ap (λ (e : Edge). e.to) is) (Contains-push row.items edge.to)))
        (Contains-push_cases edges edge (record { from = a; to = b }) l)

-- the rows of edges below a number lead to points below it
pub rows_stay_within : (points : ℕ) (edges : List Edge) (rows : Rows) → AreBelow points edges → length rows ≡ points → AreRowsOf edges rows → StaysWithin rows
rows_stay_within points edges rows below long exact a b edge =
    let here = All-contains (λ (e : Edge). (e.from < points) × (e.to < points)) edges (record { from = a; to = b }) below ((exact a b).0 edge) in
    let to = here.1 in
    omega arith
