-- Rows that are listed, in the words of the code and in those of the definition.
use Rattle.std.proofs.Common.{◌≡◌, ℕ, List, [], Vec, Global, Result, Ok, Err, IfOk, subst}
use Rattle.cc_flows.specs.Sweeping.{Next}
use Rattle.cc_flows.specs.declared.flow.Found.{Found}
use Rattle.cc_listed.specs.declared.table.Access.{Access}
use Rattle.cc_listed.specs.declared.table.Tables.{Tables}
use Rattle.cc_listing_shared.specs.SharedRows.{AreListed, HasMoreListed}
use Rattle.cc_rows.specs.declared.stop.Stop.{Stop}

rows_as : (next : Next) (T T' : Tables) (W W' R R' : List Access) (rows : List Found) → T ≡ T' → W ≡ W' → R ≡ R'
    → AreListed next 0 T W [] [] R rows → AreListed next 0 T' W' [] [] R' rows
rows_as next T T' W W' R R' rows a b c listed =
    subst (λ (r : List Access). AreListed next 0 T' W' [] [] r rows) c
    (subst (λ (w : List Access). AreListed next 0 T' w [] [] R rows) b (subst (λ (t : Tables). AreListed next 0 t W [] [] R rows) a listed))

pub listed_as : (next : Next) (T T' : Tables) (W W' R R' : List Access) (r : Result (Vec Found Global) Stop) → T ≡ T' → W ≡ W' → R ≡ R'
    → IfOk r (λ rows. AreListed next 0 T W [] [] R rows.items) → IfOk r (λ rows. AreListed next 0 T' W' [] [] R' rows.items)
listed_as next T T' W W' R R' (Ok rows) a b c listed = rows_as next T T' W W' R R' rows.items a b c listed
listed_as next T T' W W' R R' (Err stop) a b c listed = tt

pub more_as : (next : Next) (T T' : Tables) (W W' R R' : List Access) (most : ℕ) → T ≡ T' → W ≡ W' → R ≡ R'
    → HasMoreListed next 0 T W [] [] R most → HasMoreListed next 0 T' W' [] [] R' most
more_as next T T' W W' R R' most a b c more =
    subst (λ (r : List Access). HasMoreListed next 0 T' W' [] [] r most) c
    (subst (λ (w : List Access). HasMoreListed next 0 T' w [] [] R most) b (subst (λ (t : Tables). HasMoreListed next 0 t W [] [] R most) a more))
