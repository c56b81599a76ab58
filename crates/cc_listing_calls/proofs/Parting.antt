-- The rows of one argument and of one return.
use Rattle.std.proofs.Common.{ℕ, ◌≡◌, List, [], ◌∷◌, Some, subst}
use Rattle.std.specs.Prelude.{slice_get}
use Rattle.cc_flows.specs.Masks.{row_of}
use Rattle.cc_rows.specs.Gains.{Each}
use Rattle.cc_rows.specs.declared.row.Row.{Row}
use Rattle.cc_listed.specs.declared.calls.Call.{Call}
use Rattle.cc_listed.specs.declared.calls.Argument.{Argument}
use Rattle.cc_listed.specs.declared.calls.Returned.{Returned}
use Rattle.cc_listing_calls.specs.declared.rows.Passing.{Passing}
use Rattle.cc_listing_calls.specs.declared.giving.Giving.{Giving}
use Rattle.cc_listing_calls.specs.Rows.{definitions_of, OfFormal, OfArgument}
use Rattle.cc_listing_calls.specs.Givings.{IsReturnOf, OfReturned}

module _ (P : Passing) (c : Call) (i : ℕ) (a : Argument) (at : slice_get P.arguments.now i ≡ Some a) where
  pub to_argument : (x : Row) → Each (row_of P.by_callee.now c.callee) (OfFormal P c a) x → OfArgument P c i x
  to_argument x w = (a, at, w)

  pub from_argument : (x : Row) → OfArgument P c i x → Each (row_of P.by_callee.now c.callee) (OfFormal P c a) x
  from_argument x w =
      let same : w.0 ≡ a = (let p = w.1 in let q = at in cc) in
      subst (λ (b : Argument). Each (row_of P.by_callee.now c.callee) (OfFormal P c b) x) same w.2

module _ (P : Giving) (c : Call) (i : ℕ) (r : Returned) (at : slice_get P.returns.now i ≡ Some r) where
  pub to_returned : (x : Row) → Each (definitions_of (r.statement ∷ []) P.sources.now r.named) (IsReturnOf c) x → OfReturned P c i x
  to_returned x w = (r, at, w)

  pub from_returned : (x : Row) → OfReturned P c i x → Each (definitions_of (r.statement ∷ []) P.sources.now r.named) (IsReturnOf c) x
  from_returned x w =
      let same : w.0 ≡ r = (let p = w.1 in let q = at in cc) in
      subst (λ (b : Returned). Each (definitions_of (b.statement ∷ []) P.sources.now b.named) (IsReturnOf c) x) same w.2
