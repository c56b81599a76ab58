use Rattle.std.proofs.Common.{◌≡◌, ◌∷◌, [], ℕ, length, ◌∙◌, subst, arith, length-append}
use Rattle.std.specs.Prelude.{◌↔◌}
use Rattle.std.proofs.lemmas.List.{get_or_default}
use Rattle.cc_blocks.specs.Bits.{bit}
use Rattle.cc_flows.specs.Masks.{IsWiped, row_of}
use Rattle.cc_flows.proofs.Masking.{AreClears, clears_on, clears_all}
use Rattle.cc_flows.proofs.mask.clears.Goals as goal

pub loop-row-preserved : goal.loop-row-preserved
loop-row-preserved c =
    let k = c.loop-row.row-index in
    let wipes = c.args.wipes.now in
    let row : c.as_slice.result.now ≡ row_of wipes k = c.as_slice.ensures ∙ c.row-item.is ∙ get_or_default wipes k c.row-item.result [] c.loop-row-test.true in
    record {
      long = rw c.in_ok-push.ensures.items (omega (arith, length-append c.loop-row.clears.items (c.clear_of.result ∷ []), c.loop-row.invariant.long));
      exact = rw c.in_ok-push.ensures.items (clears_on c.args.masks.now wipes c.loop-row.clears.items c.clear_of.result k c.loop-row.invariant.long
          (subst (λ xs. (i : ℕ) → (bit c.clear_of.result i ≡ 1) ↔ IsWiped c.args.masks.now xs i) row c.clear_of.ensures) c.loop-row.invariant.exact);
    }

pub returns-clause-exact : goal.returns-clause-exact
returns-clause-exact c =
    let all : c.loop-row.row-index ≡ length c.args.wipes.now = omega arith in
    clears_all c.args.masks.now c.args.wipes.now c.loop-row.clears.items (c.loop-row.invariant.long ∙ all)
    (subst (AreClears c.args.masks.now c.args.wipes.now c.loop-row.clears.items) all c.loop-row.invariant.exact)
