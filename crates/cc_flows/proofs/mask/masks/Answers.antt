use Rattle.std.proofs.Common.{◌≡◌, ◌<◌, ◌∷◌, [], List, ℕ, zero, suc, refl, take, length, slice_index_or, ◌∙◌, arith, length-set}
use Rattle.std.proofs.lemmas.Option.{slice_get-get_or, slice_get_read}
use Rattle.cc_flows.specs.declared.mask.Touch.{Touch}
use Rattle.cc_rows.proofs.Gained.{contains_at}
use Rattle.cc_flows.proofs.Lists.{take_next}
use Rattle.cc_flows.proofs.Masking.{masks_on}
use Rattle.cc_flows.proofs.mask.masks.Goals as goal

taken : (ds : List Touch) (k : ℕ) → k < length ds → length (take k ds) ≡ k
taken ds zero lt = refl
taken [] (suc k) lt = absurd (omega arith)
taken (d ∷ ds) (suc k) lt = omega (arith, taken ds k (omega arith))

pub index-requires : goal.index-requires
index-requires c =
    let items = c.args.definitions.now in
    let d : Touch = slice_index_or items c.loop-i.i (record { point = 0; slot = 0; node = 0; object = 0 }) in
    let at = slice_get-get_or items c.loop-i.i (record { point = 0; slot = 0; node = 0; object = 0 }) c.loop-i-test.true in
    let lt = c.requires.slots d (contains_at items c.loop-i.i d at) in
    omega (arith, c.loop-i.invariant.long)

pub index_mut-requires : goal.index_mut-requires
index_mut-requires c =
    let items = c.args.definitions.now in
    let d : Touch = slice_index_or items c.loop-i.i (record { point = 0; slot = 0; node = 0; object = 0 }) in
    let at = slice_get-get_or items c.loop-i.i (record { point = 0; slot = 0; node = 0; object = 0 }) c.loop-i-test.true in
    let lt = c.requires.slots d (contains_at items c.loop-i.i d at) in
    omega (arith, c.loop-i.invariant.long)

pub loop-i-preserved : goal.loop-i-preserved
loop-i-preserved c =
    let items = c.args.definitions.now in
    let k = c.loop-i.i in
    let masks = c.loop-i.masks.items in
    let d : Touch = slice_index_or items k (record { point = 0; slot = 0; node = 0; object = 0 }) in
    let at = slice_get-get_or items k (record { point = 0; slot = 0; node = 0; object = 0 }) c.loop-i-test.true in
    let lt = c.requires.slots d (contains_at items k d at) in
    let old = slice_get_read masks (length masks) d.slot c.index.result.now refl (omega (arith, c.loop-i.invariant.long)) c.index.ensures in
    record {
      long = length-set masks d.slot c.set.new.self ∙ c.loop-i.invariant.long;
      exact = rw (take_next items k d at) (masks_on masks c.index.result.now c.set.new.self (take k items) d k (taken items k c.loop-i-test.true) old c.set.ensures.at c.set.ensures.others c.loop-i.invariant.exact);
    }
