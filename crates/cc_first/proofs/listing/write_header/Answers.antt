use Rattle.std.proofs.Common.{◌≡◌, List, [], ◌∷◌, ℕ}
use Rattle.cc_first.specs.ListingRows.{header_fields}
use Rattle.cc_first.proofs.ListingSteps.{header_more}
use Rattle.cc_first.proofs.listing.write_header.Goals as goal

pub returns : goal.returns
returns c =
    let says = c.write_fields.ensures in
    let fields : List (List ℕ) = c.as_slice.result.now ∷ c.as_slice-2.result.now ∷ c.as_slice-3.result.now ∷ c.as_slice-4.result.now
    ∷ c.as_slice-5.result.now ∷ c.as_slice-6.result.now ∷ c.as_slice-7.result.now ∷ [] in
    let same : fields ≡ header_fields = cc in
    header_more c.write_fields.result c.args.writer.now c.write_fields.new.self fields c.requires same says.bytes says.ended says.clean says.setup
