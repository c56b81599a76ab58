use Rattle.std.proofs.Common.{◌≡◌, List, [], ◌∷◌, ℕ}
use Rattle.cc_tables.specs.Tables.{list_header}
use Rattle.cc_tables.proofs.Put.{put_same}
use Rattle.cc_tables.proofs.list.put_header.Goals as goal

pub returns : goal.returns
returns c =
    let fields : List (List ℕ) = c.as_bytes.result.now ∷ c.as_bytes-2.result.now ∷ c.as_bytes-3.result.now ∷ c.as_bytes-4.result.now
    ∷ c.as_bytes-5.result.now ∷ c.as_bytes-6.result.now ∷ c.as_bytes-7.result.now ∷ [] in
    let same : fields ≡ list_header = cc in
    put_same c.put.result c.args.records.now c.put.new.records fields list_header same c.put.ensures
