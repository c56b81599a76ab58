use Rattle.std.proofs.Common.{◌≡◌, List, [], ◌∷◌, ℕ, true, false, ap, sym, ◌∙◌}
use Rattle.cc_tables.specs.Tables.{score_header}
use Rattle.cc_tables.proofs.Put.{put_same}
use Rattle.cc_tables.proofs.score.put_header.Goals as goal

pub returns-then-justifies : goal.returns-then-justifies
returns-then-justifies c =
    let fields : List (List ℕ) = c.as_bytes.result.now ∷ c.as_bytes-then-justifies.result.now ∷ c.as_bytes-then-justifies-2.result.now
    ∷ c.as_bytes-then-justifies-3.result.now ∷ c.as_bytes-then-justifies-4.result.now ∷ c.as_bytes-then-justifies-5.result.now
    ∷ c.as_bytes-then-justifies-6.result.now ∷ c.as_bytes-then-justifies-7.result.now ∷ c.as_bytes-then-justifies-8.result.now ∷ [] in
    let same : fields ≡ score_header true = cc in
    put_same c.put.result c.args.records.now c.put.new.records fields (score_header c.args.justifies) (same ∙ ap score_header (sym c.if-justifies.true)) c.put.ensures

pub returns-else-justifies : goal.returns-else-justifies
returns-else-justifies c =
    let fields : List (List ℕ) = c.as_bytes-else-justifies.result.now ∷ c.as_bytes-else-justifies-2.result.now ∷ c.as_bytes-else-justifies-3.result.now
    ∷ c.as_bytes-else-justifies-4.result.now ∷ c.as_bytes-else-justifies-5.result.now ∷ c.as_bytes-else-justifies-6.result.now
    ∷ c.as_bytes-else-justifies-7.result.now ∷ c.as_bytes-else-justifies-8.result.now ∷ [] in
    let same : fields ≡ score_header false = cc in
    put_same c.put-else-justifies.result c.args.records.now c.put-else-justifies.new.records fields (score_header c.args.justifies) (same ∙ ap score_header (sym c.if-justifies.false)) c.put-else-justifies.ensures
