-- Records that are said in other words, and records behind records.
use Rattle.std.proofs.Common.{◌≡◌, List, ℕ, ◌++◌, OnOk, Result, Vec, Global, ap, sym, subst, ◌∙◌, append_assoc}
use Rattle.csv.specs.declared.writer.Writer.{Writer}
use Rattle.cc_tables.specs.Records.{IsFresh, record_text, written}

pub put_same : {A E : Type 0} (r : Result A E) (old new : Writer (Vec ℕ Global)) (fields others : List (List ℕ)) → fields ≡ others
    → OnOk r (IsFresh new × (written new ≡ written old ++ record_text fields))
    → OnOk r (IsFresh new × (written new ≡ written old ++ record_text others))
put_same r old new fields others same put = subst (λ (some : List (List ℕ)). OnOk r (IsFresh new × (written new ≡ written old ++ record_text some))) same put

-- what was written before, what is written now, and both as what is to be written
pub written_more : (old mid new before now all : List ℕ) → new ≡ mid ++ now → mid ≡ old ++ before → all ≡ before ++ now → new ≡ old ++ all
written_more old mid new before now all p q r =
    p ∙ (ap (λ text. text ++ now) q ∙ (append_assoc old before now ∙ ap (λ text. old ++ text) (sym r)))
