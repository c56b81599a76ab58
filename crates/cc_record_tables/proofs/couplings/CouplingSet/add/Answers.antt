use Rattle.std.proofs.Common.{◌≡◌, ◌⊎◌, ap, sym, ◌∙◌, subst, List}
use Rattle.std.specs.Prelude.{◌↔◌, Contains}
use Rattle.indexmap.specs.IndexSet.{insert_key}
use Rattle.cc_record_tables.specs.declared.couplings.Key.{Key}
use Rattle.cc_record_tables.specs.Keys.{key_of, same_key}
use Rattle.cc_record_tables.proofs.KeyFacts.{added, couplings}
use Rattle.cc_record_tables.proofs.couplings.CouplingSet.add.Goals as goal

pub returns-clause-added : goal.returns-clause-added
returns-clause-added c = λ q.
    let old = c.args.self.now.keys.keys in
    let one = c.args.coupling.now in
    let keys : c.insert.new.self.keys ≡ insert_key same_key old (key_of one) = c.in_ok-insert.ensures.keys ∙ ap (λ (k : Key). insert_key same_key old k) c.key_of.ensures in
    subst (λ (l : List Key). Contains (couplings l) q ↔ Contains (couplings old) q ⊎ (q ≡ one)) (sym keys) (added old one q)
