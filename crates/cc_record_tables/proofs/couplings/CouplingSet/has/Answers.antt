use Rattle.std.proofs.Common.{◌≡◌, ◌∙◌, ap, sym}
use Rattle.std.specs.List.{list_any}
use Rattle.cc_record_tables.specs.declared.couplings.Key.{Key}
use Rattle.cc_record_tables.specs.Keys.{key_of, same_key}
use Rattle.cc_record_tables.proofs.KeyFacts.{has_is}
use Rattle.cc_record_tables.proofs.couplings.CouplingSet.has.Goals as goal

pub returns : goal.returns
returns c =
    let keys = c.args.self.now.keys.keys in
    let is = has_is keys c.args.coupling.now in
    let found : c.contains.result ≡ list_any (same_key (key_of c.args.coupling.now)) keys = c.contains.ensures ∙ ap (λ (k : Key). list_any (same_key k) keys) c.key_of.ensures in
    (λ h. is.0 (sym found ∙ h), λ h. found ∙ is.1 h)
