use Rattle.std.proofs.Common.{◌≡◌, true, length, rules}
use Rattle.cc_listing.specs.Stepping as spec
use Rattle.cc_listing.proofs.Below.{all_stay}
use Rattle.cc_listing.proofs.stays.stays.Goals as goal

pub returns : goal.returns
returns c = λ is.
    let all : spec.all_below (length c.args.rows.now) c.args.rows.now ≡ true = search rules in
    all_stay c.args.rows.now all
