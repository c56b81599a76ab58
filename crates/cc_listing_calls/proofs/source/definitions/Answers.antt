use Rattle.std.proofs.Common.{List, ap, ◌++◌, ◌∙◌}
use Rattle.cc_listed.specs.declared.table.Access.{Access}
use Rattle.cc_listing_calls.proofs.Sourcing.{definitions_are}
use Rattle.cc_listing_calls.proofs.source.definitions.Goals as goal

pub returns : goal.returns
returns c =
    let u = c.args.uses in
    definitions_are u.writes.now u.given.now u.passed.now u.reads.now c.extend_from_slice-2.new.self.items
    (c.in_ok-extend_from_slice-2.ensures.items
    ∙ ap (λ (xs : List Access). xs ++ u.passed.now) (c.in_ok-extend_from_slice.ensures.items
    ∙ ap (λ (xs : List Access). xs ++ u.given.now) c.in_ok-out.ensures.items))
