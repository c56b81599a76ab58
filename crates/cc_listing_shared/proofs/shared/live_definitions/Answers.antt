use Rattle.std.proofs.Common.{List, ap, ◌++◌, ◌∙◌}
use Rattle.cc_listed.specs.declared.table.Access.{Access}
use Rattle.cc_listing_shared.specs.Living.{is_live}
use Rattle.cc_listing_shared.proofs.Law.{live_both}
use Rattle.cc_listing_shared.proofs.shared.live_definitions.Goals as goal

pub returns : goal.returns
returns c = live_both (is_live c.args.tables.now c.args.root c.args.reach.now) c.args.uses.writes.now c.args.uses.given.now c.in_ok-out.out.items c.in_ok-more.more.items c.extend_from_slice.new.self.items
    c.in_ok-out.ensures c.in_ok-more.ensures (c.in_ok-extend_from_slice.ensures.items ∙ ap (λ (xs : List Access). c.in_ok-out.out.items ++ xs) c.as_slice.ensures.value)
