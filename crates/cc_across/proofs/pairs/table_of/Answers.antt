use Rattle.std.proofs.Common.{[], List, replicate, ap, ◌∙◌}
use Rattle.cc_across.specs.Pairs.{Pair, tabled}
use Rattle.cc_across.proofs.Tabling.{table_long, table_exact, table_ascends}
use Rattle.cc_across.proofs.pairs.table_of.Goals as goal

pub returns-clause-long : goal.returns-clause-long
returns-clause-long c = table_long c.args.count c.arrange.new.rows.items c.in_ok-rows.rows.items
    (c.in_ok-rows.ensures ∙ ap (λ (ps : List Pair). tabled ps (replicate c.args.count [])) c.as_slice.ensures.value)

pub returns-clause-exact : goal.returns-clause-exact
returns-clause-exact c = table_exact c.args.count c.arrange.new.rows.items c.in_ok-rows.rows.items
    (c.in_ok-rows.ensures ∙ ap (λ (ps : List Pair). tabled ps (replicate c.args.count [])) c.as_slice.ensures.value) _ c.arrange.ensures.same

pub returns-clause-ascends : goal.returns-clause-ascends
returns-clause-ascends c = table_ascends c.args.count c.arrange.new.rows.items c.in_ok-rows.rows.items
    (c.in_ok-rows.ensures ∙ ap (λ (ps : List Pair). tabled ps (replicate c.args.count [])) c.as_slice.ensures.value) c.arrange.ensures.ascending
