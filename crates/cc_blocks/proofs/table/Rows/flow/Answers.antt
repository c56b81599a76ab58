use Rattle.std.proofs.Common.{rules, ◌≡◌, ◌≢◌, ℕ, ◌+◌, ◌-◌, ◌*◌, ◌/◌, ◌%◌, ◌<◌, ◌≤◌, max, length, Bool, true, false, List, [], ◌∷◌, ◌++◌, slice_index_or, slice_set, refl, sym, ap, ◌∙◌, subst, arith, length-set}
use Rattle.std.specs.Prelude.{slice_get}
use Rattle.std.proofs.lemmas.Option.{slice_get_read, slice_get-get_or}
use Rattle.cc_blocks.specs.declared.row.Row.{Row}
use Rattle.cc_blocks.specs.Cells.{row_bit, row_size, block_bit}
use Rattle.cc_blocks.specs.Pairs.{pair_bit, pair_count}
use Rattle.cc_blocks.proofs.Ranks
use Rattle.cc_blocks.proofs.Tables
use Rattle.cc_blocks.proofs.table.Rows.flow.Goals as goal

pub returns-clause-at : goal.returns-clause-at
returns-clause-at c =
    let rows = c.args.self.now.rows.items in
    let to = c.args.to in
    let from = c.args.from in
    let g = c.in_ok-added.ensures in
    let old = c.index_mut.result.now in
    let emptied : List Row = slice_set rows to c.replace-row.new.dest in
    let is : (t : ℕ) → row_bit c.replace-row.result.cells.items t ≡ pair_bit rows to t = λ t. ap (λ (r : Row). row_bit r.cells.items t) c.replace-row.ensures.value ∙ Tables.row_is rows to t old c.requires.here c.index_mut.ensures.value in
    let source : (t : ℕ) → row_bit c.index.result.now.cells.items t ≡ pair_bit rows from t = λ t. Tables.row_is emptied from t c.index.result.now (omega (arith, length-set rows to c.replace-row.new.dest, c.requires.from)) c.index.ensures ∙ Tables.pair_bit-set_other rows to from c.replace-row.new.dest t c.requires.apart in
    λ t. ap (λ rs. pair_bit rs to t) (Tables.set_twice rows to c.replace-row.new.dest c.give-added.new.self) ∙ omega (arith, Tables.pair_bit-set_at rows to c.give-added.new.self t c.requires.here, g.targets t, is t, source t)

pub returns-clause-others : goal.returns-clause-others
returns-clause-others c = λ h t ne. Tables.pair_bit-set_twice c.args.self.now.rows.items c.args.to h c.replace-row.new.dest c.give-added.new.self t ne

pub returns-clause-fresh_at : goal.returns-clause-fresh_at
returns-clause-fresh_at c =
    let rows = c.args.self.now.rows.items in
    let to = c.args.to in
    let from = c.args.from in
    let g = c.in_ok-added.ensures in
    let old = c.index_mut.result.now in
    let emptied : List Row = slice_set rows to c.replace-row.new.dest in
    let is : (t : ℕ) → row_bit c.replace-row.result.cells.items t ≡ pair_bit rows to t = λ t. ap (λ (r : Row). row_bit r.cells.items t) c.replace-row.ensures.value ∙ Tables.row_is rows to t old c.requires.here c.index_mut.ensures.value in
    let source : (t : ℕ) → row_bit c.index.result.now.cells.items t ≡ pair_bit rows from t = λ t. Tables.row_is emptied from t c.index.result.now (omega (arith, length-set rows to c.replace-row.new.dest, c.requires.from)) c.index.ensures ∙ Tables.pair_bit-set_other rows to from c.replace-row.new.dest t c.requires.apart in
    let other = c.args.fresh.now.rows.items in
    let is' = λ (t : ℕ). Tables.row_is other to t c.index_mut-2.result.now c.requires.there c.index_mut-2.ensures.value in
    λ t. omega (arith, Tables.pair_bit-set_at other to c.give-added.new.fresh t c.requires.there, g.fresh t, is t, is' t, source t)

pub returns-clause-fresh_others : goal.returns-clause-fresh_others
returns-clause-fresh_others c = λ h t ne. Tables.pair_bit-set_other c.args.fresh.now.rows.items c.args.to h c.give-added.new.fresh t ne

pub returns-clause-count : goal.returns-clause-count
returns-clause-count c =
    let rows = c.args.self.now.rows.items in
    let to = c.args.to in
    let from = c.args.from in
    let g = c.in_ok-added.ensures in
    let old = c.index_mut.result.now in
    let emptied : List Row = slice_set rows to c.replace-row.new.dest in
    let is : (t : ℕ) → row_bit c.replace-row.result.cells.items t ≡ pair_bit rows to t = λ t. ap (λ (r : Row). row_bit r.cells.items t) c.replace-row.ensures.value ∙ Tables.row_is rows to t old c.requires.here c.index_mut.ensures.value in
    let source : (t : ℕ) → row_bit c.index.result.now.cells.items t ≡ pair_bit rows from t = λ t. Tables.row_is emptied from t c.index.result.now (omega (arith, length-set rows to c.replace-row.new.dest, c.requires.from)) c.index.ensures ∙ Tables.pair_bit-set_other rows to from c.replace-row.new.dest t c.requires.apart in
    let at = slice_get_read rows (length rows) to old refl c.requires.here c.index_mut.ensures.value in
    let size : row_size c.replace-row.result.cells.items ≡ row_size old.cells.items = ap (λ (r : Row). row_size r.cells.items) c.replace-row.ensures.value in
    ap pair_count (Tables.set_twice rows to c.replace-row.new.dest c.give-added.new.self) ∙ omega (arith, Tables.pair_count-set rows to old c.give-added.new.self at, g.count)

pub returns-clause-some : goal.returns-clause-some
returns-clause-some c =
    let rows = c.args.self.now.rows.items in
    let to = c.args.to in
    let from = c.args.from in
    let g = c.in_ok-added.ensures in
    let old = c.index_mut.result.now in
    let emptied : List Row = slice_set rows to c.replace-row.new.dest in
    let is : (t : ℕ) → row_bit c.replace-row.result.cells.items t ≡ pair_bit rows to t = λ t. ap (λ (r : Row). row_bit r.cells.items t) c.replace-row.ensures.value ∙ Tables.row_is rows to t old c.requires.here c.index_mut.ensures.value in
    let source : (t : ℕ) → row_bit c.index.result.now.cells.items t ≡ pair_bit rows from t = λ t. Tables.row_is emptied from t c.index.result.now (omega (arith, length-set rows to c.replace-row.new.dest, c.requires.from)) c.index.ensures ∙ Tables.pair_bit-set_other rows to from c.replace-row.new.dest t c.requires.apart in
    λ more. let s = g.some more in (s.0, sym (source s.0) ∙ s.1, sym (is s.0) ∙ s.2)

pub returns-clause-none : goal.returns-clause-none
returns-clause-none c =
    let rows = c.args.self.now.rows.items in
    let to = c.args.to in
    let from = c.args.from in
    let g = c.in_ok-added.ensures in
    let old = c.index_mut.result.now in
    let emptied : List Row = slice_set rows to c.replace-row.new.dest in
    let is : (t : ℕ) → row_bit c.replace-row.result.cells.items t ≡ pair_bit rows to t = λ t. ap (λ (r : Row). row_bit r.cells.items t) c.replace-row.ensures.value ∙ Tables.row_is rows to t old c.requires.here c.index_mut.ensures.value in
    let source : (t : ℕ) → row_bit c.index.result.now.cells.items t ≡ pair_bit rows from t = λ t. Tables.row_is emptied from t c.index.result.now (omega (arith, length-set rows to c.replace-row.new.dest, c.requires.from)) c.index.ensures ∙ Tables.pair_bit-set_other rows to from c.replace-row.new.dest t c.requires.apart in
    λ z t. omega (arith, g.none z t, is t, source t)
