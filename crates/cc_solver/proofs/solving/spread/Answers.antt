use Rattle.std.proofs.Common.{◌≡◌, ℕ, ◌<◌, inl, inr, ⊎_elim, Some, None, Err, List, refl, sym, ap, ◌∙◌, arith}
use Rattle.std.specs.Prelude.{Option}
use Rattle.std.proofs.lemmas.Bool.{cases_lt}
use Rattle.cc_blocks.specs.declared.cell.Cell.{Cell}
use Rattle.cc_blocks.specs.Cells.{row_bit}
use Rattle.cc_blocks.specs.Pairs.{pair_bit}
use Rattle.cc_solver.specs.Solving.{Has, In}
use Rattle.cc_solver.proofs.Solved
use Rattle.cc_solver.proofs.solving.spread.Goals as goal
use Rattle.std.specs.Prelude.{IfSome}
use Rattle.std.proofs.lemmas.Result.{err_from_is_err_and}
use Rattle.cc_blocks.specs.Cells.{AreAscending}
use Rattle.cc_blocks.proofs.Ranks.{row_bit-high}

In_small : (cells : List Cell) (t : ℕ) → AreAscending 0 cells → In cells t → t < 4294967296
In_small cells t up is = elim (cases_lt t 4294967296) [
  | inl lt ↦ lt
  | inr ge ↦ absurd (let z = row_bit-high 0 cells t up ge in omega arith)
]

if_some_on : (r : Option ℕ) (P Q : ℕ → Type 0) → ((k : ℕ) → P k → Q k) → IfSome r P → IfSome r Q
if_some_on (Some x) P Q f p = f x p
if_some_on None P Q f p = p

pub loop-next-init : goal.loop-next-init
loop-next-init c =
    let s = c.args.state.now in
    let row = c.row.result.now in
    let next = c.first_at_or_after-next.result in
    let e = c.first_at_or_after-next.ensures in
    record {
      state = c.requires.state;
      keeps = Solved.keeps_refl s;
      spreads = record {
        same_edges = refl;
        only = λ h t is. inl is;
        news = λ h t is. inl is;
        fresh_kept = λ h t is. is;
        got = λ h t edge d. inl (Solved.due_first next row.cells.items h e.some e.none (c.row.ensures h ∙ edge));
      };
      is_edge = if_some_on next (In row.cells.items) (Has s.edges c.args.holder) (λ k is. sym (c.row.ensures k) ∙ is) (Solved.first_in next row.cells.items e.some);
    }

pub give-requires-clause-holder : goal.give-requires-clause-holder
give-requires-clause-holder c =
    let s = c.args.state.now in
    let cells = c.args.delta.now.cells.items in
    let to = c.in-Some.to in
    let edge : Has s.edges c.args.holder to = rw c.in-Some.is at c.loop-next.invariant.is_edge in
    omega (arith, c.requires.state.edges_within c.args.holder to edge, c.loop-next.invariant.keeps.same_length)

pub row-requires-in-Some : goal.row-requires-in-Some
row-requires-in-Some c =
    let n = c.in_ok-give.ensures.grows.same_length in
    omega (arith, c.in_ok-give.ensures.state.edges_length, c.loop-next.invariant.keeps.same_length)

pub loop-next-smaller : goal.loop-next-smaller
loop-next-smaller c =
    let s = c.args.state.now in
    let cells = c.args.delta.now.cells.items in
    let to = c.in-Some.to in
    let edge : Has s.edges c.args.holder to = rw c.in-Some.is at c.loop-next.invariant.is_edge in
    let e = c.in_ok-give.ensures in
    let row = c.row-in-Some.result.now in
    let same : c.give.new.state.edges.rows.items ≡ s.edges.rows.items = e.edges ∙ c.loop-next.invariant.spreads.same_edges in
    let bits : (k : ℕ) → row_bit row.cells.items k ≡ pair_bit s.edges.rows.items c.args.holder k = λ k. c.row-in-Some.ensures k ∙ ap (λ xs. pair_bit xs c.args.holder k) same in
    rw c.in-Some.is (Solved.left_less c.next_after-next.result row.cells.items to (In_small row.cells.items to row.ascending (bits to ∙ edge)) c.next_after-next.ensures.some)

pub loop-next-preserved : goal.loop-next-preserved
loop-next-preserved c =
    let s = c.args.state.now in
    let cells = c.args.delta.now.cells.items in
    let to = c.in-Some.to in
    let edge : Has s.edges c.args.holder to = rw c.in-Some.is at c.loop-next.invariant.is_edge in
    let e = c.in_ok-give.ensures in
    let row = c.row-in-Some.result.now in
    let same : c.give.new.state.edges.rows.items ≡ s.edges.rows.items = e.edges ∙ c.loop-next.invariant.spreads.same_edges in
    let bits : (k : ℕ) → row_bit row.cells.items k ≡ pair_bit s.edges.rows.items c.args.holder k = λ k. c.row-in-Some.ensures k ∙ ap (λ xs. pair_bit xs c.args.holder k) same in
    let next = c.next_after-next.result in
    let n = c.next_after-next.ensures in
    record {
      state = e.state;
      keeps = Solved.keeps_grows s c.loop-next.state c.give.new.state to (In cells) c.loop-next.invariant.keeps e.grows e.edges;
      spreads = Solved.spreads_on s c.loop-next.state c.give.new.state c.args.holder cells row.cells.items to c.loop-next.next next c.loop-next.invariant.spreads c.in-Some.is edge e.grows e.got e.edges
          (λ h there above. Solved.due_on next row.cells.items to h n.some n.none (bits h ∙ there) above);
      is_edge = if_some_on next (In row.cells.items) (Has s.edges c.args.holder) (λ k is. sym (bits k) ∙ is) (Solved.next_in next row.cells.items to n.some);
    }

pub returns-in_err-give-clause-many : goal.returns-in_err-give-clause-many
returns-in_err-give-clause-many c = λ is.
    let s = c.args.state.now in
    let cells = c.args.delta.now.cells.items in
    let to = c.in-Some.to in
    let edge : Has s.edges c.args.holder to = rw c.in-Some.is at c.loop-next.invariant.is_edge in
    let p = err_from_is_err_and c.from_residual.result c.from_residual.ensures.1 in
    let x = c.in_err-give.ensures.many (ap Err (sym p.2) ∙ sym p.1 ∙ is) in
    record {
      many = x.many;
      only = λ h t has. ⊎_elim (c.loop-next.invariant.spreads.only h t) (λ n. inr (ap (pair_bit s.edges.rows.items c.args.holder) n.0 ∙ edge, n.1)) (x.only h t has);
    }

pub returns-clause-spreads : goal.returns-clause-spreads
returns-clause-spreads c =
    let p = c.loop-next.invariant.spreads in
    record {
      same_edges = p.same_edges;
      only = p.only;
      news = p.news;
      fresh_kept = p.fresh_kept;
      got = λ h t edge d. ⊎_elim (λ due. absurd (rw c.in_default.is at due)) (λ has. has) (p.got h t edge d);
    }
