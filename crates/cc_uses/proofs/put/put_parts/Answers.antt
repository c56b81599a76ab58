use Rattle.std.proofs.Common.{◌≡◌, ◌+◌, ◌<◌, List, length, drop, sym, ap, subst, ◌∙◌, arith}
use Rattle.cc_listed.specs.declared.table.Access.{Access}
use Rattle.cc_parts.specs.declared.part.Part.{Part}
use Rattle.cc_parts.specs.declared.parts.Parts.{Parts}
use Rattle.cc_uses.specs.Accessing.{with_part, with_parts, IsNextPart}
use Rattle.cc_uses.proofs.Skipping.{next_put, all_put}
use Rattle.cc_uses.proofs.put.put_parts.Goals as goal

pub loop-q-preserved : goal.loop-q-preserved
loop-q-preserved c =
    let F = c.args.facts.now in
    let parts = F.parts.parts in
    let q = c.in-Some.q in
    let next = c.in-Some.ensures in
    let size : c.in_ok-count.count ≡ length parts = c.in_ok-count.ensures ∙ ap (λ (P : Parts). length P.parts) c.parts.ensures in
    let within : q < length parts = omega (arith, next.1, size) in
    let same : c.as_slice-parts.result.now ≡ parts = c.as_slice-parts.ensures ∙ ap (λ (P : Parts). P.parts) c.parts-2.ensures in
    let put = c.in_ok-put_part.ensures ∙ ap (λ (xs : List Part). with_part c.args.reach c.args.point c.args.l (drop q xs) q c.loop-q.out.items) same in
    let on = ap (λ (out : List Access). with_parts F c.args.reach c.args.point c.args.l (drop (q + 1) parts) (q + 1) out) put in
    on ∙ (sym (next_put F c.args.reach c.args.point c.args.l parts c.loop-q.from q c.loop-q.out.items next.0 within next.2 next.3) ∙ c.loop-q.invariant)

pub returns : goal.returns
returns c =
    let F = c.args.facts.now in
    let parts = F.parts.parts in
    let size : c.in_ok-count.count ≡ length parts = c.in_ok-count.ensures ∙ ap (λ (P : Parts). length P.parts) c.parts.ensures in
    let none = subst (λ r. IsNextPart F c.in_ok-count.count c.args.l c.loop-q.from r) c.in_default.is c.next_part.ensures in
    sym (all_put F c.args.reach c.args.point c.args.l parts c.loop-q.from c.in_ok-count.count c.loop-q.out.items size none) ∙ c.loop-q.invariant
