use Rattle.std.proofs.Common.{◌≡◌, refl, sym, ◌∙◌, ap, true, Err}
use Rattle.std.proofs.lemmas.Result.{err_from_is_err_and}
use Rattle.cc_lex.specs.declared.punct.Punct.TheVariants as punct
use Rattle.cc_grammar.specs.Classes.{next_is, skip}
use Rattle.cc_grammar.specs.Reading as spec
use Rattle.cc_parse_files.proofs.declaration.given.Goals as goal

pub returns-in_err-value : goal.returns-in_err-value
returns-in_err-value c =
    let p = err_from_is_err_and c.from_residual.result c.from_residual.ensures.1 in
    let comes : next_is punct.Equal c.args.tokens.now ≡ true = sym c.next_is.ensures ∙ c.if-next_is.true in
    rw (p.1, p.2) (λ s.
    let fails : spec.value c.args.names.now c.args.depth (skip c.args.tokens.now) ≡ Err c.value.new.tokens = ap (spec.value c.args.names.now c.args.depth) (sym c.skip.ensures) ∙ c.in_err-value.ensures s in
    rw (comes, fails) refl)
