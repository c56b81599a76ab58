use Rattle.std.proofs.Common.{map}
use Rattle.std.proofs.lemmas.Result.{err_from_is_err_and}
use Rattle.cc_tree.specs.Views.{view_declarator, view_init, specs_of}
use Rattle.cc_parse_files.proofs.Externals.{inits_fail, punct_fails, outer_read}
use Rattle.cc_parse_files.proofs.file.outer.Goals as goal

pub returns-in_err-inits-clause-gives : goal.returns-in_err-inits-clause-gives
returns-in_err-inits-clause-gives c =
    let p = err_from_is_err_and c.from_residual.result c.from_residual.ensures.1 in
    rw (p.1, p.2) (λ s. inits_fail c.args.depth c.args.names.now c.args.spot (specs_of c.args.specs) (view_declarator c.args.first) c.args.tokens.now
    c.has_typedef-typedef.result (rw c.as_slice.ensures at c.has_typedef-typedef.ensures) c.inits.new.tokens (c.in_err-inits.ensures.gives s))

pub returns-in_err-take-clause-gives : goal.returns-in_err-take-clause-gives
returns-in_err-take-clause-gives c =
    let p = err_from_is_err_and c.from_residual-in_err-take.result c.from_residual-in_err-take.ensures.1 in
    rw (p.1, p.2) (λ s. punct_fails c.args.depth c.args.names.now c.args.spot (specs_of c.args.specs) (view_declarator c.args.first) c.args.tokens.now
    c.has_typedef-typedef.result (rw c.as_slice.ensures at c.has_typedef-typedef.ensures) (map view_init c.in_ok-inits.inits) c.inits.new.tokens c.take.new.self c.in_ok-inits.ensures.gives (c.in_err-take.ensures.gives s))

pub returns-clause-gives : goal.returns-clause-gives
returns-clause-gives c =
    outer_read c.args.depth c.args.names.now c.args.spot (specs_of c.args.specs) (view_declarator c.args.first) c.args.tokens.now
    c.has_typedef-typedef.result (rw c.as_slice.ensures at c.has_typedef-typedef.ensures) (map view_init c.in_ok-inits.inits) c.inits.new.tokens c.take.new.self c.in_ok-inits.ensures.gives c.in_ok-take.ensures.gives
