use Rattle.std.proofs.Common.{◌≡◌, rules, ap, ◌∙◌, ◌||◌}
use Rattle.cc_types.specs.Shapes.{types_of}
use Rattle.cc_types.specs.ExprTypes.{expr_type}
use Rattle.cc_types.specs.Structs as spec
use Rattle.cc_types.proofs.AskedTypes.{fits_asked}
use Rattle.cc_types.proofs.table.TypeTable.fits.Goals as goal

pub returns-then-is_scalar-clause-types : goal.returns-then-is_scalar-clause-types
returns-then-is_scalar-clause-types c =
    let now = c.args.self.now in
    let es = c.args.structs.now in
    let shapes : c.fits_scalar-is_scalar.result ≡ spec.fits_in now es c.args.s c.args.is_null c.args.t = search rules in
    λ hs ht. shapes ∙ ap (λ b. b || spec.are_one_struct es (expr_type (types_of now) c.args.s) (expr_type (types_of now) c.args.t)) (fits_asked now c.stands.ensures c.args.s c.args.is_null c.args.t hs ht)

pub returns-else-is_scalar-clause-types : goal.returns-else-is_scalar-clause-types
returns-else-is_scalar-clause-types c =
    let now = c.args.self.now in
    let es = c.args.structs.now in
    let shapes : c.are_one_struct.result ≡ spec.fits_in now es c.args.s c.args.is_null c.args.t = search rules in
    λ hs ht. shapes ∙ ap (λ b. b || spec.are_one_struct es (expr_type (types_of now) c.args.s) (expr_type (types_of now) c.args.t)) (fits_asked now c.stands.ensures c.args.s c.args.is_null c.args.t hs ht)
