use Rattle.std.proofs.Common.{◌≡◌, false, ap, sym, subst, ◌∙◌, slice_index_or, arith, length}
use Rattle.cc_types.specs.declared.shape.Shape.TheVariants as s
use Rattle.cc_types.specs.Shapes.{built, types_of, IsSound, IsTable}
use Rattle.cc_types.proofs.MadeShapes.{type_is, shape_sound, void_past}
use Rattle.cc_types.proofs.table.TypeTable.shape.Goals as goal

pub returns-then-id-shapes-clause-value : goal.returns-then-id-shapes-clause-value
returns-then-id-shapes-clause-value c =
    let now = c.args.self.now in
    let same : c.as_slice-shapes.result.now ≡ now = c.as_slice-shapes.ensures.keys ∙ c.self.view_is in
    ap (λ xs. built (types_of now) (slice_index_or xs c.args.id.0 (s.Void false))) same ∙ type_is now (subst IsTable c.self.view_is c.self.invariant) c.args.id

pub returns-then-id-shapes-clause-sound : goal.returns-then-id-shapes-clause-sound
returns-then-id-shapes-clause-sound c =
    let now = c.args.self.now in
    let same : c.as_slice-shapes.result.now ≡ now = c.as_slice-shapes.ensures.keys ∙ c.self.view_is in
    subst (λ xs. IsSound (types_of now) (slice_index_or xs c.args.id.0 (s.Void false))) (sym same) (shape_sound now (subst IsTable c.self.view_is c.self.invariant) c.args.id)

pub returns-else-id-shapes-clause-value : goal.returns-else-id-shapes-clause-value
returns-else-id-shapes-clause-value c =
    let now = c.args.self.now in
    let same : c.as_slice-shapes.result.now ≡ now = c.as_slice-shapes.ensures.keys ∙ c.self.view_is in
    void_past now (subst IsTable c.self.view_is c.self.invariant) c.args.id (omega (arith, c.if-id-shapes.false, ap length same))
