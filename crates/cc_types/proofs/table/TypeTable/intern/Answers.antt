use Rattle.std.proofs.Common.{◌≡◌, ap, sym, subst, ◌∙◌}
use Rattle.cc_types.specs.Interning.{made_or_void}
use Rattle.cc_types.specs.Shapes.{types_of, IsSound}
use Rattle.cc_types.proofs.MadeShapes.{made_sound, inserted}
use Rattle.cc_types.proofs.table.TypeTable.intern.Goals as goal

pub invariant_of-self-2 : goal.invariant_of-self-2
invariant_of-self-2 c =
    let keys = c.self.inside.shapes.keys in
    let a = c.made_or_void-shape.result in
    let is : a ≡ made_or_void keys c.args.shape = c.made_or_void-shape.ensures ∙ ap (λ ss. made_or_void ss c.args.shape) (sym c.self.view_is) in
    inserted keys c.self.invariant c.insert_full.new.self.keys a c.insert_full.result c.insert_full.ensures.keys c.insert_full.ensures.err
    (subst (IsSound (types_of keys)) (sym is) (made_sound keys c.self.invariant c.args.shape))
