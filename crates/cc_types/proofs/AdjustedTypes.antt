-- What adjusting the type of a parameter makes.
use Rattle.std.proofs.Common.{◌≡◌, ap, sym, ◌∙◌, subst, ◌<◌, false, List, [], length, arith}
use Rattle.std.proofs.lemmas.Bool.{lt-ltb}
use Rattle.cc_types.specs.CTypes.{CTypeTree, pointer_to, adjusted_from}
use Rattle.cc_types.specs.declared.shape.Shape.{Shape}
use Rattle.cc_types.specs.declared.shape.Shape.TheVariants as s
use Rattle.cc_types.specs.declared.shape.TypeId.{TypeId}
use Rattle.cc_types.specs.Shapes.{type_at, built, types_of, IsTable}
use Rattle.cc_types.specs.Interning.{shape_of, interned, const_made, adjusted, adjusted_by}
use Rattle.cc_types.specs.Laws.{Makes}
use Rattle.cc_types.proofs.GrowingTables.{length_from, stays_all}
use Rattle.cc_types.proofs.MadeShapes.{type_is}
use Rattle.cc_types.proofs.Interned.{makes, makes_on, const_added}

module _ (ss : List Shape) (table : IsTable ss) where
  pointer_makes : (t : TypeId) → t.0 < length ss → Makes ss (interned ss (s.Pointer false t)) (pointer_to false (type_at (types_of ss) t))
  pointer_makes t less = makes ss table (s.Pointer false t) (lt-ltb _ _ (omega (arith, less, length_from [] ss)))

-- a pointer to a type that was made just before
pointer_after : (ss : List Shape) → IsTable ss → (p : List Shape × TypeId) (t : CTypeTree) → Makes ss p t → Makes ss (interned p.0 (s.Pointer false p.1)) (pointer_to false t)
pointer_after ss table p t m =
    makes_on ss table p (interned p.0 (s.Pointer false p.1)) t _ m
    (subst (Makes p.0 _) (ap (pointer_to false) m.is) (pointer_makes p.0 m.table p.1 m.within))

module _ (ss : List Shape) (table : IsTable ss) (t : TypeId) (less : t.0 < length ss) where
  stays : adjusted_from (type_at (types_of ss) t) ≡ type_at (types_of ss) t → Makes ss (ss, t) (adjusted_from (type_at (types_of ss) t))
  stays e = record { table = table; extends = stays_all (types_of ss); within = less; is = sym e }

  pub adjusted_makes : Makes ss (adjusted ss t) (adjusted_from (type_at (types_of ss) t))
  adjusted_makes = by (shape_of ss t) (sym (type_is ss table t))
    where
      points : adjusted_from (type_at (types_of ss) t) ≡ pointer_to false (type_at (types_of ss) t) → Makes ss (interned ss (s.Pointer false t)) (adjusted_from (type_at (types_of ss) t))
      points e = subst (Makes ss _) (sym e) (pointer_makes ss table t less)

      by : (a : Shape) → type_at (types_of ss) t ≡ built (types_of ss) a → Makes ss (adjusted_by ss t a) (adjusted_from (type_at (types_of ss) t))
      by (s.Array k u n) e = subst (Makes ss _) (sym (ap adjusted_from e)) (pointer_after ss table (const_made ss k u) _ (const_added ss table k u))
      by (s.Function u) e = points (ap adjusted_from e ∙ ap (pointer_to false) (sym e))
      by (s.Takes u f) e = points (ap adjusted_from e ∙ ap (pointer_to false) (sym e))
      by (s.Void k) e = stays (ap adjusted_from e ∙ sym e)
      by (s.Integer k kind) e = stays (ap adjusted_from e ∙ sym e)
      by (s.Pointer k u) e = stays (ap adjusted_from e ∙ sym e)
      by (s.Struct k id) e = stays (ap adjusted_from e ∙ sym e)
