-- What structs keep is what their members measure.
use Rattle.std.proofs.Common.{◌≡◌, refl, ap, sym, ◌∙◌, ℕ, ◌+◌, ◌<◌, Bool, true, false, ◌&&◌, not, List, [], ◌∷◌, length, get_or, arith, nat_lt, nat_eq, if◌then◌else◌, length-append, slice_set}
use Rattle.std.proofs.lemmas.Bool.{ltb-true, ltb-false, eqb-true, eqb-false}
use Rattle.std.proofs.lemmas.List.{get_or_append_left, get_or_past, get_or-set_same, get_or-set_other, length-set}
use Rattle.std.proofs.Math.Seq.{get_or-append_seam}
use Rattle.cc_tree.specs.declared.ids.StructId.{StructId}
use Rattle.cc_types.specs.declared.structs.StructEntry.{StructEntry}
use Rattle.cc_types.specs.declared.structs.Member.{Member}
use Rattle.cc_types.specs.declared.measure.Measure.{Measure}
use Rattle.cc_types.specs.declared.shape.TypeId.{TypeId}
use Rattle.cc_types.specs.CTypes.{CTypeTree, void, integer_of, pointer_to, array_of, returning, taking, struct_by, has_const}
use Rattle.cc_types.specs.declared.shape.Shape.{Shape}
use Rattle.cc_types.specs.declared.depth.DepthItem.{DepthItem}
use Rattle.cc_types.specs.Depths.{members_depth}
use Rattle.cc_types.specs.Shapes.{type_at, types_of, Extends}
use Rattle.cc_types.specs.Measures.{entry_of, declared_entry, measure_of, arrayed, joined, ended, empty, members_from, members_measured, is_known}
use Rattle.cc_types.specs.Structs.{is_complete, added, completed, with_members}
use Rattle.cc_types.specs.Laws.{AreMeasured}
use Rattle.cc_types.proofs.GrowingTables.{both, stays_all}

first : (a b : Bool) → (a && b) ≡ true → a ≡ true
first a b e = (both a b e).0

-- a struct is complete only if it was before each member
pub starts : (ts : List CTypeTree) (es : List StructEntry) (s : Measure) (ms : List Member) → (members_from ts es s ms).is_complete ≡ true → s.is_complete ≡ true
starts ts es s [] e = e
starts ts es s (m ∷ ms) e =
    let t = type_at ts m.kind in
    first s.is_complete (measure_of es t).is_complete (starts ts es (joined s (has_const t) (measure_of es t)) ms e)

module _ (ts us : List CTypeTree) (es new : List StructEntry) (more : Extends ts us) (agree : (id : StructId) → is_complete es id ≡ true → entry_of new id ≡ entry_of es id) where
  measure_stays : (t : CTypeTree) → (measure_of es t).is_complete ≡ true → measure_of new t ≡ measure_of es t
  measure_stays (void k) e = refl
  measure_stays (integer_of k kind) e = refl
  measure_stays (pointer_to k t) e = refl
  measure_stays (array_of k t n) e = ap (arrayed k n) (measure_stays t (both (is_known n) (measure_of es t).is_complete e).1)
  measure_stays (returning t) e = refl
  measure_stays (taking t f) e = refl
  measure_stays (struct_by k id) e = ap (λ x. x.measure) (agree id e)

  pub type_stays : (id : TypeId) → (measure_of es (type_at ts id)).is_complete ≡ true → type_at us id ≡ type_at ts id
  type_stays id e = by (nat_lt id.0 (length ts)) refl
    where
      by : (b : Bool) → nat_lt id.0 (length ts) ≡ b → type_at us id ≡ type_at ts id
      by true q = more.same id.0 (ltb-true _ _ q)
      by false q =
          let past : type_at ts id ≡ void false = get_or_past ts id.0 (void false) (ltb-false _ _ q) in
          let none : false ≡ true = sym (ap (λ t. (measure_of es t).is_complete) past) ∙ e in
          cc

  from_stays : (s : Measure) (ms : List Member) → (members_from ts es s ms).is_complete ≡ true → members_from us new s ms ≡ members_from ts es s ms
  from_stays s [] e = refl
  from_stays s (m ∷ ms) e =
      let t = type_at ts m.kind in
      let one = joined s (has_const t) (measure_of es t) in
      let whole : (measure_of es t).is_complete ≡ true = (both s.is_complete (measure_of es t).is_complete (starts ts es one ms e)).1 in
      let same : joined s (has_const (type_at us m.kind)) (measure_of new (type_at us m.kind)) ≡ one =
      ap (λ x. joined s (has_const x) (measure_of new x)) (type_stays m.kind whole) ∙ ap (joined s (has_const t)) (measure_stays t whole) in
      ap (λ x. members_from us new x ms) same ∙ from_stays one ms e

  measured_stays : (ms : List Member) → (members_measured ts es ms).is_complete ≡ true → members_measured us new ms ≡ members_measured ts es ms
  measured_stays ms e = ap ended (from_stays empty ms e)

  -- a struct that was complete keeps what its members measure
  kept_stays : AreMeasured ts es → (id : StructId) → is_complete es id ≡ true → (entry_of new id).measure ≡ members_measured us new (entry_of new id).members
  kept_stays all id e =
      let kept = all.kept id e in
      let whole : (members_measured ts es (entry_of es id).members).is_complete ≡ true = sym (ap (λ x. x.is_complete) kept) ∙ e in
      ap (λ x. x.measure) (agree id e) ∙ kept ∙ sym (measured_stays (entry_of es id).members whole) ∙ sym (ap (λ x. members_measured us new x.members) (agree id e))

pub more_types : (ts us : List CTypeTree) → Extends ts us → (es : List StructEntry) → AreMeasured ts es → AreMeasured us es
more_types ts us more es all = record { kept = λ id e. kept_stays ts us es es more (λ other h. refl) all id e }

-- ---- One struct more

pub complete_within : (es : List StructEntry) (id : StructId) → is_complete es id ≡ true → id.0 < length es
complete_within es id e = by (nat_lt id.0 (length es)) refl
  where
    by : (b : Bool) → nat_lt id.0 (length es) ≡ b → id.0 < length es
    by true q = ltb-true _ _ q
    by false q =
        let past : entry_of es id ≡ declared_entry false 0 = get_or_past es id.0 (declared_entry false 0) (ltb-false _ _ q) in
        let none : false ≡ true = sym (ap (λ x. x.measure.is_complete) past) ∙ e in
        cc

pub no_structs : (ts : List CTypeTree) → AreMeasured ts []
no_structs ts = record { kept = λ id e. let less : id.0 < 0 = complete_within [] id e in absurd (omega arith) }

module _ (ts : List CTypeTree) (es : List StructEntry) (is_tagged : Bool) (token : ℕ) (all : AreMeasured ts es) where
  abbrev more : List StructEntry
  more = (added es is_tagged token).0

  before : (id : StructId) → id.0 < length es → entry_of more id ≡ entry_of es id
  before id less = get_or_append_left es (declared_entry is_tagged token ∷ []) (declared_entry false 0) id.0 less

  was_complete : (id : StructId) → is_complete more id ≡ true → is_complete es id ≡ true
  was_complete id e = by (nat_lt id.0 (length es)) refl
    where
      by : (b : Bool) → nat_lt id.0 (length es) ≡ b → is_complete es id ≡ true
      by true q = ap (λ x. x.measure.is_complete) (sym (before id (ltb-true _ _ q))) ∙ e
      by false q =
          let within : id.0 < length es + 1 = omega (arith, complete_within more id e, length-append es (declared_entry is_tagged token ∷ [])) in
          let last : id.0 ≡ length es = omega (arith, within, ltb-false _ _ q) in
          let is : entry_of more id ≡ declared_entry is_tagged token = ap (λ i. get_or more i (declared_entry false 0)) last ∙ get_or-append_seam es (declared_entry is_tagged token) [] (declared_entry false 0) in
          let none : false ≡ true = sym (ap (λ x. x.measure.is_complete) is) ∙ e in
          cc

  pub adding_keeps : AreMeasured ts more
  adding_keeps = record { kept = λ id e. kept_stays ts ts es more (stays_all ts) (λ other h. before other (complete_within es other h)) all id (was_complete id e) }

-- ---- The members of a struct

module _ (ss : List Shape) (es : List StructEntry) (ds : List DepthItem) (id : StructId) (ms : List Member) where
  abbrev ts : List CTypeTree
  ts = types_of ss

  abbrev room : Measure
  room = members_measured ts es ms

  abbrev full : StructEntry
  full = with_members (entry_of es id) ms room (members_depth ss es ds ms)

  abbrev filled : List StructEntry
  filled = slice_set es id.0 full

  others : (other : StructId) → (other.0 ≡ id.0 → ⊥) → entry_of filled other ≡ entry_of es other
  others other apart = get_or-set_other es id.0 other.0 full (declared_entry false 0) apart

  stays_filled : is_complete es id ≡ false → (other : StructId) → is_complete es other ≡ true → entry_of filled other ≡ entry_of es other
  stays_filled fresh other e = others other (λ same. let h : is_complete es other ≡ is_complete es id = ap (λ i. (get_or es i (declared_entry false 0)).measure.is_complete) same in let none : true ≡ false = sym e ∙ h ∙ fresh in cc)

  filled_keeps : is_complete es id ≡ false → room.is_complete ≡ true → AreMeasured ts es → AreMeasured ts filled
  filled_keeps fresh whole all = record { kept = λ other e. by other e (nat_eq other.0 id.0) refl }
    where
      at_id : (other : StructId) → is_complete filled other ≡ true → other.0 ≡ id.0 → (entry_of filled other).measure ≡ members_measured ts filled (entry_of filled other).members
      at_id other e same =
          let within : other.0 < length filled = complete_within filled other e in
          let less : id.0 < length es = omega (arith, within, same, length-set es id.0 full) in
          let is : entry_of filled other ≡ full = ap (λ i. get_or filled i (declared_entry false 0)) same ∙ get_or-set_same es id.0 full (declared_entry false 0) less in
          ap (λ x. x.measure) is ∙ sym (measured_stays ts ts es filled (stays_all ts) (stays_filled fresh) ms whole) ∙ sym (ap (λ x. members_measured ts filled x.members) is)

      by : (other : StructId) → is_complete filled other ≡ true → (b : Bool) → nat_eq other.0 id.0 ≡ b → (entry_of filled other).measure ≡ members_measured ts filled (entry_of filled other).members
      by other e true q = at_id other e (eqb-true _ _ q)
      by other e false q =
          let apart = eqb-false other.0 id.0 q in
          kept_stays ts ts es filled (stays_all ts) (stays_filled fresh) all other (ap (λ x. x.measure.is_complete) (sym (others other apart)) ∙ e)

  pub completing_keeps : AreMeasured ts es → AreMeasured ts (completed ss es ds id ms)
  completing_keeps all = by (is_complete es id) room.is_complete refl refl
    where
      by : (a b : Bool) → is_complete es id ≡ a → room.is_complete ≡ b → AreMeasured ts (if not a && b then filled else es)
      by false true p q = filled_keeps p q all
      by false false p q = all
      by true b p q = all

  pub complete_stays : (other : StructId) → is_complete es other ≡ true → entry_of (completed ss es ds id ms) other ≡ entry_of es other
  complete_stays other e = by (is_complete es id) room.is_complete refl
    where
      by : (a b : Bool) → is_complete es id ≡ a → entry_of (if not a && b then filled else es) other ≡ entry_of es other
      by false true p = stays_filled p other e
      by false false p = refl
      by true b p = refl
