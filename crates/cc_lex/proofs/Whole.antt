-- There is at most one cut, and the fault at which reading stops is the least.
use Rattle.std.proofs.Common.{◌≡◌, ℕ, zero, suc, ◌+◌, ◌<◌, Bool, true, false, eqb, List, [], ◌∷◌, ◌++◌, length, drop, length-append, append_assoc, append-nil, ◌&&◌, ◌||◌, Option, Some, None, Ok, Err, refl, sym, ap, ◌∙◌, subst, arith, ◌⊎◌, inl, inr}
use Rattle.std.proofs.lemmas.Bool.{and_parts, cases_Bool, eqb-true}
use Rattle.cc_lex.specs.Bytes.{first, is_blank}
use Rattle.cc_lex.specs.Pieces.{Piece, bytes_of, spell, IsInPlace, Cuts, starts_after}
use Rattle.cc_lex.specs.Faults.{begins_splice, begins_trigraph, everywhere, IsClean, Faulty, LexFaulty, anywhere, piece, IsLeastFault, NotAfter}
use Rattle.cc_lex.specs.Cut.{IsFaultless}
use Rattle.cc_lex.specs.Reading.{next, Stopped}
use Rattle.cc_lex.proofs.PieceLemmas.{drop_front}
use Rattle.cc_lex.proofs.Next.{Found, begun, spliced, err_is, next_again, next_fault, fault_least, piece_some}

-- Nothing can be read here: the text is at its end, or what begins it is faulty.
pub data Stuck (starts : Bool) (text : List ℕ) : Type 0 where
  end : text ≡ [] → Stuck starts text
  fault : (f : ℕ × ℕ) → next starts text ≡ Err f → Stuck starts text

pub starts_append : (starts : Bool) (a b : List ℕ) → starts_after starts (a ++ b) ≡ starts_after (starts_after starts a) b
starts_append starts [] b = refl
starts_append starts (x ∷ a) b = starts_append (eqb x 10 || (starts && is_blank x)) a b

pub cuts_spell : (starts : Bool) (ps : List Piece) (text r : List ℕ) → Cuts starts ps text r → text ≡ spell ps ++ r
cuts_spell starts [] text r c = c
cuts_spell starts (p ∷ ps) text r (z, e, s, c) = e ∙ ap (λ t. bytes_of p ++ t) (cuts_spell (starts_after starts (bytes_of p)) ps z r c) ∙ sym (append_assoc (bytes_of p) (spell ps) r)

pub spell_snoc : (ps : List Piece) (p : Piece) → spell (ps ++ p ∷ []) ≡ spell ps ++ bytes_of p
spell_snoc [] p = simp append-nil
spell_snoc (q ∷ ps) p = ap (λ t. bytes_of q ++ t) (spell_snoc ps p) ∙ sym (append_assoc (bytes_of q) (spell ps) (bytes_of p))

-- one more piece
pub cuts_snoc : (starts : Bool) (ps : List Piece) (text : List ℕ) (p : Piece) (r : List ℕ) → Cuts starts ps text (bytes_of p ++ r) → IsInPlace (starts_after starts (spell ps)) p r → Cuts starts (ps ++ p ∷ []) text r
cuts_snoc starts [] text p r c s = (r, c, s, refl)
cuts_snoc starts (q ∷ ps) text p r (z, e, t, c) s = (z, e, t, cuts_snoc (starts_after starts (bytes_of q)) ps z p r c (subst (λ (b : Bool). IsInPlace b p r) (starts_append starts (bytes_of q) (spell ps)) s))

goes : (starts : Bool) (text : List ℕ) (p : Piece) (z : List ℕ) → text ≡ bytes_of p ++ z → IsInPlace starts p z → Stuck starts text → ⊥
goes starts text p z e s (end n) = let k : 0 < length (bytes_of p) = piece_some starts p z s in omega (arith, length-append (bytes_of p) z, ap length e, ap length n)
goes starts text p z e s (fault f n) = let k : next starts (bytes_of p ++ z) ≡ Ok p = next_again starts p z s in let m : next starts (bytes_of p ++ z) ≡ Err f = subst (λ t. next starts t ≡ Err f) e n in cc

pub append_left : (a x y : List ℕ) → a ++ x ≡ a ++ y → x ≡ y
append_left [] x y e = e
append_left (b ∷ a) x y e = append_left a x y cc

-- Two ways to cut a text, each up to where nothing can be read, are one.
pub one_way : (starts : Bool) (ps qs : List Piece) (text r s : List ℕ) → Cuts starts ps text r → Cuts starts qs text s → Stuck (starts_after starts (spell ps)) r → Stuck (starts_after starts (spell qs)) s → (ps ≡ qs) × (r ≡ s)
one_way starts [] [] text r s c d x y = (refl, sym c ∙ d)
one_way starts [] (q ∷ qs) text r s c (z, e, t, d) x y = absurd (goes starts r q z (sym c ∙ e) t x)
one_way starts (p ∷ ps) [] text r s (z, e, t, c) d x y = absurd (goes starts s p z (sym d ∙ e) t y)
one_way starts (p ∷ ps) (q ∷ qs) text r s (z, e, t, c) (z', e', t', d) x y =
    let a : next starts text ≡ Ok p = subst (λ u. next starts u ≡ Ok p) (sym e) (next_again starts p z t) in
    let b : next starts text ≡ Ok q = subst (λ u. next starts u ≡ Ok q) (sym e') (next_again starts q z' t') in
    let same : p ≡ q = cc in
    let e2 : text ≡ bytes_of p ++ z' = subst (λ u. text ≡ bytes_of u ++ z') (sym same) e' in
    let zs : z ≡ z' = append_left (bytes_of p) z z' (sym e ∙ e2) in
    let d2 = subst (λ u. Cuts (starts_after starts (bytes_of u)) qs z' s) (sym same) d in
    let d3 = subst (λ u. Cuts (starts_after starts (bytes_of p)) qs u s) (sym zs) d2 in
    let x2 = subst (λ (v : Bool). Stuck v r) (starts_append starts (bytes_of p) (spell ps)) x in
    let y2 = subst (λ (v : Bool). Stuck v s) (starts_append starts (bytes_of q) (spell qs)) y in
    let y3 = subst (λ u. Stuck (starts_after (starts_after starts (bytes_of u)) (spell qs)) s) (sym same) y2 in
    let rest = one_way (starts_after starts (bytes_of p)) ps qs z r s c d3 x2 y3 in
    (let t = rest.0 in cc, rest.1)

-- ---- The two answers

pub cut_sound : (bytes : List ℕ) (ps : List Piece) → Cuts true ps bytes [] → IsClean bytes → IsFaultless bytes
cut_sound bytes ps c clean offset rule (anywhere h e) = clean offset rule h e
cut_sound bytes ps c clean offset rule (piece qs rest at d n f e) =
    let l = fault_least (starts_after true (spell qs)) rest at rule f in
    let same = one_way true ps qs bytes [] rest c d (end refl) (fault l.fault l.read) in
    let k : 0 < length rest = l.some in
    absurd (omega (arith, ap length same.1))

pub one_cut : (bytes : List ℕ) (ps qs : List Piece) → Cuts true ps bytes [] → Cuts true qs bytes [] → ps ≡ qs
one_cut bytes ps qs a b = (one_way true ps qs bytes [] [] a b (end refl) (end refl)).0

-- ---- What is faulty everywhere is so with more bytes behind

no_front : (a : Bool) → (a && false) ≡ true → ⊥
no_front true e = cc
no_front false e = cc

splice_front : (text r : List ℕ) → begins_splice text ≡ true → begins_splice (text ++ r) ≡ true
splice_front [] r e = absurd cc
splice_front (a ∷ []) r e = absurd (no_front (eqb a 92) e)
splice_front (a ∷ b ∷ []) r e =
    let p = and_parts (eqb a 92) (eqb b 10 || (eqb b 13 && false)) e in
    elim (cases_Bool (eqb b 10)) [
      | inl f ↦ rw (p.0, f) refl
      | inr f ↦ absurd (no_front (eqb b 13) (rw f at p.1))
    ]
splice_front (a ∷ b ∷ c ∷ z) r e = e

trigraph_front : (text r : List ℕ) → begins_trigraph text ≡ true → begins_trigraph (text ++ r) ≡ true
trigraph_front [] r e = absurd cc
trigraph_front (a ∷ []) r e = absurd (no_front (eqb a 63 && false) e)
trigraph_front (a ∷ b ∷ []) r e = absurd (no_front (eqb a 63 && eqb b 63) e)
trigraph_front (a ∷ b ∷ c ∷ z) r e = e

no_splice : (text r : List ℕ) → begins_trigraph text ≡ true → begins_splice (text ++ r) ≡ false
no_splice [] r e = absurd cc
no_splice (a ∷ z) r e =
    let p = and_parts (eqb a 63 && eqb (first z) 63) _ e in
    let q = and_parts (eqb a 63) (eqb (first z) 63) p.0 in
    subst (λ c. begins_splice (c ∷ (z ++ r)) ≡ false) (sym (eqb-true a 63 q.0)) refl

everywhere_front : (text r : List ℕ) (rule : ℕ) → everywhere text ≡ Some rule → everywhere (text ++ r) ≡ Some rule
everywhere_front text r rule e =
    elim (cases_Bool (begins_splice text)) [
      | inl s ↦ let k : Some 8 ≡ Some rule = rw s at e in rw (splice_front text r s) k
      | inr s ↦
          elim (cases_Bool (begins_trigraph text)) [
            | inl t ↦ let k : Some 9 ≡ Some rule = rw (s, t) at e in rw (no_splice text r t, trigraph_front text r t) k
            | inr t ↦ absurd (let no : ◌≡◌ {A = Option ℕ} None (Some rule) = rw (s, t) at e in cc)
          ]
    ]

pub everywhere_within : (o : ℕ) (a r : List ℕ) (rule : ℕ) → o < length a → everywhere (drop o a) ≡ Some rule → everywhere (drop o (a ++ r)) ≡ Some rule
everywhere_within zero a r rule h e = everywhere_front a r rule e
everywhere_within (suc o) [] r rule h e = absurd (omega arith)
everywhere_within (suc o) (b ∷ a) r rule h e = everywhere_within o a r rule (omega arith) e

-- what is spelled is clean, if the bytes are up to there
pub front_clean : (bytes : List ℕ) (ps : List Piece) (rest : List ℕ) → Cuts true ps bytes rest → ((o rule : ℕ) → o < length (spell ps) → everywhere (drop o bytes) ≡ Some rule → ⊥) → IsClean (spell ps)
front_clean bytes ps rest c none o rule h e =
    let is : bytes ≡ spell ps ++ rest = cuts_spell true ps bytes rest c in
    none o rule h (subst (λ t. everywhere (drop o t) ≡ Some rule) (sym is) (everywhere_within o (spell ps) rest rule h e))

-- ---- The least fault

-- nothing that is faulty everywhere is before the fault
abbrev pub BeforeAll : List ℕ → ℕ × ℕ → Type 0
BeforeAll bytes f = (o rule : ℕ) → o < length bytes → everywhere (drop o bytes) ≡ Some rule → NotAfter f (o, rule)

not_after : (f g : ℕ × ℕ) (at rule offset base : ℕ) → NotAfter f (at, rule) → g.0 ≡ base + f.0 → g.1 ≡ f.1 → offset ≡ base + at → NotAfter g (offset, rule)
not_after f g at rule offset base (inl l) a b c = inl (omega arith)
not_after f g at rule offset base (inr e) a b c = inr (omega (arith, e.0), omega (arith, e.1))

-- a fault of what begins where any pieces end
stopped_piece : (bytes : List ℕ) (f : ℕ × ℕ) (s : Stopped bytes f) (offset rule : ℕ) (qs : List Piece) (rest : List ℕ) (at : ℕ) → Cuts true qs bytes rest → Faulty (starts_after true (spell qs)) rest at rule → offset ≡ length (spell qs) + at → NotAfter f (offset, rule)
stopped_piece bytes f s offset rule qs rest at d g e =
    let l = fault_least (starts_after true (spell qs)) rest at rule g in
    let same = one_way true s.pieces qs bytes s.rest rest s.cuts d (fault s.fault_there s.read) (fault l.fault l.read) in
    let r1 : next (starts_after true (spell qs)) rest ≡ Err s.fault_there = subst (λ t. next (starts_after true (spell qs)) t ≡ Err s.fault_there) same.1 (subst (λ q. next (starts_after true (spell q)) s.rest ≡ Err s.fault_there) same.0 s.read) in
    let one : l.fault ≡ s.fault_there = err_is _ _ (sym l.read ∙ r1) in
    let least : NotAfter s.fault_there (at, rule) = subst (λ (x : ℕ × ℕ). NotAfter x (at, rule)) one l.least in
    not_after s.fault_there f at rule offset (length (spell s.pieces)) least s.place s.rule (subst (λ q. offset ≡ length (spell q) + at) (sym same.0) e)

stopped_least : (bytes : List ℕ) (f : ℕ × ℕ) (s : Stopped bytes f) (offset rule : ℕ) → BeforeAll bytes f → LexFaulty bytes offset rule → NotAfter f (offset, rule)
stopped_least bytes f s offset rule b (anywhere h e) = b offset rule h e
stopped_least bytes f s offset rule b (piece qs rest at d n g e) = stopped_piece bytes f s offset rule qs rest at d g e

-- the fault that is read where some pieces end is one of the text
pub found_faulty : (bytes : List ℕ) (ps : List Piece) (rest : List ℕ) (f : ℕ × ℕ) → Cuts true ps bytes rest → 0 < length rest → IsClean (spell ps) → Found (starts_after true (spell ps)) rest f → LexFaulty bytes (length (spell ps) + f.0) f.1
found_faulty bytes ps rest f c some clean (begun b) = piece ps rest f.0 c clean b refl
found_faulty bytes ps rest f c some clean (spliced e s) =
    let is : bytes ≡ spell ps ++ rest = cuts_spell true ps bytes rest c in
    let place : f.0 ≡ 0 = ap (λ (y : ℕ × ℕ). y.0) e in
    let rule : f.1 ≡ 8 = ap (λ (y : ℕ × ℕ). y.1) e in
    let offset : length (spell ps) + f.0 ≡ length (spell ps) = omega arith in
    let there : everywhere (drop (length (spell ps)) bytes) ≡ Some 8 = rw (is, drop_front (spell ps) rest, s) refl in
    rw (offset, rule) (anywhere (omega (arith, ap length is, length-append (spell ps) rest)) there)

pub stopped_is : (bytes : List ℕ) (f : ℕ × ℕ) → Stopped bytes f → BeforeAll bytes f → IsLeastFault bytes f
stopped_is bytes f s b =
    let is : bytes ≡ spell s.pieces ++ s.rest = cuts_spell true s.pieces bytes s.rest s.cuts in
    let clean : IsClean (spell s.pieces) = front_clean bytes s.pieces s.rest s.cuts (λ o rule h e. before bytes f s is o rule h (b o rule (omega (arith, ap length is, length-append (spell s.pieces) s.rest)) e)) in
    let found : LexFaulty bytes (length (spell s.pieces) + s.fault_there.0) s.fault_there.1 = found_faulty bytes s.pieces s.rest s.fault_there s.cuts s.some clean (next_fault (starts_after true (spell s.pieces)) s.rest s.fault_there s.some s.read) in
    record {
      faulty = rw (s.place, s.rule) found;
      least = λ offset rule x. stopped_least bytes f s offset rule b x;
    }
  where
    before : (bytes : List ℕ) (f : ℕ × ℕ) (s : Stopped bytes f) → bytes ≡ spell s.pieces ++ s.rest → (o rule : ℕ) → o < length (spell s.pieces) → NotAfter f (o, rule) → ⊥
    before bytes f s is o rule h (inl x) = let p : f.0 ≡ length (spell s.pieces) + s.fault_there.0 = s.place in omega arith
    before bytes f s is o rule h (inr x) = let p : f.0 ≡ length (spell s.pieces) + s.fault_there.0 = s.place in omega (arith, x.0)

-- what is faulty everywhere is the least fault, if nothing of its kind is before it, nor a fault at which reading stopped
pub anywhere_is : (bytes : List ℕ) (g : ℕ × ℕ) → g.0 < length bytes → everywhere (drop g.0 bytes) ≡ Some g.1 → BeforeAll bytes g
    → ((ps : List Piece) × Cuts true ps bytes []) ⊎ ((f : ℕ × ℕ) × Stopped bytes f × NotAfter g f) → IsLeastFault bytes g
anywhere_is bytes g h e b reached = record { faulty = anywhere h e; least = λ offset rule x. least bytes g b offset rule x reached }
  where
    over : (f g i : ℕ × ℕ) → NotAfter f g → NotAfter g i → NotAfter f i
    over f g i (inl x) (inl y) = inl (omega arith)
    over f g i (inl x) (inr y) = inl (omega (arith, y.0))
    over f g i (inr x) (inl y) = inl (omega (arith, x.0))
    over f g i (inr x) (inr y) = inr (x.0 ∙ y.0, omega (arith, x.1, y.1))

    least : (bytes : List ℕ) (g : ℕ × ℕ) → BeforeAll bytes g → (offset rule : ℕ) → LexFaulty bytes offset rule → ((ps : List Piece) × Cuts true ps bytes []) ⊎ ((f : ℕ × ℕ) × Stopped bytes f × NotAfter g f) → NotAfter g (offset, rule)
    least bytes g b offset rule (anywhere k q) reached = b offset rule k q
    least bytes g b offset rule (piece qs rest a d n i j) (inl (ps, c)) =
        let l = fault_least (starts_after true (spell qs)) rest a rule i in
        let same = one_way true ps qs bytes [] rest c d (end refl) (fault l.fault l.read) in
        let k : 0 < length rest = l.some in
        absurd (omega (arith, ap length same.1))
    least bytes g b offset rule (piece qs rest a d n i j) (inr (f, s, x)) = over g f (offset, rule) x (stopped_piece bytes f s offset rule qs rest a d i j)
