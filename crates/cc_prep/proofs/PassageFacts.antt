-- The text up to a directive line.
use Rattle.std.proofs.Common.{◌≡◌, ◌≤◌, ◌<◌, ◌+◌, ◌-◌, ℕ, Bool, false, List, [], ◌++◌, length, take, drop, refl, sym, ap, ◌∙◌, subst, arith, inl, inr}
use Rattle.std.specs.Prelude.{Contains, Option, Some, None}
use Rattle.std.specs.List.{slice_range}
use Rattle.std.proofs.lemmas.List.{take-append-drop, append-nil, length-drop}
use Rattle.std.proofs.Math.Seq.{take-length}
use Rattle.cc_base.specs.declared.place.Spot.{Spot}
use Rattle.cc_lex.specs.Cut.{Cut, IsRefused, StandsAt}
use Rattle.cc_lex.specs.Faults.{IsLeastFault, NotAfter}
use Rattle.cc_lex.specs.declared.token.Token.{Token}
use Rattle.cc_lex.specs.declared.token.LexFault.{LexFault}
use Rattle.cc_lex.specs.declared.token.LexFault.TheVariants as fault
use Rattle.cc_prep.specs.Lines.{line_len, line_of, directive_of}
use Rattle.cc_prep.specs.Marks.{IsMark, IsSpotIn, shifted}
use Rattle.cc_prep.specs.Passages.{BeginsLine, First, Next, HasForm, IsLineOf, IsDirective, IsPassageTo, IsPassageFault, HasNoDirective, IsOtherRule}
use Rattle.cc_prep.specs.declared.line.Head.{Head}
use Rattle.cc_prep.specs.declared.mark.Mark.{Mark}
use Rattle.cc_prep.specs.declared.passage.Line.{Line}
use Rattle.cc_prep.specs.declared.passage.Passage.{Passage}
use Rattle.cc_prep.proofs.SpotFacts.{token_place}

-- `&s[at..]`
pub rest_is : (z : List ℕ) (at : ℕ) → slice_range z at (length z) ≡ drop at z
rest_is z at = ap (λ k. take k (drop at z)) (sym (length-drop at z)) ∙ take-length (drop at z)

-- `&s[at..at + n]`
pub part_is : (z : List ℕ) (at n : ℕ) → slice_range z at (at + n) ≡ take n (drop at z)
part_is z at n = ap (λ k. take k (drop at z)) (omega arith)

pub line_begins : (text : List ℕ) (at len : ℕ) → BeginsLine text at → len ≡ line_len (drop at text) → BeginsLine text (at + len)
line_begins text at len h e = subst (λ n. BeginsLine text (at + n)) (sym e) (Next h)

-- the beginning of a line, as it was read
pub line_form : (text line : List ℕ) (in_group : Bool) (at len : ℕ) (head : Head) → len ≡ line_len (drop at text) → line ≡ slice_range text at (at + len) → Some head ≡ directive_of in_group line
    → directive_of in_group (line_of (drop at text)) ≡ Some head
line_form text line in_group at len head e l form =
    ap (directive_of in_group) (ap (λ n. take n (drop at text)) (sym e) ∙ sym (part_is text at len) ∙ sym l) ∙ sym form

pub has_form : (text line : List ℕ) (in_group : Bool) (at len : ℕ) (head : Head) → at < length text → BeginsLine text at → len ≡ line_len (drop at text)
    → line ≡ slice_range text at (at + len) → Some head ≡ directive_of in_group line → HasForm text in_group at
has_form text line in_group at len head within begins e l form =
    record { head = head; within = within; begins = begins; form = line_form text line in_group at len head e l form }

-- the tokens of a passage stand at places of the bytes
pub passage_places : ((b : List ℕ) → (ts : List Token) → Cut b ts → (t : Token) → Contains ts t → (offset : ℕ) × StandsAt b offset t)
    → (bytes : List ℕ) (m : Mark) (in_group : Bool) (p : Passage) (line : Option Line) → length bytes ≤ 1048576 → IsMark bytes m → IsPassageTo (drop m.at bytes) in_group p line
    → (t : Token) → Contains p.tokens t → IsSpotIn bytes (shifted m.spot t.spot)
passage_places law bytes m in_group p None small h is t among =
    token_place law bytes m (drop m.at bytes) [] p.tokens t small h (sym (append-nil (drop m.at bytes))) is among
passage_places law bytes m in_group p (Some line) small h is t among =
    let z = drop m.at bytes in
    token_place law bytes m (take line.at z) (drop line.at z) p.tokens t small h (sym (take-append-drop line.at z)) is.1 among

least_unique : (bytes : List ℕ) (f g : ℕ × ℕ) → IsLeastFault bytes f → IsLeastFault bytes g → f.1 ≡ g.1
least_unique bytes f g a b = both (a.least g.0 g.1 b.faulty) (b.least f.0 f.1 a.faulty)
  where
    both : {f g : ℕ × ℕ} → NotAfter f g → NotAfter g f → f.1 ≡ g.1
    both (inl x) (inl y) = absurd (omega (arith, x, y))
    both (inl x) (inr y) = absurd (omega (arith, x, y.0))
    both (inr x) (inl y) = absurd (omega (arith, x.0, y))
    both (inr x) (inr y) = omega (arith, x.1, y.1)

-- where each line of the form of a directive line stands in a comment, a fault of a passage is that of the text
pub plain_refused : (text : List ℕ) (f : LexFault) → HasNoDirective text → IsPassageFault text false f → IsRefused text f
plain_refused text f none (inl h) = h
plain_refused text fault.Memory none (inr h) = tt
plain_refused text (fault.At offset rule) none (inr h) =
    let c = none h.0 h.1 in
    absurd (h.3 (least_unique (take h.0 text) (offset, rule) (c.0, 2) h.2 c.1))

-- and no passage ends before its end
pub plain_whole : (text : List ℕ) (p : Passage) (line : Line) → HasNoDirective text → IsPassageTo text false p (Some line) → ⊥
plain_whole text p line none is =
    let d = is.0 in
    let c = none line.at (record { head = line.head; within = omega (arith, d.is_line.some, d.is_line.within); begins = d.begins; form = d.form }) in
    (is.1).faultless c.0 2 (c.1).faulty
