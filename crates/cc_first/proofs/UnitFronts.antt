-- Tokens that begin with what is spelled.
use Rattle.std.proofs.Common.{◌≡◌, ◌≢◌, ℕ, zero, suc, ◌≤◌, Bool, true, false, ◌&&◌, List, [], ◌∷◌, ◌++◌, length, drop, refl, sym, ap, subst, ◌∙◌, arith}
use Rattle.std.proofs.lemmas.Bool.{eqb-true, eq-eqb}
use Rattle.std.specs.Prelude.{codes, Option, Some, None}
use Rattle.cc_base.specs.declared.place.Spot.{Spot}
use Rattle.cc_first_runs.specs.Program.{Name}
use Rattle.cc_first.specs.Names.{is_free_name}
use Rattle.cc_first.specs.Cut.{Spelled}
use Rattle.cc_first.specs.Unit.{word, name_token, head_tokens, call_tokens}
use Rattle.cc_first.specs.Tokens.{mark_byte, text_of, IsKind, AreTokens, Writes, Begins}
use Rattle.cc_first.specs.UnitReads.{is_void_kind, is_mark_kind, mark_at, void_at, name_in, name_at, only_if, head_at, call_at, IsFree}
use Rattle.cc_first.specs.declared.token.Mark.{Mark}
use Rattle.cc_first.specs.declared.token.Mark.TheVariants.{OpenParen, CloseParen, OpenBrace, CloseBrace, Semicolon}
use Rattle.cc_first.specs.declared.token.Kind.{Kind}
use Rattle.cc_first.specs.declared.token.Kind.TheVariants as kind
use Rattle.cc_first.specs.declared.token.Token.{Token}
use Rattle.std.proofs.lemmas.Bool.{and_parts, and_from}
use Rattle.cc_lex.specs.Spellings.{keywords}

pub begins_append : (a b c : List Token) (ts us : List Spelled) → Begins a ts b → Begins b us c → Begins a (ts ++ us) c
begins_append a b c [] us p q = subst (λ (x : List Token). Begins x us c) (sym p) q
begins_append [] b c (t ∷ ts) us p q = absurd p
begins_append (x ∷ a) b c (t ∷ ts) us p q = (p.0, begins_append a b c ts us p.1 q)

-- the tokens between two spellings
pub record Between (a : List Token) (ts us : List Spelled) (c : List Token) : Type 0 where
  pub middle : List Token
  pub before : Begins a ts middle
  pub behind : Begins middle us c

pub begins_split : (a c : List Token) (ts us : List Spelled) → Begins a (ts ++ us) c → Between a ts us c
begins_split a c [] us p = record { middle = a; before = refl; behind = p }
begins_split [] c (t ∷ ts) us p = absurd p
begins_split (x ∷ a) c (t ∷ ts) us p = let q = begins_split a c ts us p.1 in record { middle = q.middle; before = (p.0, q.before); behind = q.behind }

pub begins_drop : (a b : List Token) (ts : List Spelled) → Begins a ts b → b ≡ drop (length ts) a
begins_drop a b [] p = sym p
begins_drop [] b (t ∷ ts) p = absurd p
begins_drop (x ∷ a) b (t ∷ ts) p = begins_drop a b ts p.1

pub begins_len : (a b : List Token) (ts : List Spelled) → Begins a ts b → length ts ≤ length a
begins_len a b [] p = omega arith
begins_len [] b (t ∷ ts) p = absurd p
begins_len (x ∷ a) b (t ∷ ts) p = omega (arith, begins_len a b ts p.1)

pub tokens_drop : (tokens : List Token) (n : ℕ) → AreTokens tokens → AreTokens (drop n tokens)
tokens_drop tokens zero a = a
tokens_drop [] (suc n) a = tt
tokens_drop (t ∷ tokens) (suc n) a = tokens_drop tokens n a.1

-- ---- one token

void_text : (found : Kind) → is_void_kind found ≡ true → codes "void" ≡ text_of found
void_text kind.Void e = refl
void_text (kind.Name text) e = absurd cc
void_text (kind.Mark m) e = absurd cc

-- `void` is a keyword
void_not_free : is_free_name (codes "void") ≡ false
unfolding keywords
void_not_free = refl

text_void : (found : Kind) → IsKind found → codes "void" ≡ text_of found → is_void_kind found ≡ true
text_void kind.Void k e = refl
text_void (kind.Name text) k e = let f : is_free_name (codes "void") ≡ true = subst (λ (w : List ℕ). is_free_name w ≡ true) (sym e) k in let g : is_free_name (codes "void") ≡ false = void_not_free in absurd cc
text_void (kind.Mark m) k e = absurd cc

pub mark_text : (mark : Mark) (found : Kind) → is_mark_kind mark found ≡ true → mark_byte mark ∷ [] ≡ text_of found
mark_text mark kind.Void e = absurd cc
mark_text mark (kind.Name text) e = absurd cc
mark_text mark (kind.Mark m) e = ap (λ (b : ℕ). b ∷ []) (sym (eqb-true (mark_byte m) (mark_byte mark) e))

mark_not_free : (mark : Mark) → is_free_name (mark_byte mark ∷ []) ≡ false
mark_not_free OpenParen = refl
mark_not_free CloseParen = refl
mark_not_free OpenBrace = refl
mark_not_free CloseBrace = refl
mark_not_free Semicolon = refl

pub text_mark : (mark : Mark) (found : Kind) → IsKind found → mark_byte mark ∷ [] ≡ text_of found → is_mark_kind mark found ≡ true
text_mark mark kind.Void k e = absurd cc
text_mark mark (kind.Name text) k e =
    let f : is_free_name (mark_byte mark ∷ []) ≡ true = subst (λ (w : List ℕ). is_free_name w ≡ true) (sym e) k in
    let g : is_free_name (mark_byte mark ∷ []) ≡ false = mark_not_free mark in
    absurd cc
text_mark mark (kind.Mark m) k e = let same : mark_byte m ≡ mark_byte mark = cc in eq-eqb (mark_byte m) (mark_byte mark) same

same_name : (a b : Name) → a.text ≡ b.text → a.spot ≡ b.spot → a ≡ b
same_name a b p q =
    let f : List ℕ → Name = λ (t : List ℕ). record { text = t; spot = a.spot } in
    let g : Spot → Name = λ (s : Spot). record { text = b.text; spot = s } in
    ap f p ∙ ap g q

name_sound : (token : Token) (found : Kind) (at : Spot) (name : Name) → found ≡ token.kind → at ≡ token.spot → IsKind found → name_in found at ≡ Some name → Writes token (name_token name) × IsFree name
name_sound token kind.Void at name e s k h = absurd cc
name_sound token (kind.Name text) at name e s k h =
    let n : record { text = text.now; spot = at } ≡ name = cc in
    let t : name.text ≡ text.now = ap (λ (x : Name). x.text) (sym n) in
    let p : name.spot ≡ at = ap (λ (x : Name). x.spot) (sym n) in
    ((t ∙ ap text_of e, p ∙ s), subst (λ (w : List ℕ). is_free_name w ≡ true) (sym t) k)
name_sound token (kind.Mark m) at name e s k h = absurd cc

name_complete : (found : Kind) (at : Spot) (name : Name) → IsFree name → name.text ≡ text_of found → name.spot ≡ at → name_in found at ≡ Some name
name_complete kind.Void at name f e s = let g : is_free_name (codes "void") ≡ true = subst (λ (w : List ℕ). is_free_name w ≡ true) e f in let h : is_free_name (codes "void") ≡ false = void_not_free in absurd cc
name_complete (kind.Name text) at name f e s = ap (λ (x : Name). Some x) (same_name (record { text = text.now; spot = at }) name (sym e) (sym s))
name_complete (kind.Mark m) at name f e s =
    let g : is_free_name (mark_byte m ∷ []) ≡ true = subst (λ (w : List ℕ). is_free_name w ≡ true) e f in
    let h : is_free_name (mark_byte m ∷ []) ≡ false = mark_not_free m in
    absurd cc

-- ---- calls and heads

pub only_if_some : (holds : Bool) (found : Option Name) (name : Name) → only_if holds found ≡ Some name → (holds ≡ true) × (found ≡ Some name)
only_if_some true None name e = absurd cc
only_if_some true (Some n) name e = (refl, e)
only_if_some false None name e = absurd cc
only_if_some false (Some n) name e = absurd cc

only_if_from : (holds : Bool) (found : Option Name) (name : Name) → holds ≡ true → found ≡ Some name → only_if holds found ≡ Some name
only_if_from holds found name h e = rw (h, e) refl

-- a name that stands at the front, and the tokens behind it
pub record Sounds (spell : Name → List Spelled) (size : ℕ) (tokens : List Token) (name : Name) : Type 0 where
  pub begins : Begins tokens (spell name) (drop size tokens)
  pub free : IsFree name

short_call : (tokens : List Token) (name : Name) → mark_at tokens 3 Semicolon ≡ false → call_at tokens ≡ Some name → ⊥
short_call tokens name none e =
    let p = only_if_some ((mark_at tokens 1 OpenParen && mark_at tokens 2 CloseParen) && mark_at tokens 3 Semicolon) (name_at tokens 0) name e in
    let q = and_parts (mark_at tokens 1 OpenParen && mark_at tokens 2 CloseParen) (mark_at tokens 3 Semicolon) p.0 in
    cc

pub call_sound : (tokens : List Token) (name : Name) → AreTokens tokens → call_at tokens ≡ Some name → Sounds call_tokens 4 tokens name
call_sound [] name k e = absurd (short_call [] name refl e)
call_sound (a ∷ []) name k e = absurd (short_call (a ∷ []) name refl e)
call_sound (a ∷ b ∷ []) name k e = absurd (short_call (a ∷ b ∷ []) name refl e)
call_sound (a ∷ b ∷ c ∷ []) name k e = absurd (short_call (a ∷ b ∷ c ∷ []) name refl e)
call_sound (a ∷ b ∷ c ∷ d ∷ z) name k e =
    let p = only_if_some ((is_mark_kind OpenParen b.kind && is_mark_kind CloseParen c.kind) && is_mark_kind Semicolon d.kind) (name_in a.kind a.spot) name e in
    let q = and_parts (is_mark_kind OpenParen b.kind && is_mark_kind CloseParen c.kind) (is_mark_kind Semicolon d.kind) p.0 in
    let r = and_parts (is_mark_kind OpenParen b.kind) (is_mark_kind CloseParen c.kind) q.0 in
    let n = name_sound a a.kind a.spot name refl refl k.0 p.1 in
    record {
      begins = (n.0, ((mark_text OpenParen b.kind r.0, tt), ((mark_text CloseParen c.kind r.1, tt), ((mark_text Semicolon d.kind q.1, tt), refl))));
      free = n.1;
    }

pub call_complete : (tokens rest : List Token) (name : Name) → AreTokens tokens → IsFree name → Begins tokens (call_tokens name) rest → call_at tokens ≡ Some name
call_complete [] rest name k f h = absurd h
call_complete (a ∷ []) rest name k f h = absurd h.1
call_complete (a ∷ b ∷ []) rest name k f h = absurd h.1.1
call_complete (a ∷ b ∷ c ∷ []) rest name k f h = absurd h.1.1.1
call_complete (a ∷ b ∷ c ∷ d ∷ z) rest name k f h =
    only_if_from ((is_mark_kind OpenParen b.kind && is_mark_kind CloseParen c.kind) && is_mark_kind Semicolon d.kind) (name_in a.kind a.spot) name
    (and_from _ _ (and_from _ _ (text_mark OpenParen b.kind k.1.0 h.1.0.0) (text_mark CloseParen c.kind k.1.1.0 h.1.1.0.0)) (text_mark Semicolon d.kind k.1.1.1.0 h.1.1.1.0.0))
    (name_complete a.kind a.spot name f h.0.0 h.0.1)

short_head : (tokens : List Token) (name : Name) → mark_at tokens 4 CloseParen ≡ false → head_at tokens ≡ Some name → ⊥
short_head tokens name none e =
    let p = only_if_some (((void_at tokens 0 && mark_at tokens 2 OpenParen) && void_at tokens 3) && mark_at tokens 4 CloseParen) (name_at tokens 1) name e in
    let q = and_parts ((void_at tokens 0 && mark_at tokens 2 OpenParen) && void_at tokens 3) (mark_at tokens 4 CloseParen) p.0 in
    cc

pub head_sound : (tokens : List Token) (name : Name) → AreTokens tokens → head_at tokens ≡ Some name → Sounds head_tokens 5 tokens name
head_sound [] name k e = absurd (short_head [] name refl e)
head_sound (a ∷ []) name k e = absurd (short_head (a ∷ []) name refl e)
head_sound (a ∷ b ∷ []) name k e = absurd (short_head (a ∷ b ∷ []) name refl e)
head_sound (a ∷ b ∷ c ∷ []) name k e = absurd (short_head (a ∷ b ∷ c ∷ []) name refl e)
head_sound (a ∷ b ∷ c ∷ d ∷ []) name k e = absurd (short_head (a ∷ b ∷ c ∷ d ∷ []) name refl e)
head_sound (a ∷ b ∷ c ∷ d ∷ g ∷ z) name k e =
    let p = only_if_some (((is_void_kind a.kind && is_mark_kind OpenParen c.kind) && is_void_kind d.kind) && is_mark_kind CloseParen g.kind) (name_in b.kind b.spot) name e in
    let q = and_parts ((is_void_kind a.kind && is_mark_kind OpenParen c.kind) && is_void_kind d.kind) (is_mark_kind CloseParen g.kind) p.0 in
    let r = and_parts (is_void_kind a.kind && is_mark_kind OpenParen c.kind) (is_void_kind d.kind) q.0 in
    let s = and_parts (is_void_kind a.kind) (is_mark_kind OpenParen c.kind) r.0 in
    let n = name_sound b b.kind b.spot name refl refl k.1.0 p.1 in
    record {
      begins = ((void_text a.kind s.0, tt), (n.0, ((mark_text OpenParen c.kind s.1, tt), ((void_text d.kind r.1, tt), ((mark_text CloseParen g.kind q.1, tt), refl)))));
      free = n.1;
    }

pub head_complete : (tokens rest : List Token) (name : Name) → AreTokens tokens → IsFree name → Begins tokens (head_tokens name) rest → head_at tokens ≡ Some name
head_complete [] rest name k f h = absurd h
head_complete (a ∷ []) rest name k f h = absurd h.1
head_complete (a ∷ b ∷ []) rest name k f h = absurd h.1.1
head_complete (a ∷ b ∷ c ∷ []) rest name k f h = absurd h.1.1.1
head_complete (a ∷ b ∷ c ∷ d ∷ []) rest name k f h = absurd h.1.1.1.1
head_complete (a ∷ b ∷ c ∷ d ∷ g ∷ z) rest name k f h =
    only_if_from (((is_void_kind a.kind && is_mark_kind OpenParen c.kind) && is_void_kind d.kind) && is_mark_kind CloseParen g.kind) (name_in b.kind b.spot) name
    (and_from _ _ (and_from _ _ (and_from _ _ (text_void a.kind k.0 h.0.0) (text_mark OpenParen c.kind k.1.1.0 h.1.1.0.0)) (text_void d.kind k.1.1.1.0 h.1.1.1.0.0)) (text_mark CloseParen g.kind k.1.1.1.1.0 h.1.1.1.1.0.0))
    (name_complete b.kind b.spot name f h.1.0.0 h.1.0.1)

-- a mark stands at the front
pub mark_begins : (mark : Mark) (tokens : List Token) → mark_at tokens 0 mark ≡ true → Begins tokens (word (mark_byte mark ∷ []) ∷ []) (drop 1 tokens)
mark_begins mark [] e = absurd cc
mark_begins mark (t ∷ tokens) e = ((mark_text mark t.kind e, tt), refl)

pub begins_mark : (mark : Mark) (tokens rest : List Token) (ts : List Spelled) → AreTokens tokens → Begins tokens (word (mark_byte mark ∷ []) ∷ ts) rest → (mark_at tokens 0 mark ≡ true) × Begins (drop 1 tokens) ts rest
begins_mark mark [] rest ts k h = absurd h
begins_mark mark (t ∷ tokens) rest ts k h = (text_mark mark t.kind k.0 h.0.0, h.1)

-- one token is one mark alone
pub one_mark : (a b : Mark) (tokens : List Token) → mark_byte a ≢ mark_byte b → mark_at tokens 0 a ≡ true → mark_at tokens 0 b ≡ true → ⊥
one_mark a b [] n e f = cc
one_mark a b (t ∷ tokens) n e f = let p = mark_text a t.kind e in let q = mark_text b t.kind f in n cc

mark_no_name : (mark : Mark) (found : Kind) (at : Spot) (name : Name) → is_mark_kind mark found ≡ true → name_in found at ≡ Some name → ⊥
mark_no_name mark kind.Void at name m e = cc
mark_no_name mark (kind.Name text) at name m e = cc
mark_no_name mark (kind.Mark found) at name m e = cc

-- no call begins with a mark
pub mark_no_call : (mark : Mark) (tokens : List Token) (name : Name) → mark_at tokens 0 mark ≡ true → call_at tokens ≡ Some name → ⊥
mark_no_call mark [] name m e = cc
mark_no_call mark (t ∷ tokens) name m e =
    mark_no_name mark t.kind t.spot name m (only_if_some ((mark_at (t ∷ tokens) 1 OpenParen && mark_at (t ∷ tokens) 2 CloseParen) && mark_at (t ∷ tokens) 3 Semicolon) (name_in t.kind t.spot) name e).1
