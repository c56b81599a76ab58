-- What each step of a lexer does to the cuts of the bytes.
use Rattle.std.proofs.Common.{not, ◌≡◌, ℕ, suc, ◌+◌, ◌≤◌, ◌<◌, true, false, eqb, List, [], ◌∷◌, ◌++◌, length, length-drop, get_or, take, drop, refl, sym, ap, subst, ◌∙◌, arith}
use Rattle.std.proofs.lemmas.List.{take-append-drop}
use Rattle.std.proofs.Math.Seq.{take-append_seam, drop-append_seam}
use Rattle.std.specs.List.{list_all}
use Rattle.std.specs.Prelude.{if◌then◌else◌, IfSome}
use Rattle.cc_base.specs.declared.place.Spot.{Spot}
use Rattle.cc_base.specs.Spots.{start, next_spot, spot_behind}
use Rattle.cc_first.specs.Names.{is_word_byte}
use Rattle.cc_first.specs.Cut.{is_white, is_longest, Spelled, IsCut}
use Rattle.cc_first.specs.Tokens.{is_form_text, token_len, text_of, IsKind, AreTokens, AreFormTokens, Writes, Spells, IsReadTo, IsTokens, NoTokens, IsFirst}
use Rattle.cc_first.specs.declared.token.Mark.TheVariants.{OpenParen, CloseParen, OpenBrace, CloseBrace, Semicolon}
use Rattle.cc_first.specs.declared.token.Kind.{Kind}
use Rattle.cc_first.specs.declared.token.Kind.TheVariants as kind
use Rattle.cc_first.specs.declared.token.Token.{Token}
use Rattle.std.proofs.lemmas.Bool.{not-true, and_parts, and_from}
use Rattle.cc_first.proofs.TokenLaws.{len_taken, word_no_feed, form_len, form_no_white, front_longest, free_identifier, identifier_words}

-- ---- lists of tokens

pub tokens_more : (tokens : List Token) (token : Token) → AreTokens tokens → IsKind token.kind → AreTokens (tokens ++ token ∷ [])
tokens_more [] token a k = (k, tt)
tokens_more (t ∷ tokens) token a k = (a.0, tokens_more tokens token a.1 k)

spells_more : (tokens : List Token) (token : Token) (ts : List Spelled) (t : Spelled) (us : List Spelled) → Spells tokens ts (t ∷ us) → Writes token t → Spells (tokens ++ token ∷ []) ts us
spells_more [] token ts t us s w = subst (λ (xs : List Spelled). Spells (token ∷ []) xs us) (sym s) (w, refl)
spells_more (x ∷ tokens) token [] t us s w = absurd s
spells_more (x ∷ tokens) token (y ∷ ts) t us s w = (s.0, spells_more tokens token ts t us s.1 w)

-- the last token is written so
pub record Last (tokens : List Token) (token : Token) (ts us : List Spelled) : Type 0 where
  pub t : Spelled
  pub writes : Writes token t
  pub spells : Spells tokens ts (t ∷ us)

spells_last : (tokens : List Token) (token : Token) (ts us : List Spelled) → Spells (tokens ++ token ∷ []) ts us → Last tokens token ts us
spells_last [] token [] us s = absurd s
spells_last [] token (t ∷ ts) us s = record { t = t; writes = s.0; spells = ap (λ (xs : List Spelled). t ∷ xs) s.1 }
spells_last (x ∷ tokens) token [] us s = absurd s
spells_last (x ∷ tokens) token (y ∷ ts) us s = let r = spells_last tokens token ts us s.1 in record { t = r.t; writes = r.writes; spells = (s.0, r.spells) }

-- ---- spots

abbrev placed : Spot → ℕ → Spot
placed at n = record { line = at.line; column = n }

spot_moves : (w : List ℕ) (at : Spot) → list_all (λ b. not (eqb b 10)) w ≡ true → spot_behind at w ≡ record { line = at.line; column = at.column + length w }
spot_moves [] at e = let n : at.column ≡ at.column + 0 = omega arith in ap (placed at) n
spot_moves (b ∷ w) at e =
    let p = and_parts (not (eqb b 10)) (list_all (λ x. not (eqb x 10)) w) e in
    let q : next_spot at b ≡ placed at (at.column + 1) = rw (not-true _ p.0) refl in
    let n : (at.column + 1) + length w ≡ at.column + suc (length w) = omega arith in
    ap (λ (s : Spot). spot_behind s w) q ∙ spot_moves w (placed at (at.column + 1)) p.1 ∙ ap (placed at) n

no_feeds : (w : List ℕ) → list_all is_word_byte w ≡ true → list_all (λ b. not (eqb b 10)) w ≡ true
no_feeds [] e = refl
no_feeds (b ∷ w) e = let p = and_parts (is_word_byte b) (list_all is_word_byte w) e in and_from _ _ (rw (word_no_feed b p.0) refl) (no_feeds w p.1)

kind_no_feeds : (found : Kind) → IsKind found → list_all (λ b. not (eqb b 10)) (text_of found) ≡ true
kind_no_feeds kind.Void k = refl
kind_no_feeds (kind.Name text) k = no_feeds text.now (identifier_words text.now (free_identifier text.now k))
kind_no_feeds (kind.Mark OpenParen) k = refl
kind_no_feeds (kind.Mark CloseParen) k = refl
kind_no_feeds (kind.Mark OpenBrace) k = refl
kind_no_feeds (kind.Mark CloseBrace) k = refl
kind_no_feeds (kind.Mark Semicolon) k = refl

-- ---- one step of a cut

white_on : (at : Spot) (b : ℕ) (z : List ℕ) (ts : List Spelled) → is_white b ≡ true → IsCut (next_spot at b) z ts → IsCut at (b ∷ z) ts
white_on at b z [] w c = and_from _ _ w c
white_on at b z (t ∷ ts) w c = (b ∷ c.0, c.1, ap (λ (x : List ℕ). b ∷ x) c.2, and_from _ _ w c.3, c.4, c.5, c.6)

-- a token that begins the bytes is no white byte
not_white : (b : ℕ) (z w r : List ℕ) → is_form_text w ≡ true → b ∷ z ≡ w ++ r → is_white b ≡ false
not_white b z [] r f e = absurd (let no : false ≡ true = f in cc)
not_white b z (a ∷ w) r f e = let same : b ≡ a = cc in subst (λ x. is_white x ≡ false) (sym same) (form_no_white a w f)

white_off_by : (at : Spot) (b : ℕ) (z : List ℕ) (t : Spelled) (ts : List Spelled) → AreFormTokens (t ∷ ts) → is_white b ≡ true → (gap rest : List ℕ) → b ∷ z ≡ gap ++ (t.text ++ rest)
    → list_all is_white gap ≡ true → IfSome t.spot (λ spot. spot ≡ spot_behind at gap) → is_longest t.text rest ≡ true → IsCut (spot_behind at (gap ++ t.text)) rest ts
    → IsCut (next_spot at b) z (t ∷ ts)
white_off_by at b z t ts f w [] rest e g s l c = let no : is_white b ≡ false = not_white b z t.text rest f.0 e in absurd cc
white_off_by at b z t ts f w (a ∷ gap) rest e g s l c =
    let same : b ≡ a = cc in
    let more : z ≡ gap ++ (t.text ++ rest) = cc in
    let p = and_parts (is_white a) (list_all is_white gap) g in
    subst (λ x. IsCut (next_spot at x) z (t ∷ ts)) (sym same) (gap, rest, more, p.1, s, l, c)

white_off : (at : Spot) (b : ℕ) (z : List ℕ) (ts : List Spelled) → AreFormTokens ts → is_white b ≡ true → IsCut at (b ∷ z) ts → IsCut (next_spot at b) z ts
white_off at b z [] f w c = (and_parts (is_white b) (list_all is_white z) c).1
white_off at b z (t ∷ ts) f w c = white_off_by at b z t ts f w c.0 c.1 c.2 c.3 c.4 c.5 c.6

-- the token that stands at the front of bytes that begin with no white one
record Front (at : Spot) (bytes : List ℕ) (ts : List Spelled) : Type 0 where
  pub t : Spelled
  pub us : List Spelled
  pub are : ts ≡ t ∷ us
  pub form : is_form_text t.text ≡ true
  pub forms : AreFormTokens us
  pub text : t.text ≡ take (token_len bytes) bytes
  pub spot : IfSome t.spot (λ spot. spot ≡ at)
  pub cut : IsCut (spot_behind at t.text) (drop (token_len bytes) bytes) us

front_by : (at : Spot) (b : ℕ) (z : List ℕ) (t : Spelled) (ts : List Spelled) → AreFormTokens (t ∷ ts) → is_white b ≡ false → (gap rest : List ℕ) → b ∷ z ≡ gap ++ (t.text ++ rest)
    → list_all is_white gap ≡ true → IfSome t.spot (λ spot. spot ≡ spot_behind at gap) → is_longest t.text rest ≡ true → IsCut (spot_behind at (gap ++ t.text)) rest ts
    → Front at (b ∷ z) (t ∷ ts)
front_by at b z t ts f w (a ∷ gap) rest e g s l c =
    let same : b ≡ a = cc in
    let p = and_parts (is_white a) (list_all is_white gap) g in
    absurd (let q : is_white b ≡ true = subst (λ x. is_white x ≡ true) (sym same) p.0 in cc)
front_by at b z t ts f w [] rest e g s l c =
    let n : token_len (b ∷ z) ≡ length t.text = ap token_len e ∙ form_len t.text rest f.0 l in
    record {
      t = t;
      us = ts;
      are = refl;
      form = f.0;
      forms = f.1;
      text = sym (rw n (ap (take (length t.text)) e ∙ take-append_seam t.text rest));
      spot = s;
      cut = subst (λ (r : List ℕ). IsCut (spot_behind at t.text) r ts) (sym (rw n (ap (drop (length t.text)) e ∙ drop-append_seam t.text rest))) c;
    }

front : (at : Spot) (b : ℕ) (z : List ℕ) (ts : List Spelled) → AreFormTokens ts → is_white b ≡ false → IsCut at (b ∷ z) ts → Front at (b ∷ z) ts
front at b z [] f w c = let p = and_parts (is_white b) (list_all is_white z) c in absurd cc
front at b z (t ∷ ts) f w c = front_by at b z t ts f w c.0 c.1 c.2 c.3 c.4 c.5 c.6

-- ---- what is read so far

pub read_start : (bytes : List ℕ) → IsReadTo bytes [] start bytes
read_start bytes = record {
  kinds = tt;
  cuts = λ ts us s c. subst (λ (xs : List Spelled). IsCut start bytes xs) (sym s) c;
  only = λ ts f c. (ts, refl, f, c);
}

pub read_white : (bytes : List ℕ) (tokens : List Token) (at : Spot) (b : ℕ) (z : List ℕ) → IsReadTo bytes tokens at (b ∷ z) → is_white b ≡ true → IsReadTo bytes tokens (next_spot at b) z
read_white bytes tokens at b z r w = record {
  kinds = r.kinds;
  cuts = λ ts us s c. r.cuts ts us s (white_on at b z us w c);
  only = λ ts f c. let p = r.only ts f c in (p.0, p.1, p.2, white_off at b z p.0 p.2 w p.3);
}

pub read_none : (bytes : List ℕ) (tokens : List Token) (at : Spot) (b : ℕ) (z : List ℕ) → IsReadTo bytes tokens at (b ∷ z) → is_white b ≡ false
    → is_form_text (take (token_len (b ∷ z)) (b ∷ z)) ≡ false → NoTokens bytes
read_none bytes tokens at b z r w n ts f c =
    let p = r.only ts f c in
    let q = front at b z p.0 p.2 w p.3 in
    let yes : is_form_text (take (token_len (b ∷ z)) (b ∷ z)) ≡ true = subst (λ (x : List ℕ). is_form_text x ≡ true) q.text q.form in
    cc

first_spot : (at : Spot) (bytes : List ℕ) (found : Kind) (n : ℕ) → IsFirst bytes found n → (w : List ℕ) → w ≡ text_of found → spot_behind at w ≡ placed at (at.column + n)
first_spot at bytes found n first w e =
    let l : length w ≡ n = ap length e ∙ ap length first.text ∙ sym (len_taken bytes n first.within) in
    let f : list_all (λ b. not (eqb b 10)) w ≡ true = subst (λ (x : List ℕ). list_all (λ b. not (eqb b 10)) x ≡ true) (sym e) (kind_no_feeds found first.kind) in
    spot_moves w at f ∙ ap (λ (k : ℕ). placed at (at.column + k)) l

first_on : (at : Spot) (bytes : List ℕ) (found : Kind) (n : ℕ) → IsFirst bytes found n → (t : Spelled) (us : List Spelled) → Writes (record { kind = found; spot = at }) t
    → IsCut (placed at (at.column + n)) (drop n bytes) us → IsCut at bytes (t ∷ us)
first_on at bytes found n first t us w c =
    let e : t.text ≡ take n bytes = w.0 ∙ first.text in
    let whole : bytes ≡ t.text ++ drop n bytes = rw e (sym (take-append-drop n bytes)) in
    let longest : is_longest t.text (drop n bytes) ≡ true = rw (e, first.len) (front_longest bytes) in
    ([], drop n bytes, whole, refl, w.1, longest, subst (λ (s : Spot). IsCut s (drop n bytes) us) (sym (first_spot at bytes found n first t.text w.0)) c)

first_off : (at : Spot) (bytes : List ℕ) (found : Kind) (n : ℕ) → IsFirst bytes found n → (t : Spelled) (us : List Spelled) → t.text ≡ text_of found
    → IsCut (spot_behind at t.text) (drop (token_len bytes) bytes) us → IsCut (placed at (at.column + n)) (drop n bytes) us
first_off at bytes found n first t us w c =
    let moved : IsCut (placed at (at.column + n)) (drop (token_len bytes) bytes) us =
    subst (λ (s : Spot). IsCut s (drop (token_len bytes) bytes) us) (first_spot at bytes found n first t.text w) c in
    subst (λ (k : ℕ). IsCut (placed at (at.column + n)) (drop k bytes) us) (sym first.len) moved

pub read_token : (bytes : List ℕ) (tokens : List Token) (at : Spot) (b : ℕ) (z : List ℕ) (found : Kind) (n : ℕ) → IsReadTo bytes tokens at (b ∷ z) → is_white b ≡ false → IsFirst (b ∷ z) found n
    → IsReadTo bytes (tokens ++ (record { kind = found; spot = at }) ∷ []) (record { line = at.line; column = at.column + n }) (drop n (b ∷ z))
read_token bytes tokens at b z found n r w first =
    let token : Token = record { kind = found; spot = at } in
    record {
      kinds = tokens_more tokens token r.kinds first.kind;
      cuts = λ ts us s c. let q = spells_last tokens token ts us s in r.cuts ts (q.t ∷ us) q.spells (first_on at (b ∷ z) found n first q.t us q.writes c);
      only = λ ts f c.
          let p = r.only ts f c in
          let q = front at b z p.0 p.2 w p.3 in
          let e : q.t.text ≡ text_of found = q.text ∙ ap (λ (k : ℕ). take k (b ∷ z)) (sym first.len) ∙ sym first.text in
          (q.us, spells_more tokens token ts q.t q.us (subst (λ (xs : List Spelled). Spells tokens ts xs) q.are p.1) (e, q.spot), q.forms, first_off at (b ∷ z) found n first q.t q.us e q.cut);
    }

no_text : (w r : List ℕ) → is_form_text w ≡ true → [] ≡ w ++ r → ⊥
no_text [] r f e = let no : false ≡ true = f in cc
no_text (a ∷ w) r f e = cc

at_end_by : (t : Spelled) (us : List Spelled) → is_form_text t.text ≡ true → (gap rest : List ℕ) → [] ≡ gap ++ (t.text ++ rest) → t ∷ us ≡ []
at_end_by t us f [] rest e = absurd (no_text t.text rest f e)
at_end_by t us f (a ∷ gap) rest e = absurd cc

at_end : (at : Spot) (us : List Spelled) → AreFormTokens us → IsCut at [] us → us ≡ []
at_end at [] f c = refl
at_end at (t ∷ us) f c = at_end_by t us f.0 c.0 c.1 c.2

pub read_end : (bytes : List ℕ) (tokens : List Token) (at : Spot) → IsReadTo bytes tokens at [] → IsTokens bytes tokens
read_end bytes tokens at r = record {
  kinds = r.kinds;
  cuts = λ ts s. r.cuts ts [] s refl;
  only = λ ts f c. let p = r.only ts f c in subst (λ (xs : List Spelled). Spells tokens ts xs) (at_end at p.0 p.2 p.3) p.1;
}

-- ---- the same, as the code comes to it

pub step_white : (bytes : List ℕ) (tokens : List Token) (at : Spot) (text : List ℕ) → IsReadTo bytes tokens at text → 1 ≤ length text → is_white (get_or text 0 0) ≡ true
    → IsReadTo bytes tokens (next_spot at (get_or text 0 0)) (drop 1 text)
step_white bytes tokens at [] r l w = absurd (omega arith)
step_white bytes tokens at (b ∷ z) r l w = read_white bytes tokens at b z r w

pub step_none : (bytes : List ℕ) (tokens : List Token) (at : Spot) (text : List ℕ) → IsReadTo bytes tokens at text → 1 ≤ length text → is_white (get_or text 0 0) ≡ false
    → is_form_text (take (token_len text) text) ≡ false → NoTokens bytes
step_none bytes tokens at [] r l w = absurd (omega arith)
step_none bytes tokens at (b ∷ z) r l w = read_none bytes tokens at b z r w

pub step_token : (bytes : List ℕ) (tokens : List Token) (at : Spot) (text : List ℕ) (found : Kind) (n : ℕ) → IsReadTo bytes tokens at text → 1 ≤ length text → is_white (get_or text 0 0) ≡ false
    → IsFirst text found n → IsReadTo bytes (tokens ++ (record { kind = found; spot = at }) ∷ []) (record { line = at.line; column = at.column + n }) (drop n text)
step_token bytes tokens at [] found n r l w = absurd (omega arith)
step_token bytes tokens at (b ∷ z) found n r l w = read_token bytes tokens at b z found n r w

pub step_end : (bytes : List ℕ) (tokens : List Token) (at : Spot) (text : List ℕ) → IsReadTo bytes tokens at text → length text < 1 → IsTokens bytes tokens
step_end bytes tokens at [] r l = read_end bytes tokens at r
step_end bytes tokens at (b ∷ z) r l = absurd (omega arith)

pub line_grows : (at : Spot) (b : ℕ) → (next_spot at b).line ≤ at.line + 1
line_grows at b = elim (eqb b 10) as (λ v. (if v then (record { line = at.line + 1; column = 1 }) else record at { column = at.column + 1 }).line ≤ at.line + 1) [ true ↦ omega arith | false ↦ omega arith ]

pub column_grows : (at : Spot) (b : ℕ) → (next_spot at b).column ≤ at.column + 1
column_grows at b = elim (eqb b 10) as (λ v. (if v then (record { line = at.line + 1; column = 1 }) else record at { column = at.column + 1 }).column ≤ at.column + 1) [ true ↦ omega arith | false ↦ omega arith ]

pub drop_len : (n : ℕ) (text rest : List ℕ) → n ≤ length text → rest ≡ drop n text → length rest + n ≡ length text
drop_len n text rest h e = omega (arith, ap length e, length-drop {A = ℕ})
