-- Bodies and parts at the front of the tokens.
use Rattle.std.proofs.Common.{◌≡◌, ℕ, zero, suc, ◌+◌, ◌*◌, ◌≤◌, true, false, eqb, List, [], ◌∷◌, ◌++◌, length, drop, refl, sym, ap, subst, ◌∙◌, append_assoc, arith}
use Rattle.std.proofs.lemmas.List.{append-nil}
use Rattle.std.proofs.lemmas.Bool.{eqb-true}
use Rattle.std.proofs.lemmas.Grind.{flat_map-append}
use Rattle.std.specs.Prelude.{codes, Some, None}
use Rattle.std.specs.List.{flat_map}
use Rattle.cc_first_runs.specs.Program.{Name}
use Rattle.cc_first.specs.Cut.{Spelled}
use Rattle.cc_first.specs.Unit.{Part, Declaration, Definition, word, head_tokens, call_tokens, part_tokens, unit_tokens}
use Rattle.cc_first.specs.Tokens.{AreTokens, Begins, AreWritten}
use Rattle.cc_first.specs.UnitReads.{mark_at, head_at, call_at, IsFree, AreFree, IsFreePart, AreFreeParts, body_tokens, IsBody, NoBody, IsPart, NoPart, AreCallsTo, ArePartsTo, AreParts, NoParts}
use Rattle.cc_first.specs.declared.token.Mark.TheVariants.{OpenBrace, CloseBrace, Semicolon}
use Rattle.cc_first.specs.declared.token.Token.{Token}
use Rattle.cc_first.proofs.UnitFronts.{begins_append, begins_split, begins_drop, begins_len, tokens_drop, call_sound, call_complete, head_sound, head_complete, mark_begins, begins_mark, one_mark, mark_no_call}

free_more : (names : List Name) (name : Name) → AreFree names → IsFree name → AreFree (names ++ name ∷ [])
free_more [] name a f = (f, tt)
free_more (x ∷ names) name a f = (a.0, free_more names name a.1 f)

flat_map_more : {A : Type 0} (spell : A → List Spelled) (xs : List A) (x : A) → flat_map spell (xs ++ x ∷ []) ≡ flat_map spell xs ++ spell x
flat_map_more spell xs x = flat_map-append spell xs (x ∷ []) ∙ ap (λ (ts : List Spelled). flat_map spell xs ++ ts) (append-nil (spell x))

-- the tokens behind what is spelled, by how many they are
at_drop : (tokens rest : List Token) (ts : List Spelled) → Begins tokens ts rest → Begins tokens ts (drop (length ts) tokens)
at_drop tokens rest ts b = subst (λ (r : List Token). Begins tokens ts r) (begins_drop tokens rest ts b) b

-- ---- calls

pub calls_start : (tokens : List Token) → AreTokens tokens → AreCallsTo tokens [] tokens
calls_start tokens k = record { kinds = k; begins = refl; free = tt; only = λ ys end f b. (ys, refl, f, b) }

-- the calls that may still come, where a call stands
calls_on : (rest : List Token) (x : Name) (zs : List Name) (end : List Token) → AreTokens rest → call_at rest ≡ Some x → AreFree zs → Begins rest (body_tokens zs) end
    → (ws : List Name) × (zs ≡ x ∷ ws) × AreFree ws × Begins (drop 4 rest) (body_tokens ws) end
calls_on rest x [] end k e f b = absurd (mark_no_call CloseBrace rest x (begins_mark CloseBrace rest end [] k b).0 e)
calls_on rest x (z ∷ zs) end k e f b =
    let s = begins_split rest end (call_tokens z) (body_tokens zs) (subst (λ (ts : List Spelled). Begins rest ts end) (append_assoc (call_tokens z) (flat_map call_tokens zs) (word (codes "}") ∷ [])) b) in
    let c : call_at rest ≡ Some z = call_complete rest s.middle z k f.0 s.before in
    let same : z ≡ x = cc in
    let m : s.middle ≡ drop 4 rest = begins_drop rest s.middle (call_tokens z) s.before in
    (zs, ap (λ (y : Name). y ∷ zs) same, f.1, subst (λ (r : List Token). Begins r (body_tokens zs) end) m s.behind)

pub calls_more : (tokens : List Token) (calls : List Name) (rest : List Token) (x : Name) → AreCallsTo tokens calls rest → call_at rest ≡ Some x → AreCallsTo tokens (calls ++ x ∷ []) (drop 4 rest)
calls_more tokens calls rest x r e =
    let s = call_sound rest x r.kinds e in
    record {
      kinds = tokens_drop rest 4 r.kinds;
      begins = subst (λ (ts : List Spelled). Begins tokens ts (drop 4 rest)) (sym (flat_map_more call_tokens calls x)) (begins_append tokens rest (drop 4 rest) (flat_map call_tokens calls) (call_tokens x) r.begins s.begins);
      free = free_more calls x r.free s.free;
      only = λ ys end f b.
          let p = r.only ys end f b in
          let q = calls_on rest x p.0 end r.kinds e p.2 p.3 in
          (q.0, p.1 ∙ ap (λ (l : List Name). calls ++ l) q.1 ∙ sym (append_assoc calls (x ∷ []) q.0), q.2, q.3);
    }

-- no more calls may come, where none stands
calls_off : (rest : List Token) (zs : List Name) (end : List Token) → AreTokens rest → call_at rest ≡ None → AreFree zs → Begins rest (body_tokens zs) end → (zs ≡ []) × (mark_at rest 0 CloseBrace ≡ true)
calls_off rest [] end k e f b = (refl, (begins_mark CloseBrace rest end [] k b).0)
calls_off rest (z ∷ zs) end k e f b =
    let s = begins_split rest end (call_tokens z) (body_tokens zs) (subst (λ (ts : List Spelled). Begins rest ts end) (append_assoc (call_tokens z) (flat_map call_tokens zs) (word (codes "}") ∷ [])) b) in
    let c : call_at rest ≡ Some z = call_complete rest s.middle z k f.0 s.before in
    absurd cc

pub calls_some : (tokens : List Token) (calls : List Name) (rest : List Token) → AreCallsTo tokens calls rest → call_at rest ≡ None → mark_at rest 0 CloseBrace ≡ true → IsBody tokens calls
calls_some tokens calls rest r e m =
    record {
      begins = at_drop tokens (drop 1 rest) (body_tokens calls) (begins_append tokens rest (drop 1 rest) (flat_map call_tokens calls) (word (codes "}") ∷ []) r.begins (mark_begins CloseBrace rest m));
      free = r.free;
      only = λ ys end f b.
          let p = r.only ys end f b in
          let q = calls_off rest p.0 end r.kinds e p.2 p.3 in
          p.1 ∙ ap (λ (l : List Name). calls ++ l) q.0 ∙ append-nil calls;
    }

pub calls_none : (tokens : List Token) (calls : List Name) (rest : List Token) → AreCallsTo tokens calls rest → call_at rest ≡ None → mark_at rest 0 CloseBrace ≡ false → NoBody tokens
calls_none tokens calls rest r e m ys end f b =
    let p = r.only ys end f b in
    let q = calls_off rest p.0 end r.kinds e p.2 p.3 in
    cc

-- ---- one part

abbrev pub name_in : Part → Name
name_in (Declaration name) = name
name_in (Definition name calls) = name

-- what follows the head of a part
abbrev pub tail_tokens : Part → List Spelled
tail_tokens (Declaration name) = word (codes ";") ∷ []
tail_tokens (Definition name calls) = word (codes "{") ∷ body_tokens calls

free_name : (part : Part) → IsFreePart part → IsFree (name_in part)
free_name (Declaration name) f = f
free_name (Definition name calls) f = f.0

head_begins : (tokens rest : List Token) (part : Part) → Begins tokens (part_tokens part) rest → Begins tokens (head_tokens (name_in part) ++ tail_tokens part) rest
head_begins tokens rest (Declaration name) b = b
head_begins tokens rest (Definition name calls) b = b

begins_head : (tokens rest : List Token) (part : Part) → Begins tokens (head_tokens (name_in part) ++ tail_tokens part) rest → Begins tokens (part_tokens part) rest
begins_head tokens rest (Declaration name) b = b
begins_head tokens rest (Definition name calls) b = b

-- a part at the front has its head there, and its tail behind
part_split : (tokens rest : List Token) (part : Part) → AreTokens tokens → IsFreePart part → Begins tokens (part_tokens part) rest
    → (head_at tokens ≡ Some (name_in part)) × Begins (drop 5 tokens) (tail_tokens part) rest
part_split tokens rest part k f b =
    let s = begins_split tokens rest (head_tokens (name_in part)) (tail_tokens part) (head_begins tokens rest part b) in
    let m : s.middle ≡ drop 5 tokens = begins_drop tokens s.middle (head_tokens (name_in part)) s.before in
    (head_complete tokens s.middle (name_in part) k (free_name part f) s.before, subst (λ (r : List Token). Begins r (tail_tokens part) rest) m s.behind)

pub part_no_head : (tokens : List Token) → AreTokens tokens → head_at tokens ≡ None → NoPart tokens
part_no_head tokens k e part rest f b = let p = (part_split tokens rest part k f b).0 in cc

-- the tail of a declaration
declared_tail : (rest end : List Token) (name : Name) (part : Part) → AreTokens rest → mark_at rest 0 Semicolon ≡ true → name_in part ≡ name → Begins rest (tail_tokens part) end → part ≡ Declaration name
declared_tail rest end name (Declaration other) k m n b = ap (λ (x : Name). Declaration x) n
declared_tail rest end name (Definition other calls) k m n b =
    absurd (one_mark Semicolon OpenBrace rest (λ e. let f : 59 ≡ 123 = e in omega arith) m (begins_mark OpenBrace rest end (body_tokens calls) k b).0)

pub part_declared : (tokens : List Token) (name : Name) → AreTokens tokens → head_at tokens ≡ Some name → mark_at (drop 5 tokens) 0 Semicolon ≡ true → IsPart tokens (Declaration name)
part_declared tokens name k e m =
    let s = head_sound tokens name k e in
    let t : Begins (drop 5 tokens) (word (codes ";") ∷ []) (drop 1 (drop 5 tokens)) = mark_begins Semicolon (drop 5 tokens) m in
    record {
      begins = at_drop tokens (drop 1 (drop 5 tokens)) (part_tokens (Declaration name)) (begins_append tokens (drop 5 tokens) (drop 1 (drop 5 tokens)) (head_tokens name) (word (codes ";") ∷ []) s.begins t);
      free = s.free;
      only = λ part rest f b.
          let p = part_split tokens rest part k f b in
          let h : head_at tokens ≡ Some (name_in part) = p.0 in
          let n : name_in part ≡ name = cc in
          declared_tail (drop 5 tokens) rest name part (tokens_drop tokens 5 k) m n p.1;
    }

-- some mark stands behind the head
no_tail : (rest end : List Token) (part : Part) → AreTokens rest → mark_at rest 0 Semicolon ≡ false → mark_at rest 0 OpenBrace ≡ false → Begins rest (tail_tokens part) end → ⊥
no_tail rest end (Declaration name) k m n b = let p = (begins_mark Semicolon rest end [] k b).0 in cc
no_tail rest end (Definition name calls) k m n b = let p = (begins_mark OpenBrace rest end (body_tokens calls) k b).0 in cc

pub part_neither : (tokens : List Token) → AreTokens tokens → mark_at (drop 5 tokens) 0 Semicolon ≡ false → mark_at (drop 5 tokens) 0 OpenBrace ≡ false → NoPart tokens
part_neither tokens k m n part rest f b = no_tail (drop 5 tokens) rest part (tokens_drop tokens 5 k) m n (part_split tokens rest part k f b).1

-- the body of a definition, where a brace stands behind the head
body_tail : (rest end : List Token) (part : Part) → AreTokens rest → IsFreePart part → mark_at rest 0 Semicolon ≡ false → Begins rest (tail_tokens part) end
    → (calls : List Name) × (part ≡ Definition (name_in part) calls) × AreFree calls × Begins (drop 1 rest) (body_tokens calls) end
body_tail rest end (Declaration name) k f m b = let p = (begins_mark Semicolon rest end [] k b).0 in absurd cc
body_tail rest end (Definition name calls) k f m b = (calls, refl, f.1, (begins_mark OpenBrace rest end (body_tokens calls) k b).1)

pub part_defined : (tokens : List Token) (name : Name) (calls : List Name) → AreTokens tokens → head_at tokens ≡ Some name → mark_at (drop 5 tokens) 0 Semicolon ≡ false → mark_at (drop 5 tokens) 0 OpenBrace ≡ true
    → IsBody (drop 1 (drop 5 tokens)) calls → IsPart tokens (Definition name calls)
part_defined tokens name calls k e m n body =
    let s = head_sound tokens name k e in
    let rest = drop (length (body_tokens calls)) (drop 1 (drop 5 tokens)) in
    let t : Begins (drop 5 tokens) (word (codes "{") ∷ []) (drop 1 (drop 5 tokens)) = mark_begins OpenBrace (drop 5 tokens) n in
    let u : Begins (drop 5 tokens) (word (codes "{") ∷ body_tokens calls) rest = begins_append (drop 5 tokens) (drop 1 (drop 5 tokens)) rest (word (codes "{") ∷ []) (body_tokens calls) t body.begins in
    record {
      begins = at_drop tokens rest (part_tokens (Definition name calls)) (begins_append tokens (drop 5 tokens) rest (head_tokens name) (word (codes "{") ∷ body_tokens calls) s.begins u);
      free = (s.free, body.free);
      only = λ part end f b.
          let p = part_split tokens end part k f b in
          let h : head_at tokens ≡ Some (name_in part) = p.0 in
          let same : name_in part ≡ name = cc in
          let q = body_tail (drop 5 tokens) end part (tokens_drop tokens 5 k) f m p.1 in
          let c : q.0 ≡ calls = body.only q.0 end q.2 q.3 in
          q.1 ∙ ap (λ (x : Name). Definition x q.0) same ∙ ap (λ (l : List Name). Definition name l) c;
    }

pub part_no_body : (tokens : List Token) → AreTokens tokens → mark_at (drop 5 tokens) 0 Semicolon ≡ false → NoBody (drop 1 (drop 5 tokens)) → NoPart tokens
part_no_body tokens k m none part rest f b =
    let q = body_tail (drop 5 tokens) rest part (tokens_drop tokens 5 k) f m (part_split tokens rest part k f b).1 in
    none q.0 rest q.2 q.3

-- ---- parts

free_parts_more : (parts : List Part) (part : Part) → AreFreeParts parts → IsFreePart part → AreFreeParts (parts ++ part ∷ [])
free_parts_more [] part a f = (f, tt)
free_parts_more (x ∷ parts) part a f = (a.0, free_parts_more parts part a.1 f)

pub parts_start : (tokens : List Token) → AreTokens tokens → ArePartsTo tokens [] tokens
parts_start tokens k = record { kinds = k; begins = refl; free = tt; only = λ ys f b. (ys, refl, f, b) }

no_token : (rest : List Token) → 1 ≤ length rest → rest ≡ [] → ⊥
no_token rest l e = let n : length rest ≡ 0 = ap length e in omega arith

parts_on : (rest : List Token) (x : Part) (zs : List Part) → 1 ≤ length rest → IsPart rest x → AreFreeParts zs → AreWritten rest (unit_tokens zs)
    → (ws : List Part) × (zs ≡ x ∷ ws) × AreFreeParts ws × AreWritten (drop (length (part_tokens x)) rest) (unit_tokens ws)
parts_on rest x [] l r f b = absurd (no_token rest l b)
parts_on rest x (z ∷ zs) l r f b =
    let s = begins_split rest [] (part_tokens z) (unit_tokens zs) b in
    let same : z ≡ x = r.only z s.middle f.0 s.before in
    let m : s.middle ≡ drop (length (part_tokens z)) rest = begins_drop rest s.middle (part_tokens z) s.before in
    let n : drop (length (part_tokens z)) rest ≡ drop (length (part_tokens x)) rest = ap (λ (y : Part). drop (length (part_tokens y)) rest) same in
    (zs, ap (λ (y : Part). y ∷ zs) same, f.1, subst (λ (q : List Token). Begins q (unit_tokens zs) []) (m ∙ n) s.behind)

pub parts_more : (tokens : List Token) (parts : List Part) (rest : List Token) (x : Part) → ArePartsTo tokens parts rest → 1 ≤ length rest → IsPart rest x
    → ArePartsTo tokens (parts ++ x ∷ []) (drop (length (part_tokens x)) rest)
parts_more tokens parts rest x r l e =
    let n = length (part_tokens x) in
    record {
      kinds = tokens_drop rest n r.kinds;
      begins = subst (λ (ts : List Spelled). Begins tokens ts (drop n rest)) (sym (flat_map_more part_tokens parts x)) (begins_append tokens rest (drop n rest) (unit_tokens parts) (part_tokens x) r.begins e.begins);
      free = free_parts_more parts x r.free e.free;
      only = λ ys f b.
          let p = r.only ys f b in
          let q = parts_on rest x p.0 l e p.2 p.3 in
          (q.0, p.1 ∙ ap (λ (l : List Part). parts ++ l) q.1 ∙ sym (append_assoc parts (x ∷ []) q.0), q.2, q.3);
    }

no_parts_on : (rest : List Token) (zs : List Part) → 1 ≤ length rest → NoPart rest → AreFreeParts zs → AreWritten rest (unit_tokens zs) → ⊥
no_parts_on rest [] l n f b = no_token rest l b
no_parts_on rest (z ∷ zs) l n f b = let s = begins_split rest [] (part_tokens z) (unit_tokens zs) b in n z s.middle f.0 s.before

pub parts_none : (tokens : List Token) (parts : List Part) (rest : List Token) → ArePartsTo tokens parts rest → 1 ≤ length rest → NoPart rest → NoParts tokens
parts_none tokens parts rest r l n ys f b = let p = r.only ys f b in no_parts_on rest p.0 l n p.2 p.3

-- no part is written with no token
no_part_left : (zs : List Part) → AreWritten [] (unit_tokens zs) → zs ≡ []
no_part_left [] b = refl
no_part_left (Declaration name ∷ zs) b = absurd b
no_part_left (Definition name calls ∷ zs) b = absurd b

pub parts_end : (tokens : List Token) (parts : List Part) → ArePartsTo tokens parts [] → AreParts tokens parts
parts_end tokens parts r = record {
  written = r.begins;
  free = r.free;
  only = λ ys f b. let p = r.only ys f b in p.1 ∙ ap (λ (l : List Part). parts ++ l) (no_part_left p.0 p.3) ∙ append-nil parts;
}

-- ---- lengths

body_len : (calls : List Name) → length (body_tokens calls) ≡ 1 + 4 * length calls
body_len [] = refl
body_len (c ∷ calls) = omega (arith, body_len calls)

pub definition_len : (name : Name) (calls : List Name) → length (part_tokens (Definition name calls)) ≡ 7 + 4 * length calls
definition_len name calls = omega (arith, body_len calls)

pub head_len : (tokens : List Token) (name : Name) → AreTokens tokens → head_at tokens ≡ Some name → 5 ≤ length tokens
head_len tokens name k e = begins_len tokens (drop 5 tokens) (head_tokens name) (head_sound tokens name k e).begins

pub part_fits : (tokens : List Token) (part : Part) → IsPart tokens part → length (part_tokens part) ≤ length tokens
part_fits tokens part p = begins_len tokens (drop (length (part_tokens part)) tokens) (part_tokens part) p.begins

pub some_of : (n : ℕ) → eqb n 0 ≡ false → 1 ≤ n
some_of zero e = absurd cc
some_of (suc n) e = omega arith

pub parts_end_at : (tokens : List Token) (parts : List Part) (rest : List Token) → ArePartsTo tokens parts rest → eqb (length rest) 0 ≡ true → AreParts tokens parts
parts_end_at tokens parts [] r e = parts_end tokens parts r
parts_end_at tokens parts (t ∷ rest) r e = absurd (let n : suc (length rest) ≡ 0 = eqb-true (suc (length rest)) 0 e in omega arith)
