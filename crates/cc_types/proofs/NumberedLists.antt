-- Numbers of lists of members.
use Rattle.std.proofs.Common.{◌≡◌, refl, ap, sym, ◌∙◌, subst, ℕ, ◌+◌, true, List, [], ◌∷◌, ◌++◌, reverse, arith, rules}
use Rattle.std.specs.Prelude.{Some, None, slice_get, ◌↔◌}
use Rattle.std.specs.Str.{bytes_eq}
use Rattle.std.specs.List.{position_or_len}
use Rattle.std.proofs.lemmas.Slice.Eq.{bytes_eq-Decides}
use Rattle.std.proofs.lemmas.List.{append_assoc, append-nil, reverse-append, reverse-reverse}
use Rattle.cc_types.specs.declared.links.Link.{Link}
use Rattle.cc_types.specs.declared.member_lists.MemberLists.{MemberLists}
use Rattle.cc_types.specs.declared.structs.Member.{Member}
use Rattle.cc_types.specs.declared.shape.TypeId.{TypeId}
use Rattle.cc_types.specs.MemberLists.{same_link, link_to, no_lists, longer, extended, numbered, IsNumberedBack, IsNumbered, AreOnce}
use Rattle.cc_types.specs.Laws.{Numbers}
use Rattle.cc_types.proofs.InsertedOnce.{once_inserted, stays_inserted, placed}

link_says : (a b : Link) → same_link a b ≡ true → a ≡ b
link_says a b e = search rules

link_tells : (a b : Link) → a ≡ b → same_link a b ≡ true
link_tells a b e = search rules

text_says : (a b : List ℕ) → bytes_eq a b ≡ true → a ≡ b
text_says a b = (bytes_eq-Decides a b).0

text_tells : (a b : List ℕ) → a ≡ b → bytes_eq a b ≡ true
text_tells a b = (bytes_eq-Decides a b).1

-- ---- More lists

record Grows (old new : MemberLists) : Type 0 where
  names : (i : ℕ) (x : List ℕ) → slice_get old.names i ≡ Some x → slice_get new.names i ≡ Some x
  links : (i : ℕ) (l : Link) → slice_get old.links i ≡ Some l → slice_get new.links i ≡ Some l

grows_on : (a b c : MemberLists) → Grows a b → Grows b c → Grows a c
grows_on a b c p q = record { names = λ i x e. q.names i x (p.names i x e); links = λ i l e. q.links i l (p.links i l e) }

back_stays : (old new : MemberLists) → Grows old new → (ms : List Member) (n : ℕ) → IsNumberedBack old ms n → IsNumberedBack new ms n
back_stays old new g [] n h = h
back_stays old new g (m ∷ ms) n h = record {
  link = h.link;
  before = h.before;
  name = h.name;
  number = h.number;
  is = g.links _ _ h.is;
  named = g.names _ _ h.named;
  rest = back_stays old new g ms h.before h.rest;
}

-- ---- What numbering makes

record Longer (lists : MemberLists) (p : MemberLists × ℕ) (ms : List Member) : Type 0 where
  once : AreOnce p.0
  grows : Grows lists p.0
  is : IsNumberedBack p.0 ms p.1

longer_is : (lists : MemberLists) → AreOnce lists → (ms : List Member) (n : ℕ) (m : Member) → IsNumberedBack lists ms n → Longer lists (longer lists n m) (m ∷ ms)
longer_is lists once ms n m h =
    let x : ℕ = position_or_len (bytes_eq m.name) lists.names in
    let l : Link = link_to n x m.kind in
    let p = longer lists n m in
    let g : Grows lists p.0 = record {
      names = stays_inserted bytes_eq text_says text_tells lists.names m.name;
      links = stays_inserted same_link link_says link_tells lists.links l;
    } in
    record {
      once = record {
        names = once_inserted bytes_eq text_says text_tells lists.names m.name once.names;
        links = once_inserted same_link link_says link_tells lists.links l once.links;
      };
      grows = g;
      is = record {
        link = position_or_len (same_link l) lists.links;
        before = n;
        name = x;
        number = refl;
        is = placed same_link link_says link_tells lists.links l;
        named = placed bytes_eq text_says text_tells lists.names m.name;
        rest = back_stays lists p.0 g ms n h;
      };
    }

abbrev onto : List Member → List Member → List Member
onto [] done = done
onto (m ∷ ms) done = onto ms (m ∷ done)

extended_is : (ms : List Member) (lists : MemberLists) (n : ℕ) (done : List Member) → AreOnce lists → IsNumberedBack lists done n → Longer lists (extended (lists, n) ms) (onto ms done)
extended_is [] lists n done once h = record { once = once; grows = record { names = λ i x e. e; links = λ i l e. e }; is = h }
extended_is (m ∷ ms) lists n done once h =
    let p = longer lists n m in
    let a = longer_is lists once done n m h in
    let b = extended_is ms p.0 p.1 (m ∷ done) a.once a.is in
    record { once = b.once; grows = grows_on lists p.0 _ a.grows b.grows; is = b.is }

onto_is : (ms done : List Member) → onto ms done ≡ reverse ms ++ done
onto_is [] done = refl
onto_is (m ∷ ms) done =
    onto_is ms (m ∷ done)
    ∙ sym (append_assoc (reverse ms) (m ∷ []) done)
    ∙ ap (λ xs. xs ++ done) (sym (reverse-append (m ∷ []) ms))

reversed : (ms : List Member) → onto ms [] ≡ reverse ms
reversed ms = onto_is ms [] ∙ append-nil (reverse ms)

pub numbers : (lists : MemberLists) → AreOnce lists → (ms : List Member) → Numbers lists (numbered lists ms) ms
numbers lists once ms =
    let a = extended_is ms lists 0 [] once refl in
    let p = numbered lists ms in
    record {
      once = a.once;
      is = subst (λ rs. IsNumberedBack p.0 rs p.1) (reversed ms) a.is;
      stays = λ ns n h. back_stays lists p.0 a.grows (reverse ns) n h;
    }

pub none_once : AreOnce no_lists
none_once = record { names = λ i j x p q. nothing p; links = λ i j x p q. nothing p }
  where
    nothing : {X : Type 0} {x : X} {i j : ℕ} → None ≡ Some x → i ≡ j
    nothing e = cc

-- ---- Equal numbers

abbrev member_of : List ℕ → TypeId → Member
member_of x t = record { name = x; kind = t }

same_list : (lists : MemberLists) (ms ns : List Member) (n : ℕ) → IsNumberedBack lists ms n → IsNumberedBack lists ns n → ms ≡ ns
same_list lists [] [] n p q = refl
same_list lists [] (k ∷ ns) n p q = let a = q.number in absurd (omega (arith, p, a))
same_list lists (m ∷ ms) [] n p q = let a = p.number in absurd (omega (arith, q, a))
same_list lists (m ∷ ms) (k ∷ ns) n p q =
    let link : p.link ≡ q.link = let a = p.number in let b = q.number in omega (arith, a, b) in
    let links : Some (link_to p.before p.name m.kind) ≡ Some (link_to q.before q.name k.kind) = sym p.is ∙ ap (slice_get lists.links) link ∙ q.is in
    let one : link_to p.before p.name m.kind ≡ link_to q.before q.name k.kind = cc in
    let before : p.before ≡ q.before = ap (λ l. l.before) one in
    let name : p.name ≡ q.name = ap (λ l. l.name) one in
    let kind : m.kind ≡ k.kind = ap (λ l. l.kind) one in
    let names : Some m.name ≡ Some k.name = sym p.named ∙ ap (slice_get lists.names) name ∙ q.named in
    let text : m.name ≡ k.name = cc in
    let rest : ms ≡ ns = same_list lists ms ns q.before (subst (IsNumberedBack lists ms) before p.rest) q.rest in
    let member : m ≡ k = ap (λ x. member_of x m.kind) text ∙ ap (member_of k.name) kind in
    ap (λ x. x ∷ ms) member ∙ ap (λ xs. k ∷ xs) rest

same_number : (lists : MemberLists) → AreOnce lists → (ms : List Member) (m n : ℕ) → IsNumberedBack lists ms m → IsNumberedBack lists ms n → m ≡ n
same_number lists once [] m n p q = p ∙ sym q
same_number lists once (x ∷ ms) m n p q =
    let before : p.before ≡ q.before = same_number lists once ms p.before q.before p.rest q.rest in
    let name : p.name ≡ q.name = once.names p.name q.name x.name p.named q.named in
    let links : link_to p.before p.name x.kind ≡ link_to q.before q.name x.kind = ap (λ b. link_to b p.name x.kind) before ∙ ap (λ y. link_to q.before y x.kind) name in
    let link : p.link ≡ q.link = once.links p.link q.link (link_to q.before q.name x.kind) (p.is ∙ ap Some links) q.is in
    p.number ∙ ap (λ i. i + 1) link ∙ sym q.number

pub equal_numbers : (lists : MemberLists) → AreOnce lists → (ms ns : List Member) (m n : ℕ) → IsNumbered lists ms m → IsNumbered lists ns n → (m ≡ n) ↔ (ms ≡ ns)
equal_numbers lists once ms ns m n p q = (
  λ e. sym (reverse-reverse ms) ∙ ap reverse (same_list lists (reverse ms) (reverse ns) n (subst (IsNumbered lists ms) e p) q) ∙ reverse-reverse ns,
  λ e. same_number lists once (reverse ns) m n (subst (λ xs. IsNumbered lists xs m) e p) q,
)
