-- What events give is what the list exercises.
use Rattle.std.proofs.Common.{◌≡◌, ◌≢◌, ℕ, List, ⊎_elim, Option, Some, None, Bool, true, false, refl, sym, ap, ◌∙◌, subst, take, eq-eqb}
use Rattle.std.specs.Prelude.{slice_get, cond, nat_eq, ◌↔◌}
use Rattle.std.proofs.lemmas.Bool.{cases_eq, ne_eqb}
use Rattle.cc_meaning.specs.declared.event.Cell.{Cell}
use Rattle.cc_meaning.specs.declared.event.Event.{Event}
use Rattle.cc_meaning.specs.declared.event.Event.TheVariants.{Enter, Pass, Def, Use, Leave, Gone, Ask}
use Rattle.cc_meaning.specs.declared.coupling.Coupling.{Coupling}
use Rattle.cc_meaning.specs.declared.coupling.Coupling.TheVariants.{Call, Shared, Parameter, Return}
use Rattle.cc_program.specs.declared.function.FuncId.{FuncId}
use Rattle.cc_record_laws.specs.Roles.{Roles}
use Rattle.cc_record_laws.specs.Past.{caller, last_of, IsLast, same_cell, blocks, touches, writes, reads, enters}
use Rattle.cc_record_laws.specs.Exercised.{Exercised, IsCaller, IsShared, IsReturn, IsParameter, HasRead, Defines, DefinesPass, DefinesArgument}
use Rattle.cc_record_laws.specs.Gives.{of_enter, of_use, shared_by, shared_of, apart, written_by, read_at, read_by, read_of, caller_read, passed_by, argument_by, returned_by, param, entered, entered_by, formal_of, formal_by, of_formal, returns, left_to, left_by, of_leave}
use Rattle.cc_record_laws.specs.Laws.{IsGiven}
use Rattle.cc_record_laws.proofs.Callers.{is_caller, caller_is}
use Rattle.cc_record_laws.proofs.Last.{is_last, last_is, take_take}

pub eqb_is : (a b : ℕ) → nat_eq a b ≡ true → a ≡ b
eqb_is a b h = ⊎_elim (λ same. same) (λ ne. absurd (let z = sym (ne_eqb a b ne) ∙ h in cc)) (cases_eq a b)

both_true : (a b : Bool) → cond a b false ≡ true → (a ≡ true) × (b ≡ true)
both_true true b h = (refl, h)
both_true false b h = absurd (let z = h in cc)

pub same_is : (x c : Cell) → same_cell x c ≡ true → x ≡ c
same_is x c h =
    let p = both_true (nat_eq x.object c.object) _ h in
    let q = both_true (nat_eq x.instance c.instance) _ p.1 in
    let a : x.object ≡ c.object = eqb_is _ _ p.0 in
    let b : x.instance ≡ c.instance = eqb_is _ _ q.0 in
    let i : x.index ≡ c.index = eqb_is _ _ q.1 in
    let ea : ◌≡◌ {A = Cell} x (record x { object = c.object }) = ap (λ n. record x { object = n }) a in
    let eb : ◌≡◌ {A = Cell} (record x { object = c.object }) (record x { object = c.object; instance = c.instance }) = ap (λ n. record x { object = c.object; instance = n }) b in
    let ei : ◌≡◌ {A = Cell} (record x { object = c.object; instance = c.instance }) c = ap (λ n. record x { object = c.object; instance = c.instance; index = n }) i in
    ea ∙ eb ∙ ei

reads_is : (u act o : ℕ) (c : Cell) (a : ℕ) → reads u act (Use o c a) ≡ true → Use o c a ≡ Use u c act
reads_is u act o c a h =
    let p = both_true (nat_eq o u) _ h in
    let x : o ≡ u = eqb_is _ _ p.0 in
    let y : a ≡ act = eqb_is _ _ p.1 in
    cc

module _ (R : Roles) where
  apart_is : (k n : ℕ) (q : Option Coupling) → k ≢ n → apart R k n q ≡ q
  apart_is k n q ne = ap (λ b. cond b None q) (ne_eqb k n ne)

  -- what an answer says
  apart_by : (k n : ℕ) (q : Option Coupling) (y : Coupling) → apart R k n q ≡ Some y → (k ≢ n) × (q ≡ Some y)
  apart_by k n q y h = ⊎_elim
      (λ same. absurd (let z : None ≡ Some y = sym (ap (λ b. cond b None q) (eq-eqb k n same)) ∙ h in cc))
      (λ ne. (ne, sym (apart_is k n q ne) ∙ h))
      (cases_eq k n)

  module _ (E : List Event) where
    call_given : (s : ℕ) (g : FuncId) → Exercised R E (Call s g) → IsGiven R E (Call s g)
    call_given s g x = (x.0, Enter (Some s) g x.1, x.2, apart_is (R.component s) (R.home g) (Some (Call s g)) x.3)

    enter_gives : (j : ℕ) (e : Event) (q : Coupling) → slice_get E j ≡ Some e → of_enter R e ≡ Some q → Exercised R E q
    enter_gives j (Enter (Some t) n a) q at h =
        let r = apart_by (R.component t) (R.home n) (Some (Call t n)) q h in
        let z : Call t n ≡ q = (let w = r.1 in cc) in
        subst (Exercised R E) z (j, a, at, r.0)
    enter_gives j (Enter None n a) q at h = absurd (let z = h in cc)
    enter_gives j (Pass t n c a) q at h = absurd (let z = h in cc)
    enter_gives j (Def t c a) q at h = absurd (let z = h in cc)
    enter_gives j (Use t c a) q at h = absurd (let z = h in cc)
    enter_gives j (Leave r a) q at h = absurd (let z = h in cc)
    enter_gives j (Gone n) q at h = absurd (let z = h in cc)
    enter_gives j (Ask t' g' a') q at h = absurd (let z = h in cc)

    shared_given : (d u x : ℕ) → IsShared R E d u x → IsGiven R E (Shared d u x)
    shared_given d u x s = (
      s.j,
      Use u s.cell s.act',
      s.«use»,
      ap (shared_by R u s.cell.object) (last_is (blocks R s.cell (R.component u)) E s.j s.i _ s.last)
          ∙ apart_is (R.component d) (R.component u) (Some (Shared d u s.cell.object)) s.apart
          ∙ ap (λ o. Some (Shared d u o)) s.object,
    )

    module _ (j u : ℕ) (c : Cell) (act : ℕ) (q : Coupling) (at : slice_get E j ≡ Some (Use u c act)) where
      shared_from : (i : ℕ) (y : Event) → IsLast E (blocks R c (R.component u)) j i y → shared_of R u c.object y ≡ Some q → Exercised R E q
      shared_from i (Def d x a) l h =
          let r = apart_by (R.component d) (R.component u) (Some (Shared d u c.object)) q h in
          let z : Shared d u c.object ≡ q = (let w = r.1 in cc) in
          let same : x ≡ c = same_is x c l.fit in
          subst (Exercised R E) z (record {
            i = i;
            j = j;
            cell = c;
            act = a;
            act' = act;
            object = refl;
            «use» = at;
            last = subst (λ x. IsLast E (blocks R c (R.component u)) j i (Def d x a)) same l;
            apart = r.0;
          })
      shared_from i (Enter s g a) l h = absurd (let z = h in cc)
      shared_from i (Pass t n x a) l h = absurd (let z = h in cc)
      shared_from i (Use t x a) l h = absurd (let z = h in cc)
      shared_from i (Leave r a) l h = absurd (let z = h in cc)
      shared_from i (Gone n) l h = absurd (let z = h in cc)
      shared_from i (Ask t' g' a') l h = absurd (let z = h in cc)

      shared_from_last : (r : Option (ℕ × Event)) → last_of (blocks R c (R.component u)) (take j E) ≡ r → shared_by R u c.object r ≡ Some q → Exercised R E q
      shared_from_last None e h = absurd (let z = h in cc)
      shared_from_last (Some p) e h = shared_from p.0 p.1 (is_last (blocks R c (R.component u)) E j p.0 p.1 e) h

    use_gives : (j : ℕ) (e : Event) (q : Coupling) → slice_get E j ≡ Some e → of_use R (take j E) e ≡ Some q → Exercised R E q
    use_gives j (Use u c a) q at h = shared_from_last j u c a q at (last_of (blocks R c (R.component u)) (take j E)) refl h
    use_gives j (Enter s n a) q at h = absurd (let z = h in cc)
    use_gives j (Pass t n c a) q at h = absurd (let z = h in cc)
    use_gives j (Def t c a) q at h = absurd (let z = h in cc)
    use_gives j (Leave r a) q at h = absurd (let z = h in cc)
    use_gives j (Gone n) q at h = absurd (let z = h in cc)
    use_gives j (Ask t' g' a') q at h = absurd (let z = h in cc)

    -- what an activation's last `Use` by an occurrence read
    read_given : (h act u d : ℕ) → HasRead R E h act u d → read_of R (take h E) act u ≡ Some d
    read_given h act u d r =
        ap (read_by R (take h E)) (last_is (reads u act) E h r.m _ r.«use»)
        ∙ ap (λ past. written_by R (last_of (writes r.cell) past)) (take_take r.m h E r.«use».before)
        ∙ ap (written_by R) (last_is (writes r.cell) E r.m r.i r.event r.last)
        ∙ r.def

    module _ (h act u d m : ℕ) where
      read_from_write : (c : Cell) (a : ℕ) → IsLast E (reads u act) h m (Use u c act) → (r : Option (ℕ × Event)) → last_of (writes c) (take m E) ≡ r → written_by R r ≡ Some d → HasRead R E h act u d
      read_from_write c a l None e w = absurd (let z = w in cc)
      read_from_write c a l (Some p) e w = record { m = m; cell = c; i = p.0; event = p.1; «use» = l; last = is_last (writes c) E m p.0 p.1 e; def = w }

      read_from : (y : Event) → IsLast E (reads u act) h m y → read_at R (take m E) y ≡ Some d → HasRead R E h act u d
      read_from (Use o c a) l w =
          let same : Use o c a ≡ Use u c act = reads_is u act o c a l.fit in
          read_from_write c a (subst (IsLast E (reads u act) h m) same l) (last_of (writes c) (take m E)) refl w
      read_from (Enter s n a) l w = absurd (let z = w in cc)
      read_from (Pass t n c a) l w = absurd (let z = w in cc)
      read_from (Def t c a) l w = absurd (let z = w in cc)
      read_from (Leave r a) l w = absurd (let z = w in cc)
      read_from (Gone n) l w = absurd (let z = w in cc)
      read_from (Ask t' g' a') l w = absurd (let z = w in cc)

    read_from_last : (h act u d : ℕ) (r : Option (ℕ × Event)) → last_of (reads u act) (take h E) ≡ r → read_by R (take h E) r ≡ Some d → HasRead R E h act u d
    read_from_last h act u d None e w = absurd (let z = w in cc)
    read_from_last h act u d (Some p) e w =
        let l = is_last (reads u act) E h p.0 p.1 e in
        read_from h act u d p.0 p.1 l (ap (λ past. read_at R past p.1) (sym (take_take p.0 h E l.before)) ∙ w)

    given_read : (h act u d : ℕ) → read_of R (take h E) act u ≡ Some d → HasRead R E h act u d
    given_read h act u d w = read_from_last h act u d (last_of (reads u act) (take h E)) refl w

    -- returns
    defines_given : (h act ret d : ℕ) (o : Option ℕ) → Defines R E h act ret d o → returned_by R (take h E) act ret o ≡ Some d
    defines_given h act ret d None x = ap Some (sym x)
    defines_given h act ret d (Some u) x = read_given h act u d x

    given_defines : (h act ret d : ℕ) (o : Option ℕ) → returned_by R (take h E) act ret o ≡ Some d → Defines R E h act ret d o
    given_defines h act ret d None x = let z = x in cc
    given_defines h act ret d (Some u) x = given_read h act u d x

    return_given : (d s : ℕ) (g : FuncId) → IsReturn R E d s g → IsGiven R E (Return d s g)
    return_given d s g r =
        let past = take r.j E in
        let value = returned_by R past r.act r.ret (R.returned r.ret) in (
          r.j,
          Leave (Some r.ret) r.act,
          r.leave,
          ap (left_by R past r.act r.ret) (last_is (enters r.act) E r.j r.h _ r.enter)
              ∙ apart_is (R.component s) (R.home g) (cond (R.is_used s) (returns s g value) None) r.apart
              ∙ ap (λ b. cond b (returns s g value) None) r.is_used
              ∙ ap (returns s g) (defines_given r.j r.act r.ret d (R.returned r.ret) r.defines),
        )

    module _ (j ret act : ℕ) (q : Coupling) (at : slice_get E j ≡ Some (Leave (Some ret) act)) where
      returns_from : (h s : ℕ) (g : FuncId) → IsLast E (enters act) j h (Enter (Some s) g act) → R.component s ≢ R.home g → R.is_used s ≡ true → (r : Option ℕ) → returned_by R (take j E) act ret (R.returned ret) ≡ r → returns s g r ≡ Some q → Exercised R E q
      returns_from h s g l ne is_used None e w = absurd (let z = w in cc)
      returns_from h s g l ne is_used (Some d) e w =
          let z : Return d s g ≡ q = (let y = w in cc) in
          subst (Exercised R E) z (record { j = j; h = h; act = act; ret = ret; leave = at; enter = l; apart = ne; is_used = is_used; defines = given_defines j act ret d (R.returned ret) e })

      used_from : (h s : ℕ) (g : FuncId) → IsLast E (enters act) j h (Enter (Some s) g act) → R.component s ≢ R.home g → (b : Bool) → R.is_used s ≡ b → cond b (returns s g (returned_by R (take j E) act ret (R.returned ret))) None ≡ Some q → Exercised R E q
      used_from h s g l ne false e w = absurd (let z = w in cc)
      used_from h s g l ne true e w = returns_from h s g l ne e (returned_by R (take j E) act ret (R.returned ret)) refl w

      left_from : (h : ℕ) (y : Event) → IsLast E (enters act) j h y → left_to R (take j E) act ret y ≡ Some q → Exercised R E q
      left_from h (Enter (Some s) g a) l w =
          let same : a ≡ act = eqb_is a act l.fit in
          let r = apart_by (R.component s) (R.home g) _ q w in
          used_from h s g (subst (λ a. IsLast E (enters act) j h (Enter (Some s) g a)) same l) r.0 (R.is_used s) refl r.1
      left_from h (Enter None g a) l w = absurd (let z = w in cc)
      left_from h (Pass t n c a) l w = absurd (let z = w in cc)
      left_from h (Def t c a) l w = absurd (let z = w in cc)
      left_from h (Use t c a) l w = absurd (let z = w in cc)
      left_from h (Leave r a) l w = absurd (let z = w in cc)
      left_from h (Gone n) l w = absurd (let z = w in cc)
      left_from h (Ask t' g' a') l w = absurd (let z = w in cc)

      left_from_last : (r : Option (ℕ × Event)) → last_of (enters act) (take j E) ≡ r → left_by R (take j E) act ret r ≡ Some q → Exercised R E q
      left_from_last None e w = absurd (let z = w in cc)
      left_from_last (Some p) e w = left_from p.0 p.1 (is_last (enters act) E j p.0 p.1 e) w

    leave_gives : (j : ℕ) (e : Event) (q : Coupling) → slice_get E j ≡ Some e → of_leave R (take j E) e ≡ Some q → Exercised R E q
    leave_gives j (Leave (Some ret) act) q at w = left_from_last j ret act q at (last_of (enters act) (take j E)) refl w
    leave_gives j (Leave None act) q at w = absurd (let z = w in cc)
    leave_gives j (Enter s n a) q at w = absurd (let z = w in cc)
    leave_gives j (Pass t n c a) q at w = absurd (let z = w in cc)
    leave_gives j (Def t c a) q at w = absurd (let z = w in cc)
    leave_gives j (Use t c a) q at w = absurd (let z = w in cc)
    leave_gives j (Gone n) q at w = absurd (let z = w in cc)
    leave_gives j (Ask t' g' a') q at w = absurd (let z = w in cc)

    -- parameters
    passed_given : (h arg d : ℕ) (o : Option ℕ) → DefinesPass R E h arg d o → passed_by R (take h E) arg o ≡ Some d
    passed_given h arg d None x = ap Some (sym x)
    passed_given h arg d (Some u) x = ap (caller_read R (take h E) u) (is_caller E h x.0 x.1) ∙ read_given h x.0 u d x.2

    caller_given : (h u d : ℕ) (r : Option ℕ) → caller (take h E) ≡ r → caller_read R (take h E) u r ≡ Some d → (act : ℕ) × IsCaller E h act × HasRead R E h act u d
    caller_given h u d None e w = absurd (let z = w in cc)
    caller_given h u d (Some act) e w = (act, caller_is E h act e, given_read h act u d w)

    given_passed : (h arg d : ℕ) (o : Option ℕ) → passed_by R (take h E) arg o ≡ Some d → DefinesPass R E h arg d o
    given_passed h arg d None x = let z = x in cc
    given_passed h arg d (Some u) x = caller_given h u d (caller (take h E)) refl x

    argument_given : (h d : ℕ) (o : Option ℕ) → DefinesArgument R E h d o → argument_by R (take h E) o ≡ Some d
    argument_given h d None x = absurd x
    argument_given h d (Some arg) x = passed_given h arg d (R.named arg) x

    given_argument : (h d : ℕ) (o : Option ℕ) → argument_by R (take h E) o ≡ Some d → DefinesArgument R E h d o
    given_argument h d None x = absurd (let z = x in cc)
    given_argument h d (Some arg) x = given_passed h arg d (R.named arg) x

    param_given : (d s k : ℕ) (g : FuncId) (u : ℕ) → IsParameter R E d s k g u → IsGiven R E (Parameter d s k g u)
    param_given d s k g u p = (
      p.j,
      Use u p.cell p.act',
      p.«use»,
      ap (formal_by R (take p.j E) u) (last_is (touches p.cell) E p.j p.i _ p.last)
          ∙ ap (λ past. entered_by R past s k u (last_of (enters p.act) past)) (take_take p.i p.j E p.last.before)
          ∙ ap (entered_by R (take p.i E) s k u) (last_is (enters p.act) E p.i p.h _ p.enter)
          ∙ ap (λ past. entered R past s k u (Enter (Some s) g p.act)) (take_take p.h p.i E p.enter.before)
          ∙ ap (λ b. cond b (apart R (R.component s) (R.home g) (param s k g u (argument_by R (take p.h E) (R.argument s k)))) None) (eq-eqb s s refl)
          ∙ apart_is (R.component s) (R.home g) (param s k g u (argument_by R (take p.h E) (R.argument s k))) p.apart
          ∙ ap (param s k g u) (argument_given p.h d (R.argument s k) p.defines),
    )

    module _ (j u : ℕ) (c : Cell) (act' : ℕ) (q : Coupling) (at : slice_get E j ≡ Some (Use u c act')) where
      module _ (i s k act : ℕ) (pass : IsLast E (touches c) j i (Pass s k c act)) where
        param_from : (h : ℕ) (g : FuncId) → IsLast E (enters act) i h (Enter (Some s) g act) → R.component s ≢ R.home g → (r : Option ℕ) → argument_by R (take h E) (R.argument s k) ≡ r → param s k g u r ≡ Some q → Exercised R E q
        param_from h g l ne None e w = absurd (let z = w in cc)
        param_from h g l ne (Some d) e w =
            let z : Parameter d s k g u ≡ q = (let y = w in cc) in
            subst (Exercised R E) z (record { i = i; j = j; h = h; cell = c; act = act; act' = act'; «use» = at; last = pass; enter = l; apart = ne; defines = given_argument h d (R.argument s k) e })

        site_from : (h t : ℕ) (g : FuncId) (a : ℕ) → IsLast E (enters act) i h (Enter (Some t) g a) → (b : Bool) → nat_eq t s ≡ b → cond b (apart R (R.component s) (R.home g) (param s k g u (argument_by R (take h E) (R.argument s k)))) None ≡ Some q → Exercised R E q
        site_from h t g a l false e w = absurd (let z = w in cc)
        site_from h t g a l true e w =
            let same : t ≡ s = eqb_is t s e in
            let act_same : a ≡ act = eqb_is a act l.fit in
            let r = apart_by (R.component s) (R.home g) _ q w in
            let l' = subst (λ a. IsLast E (enters act) i h (Enter (Some t) g a)) act_same l in
            param_from h g (subst (λ t. IsLast E (enters act) i h (Enter (Some t) g act)) same l') r.0 (argument_by R (take h E) (R.argument s k)) refl r.1

        entered_from : (h : ℕ) (y : Event) → IsLast E (enters act) i h y → entered R (take h E) s k u y ≡ Some q → Exercised R E q
        entered_from h (Enter (Some t) g a) l w = site_from h t g a l (nat_eq t s) refl w
        entered_from h (Enter None g a) l w = absurd (let z = w in cc)
        entered_from h (Pass t n c a) l w = absurd (let z = w in cc)
        entered_from h (Def t c a) l w = absurd (let z = w in cc)
        entered_from h (Use t c a) l w = absurd (let z = w in cc)
        entered_from h (Leave r a) l w = absurd (let z = w in cc)
        entered_from h (Gone n) l w = absurd (let z = w in cc)
        entered_from h (Ask t' g' a') l w = absurd (let z = w in cc)

        entered_from_last : (r : Option (ℕ × Event)) → last_of (enters act) (take i E) ≡ r → entered_by R (take i E) s k u r ≡ Some q → Exercised R E q
        entered_from_last None e w = absurd (let z = w in cc)
        entered_from_last (Some p) e w =
            let l = is_last (enters act) E i p.0 p.1 e in
            entered_from p.0 p.1 l (ap (λ past. entered R past s k u p.1) (sym (take_take p.0 i E l.before)) ∙ w)

      formal_from : (i : ℕ) (y : Event) → IsLast E (touches c) j i y → formal_of R (take i E) u y ≡ Some q → Exercised R E q
      formal_from i (Pass s k x a) l w =
          let same : x ≡ c = same_is x c l.fit in
          entered_from_last i s k a (subst (λ x. IsLast E (touches c) j i (Pass s k x a)) same l) (last_of (enters a) (take i E)) refl w
      formal_from i (Enter s g a) l w = absurd (let z = w in cc)
      formal_from i (Def t c a) l w = absurd (let z = w in cc)
      formal_from i (Use t c a) l w = absurd (let z = w in cc)
      formal_from i (Leave r a) l w = absurd (let z = w in cc)
      formal_from i (Gone n) l w = absurd (let z = w in cc)
      formal_from i (Ask t' g' a') l w = absurd (let z = w in cc)

      formal_from_last : (r : Option (ℕ × Event)) → last_of (touches c) (take j E) ≡ r → formal_by R (take j E) u r ≡ Some q → Exercised R E q
      formal_from_last None e w = absurd (let z = w in cc)
      formal_from_last (Some p) e w =
          let l = is_last (touches c) E j p.0 p.1 e in
          formal_from p.0 p.1 l (ap (λ past. formal_of R past u p.1) (sym (take_take p.0 j E l.before)) ∙ w)

    formal_gives : (j : ℕ) (e : Event) (q : Coupling) → slice_get E j ≡ Some e → of_formal R (take j E) e ≡ Some q → Exercised R E q
    formal_gives j (Use u c a) q at w = formal_from_last j u c a q at (last_of (touches c) (take j E)) refl w
    formal_gives j (Enter s n a) q at w = absurd (let z = w in cc)
    formal_gives j (Pass t n c a) q at w = absurd (let z = w in cc)
    formal_gives j (Def t c a) q at w = absurd (let z = w in cc)
    formal_gives j (Leave r a) q at w = absurd (let z = w in cc)
    formal_gives j (Gone n) q at w = absurd (let z = w in cc)
    formal_gives j (Ask t' g' a') q at w = absurd (let z = w in cc)

    pub exactly : (q : Coupling) → Exercised R E q ↔ IsGiven R E q
    exactly (Call s g) = (call_given s g, λ x. enter_gives x.0 x.1 _ x.2 x.3)
    exactly (Shared d u x) = (shared_given d u x, λ y. use_gives y.0 y.1 _ y.2 y.3)
    exactly (Parameter d s k g u) = (param_given d s k g u, λ x. formal_gives x.0 x.1 _ x.2 x.3)
    exactly (Return d s g) = (return_given d s g, λ x. leave_gives x.0 x.1 _ x.2 x.3)
