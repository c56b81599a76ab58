-- The first of two lists of rules that fails.
use Rattle.std.proofs.Common.{◌≡◌, ℕ, Bool, true, false, cond, List, [], ◌∷◌, ◌++◌, Option, Some, None, Result, Ok, Err, IfErr, IsErrAnd, refl, ap, subst, sym, ◌∙◌}
use Rattle.cc_project.specs.Order.{Rule, at, first_failing}
use Rattle.cc_project.specs.Outcome.{Reports}
use Rattle.cc_project.specs.declared.fault.ProjectFault.{ProjectFault}
use Rattle.cc_project.specs.declared.fault.ProjectFault.TheVariants.{NotToml, Shape, Memory}

abbrev pub Fault : Type 0
Fault = List ℕ × ℕ

-- the second of two, if there is no first
abbrev or_else : Option Fault → Option Fault → Option Fault
or_else None b = b
or_else (Some fault) b = Some fault

rule_before : (holds : Bool) (fault : Fault) (a b : Option Fault) → cond holds (or_else a b) (Some fault) ≡ or_else (cond holds a (Some fault)) b
rule_before true fault a b = refl
rule_before false fault a b = refl

first-append : (a b : List Rule) → first_failing (a ++ b) ≡ or_else (first_failing a) (first_failing b)
unfolding first_failing
first-append [] b = refl
first-append (rule ∷ rest) b =
    ap (λ more. cond rule.holds more (Some (rule.key, rule.number))) (first-append rest b)
    ∙ rule_before rule.holds (rule.key, rule.number) (first_failing rest) (first_failing b)

-- behind rules that hold
pub first-none : (a b : List Rule) → first_failing a ≡ None → first_failing (a ++ b) ≡ first_failing b
first-none a b none = first-append a b ∙ ap (λ first. or_else first (first_failing b)) none

-- where both hold, each holds
none_parts : (a b : Option Fault) → or_else a b ≡ None → (a ≡ None) × (b ≡ None)
none_parts None b e = (refl, e)
none_parts (Some fault) b e = cc

pub first-parts : (a b : List Rule) → first_failing (a ++ b) ≡ None → (first_failing a ≡ None) × (first_failing b ≡ None)
first-parts a b e = none_parts (first_failing a) (first_failing b) (sym (first-append a b) ∙ e)

both_none : (a b : List Rule) → first_failing a ≡ None → first_failing b ≡ None → first_failing (a ++ b) ≡ None
both_none a b x y = first-none a b x ∙ y

-- one rule
holds_of : (holds : Bool) (fault : Fault) → cond holds None (Some fault) ≡ None → holds ≡ true
holds_of true fault e = refl
holds_of false fault e = cc

pub at-holds : (key : List ℕ) (number : ℕ) (holds : Bool) → first_failing (at key number holds) ≡ None → holds ≡ true
unfolding first_failing at
at-holds key number holds e = holds_of holds (key, number) e

-- ---- Reports

pub Reports-same : (a b : Option Fault) (e : ProjectFault) → a ≡ b → Reports a e → Reports b e
Reports-same a b e same r = subst (λ first. Reports first e) same r

pub Reports-front : (a b : List Rule) (e : ProjectFault) → Reports (first_failing a) e → Reports (first_failing (a ++ b)) e
Reports-front a b NotToml r = r
Reports-front a b (Shape key rule) r = first-append a b ∙ ap (λ first. or_else first (first_failing b)) r
Reports-front a b Memory r = tt

pub Reports-back : (a b : List Rule) (e : ProjectFault) → first_failing a ≡ None → Reports (first_failing b) e → Reports (first_failing (a ++ b)) e
Reports-back a b e none r = Reports-same (first_failing b) (first_failing (a ++ b)) e (sym (first-none a b none)) r

-- `?` passes a fault up as it is
pub passed_up : {T : Type 0} (r : Result T ProjectFault) (e : ProjectFault) (P : ProjectFault → Type 0) → IsErrAnd r (λ y. y ≡ e) → P e → IfErr r P
passed_up (Ok x) e P is p = tt
passed_up (Err y) e P is p = subst P (sym is) p

-- ---- A turn of a loop: the rules that are left are those of this turn, and then more

pub round_fails : (left : Option Fault) (now more : List Rule) (whole : Option Fault) (e : ProjectFault)
    → left ≡ whole → left ≡ first_failing (now ++ more) → Reports (first_failing now) e → Reports whole e
round_fails left now more whole e same parts r =
    Reports-same (first_failing (now ++ more)) whole e (sym parts ∙ same) (Reports-front now more e r)

pub round_holds : (left : Option Fault) (now more : List Rule) (whole : Option Fault)
    → left ≡ whole → left ≡ first_failing (now ++ more) → first_failing now ≡ None → first_failing more ≡ whole
round_holds left now more whole same parts none = sym (first-none now more none) ∙ sym parts ∙ same

-- ---- A list of rules in parts: the first part that fails, and all that hold

pub fails_at_1 : (a1 rest : List Rule) (e : ProjectFault) → Reports (first_failing a1) e → Reports (first_failing (a1 ++ rest)) e
fails_at_1 = Reports-front

pub fails_at_2 : (a1 a2 rest : List Rule) (e : ProjectFault) → first_failing a1 ≡ None → Reports (first_failing a2) e → Reports (first_failing (a1 ++ (a2 ++ rest))) e
fails_at_2 a1 a2 rest e n1 r =
    Reports-back a1 (a2 ++ rest) e n1 (fails_at_1 a2 rest e r)

pub fails_at_3 : (a1 a2 a3 rest : List Rule) (e : ProjectFault) → first_failing a1 ≡ None → first_failing a2 ≡ None → Reports (first_failing a3) e → Reports (first_failing (a1 ++ (a2 ++ (a3 ++ rest)))) e
fails_at_3 a1 a2 a3 rest e n1 n2 r =
    Reports-back a1 (a2 ++ (a3 ++ rest)) e n1 (fails_at_2 a2 a3 rest e n2 r)

pub fails_at_4 : (a1 a2 a3 a4 rest : List Rule) (e : ProjectFault) → first_failing a1 ≡ None → first_failing a2 ≡ None → first_failing a3 ≡ None → Reports (first_failing a4) e → Reports (first_failing (a1 ++ (a2 ++ (a3 ++ (a4 ++ rest))))) e
fails_at_4 a1 a2 a3 a4 rest e n1 n2 n3 r =
    Reports-back a1 (a2 ++ (a3 ++ (a4 ++ rest))) e n1 (fails_at_3 a2 a3 a4 rest e n2 n3 r)

pub fails_at_5 : (a1 a2 a3 a4 a5 rest : List Rule) (e : ProjectFault) → first_failing a1 ≡ None → first_failing a2 ≡ None → first_failing a3 ≡ None → first_failing a4 ≡ None → Reports (first_failing a5) e → Reports (first_failing (a1 ++ (a2 ++ (a3 ++ (a4 ++ (a5 ++ rest)))))) e
fails_at_5 a1 a2 a3 a4 a5 rest e n1 n2 n3 n4 r =
    Reports-back a1 (a2 ++ (a3 ++ (a4 ++ (a5 ++ rest)))) e n1 (fails_at_4 a2 a3 a4 a5 rest e n2 n3 n4 r)

pub fails_at_6 : (a1 a2 a3 a4 a5 a6 rest : List Rule) (e : ProjectFault) → first_failing a1 ≡ None → first_failing a2 ≡ None → first_failing a3 ≡ None → first_failing a4 ≡ None → first_failing a5 ≡ None → Reports (first_failing a6) e → Reports (first_failing (a1 ++ (a2 ++ (a3 ++ (a4 ++ (a5 ++ (a6 ++ rest))))))) e
fails_at_6 a1 a2 a3 a4 a5 a6 rest e n1 n2 n3 n4 n5 r =
    Reports-back a1 (a2 ++ (a3 ++ (a4 ++ (a5 ++ (a6 ++ rest))))) e n1 (fails_at_5 a2 a3 a4 a5 a6 rest e n2 n3 n4 n5 r)

pub fails_at_7 : (a1 a2 a3 a4 a5 a6 a7 rest : List Rule) (e : ProjectFault) → first_failing a1 ≡ None → first_failing a2 ≡ None → first_failing a3 ≡ None → first_failing a4 ≡ None → first_failing a5 ≡ None → first_failing a6 ≡ None → Reports (first_failing a7) e → Reports (first_failing (a1 ++ (a2 ++ (a3 ++ (a4 ++ (a5 ++ (a6 ++ (a7 ++ rest)))))))) e
fails_at_7 a1 a2 a3 a4 a5 a6 a7 rest e n1 n2 n3 n4 n5 n6 r =
    Reports-back a1 (a2 ++ (a3 ++ (a4 ++ (a5 ++ (a6 ++ (a7 ++ rest)))))) e n1 (fails_at_6 a2 a3 a4 a5 a6 a7 rest e n2 n3 n4 n5 n6 r)

pub fails_at_8 : (a1 a2 a3 a4 a5 a6 a7 a8 rest : List Rule) (e : ProjectFault) → first_failing a1 ≡ None → first_failing a2 ≡ None → first_failing a3 ≡ None → first_failing a4 ≡ None → first_failing a5 ≡ None → first_failing a6 ≡ None → first_failing a7 ≡ None → Reports (first_failing a8) e → Reports (first_failing (a1 ++ (a2 ++ (a3 ++ (a4 ++ (a5 ++ (a6 ++ (a7 ++ (a8 ++ rest))))))))) e
fails_at_8 a1 a2 a3 a4 a5 a6 a7 a8 rest e n1 n2 n3 n4 n5 n6 n7 r =
    Reports-back a1 (a2 ++ (a3 ++ (a4 ++ (a5 ++ (a6 ++ (a7 ++ (a8 ++ rest))))))) e n1 (fails_at_7 a2 a3 a4 a5 a6 a7 a8 rest e n2 n3 n4 n5 n6 n7 r)

-- the last part has no rest

pub fails_last_2 : (a1 a2 : List Rule) (e : ProjectFault) → first_failing a1 ≡ None → Reports (first_failing a2) e → Reports (first_failing (a1 ++ a2)) e
fails_last_2 a1 a2 e n1 r = (Reports-back a1 a2 e n1 r)

pub all_hold_2 : (a1 a2 : List Rule) → first_failing a1 ≡ None → first_failing a2 ≡ None → first_failing (a1 ++ a2) ≡ None
all_hold_2 a1 a2 n1 n2 = (both_none a1 a2 n1 n2)

pub fails_last_3 : (a1 a2 a3 : List Rule) (e : ProjectFault) → first_failing a1 ≡ None → first_failing a2 ≡ None → Reports (first_failing a3) e → Reports (first_failing (a1 ++ (a2 ++ a3))) e
fails_last_3 a1 a2 a3 e n1 n2 r = (Reports-back a1 (a2 ++ a3) e n1 (Reports-back a2 a3 e n2 r))

pub all_hold_3 : (a1 a2 a3 : List Rule) → first_failing a1 ≡ None → first_failing a2 ≡ None → first_failing a3 ≡ None → first_failing (a1 ++ (a2 ++ a3)) ≡ None
all_hold_3 a1 a2 a3 n1 n2 n3 = (both_none a1 (a2 ++ a3) n1 (both_none a2 a3 n2 n3))

pub fails_last_5 : (a1 a2 a3 a4 a5 : List Rule) (e : ProjectFault) → first_failing a1 ≡ None → first_failing a2 ≡ None → first_failing a3 ≡ None → first_failing a4 ≡ None → Reports (first_failing a5) e → Reports (first_failing (a1 ++ (a2 ++ (a3 ++ (a4 ++ a5))))) e
fails_last_5 a1 a2 a3 a4 a5 e n1 n2 n3 n4 r = (Reports-back a1 (a2 ++ (a3 ++ (a4 ++ a5))) e n1 (Reports-back a2 (a3 ++ (a4 ++ a5)) e n2 (Reports-back a3 (a4 ++ a5) e n3 (Reports-back a4 a5 e n4 r))))

pub all_hold_5 : (a1 a2 a3 a4 a5 : List Rule) → first_failing a1 ≡ None → first_failing a2 ≡ None → first_failing a3 ≡ None → first_failing a4 ≡ None → first_failing a5 ≡ None → first_failing (a1 ++ (a2 ++ (a3 ++ (a4 ++ a5)))) ≡ None
all_hold_5 a1 a2 a3 a4 a5 n1 n2 n3 n4 n5 = (both_none a1 (a2 ++ (a3 ++ (a4 ++ a5))) n1 (both_none a2 (a3 ++ (a4 ++ a5)) n2 (both_none a3 (a4 ++ a5) n3 (both_none a4 a5 n4 n5))))

pub fails_last_6 : (a1 a2 a3 a4 a5 a6 : List Rule) (e : ProjectFault) → first_failing a1 ≡ None → first_failing a2 ≡ None → first_failing a3 ≡ None → first_failing a4 ≡ None → first_failing a5 ≡ None → Reports (first_failing a6) e → Reports (first_failing (a1 ++ (a2 ++ (a3 ++ (a4 ++ (a5 ++ a6)))))) e
fails_last_6 a1 a2 a3 a4 a5 a6 e n1 n2 n3 n4 n5 r = (Reports-back a1 (a2 ++ (a3 ++ (a4 ++ (a5 ++ a6)))) e n1 (Reports-back a2 (a3 ++ (a4 ++ (a5 ++ a6))) e n2 (Reports-back a3 (a4 ++ (a5 ++ a6)) e n3 (Reports-back a4 (a5 ++ a6) e n4 (Reports-back a5 a6 e n5 r)))))

pub all_hold_6 : (a1 a2 a3 a4 a5 a6 : List Rule) → first_failing a1 ≡ None → first_failing a2 ≡ None → first_failing a3 ≡ None → first_failing a4 ≡ None → first_failing a5 ≡ None → first_failing a6 ≡ None → first_failing (a1 ++ (a2 ++ (a3 ++ (a4 ++ (a5 ++ a6))))) ≡ None
all_hold_6 a1 a2 a3 a4 a5 a6 n1 n2 n3 n4 n5 n6 = (both_none a1 (a2 ++ (a3 ++ (a4 ++ (a5 ++ a6)))) n1 (both_none a2 (a3 ++ (a4 ++ (a5 ++ a6))) n2 (both_none a3 (a4 ++ (a5 ++ a6)) n3 (both_none a4 (a5 ++ a6) n4 (both_none a5 a6 n5 n6)))))

pub fails_last_9 : (a1 a2 a3 a4 a5 a6 a7 a8 a9 : List Rule) (e : ProjectFault) → first_failing a1 ≡ None → first_failing a2 ≡ None → first_failing a3 ≡ None → first_failing a4 ≡ None → first_failing a5 ≡ None → first_failing a6 ≡ None → first_failing a7 ≡ None → first_failing a8 ≡ None → Reports (first_failing a9) e → Reports (first_failing (a1 ++ (a2 ++ (a3 ++ (a4 ++ (a5 ++ (a6 ++ (a7 ++ (a8 ++ a9))))))))) e
fails_last_9 a1 a2 a3 a4 a5 a6 a7 a8 a9 e n1 n2 n3 n4 n5 n6 n7 n8 r = (Reports-back a1 (a2 ++ (a3 ++ (a4 ++ (a5 ++ (a6 ++ (a7 ++ (a8 ++ a9))))))) e n1 (Reports-back a2 (a3 ++ (a4 ++ (a5 ++ (a6 ++ (a7 ++ (a8 ++ a9)))))) e n2 (Reports-back a3 (a4 ++ (a5 ++ (a6 ++ (a7 ++ (a8 ++ a9))))) e n3 (Reports-back a4 (a5 ++ (a6 ++ (a7 ++ (a8 ++ a9)))) e n4 (Reports-back a5 (a6 ++ (a7 ++ (a8 ++ a9))) e n5 (Reports-back a6 (a7 ++ (a8 ++ a9)) e n6 (Reports-back a7 (a8 ++ a9) e n7 (Reports-back a8 a9 e n8 r))))))))

pub all_hold_9 : (a1 a2 a3 a4 a5 a6 a7 a8 a9 : List Rule) → first_failing a1 ≡ None → first_failing a2 ≡ None → first_failing a3 ≡ None → first_failing a4 ≡ None → first_failing a5 ≡ None → first_failing a6 ≡ None → first_failing a7 ≡ None → first_failing a8 ≡ None → first_failing a9 ≡ None → first_failing (a1 ++ (a2 ++ (a3 ++ (a4 ++ (a5 ++ (a6 ++ (a7 ++ (a8 ++ a9)))))))) ≡ None
all_hold_9 a1 a2 a3 a4 a5 a6 a7 a8 a9 n1 n2 n3 n4 n5 n6 n7 n8 n9 = (both_none a1 (a2 ++ (a3 ++ (a4 ++ (a5 ++ (a6 ++ (a7 ++ (a8 ++ a9))))))) n1 (both_none a2 (a3 ++ (a4 ++ (a5 ++ (a6 ++ (a7 ++ (a8 ++ a9)))))) n2 (both_none a3 (a4 ++ (a5 ++ (a6 ++ (a7 ++ (a8 ++ a9))))) n3 (both_none a4 (a5 ++ (a6 ++ (a7 ++ (a8 ++ a9)))) n4 (both_none a5 (a6 ++ (a7 ++ (a8 ++ a9))) n5 (both_none a6 (a7 ++ (a8 ++ a9)) n6 (both_none a7 (a8 ++ a9) n7 (both_none a8 a9 n8 n9))))))))

-- where all hold, each part holds

pub parts_of_3 : (a1 a2 a3 : List Rule) → first_failing (a1 ++ (a2 ++ a3)) ≡ None → (first_failing a1 ≡ None) × (first_failing a2 ≡ None) × (first_failing a3 ≡ None)
parts_of_3 a1 a2 a3 none =
    let p1 = first-parts a1 (a2 ++ a3) none in
    let p2 = first-parts a2 a3 p1.1 in
    (p1.0, p2.0, p2.1)

pub parts_of_5 : (a1 a2 a3 a4 a5 : List Rule) → first_failing (a1 ++ (a2 ++ (a3 ++ (a4 ++ a5)))) ≡ None → (first_failing a1 ≡ None) × (first_failing a2 ≡ None) × (first_failing a3 ≡ None) × (first_failing a4 ≡ None) × (first_failing a5 ≡ None)
parts_of_5 a1 a2 a3 a4 a5 none =
    let p1 = first-parts a1 (a2 ++ (a3 ++ (a4 ++ a5))) none in
    let p2 = first-parts a2 (a3 ++ (a4 ++ a5)) p1.1 in
    let p3 = first-parts a3 (a4 ++ a5) p2.1 in
    let p4 = first-parts a4 a5 p3.1 in
    (p1.0, p2.0, p3.0, p4.0, p4.1)

pub parts_of_6 : (a1 a2 a3 a4 a5 a6 : List Rule) → first_failing (a1 ++ (a2 ++ (a3 ++ (a4 ++ (a5 ++ a6))))) ≡ None → (first_failing a1 ≡ None) × (first_failing a2 ≡ None) × (first_failing a3 ≡ None) × (first_failing a4 ≡ None) × (first_failing a5 ≡ None) × (first_failing a6 ≡ None)
parts_of_6 a1 a2 a3 a4 a5 a6 none =
    let p1 = first-parts a1 (a2 ++ (a3 ++ (a4 ++ (a5 ++ a6)))) none in
    let p2 = first-parts a2 (a3 ++ (a4 ++ (a5 ++ a6))) p1.1 in
    let p3 = first-parts a3 (a4 ++ (a5 ++ a6)) p2.1 in
    let p4 = first-parts a4 (a5 ++ a6) p3.1 in
    let p5 = first-parts a5 a6 p4.1 in
    (p1.0, p2.0, p3.0, p4.0, p5.0, p5.1)

pub parts_of_9 : (a1 a2 a3 a4 a5 a6 a7 a8 a9 : List Rule) → first_failing (a1 ++ (a2 ++ (a3 ++ (a4 ++ (a5 ++ (a6 ++ (a7 ++ (a8 ++ a9)))))))) ≡ None → (first_failing a1 ≡ None) × (first_failing a2 ≡ None) × (first_failing a3 ≡ None) × (first_failing a4 ≡ None) × (first_failing a5 ≡ None) × (first_failing a6 ≡ None) × (first_failing a7 ≡ None) × (first_failing a8 ≡ None) × (first_failing a9 ≡ None)
parts_of_9 a1 a2 a3 a4 a5 a6 a7 a8 a9 none =
    let p1 = first-parts a1 (a2 ++ (a3 ++ (a4 ++ (a5 ++ (a6 ++ (a7 ++ (a8 ++ a9))))))) none in
    let p2 = first-parts a2 (a3 ++ (a4 ++ (a5 ++ (a6 ++ (a7 ++ (a8 ++ a9)))))) p1.1 in
    let p3 = first-parts a3 (a4 ++ (a5 ++ (a6 ++ (a7 ++ (a8 ++ a9))))) p2.1 in
    let p4 = first-parts a4 (a5 ++ (a6 ++ (a7 ++ (a8 ++ a9)))) p3.1 in
    let p5 = first-parts a5 (a6 ++ (a7 ++ (a8 ++ a9))) p4.1 in
    let p6 = first-parts a6 (a7 ++ (a8 ++ a9)) p5.1 in
    let p7 = first-parts a7 (a8 ++ a9) p6.1 in
    let p8 = first-parts a8 a9 p7.1 in
    (p1.0, p2.0, p3.0, p4.0, p5.0, p6.0, p7.0, p8.0, p8.1)
