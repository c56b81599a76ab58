-- The first of two lists of rules that fails, and the fault that reports it.
use Rattle.std.proofs.Common.{◌≡◌, Bool, true, false, cond, List, [], ◌∷◌, ◌++◌, Option, Some, None, Result, Ok, Err, IfErr, IsErrAnd, subst, sym, ◌∙◌}
use Rattle.cc_project.specs.Order.{Rule, first_failing}
use Rattle.cc_project.proofs.Firsts.{Fault, first-none}
use Rattle.cc_device.specs.Outcome.{Reports}
use Rattle.cc_device.specs.declared.fault.DeviceFault.{DeviceFault}
use Rattle.cc_device.specs.declared.fault.DeviceFault.TheVariants.{NotToml, Shape, Memory}

-- a rule that fails is the first in a longer list as well
front_of : (holds : Bool) (one fault : Fault) (a b : Option Fault) → (a ≡ Some fault → b ≡ Some fault) → cond holds a (Some one) ≡ Some fault → cond holds b (Some one) ≡ Some fault
front_of true one fault a b longer is = longer is
front_of false one fault a b longer is = is

first-front : (a b : List Rule) (fault : Fault) → first_failing a ≡ Some fault → first_failing (a ++ b) ≡ Some fault
unfolding first_failing
first-front [] b fault is = cc
first-front (rule ∷ rest) b fault is = front_of rule.holds (rule.key, rule.number) fault (first_failing rest) (first_failing (rest ++ b)) (first-front rest b fault) is

pub Reports-same : (a b : Option Fault) (e : DeviceFault) → a ≡ b → Reports a e → Reports b e
Reports-same a b e same r = subst (λ first. Reports first e) same r

pub Reports-front : (a b : List Rule) (e : DeviceFault) → Reports (first_failing a) e → Reports (first_failing (a ++ b)) e
Reports-front a b NotToml r = r
Reports-front a b (Shape key rule) r = first-front a b (key, rule) r
Reports-front a b Memory r = tt

pub Reports-back : (a b : List Rule) (e : DeviceFault) → first_failing a ≡ None → Reports (first_failing b) e → Reports (first_failing (a ++ b)) e
Reports-back a b e none r = Reports-same (first_failing b) (first_failing (a ++ b)) e (sym (first-none a b none)) r

-- `?` passes a fault up as it is
pub passed_up : {T : Type 0} (r : Result T DeviceFault) (e : DeviceFault) (P : DeviceFault → Type 0) → IsErrAnd r (λ y. y ≡ e) → P e → IfErr r P
passed_up (Ok x) e P is p = tt
passed_up (Err y) e P is p = subst P (sym is) p

-- a turn of a loop: the rules that are left are those of this turn, and then more
pub round_fails : (left : Option Fault) (now more : List Rule) (whole : Option Fault) (e : DeviceFault)
    → left ≡ whole → left ≡ first_failing (now ++ more) → Reports (first_failing now) e → Reports whole e
round_fails left now more whole e same parts r =
    Reports-same (first_failing (now ++ more)) whole e (sym parts ∙ same) (Reports-front now more e r)

-- ---- A list of rules in parts: the part that fails, and all that hold

pub fails_at_2 : (a1 a2 rest : List Rule) (e : DeviceFault) → first_failing a1 ≡ None → Reports (first_failing a2) e → Reports (first_failing (a1 ++ (a2 ++ rest))) e
fails_at_2 a1 a2 rest e n1 r = Reports-back a1 (a2 ++ rest) e n1 (Reports-front a2 rest e r)

pub fails_at_3 : (a1 a2 a3 rest : List Rule) (e : DeviceFault) → first_failing a1 ≡ None → first_failing a2 ≡ None → Reports (first_failing a3) e
    → Reports (first_failing (a1 ++ (a2 ++ (a3 ++ rest)))) e
fails_at_3 a1 a2 a3 rest e n1 n2 r = Reports-back a1 (a2 ++ (a3 ++ rest)) e n1 (fails_at_2 a2 a3 rest e n2 r)

pub fails_last_3 : (a1 a2 a3 : List Rule) (e : DeviceFault) → first_failing a1 ≡ None → first_failing a2 ≡ None → Reports (first_failing a3) e
    → Reports (first_failing (a1 ++ (a2 ++ a3))) e
fails_last_3 a1 a2 a3 e n1 n2 r = Reports-back a1 (a2 ++ a3) e n1 (Reports-back a2 a3 e n2 r)

pub fails_last_4 : (a1 a2 a3 a4 : List Rule) (e : DeviceFault) → first_failing a1 ≡ None → first_failing a2 ≡ None → first_failing a3 ≡ None → Reports (first_failing a4) e
    → Reports (first_failing (a1 ++ (a2 ++ (a3 ++ a4)))) e
fails_last_4 a1 a2 a3 a4 e n1 n2 n3 r = Reports-back a1 (a2 ++ (a3 ++ a4)) e n1 (fails_last_3 a2 a3 a4 e n2 n3 r)

pub all_hold_4 : (a1 a2 a3 a4 : List Rule) → first_failing a1 ≡ None → first_failing a2 ≡ None → first_failing a3 ≡ None → first_failing a4 ≡ None
    → first_failing (a1 ++ (a2 ++ (a3 ++ a4))) ≡ None
all_hold_4 a1 a2 a3 a4 n1 n2 n3 n4 = first-none a1 _ n1 ∙ first-none a2 _ n2 ∙ first-none a3 _ n3 ∙ n4
