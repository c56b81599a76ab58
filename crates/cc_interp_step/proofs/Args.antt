-- The arguments of a call, and its turn.
use Rattle.std.proofs.Common.{◌≡◌, ℕ, zero, suc, ◌+◌, ◌-◌, List, length, take, drop, reverse, refl, sym, ap, ◌∙◌, arith}
use Rattle.std.proofs.lemmas.List.{take_rest, reverse-reverse, length-reverse}
use Rattle.cc_acts.specs.declared.frame.Entry.{Entry}
use Rattle.cc_acts.specs.declared.state.State.{State}
use Rattle.cc_acts.specs.Runs.{Part}
use Rattle.cc_acts.specs.Parts.{turn_of}
use Rattle.cc_acts.specs.Steps.{args_of}

pub args_are : (all ops : List Entry) (k count : ℕ) → reverse all ≡ ops → k ≡ length all - count → take (length all - k) (drop k all) ≡ args_of count ops
args_are all ops k count h e =
    let is : all ≡ reverse ops = sym (reverse-reverse all) ∙ ap reverse h in
    let long : length all ≡ length ops = sym (length-reverse all) ∙ ap length h in
    take_rest all k ∙ ap (λ j. drop j all) e ∙ ap (λ n. drop (n - count) all) long ∙ ap (drop (length ops - count)) is

pub turn_taken : {A : Type 0} (n : ℕ) (m : Part A) (s : State) → (n ≡ 0 → ⊥) → m (record s { turns = n - 1 }) ≡ turn_of n m s
turn_taken zero m s ne = absurd (ne refl)
turn_taken (suc k) m s ne = let e : suc k - 1 ≡ k = omega arith in ap (λ t. m (record s { turns = t })) e
