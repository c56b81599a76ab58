-- One parameter further in a function type.
use Rattle.std.proofs.Common.{◌≡◌, ℕ, suc, ◌+◌, ◌-◌, ◌<◌, List, Some, None, ap, ◌∙◌, arith}
use Rattle.cc_types.specs.declared.shape.Shape.{Shape}
use Rattle.cc_layout.specs.Functions.{behind, behind_one, further}

pub behind_step : (ss : List Shape) (count counter : ℕ) (f rest : Shape) → counter < count → behind_one ss f ≡ Some rest → behind ss (count - counter) f ≡ behind ss (count - (counter + 1)) rest
behind_step ss count counter f rest lt h =
    let s : count - counter ≡ suc (count - (counter + 1)) = omega arith in
    ap (λ m. behind ss m f) s ∙ ap (further (behind ss (count - (counter + 1)))) h

pub behind_stop : (ss : List Shape) (count counter : ℕ) (f : Shape) → counter < count → behind_one ss f ≡ None → behind ss (count - counter) f ≡ None
behind_stop ss count counter f lt h =
    let s : count - counter ≡ suc (count - (counter + 1)) = omega arith in
    ap (λ m. behind ss m f) s ∙ ap (further (behind ss (count - (counter + 1)))) h

pub behind_end : (ss : List Shape) (count counter : ℕ) (f : Shape) → count ≡ counter → behind ss (count - counter) f ≡ Some f
behind_end ss count counter f e = let z : count - counter ≡ 0 = omega arith in ap (λ m. behind ss m f) z
