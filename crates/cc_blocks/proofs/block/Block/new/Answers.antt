use Rattle.std.proofs.Common.{ℕ, ◌≡◌, List, [], ◌∷◌, get_or, zero, suc, refl, arith}
use Rattle.cc_blocks.proofs.Words.{word_bit-AllZero, AllZero}
use Rattle.cc_blocks.proofs.block.Block.new.Goals as goal

zeros : AllZero (0 ∷ 0 ∷ 0 ∷ 0 ∷ 0 ∷ 0 ∷ 0 ∷ 0 ∷ [])
zeros zero = refl
zeros (suc zero) = refl
zeros (suc (suc zero)) = refl
zeros (suc (suc (suc zero))) = refl
zeros (suc (suc (suc (suc zero)))) = refl
zeros (suc (suc (suc (suc (suc zero))))) = refl
zeros (suc (suc (suc (suc (suc (suc zero)))))) = refl
zeros (suc (suc (suc (suc (suc (suc (suc zero))))))) = refl
zeros (suc (suc (suc (suc (suc (suc (suc (suc j)))))))) = refl

pub returns : goal.returns
returns c = λ i. word_bit-AllZero (0 ∷ 0 ∷ 0 ∷ 0 ∷ 0 ∷ 0 ∷ 0 ∷ 0 ∷ []) i zeros
