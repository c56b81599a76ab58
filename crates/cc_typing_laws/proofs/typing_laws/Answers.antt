use Rattle.cc_typing_laws.proofs.TypingMeans.{means, sound}
use Rattle.cc_typing_laws.proofs.typing_laws.Goals as goal

pub returns-clause-means : goal.returns-clause-means
returns-clause-means c = means

pub returns-clause-sound : goal.returns-clause-sound
returns-clause-sound c = sound
