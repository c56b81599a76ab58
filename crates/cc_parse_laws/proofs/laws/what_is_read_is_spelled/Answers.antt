use Rattle.cc_parse_laws.proofs.SoundReaders.{readers_sound}
use Rattle.cc_parse_laws.proofs.SoundFiles.{read_is_well_formed}
use Rattle.cc_parse_laws.proofs.laws.what_is_read_is_spelled.Goals as goal
use Rattle.std.proofs.Common.{[]}

pub returns : goal.returns
returns c = λ d tokens f e. read_is_well_formed readers_sound d tokens (f, []) e
