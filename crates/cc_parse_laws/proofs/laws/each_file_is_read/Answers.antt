use Rattle.cc_parse_laws.proofs.CompleteReaders.{readers_complete}
use Rattle.cc_parse_laws.proofs.CompleteFiles.{each_file_is_read}
use Rattle.cc_parse_laws.proofs.laws.each_file_is_read.Goals as goal

pub returns : goal.returns
returns c = each_file_is_read readers_complete
