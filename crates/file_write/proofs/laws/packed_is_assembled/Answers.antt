use Rattle.file_write.proofs.Converse.{assembled_of}
use Rattle.file_write.proofs.FileLaws.{packed_file}
use Rattle.file_write.proofs.laws.packed_is_assembled.Goals as goal

pub returns : goal.returns
returns c = record { assembled = assembled_of; file = packed_file }
