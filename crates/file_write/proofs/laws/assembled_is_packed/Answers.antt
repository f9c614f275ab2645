use Rattle.file_write.proofs.Files.{packed}
use Rattle.file_write.proofs.laws.assembled_is_packed.Goals as goal

pub returns : goal.returns
returns c = λ b p well fits file. packed b p file well fits
