use Rattle.file_classes.proofs.OnceLaws.{class_one}
use Rattle.file_classes.proofs.laws.class_is_one.Goals as goal

pub returns : goal.returns
returns c = class_one
