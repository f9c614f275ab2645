use Rattle.code_read.proofs.PlaceLaws.{count-is}
use Rattle.code_read.proofs.places.below.Goals as goal

pub returns-clause-counted : goal.returns-clause-counted
returns-clause-counted c = count-is c.args.starts.now c.args.x c.split.result c.split.ensures.within c.split.ensures.before c.split.ensures.after
