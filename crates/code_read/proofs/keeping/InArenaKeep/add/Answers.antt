use Rattle.std.proofs.Common.{refl}
use Rattle.std.proofs.lemmas.List.{map-append}
use Rattle.code_read.proofs.keeping.InArenaKeep.add.Goals as goal

pub returns : goal.returns
returns c = λ is are. rw (c.in_ok-push.ensures.items, map-append, are) refl
