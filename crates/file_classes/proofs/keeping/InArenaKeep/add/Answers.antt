use Rattle.std.proofs.Common.{refl}
use Rattle.std.proofs.lemmas.List.{map-append}
use Rattle.file_classes.proofs.keeping.InArenaKeep.add.Goals as goal

pub returns-clause-ok : goal.returns-clause-ok
returns-clause-ok c = λ ms o are is. rw (c.in_ok-push.ensures.items, map-append, are, is) refl
