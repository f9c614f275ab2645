use Rattle.std.proofs.Common.{refl}
use Rattle.file_strip.proofs.codes.push_class.Goals as goal

pub returns-clause-ok : goal.returns-clause-ok
returns-clause-ok c = rw (c.in_ok-push_bodies-2.ensures.ok, c.in_ok-push_bodies.ensures.ok, c.deref.ensures.value, c.deref-2.ensures.value) refl
