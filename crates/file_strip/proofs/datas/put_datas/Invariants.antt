use Rattle.program_types.specs.Content.{Program}
use Rattle.file_strip.specs.inner.Keeping.{Keeps}
use Rattle.file_strip.proofs.SiteLaws.{ClassDataIsLaid}
use Rattle.file_strip.proofs.datas.put_datas.Given as goal

abbrev pub invariant-loop-i : goal.invariant-loop-i
invariant-loop-i l = (p : Program) → Keeps l.sections l.numbers p → ClassDataIsLaid p l.codes l.fn.out.items l.out.items l.i l.rest l.placed.places.items l.placed.items
