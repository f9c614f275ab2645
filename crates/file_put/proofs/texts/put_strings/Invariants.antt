use Rattle.std.proofs.Common.{map, take, drop}
use Rattle.dex_base.specs.Mutf8.{PacksText}
use Rattle.program_types.specs.View.{str}
use Rattle.file_layout.specs.inner.Sections.{never, Laying}
use Rattle.file_limits.specs.inner.Wide.{wide_text}
use Rattle.file_put.proofs.texts.put_strings.Given as goal

abbrev pub invariant-loop-text : goal.invariant-loop-text
invariant-loop-text l = Laying never PacksText 1 wide_text l.fn.out.items l.out.items (map str (take l.text-index l.texts)) (map str (drop l.text-index l.texts)) (map str l.texts) l.places.items l.text-index
