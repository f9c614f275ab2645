use Rattle.std.proofs.Common.{refl}
use Rattle.file_strip.proofs.SizeLaws.{totals, count_is}
use Rattle.file_strip.proofs.stripping.counts_of.Goals as goal

pub returns : goal.returns
returns c = λ p k.
    let t = totals c.args.sections.now c.args.numbers.now p k in
    rw (
      count_is k.marked.strings.shape k.numbered.strings t.strings c.count.ensures,
      count_is k.marked.types.shape k.numbered.types t.types c.count-2.ensures,
      count_is k.marked.protos.shape k.numbered.protos t.protos c.count_protos.ensures,
      count_is k.marked.fields.shape k.numbered.fields t.fields c.count-3.ensures,
      count_is k.marked.methods.shape k.numbered.methods t.methods c.count-4.ensures,
      c.class_count.ensures,
      k.classes.count,
    )
    refl
