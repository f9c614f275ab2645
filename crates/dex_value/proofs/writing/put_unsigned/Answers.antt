use Rattle.std.proofs.Common.{take}
use Rattle.std.proofs.lemmas.Result.{on_ok_weaker}
use Rattle.dex_value.specs.inner.Writing.{sized}
use Rattle.dex_value.proofs.Narrow.{low_is, shortest_unsigned}
use Rattle.dex_value.proofs.writing.put_unsigned.Goals as goal

pub returns-clause-ok : goal.returns-clause-ok
returns-clause-ok c =
    let w = c.unsigned_width-width.result in
    on_ok_weaker c.put_sized.result
    (λ e. record {
      bytes = sized c.args.code (take w c.write_uint.new.buf);
      joined = e;
      spelled = shortest_unsigned c.args.code c.args.widest w c.args.n (take w c.write_uint.new.buf) c.unsigned_width-width.ensures c.requires.some c.requires.fits (low_is w c.args.n c.write_uint.new.buf _ c.write_uint.ensures);
    })
    c.put_sized.ensures.ok
