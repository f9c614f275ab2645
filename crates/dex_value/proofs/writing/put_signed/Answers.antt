use Rattle.std.proofs.Common.{◌*◌, take}
use Rattle.std.proofs.lemmas.Int.{to_z-of_z}
use Rattle.std.proofs.lemmas.Result.{on_ok_weaker}
use mir.Syntax.{w64}
use Rattle.dex_value.specs.inner.Writing.{IsNumberWidth, magnitude_of, sized}
use Rattle.dex_value.proofs.Narrow.{low_is, shortest_signed}
use Rattle.dex_value.proofs.writing.put_signed.Goals as goal

pub returns-clause-ok : goal.returns-clause-ok
returns-clause-ok c =
    let w = c.signed_width-width.result in
    let back = to_z-of_z w64 c.args.n c.ranges.n in
    let is : IsNumberWidth (2 * magnitude_of c.args.n) w = rw back at c.signed_width-width.ensures in
    let buffer = rw back at c.write_int.ensures in
    on_ok_weaker c.put_sized.result
    (λ e. record {
      bytes = sized c.args.code (take w c.write_int.new.buf);
      joined = e;
      spelled = shortest_signed c.args.code c.args.widest w c.args.n (take w c.write_int.new.buf) is c.requires.some c.requires.fits (low_is w _ c.write_int.new.buf _ buffer);
    })
    c.put_sized.ensures.ok
