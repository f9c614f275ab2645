use Rattle.std.proofs.Common.{◌-◌, ◌/◌, ℕ, take, ap, ◌∙◌, arith}
use Rattle.std.proofs.lemmas.Result.{on_ok_weaker}
use Rattle.byteorder.specs.Endian.{little_bytes}
use Rattle.dex_value.specs.inner.Writing.{sized}
use Rattle.dex_value.proofs.Ranges.{power_small}
use Rattle.dex_value.proofs.Narrow.{low_is, high_fits, shortest_high}
use Rattle.dex_value.proofs.writing.put_high.Goals as goal

pub pow-requires : goal.pow-requires
pow-requires c =
    let s = c.high_width-width.ensures.some in let f = c.requires.few in
    let p = power_small (c.args.widest - c.high_width-width.result) (omega (arith, s, f)) in
    omega (arith, p)

pub write_uint-requires-clause-fits : goal.write_uint-requires-clause-fits
write_uint-requires-clause-fits c = high_fits c.args.bits c.args.widest c.high_width-width.result c.pow.result c.high_width-width.ensures.few c.requires.fits c.pow.ensures

pub returns-clause-ok : goal.returns-clause-ok
returns-clause-ok c =
    let w = c.high_width-width.result in
    on_ok_weaker c.put_sized.result
    (λ e. record {
      bytes = sized c.args.code (take w c.write_uint.new.buf);
      joined = e;
      spelled = shortest_high c.args.code c.args.widest w c.args.bits (take w c.write_uint.new.buf) c.high_width-width.ensures c.requires.fits
          (low_is w (c.args.bits / c.pow.result) c.write_uint.new.buf _ c.write_uint.ensures ∙ ap (λ (p : ℕ). little_bytes w (c.args.bits / p)) c.pow.ensures);
    })
    c.put_sized.ensures.ok
