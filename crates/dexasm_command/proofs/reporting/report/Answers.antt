use Rattle.std.proofs.Common.{[], inr, refl}
use Rattle.dexasm_command.proofs.Putting.{no_more, puts}
use Rattle.dexasm_command.proofs.reporting.report.Goals as goal

pub returns-in-Err : goal.returns-in-Err
returns-in-Err g c = inr (
  refl,
  record {
    text = _;
    is = record { more = []; is = no_more c.args.is_terminal; whole = refl };
    put = puts _ _ _ _ c.write_all-in-Err.result c.write_all-in-Err.ensures;
  },
)
