use Rattle.std.proofs.Common.{subst, sym}
use Rattle.code_write.specs.Fits.{CanBePut}
use Rattle.tables_names.specs.Closure.{NameRanks, Five}
use Rattle.program_types.specs.View as view
use Rattle.put_samples.proofs.FormedCodes.{can_be_put}
use Rattle.put_samples.proofs.codes.put_nameless.Goals as goal

pub put_code-requires-clause-ranked : goal.put_code-requires-clause-ranked
put_code-requires-clause-ranked c =
    subst (λ (s : Five). CanBePut (NameRanks s) (view.code c.args.code.now)) (sym c.requires.ranks)
    (can_be_put (view.code c.args.code.now) c.requires.insns c.requires.tries c.requires.short)
