use Rattle.std.proofs.Common.{arith}
use Rattle.std.specs.Prelude.{IfSome}
use Rattle.dex_base.proofs.ListFacts.{all_at}
use Rattle.program_types.specs.View.{method}
use Rattle.program_rules.specs.inner.Valid.{InsnsAreNamed}
use Rattle.program_rules.proofs.members.methods_are_valid.Goals as goal

pub method_is_valid-requires : goal.method_is_valid-requires
method_is_valid-requires c = λ known. all_at (λ m. IfSome m.code InsnsAreNamed) method c.args.all.now c.loop-each.each-index _ (omega arith) (c.requires known)
