use Rattle.std.proofs.Common.{arith}
use Rattle.file_strip.proofs.ClassRowLaws.{no_type, type_within, some_type}
use Rattle.file_strip.proofs.class_defs.type_or_none.Goals as goal

pub returns-then-index-eq-NO_INDEX : goal.returns-then-index-eq-NO_INDEX
returns-then-index-eq-NO_INDEX c = λ b s name x. no_type b c.args.numbers.now s c.args.index name (omega arith) x

pub of-requires : goal.of-requires
of-requires c = type_within c.requires.0 c.args.numbers.now c.requires.1 c.args.index c.requires.2 (λ e. omega (arith, e)) c.requires.3

pub returns : goal.returns
returns c = λ b s name x. some_type b c.args.numbers.now s c.args.index c.of.result name (λ e. omega (arith, e)) x c.of.ensures
