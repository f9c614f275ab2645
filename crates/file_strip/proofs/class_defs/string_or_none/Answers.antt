use Rattle.std.proofs.Common.{arith}
use Rattle.file_strip.proofs.ClassRowLaws.{no_string, string_within, some_string}
use Rattle.file_strip.proofs.class_defs.string_or_none.Goals as goal

pub returns-then-index-eq-NO_INDEX : goal.returns-then-index-eq-NO_INDEX
returns-then-index-eq-NO_INDEX c = λ b s name x. no_string b c.args.numbers.now s c.args.index name (omega arith) x

pub of-requires : goal.of-requires
of-requires c = string_within c.requires.0 c.args.numbers.now c.requires.1 c.args.index c.requires.2 (λ e. omega (arith, e)) c.requires.3

pub returns : goal.returns
returns c = λ b s name x. some_string b c.args.numbers.now s c.args.index c.of.result name (λ e. omega (arith, e)) x c.of.ensures
