use Rattle.std.proofs.Common.{arith}
use Rattle.file_tests.proofs.laid.plan_without_classes.Goals as goal

pub returns-clause-planned : goal.returns-clause-planned
returns-clause-planned c = record {
  lists = record { after = omega arith; begins = λ _. omega arith; takes = λ some. omega (arith, some) };
  codes = record { after = omega arith; begins = λ _. omega arith; takes = λ some. omega (arith, some) };
  strings = record { after = omega arith; begins = λ _. omega arith; takes = λ some. omega (arith, some) };
  arrays = record { after = omega arith; begins = λ _. omega arith; takes = λ some. omega (arith, some) };
  datas = record { after = omega arith; begins = λ _. omega arith; takes = λ some. omega (arith, some) };
  few_types = omega arith;
  few_protos = omega arith;
}
