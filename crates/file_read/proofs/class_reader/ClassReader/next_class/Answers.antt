use Rattle.std.proofs.Common.{arith}
use Rattle.dex_base.proofs.ListFacts.{passed}
use Rattle.program_types.specs.View.{class}
use Rattle.file_read.proofs.ReaderLaws.{row_refused, read_more, reader_more, whole_means, registers_refused}
use Rattle.file_read.proofs.class_reader.ClassReader.next_class.Goals as goal

pub returns-in-Some-clause-refused : goal.returns-in-Some-clause-refused
returns-in-Some-clause-refused c = λ ne. registers_refused c.args.self.now c.requires.reader (omega (arith, c.class_count.ensures, c.if-self-class_count.true)) _ c.in-Some.is

pub returns-in-None-clause-whole : goal.returns-in-None-clause-whole
returns-in-None-clause-whole c = λ cs. whole_means c.args.self.now c.requires.reader (omega (arith, c.class_count.ensures, c.if-self-class_count.true)) cs c.in-None.is

pub returns-in_err-found-clause-refused : goal.returns-in_err-found-clause-refused
returns-in_err-found-clause-refused c =
    passed _ _ _ c.from_residual.ensures.1 (λ ne. row_refused c.args.self.now c.requires.reader _ (omega (arith, c.class_count.ensures, c.if-self-class_count.false)) (c.in_err-found.ensures.err ne))

pub returns-clause-reader : goal.returns-clause-reader
returns-clause-reader c =
    reader_more c.args.self.now c.requires.reader (class c.in_ok-found.found.class) c.in_ok-found.ensures.ok c.in_ok-found.found.past c.or-self.result
    (omega (arith, c.class_count.ensures, c.if-self-class_count.false)) c.or-self.ensures c.in_ok-found.ensures.hold c.in_ok-found.ensures.past

pub returns-clause-next : goal.returns-clause-next
returns-clause-next c = read_more c.args.self.now c.requires.reader (class c.in_ok-found.found.class) c.in_ok-found.ensures.ok c.or-self.result
