use Rattle.std.proofs.Common.{ℕ, List, sym, ◌∙◌, subst, arith}
use Rattle.dex_base.proofs.ListFacts.{passed}
use Rattle.program_types.specs.View.{class}
use Rattle.file_classes.specs.inner.Reading.{AreCodesOf}
use Rattle.file_read.specs.Refused.{IsRefused}
use Rattle.dexasm_run.proofs.ByClassLaws.{listed_more}
use Rattle.dexasm_run.proofs.answers.put_some.Goals as goal

pub loop-codes-preserved : goal.loop-codes-preserved
loop-codes-preserved c =
    let fewer = rw c.in-Some.is at c.in_ok-class.ensures.fewer in
    let least = c.loop-codes.invariant.fewer in
    record {
      listed = listed_more _ _ _ _ (class c.in-Some.class) c.loop-codes.invariant.listed c.in_ok-class.ensures.reader (rw c.in-Some.is at c.in_ok-class.ensures.next) c.in_ok-put_listed.ensures.ok;
      codes = subst (λ (b : List ℕ). AreCodesOf b c.next_class.new.codes) (sym c.in_ok-class.ensures.bytes) c.in_ok-class.ensures.codes;
      bytes = c.in_ok-class.ensures.bytes ∙ c.loop-codes.invariant.bytes;
      fewer = omega (arith, fewer, least);
    }

pub returns-in_err-class-clause-refused : goal.returns-in_err-class-clause-refused
returns-in_err-class-clause-refused c =
    passed _ _ _ c.from_residual.ensures.1 (λ ne. subst (λ (b : List ℕ). IsRefused b c.in_err-class.field-0.0) c.loop-codes.invariant.bytes (c.in_err-class.ensures.refused ne))

pub returns-then-are_many-clause-listed : goal.returns-then-are_many-clause-listed
returns-then-are_many-clause-listed c =
    listed_more _ _ _ _ (class c.in-Some.class) c.loop-codes.invariant.listed c.in_ok-class.ensures.reader (rw c.in-Some.is at c.in_ok-class.ensures.next) c.in_ok-put_listed.ensures.ok
