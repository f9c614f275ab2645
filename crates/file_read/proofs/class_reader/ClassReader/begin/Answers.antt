use Rattle.std.proofs.Common.{rules, inl, subst, List, ℕ}
use Rattle.file_read.specs.Refused.{IsRefused}
use Rattle.file_read.proofs.PassLaws.{table_refused, class_refused, value_refused}
use Rattle.file_read.proofs.class_reader.ClassReader.begin.Goals as goal
use Rattle.dex_base.proofs.ListFacts.{passed}

pub returns-in_err-sections-clause-refused : goal.returns-in_err-sections-clause-refused
returns-in_err-sections-clause-refused c = passed _ _ _ c.from_residual.ensures.1 (λ ne. inl c.in_err-sections.ensures.fault)

pub returns-in_err-tables-clause-refused : goal.returns-in_err-tables-clause-refused
returns-in_err-tables-clause-refused c =
    let same = c.in_ok-sections.ensures.framed.0 in
    passed _ _ _ c.from_residual-in_err-tables.ensures.1 (λ ne. subst (λ (b : List ℕ). IsRefused b c.in_err-tables.field-0.0) same (table_refused _ _ (c.in_err-tables.ensures.refused ne)))

pub returns-in_err-heads-clause-refused : goal.returns-in_err-heads-clause-refused
returns-in_err-heads-clause-refused c =
    let same = c.in_ok-sections.ensures.framed.0 in
    passed _ _ _ c.from_residual-in_err-heads.ensures.1 (λ ne. subst (λ (b : List ℕ). IsRefused b c.in_err-heads.field-0.0) same
    (class_refused _ _ (rw same c.in_ok-sections.ensures.framed.1) c.in_ok-tables.ensures.hold (c.in_err-heads.ensures.err ne)))

pub returns-in_err-statics-clause-refused : goal.returns-in_err-statics-clause-refused
returns-in_err-statics-clause-refused c =
    let same = c.in_ok-sections.ensures.framed.0 in
    passed _ _ _ c.from_residual-in_err-statics.ensures.1 (λ ne. subst (λ (b : List ℕ). IsRefused b c.in_err-statics.field-0.0) same
    (value_refused _ _ (rw same c.in_ok-sections.ensures.framed.1) c.in_ok-tables.ensures.hold c.in_ok-heads.ensures.hold (c.in_err-statics.ensures.err ne)))

pub returns-clause-reader : goal.returns-clause-reader
returns-clause-reader c = record {
  framed = rw c.in_ok-sections.ensures.framed.0 c.in_ok-sections.ensures.framed.1;
  tables = c.in_ok-tables.ensures.hold;
  names = c.in_ok-tables.ensures.names;
  classes = c.in_ok-heads.ensures.hold;
  heads = c.in_ok-heads.ensures.rows;
  values = c.in_ok-statics.ensures.hold;
  statics = c.in_ok-statics.ensures.rows;
  within = search rules;
  bodies = search rules;
  hold = search rules;
  past = tt;
}
