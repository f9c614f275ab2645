use Rattle.std.proofs.Common.{refl, sym, subst, true≢false}
use Rattle.program_types.specs.View.{str}
use Rattle.tables_rows.specs.Stands.{StringStands}
use Rattle.tables_rows.proofs.ClearRows.{type_text}
use Rattle.tables_rows.proofs.type_ids.read_type.Goals as goal

pub returns-then-not-is_descriptor-clause-err : goal.returns-then-not-is_descriptor-clause-err
returns-then-not-is_descriptor-clause-err c = rw c.at-then-not-is_descriptor.ensures (record {
  breaks = type_text _ _ c.framed.ensures (str c.in-Some.text) (subst (λ n. StringStands c.args.sections.now n (str c.in-Some.text)) c.type_string.ensures c.in-Some.ensures.some)
      (λ is. true≢false (sym (c.if-not-is_descriptor.ensures.1 is)));
  place = c.type_row-row.ensures;
})

pub returns-clause-ok : goal.returns-clause-ok
returns-clause-ok c = record {
  row = c.requires.row;
  string = subst (λ n. StringStands c.args.sections.now n (str c.in-Some.text)) c.type_string.ensures c.in-Some.ensures.some;
  descriptor = c.if-not-is_descriptor.ensures.0 refl;
}
