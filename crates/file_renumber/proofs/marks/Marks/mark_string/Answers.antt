use Rattle.std.proofs.Common.{ap, sym, subst, ◌∙◌}
use Rattle.file_renumber.specs.inner.Marked.{Marked, AreMarks}
use Rattle.file_renumber.proofs.MarkLemmas.{string_marked}
use Rattle.file_renumber.proofs.ColumnLemmas.{set_back, within}
use Rattle.file_renumber.proofs.marks.Marks.mark_string.Goals as goal

pub mark-requires : goal.mark-requires
mark-requires c =
    within _ _ c.args.self.now.columns.strings c.args.index (c.deref_mut.ensures.value ∙ ap (λ (m : Marked). m.columns.strings) c.self.view_is) c.requires.1.1.strings.shape.long c.requires.2.1.row

pub returns : goal.returns
returns c = λ b t st s a.
    string_marked b _ s c.args.index t _ (set_back c.self.inside.strings.len c.self.inside.strings.items c.mark.new.rows _ c.args.index c.self.inside.strings.ok.0 c.deref_mut.ensures.value c.mark.ensures) st
    (subst (λ (m : Marked). AreMarks b m s) (sym c.self.view_is) a)
