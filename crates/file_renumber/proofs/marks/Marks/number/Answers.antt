use Rattle.std.proofs.Common.{ap}
use Rattle.file_renumber.specs.inner.Marked.{Marked}
use Rattle.file_renumber.proofs.ColumnLemmas.{counts_back}
use Rattle.file_renumber.proofs.marks.Marks.number.Goals as goal

pub returns : goal.returns
returns c = record {
  strings = counts_back c.self.inside.strings.len c.self.inside.strings.items c.count_before.new.rows _ c.args.self.columns.strings c.self.inside.strings.ok.0 c.deref_mut.ensures.value (ap (λ (m : Marked). m.columns.strings) c.self.view_is) c.count_before.ensures;
  types = counts_back c.self.inside.types.len c.self.inside.types.items c.count_before-2.new.rows _ c.args.self.columns.types c.self.inside.types.ok.0 c.deref_mut-2.ensures.value (ap (λ (m : Marked). m.columns.types) c.self.view_is) c.count_before-2.ensures;
  protos = counts_back c.self.inside.protos.len c.self.inside.protos.items c.count_before-3.new.rows _ c.args.self.columns.protos c.self.inside.protos.ok.0 c.deref_mut-3.ensures.value (ap (λ (m : Marked). m.columns.protos) c.self.view_is) c.count_before-3.ensures;
  fields = counts_back c.self.inside.fields.len c.self.inside.fields.items c.count_before-4.new.rows _ c.args.self.columns.fields c.self.inside.fields.ok.0 c.deref_mut-4.ensures.value (ap (λ (m : Marked). m.columns.fields) c.self.view_is) c.count_before-4.ensures;
  methods = counts_back c.self.inside.methods.len c.self.inside.methods.items c.count_before-5.new.rows _ c.args.self.columns.methods c.self.inside.methods.ok.0 c.deref_mut-5.ensures.value (ap (λ (m : Marked). m.columns.methods) c.self.view_is) c.count_before-5.ensures;
}
