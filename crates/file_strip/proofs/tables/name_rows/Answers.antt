use Rattle.std.proofs.Common.{ap, ◌∙◌, ◌++◌, List, ℕ}
use Rattle.dex_base.specs.Words.{words_bytes}
use Rattle.file_put.proofs.FieldLaws.{five_joined}
use Rattle.file_strip.proofs.KeepLaws.{same_lengths}
use Rattle.file_strip.proofs.tables.name_rows.Goals as goal

pub put_protos-requires : goal.put_protos-requires
put_protos-requires c = record { kept = (c.requires.kept.0, c.requires.kept.1, c.requires.kept.3) }

pub returns-clause-ok : goal.returns-clause-ok
returns-clause-ok c = λ p k.
    let t = c.in_ok-put_types.ensures.ok p k in
    let q = c.in_ok-put_protos.ensures.ok p k in
    let f = c.in_ok-put_fields.ensures.ok p k in
    let m = c.in_ok-put_methods.ensures.ok p k in
    record {
      types = t.bytes;
      protos = q.bytes;
      fields = f.bytes;
      methods = m.bytes;
      whole = five_joined _ _ _ _ _ (words_bytes c.args.texts.now) t.bytes q.bytes f.bytes m.bytes (c.in_ok-push_words.ensures.ok ∙ ap (λ (l : List ℕ). l ++ words_bytes c.args.texts.now) c.new-rows.ensures.items) t.joined q.joined f.joined m.joined;
      string_ids = c.requires.kept.2 ∙ (same_lengths c.args.sections.now c.args.numbers.now c.requires.kept.0 p c.requires.kept.1 k).0;
      type_ids = t.spelled;
      proto_ids = q.spelled;
      field_ids = f.spelled;
      method_ids = m.spelled;
    }
