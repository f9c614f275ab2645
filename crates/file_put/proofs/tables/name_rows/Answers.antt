use Rattle.std.proofs.Common.{◌++◌, ℕ, List, ap, ◌∙◌}
use Rattle.dex_base.specs.Words.{words_bytes}
use Rattle.file_put.proofs.FieldLaws.{five_joined}
use Rattle.file_put.proofs.tables.name_rows.Goals as goal

pub returns-clause-ok : goal.returns-clause-ok
returns-clause-ok c =
    let types = c.in_ok-put_types.ensures.ok in
    let protos = c.in_ok-put_protos.ensures.ok in
    let fields = c.in_ok-put_fields.ensures.ok in
    let methods = c.in_ok-put_methods.ensures.ok in
    record {
      types = types.bytes;
      protos = protos.bytes;
      fields = fields.bytes;
      methods = methods.bytes;
      whole = five_joined _ _ _ _ _ _ types.bytes protos.bytes fields.bytes methods.bytes (c.in_ok-push_words.ensures.ok ∙ ap (λ (l : List ℕ). l ++ words_bytes c.args.texts.now) c.new-rows.ensures.items) types.joined protos.joined fields.joined methods.joined;
      string_ids = c.requires.texts;
      type_ids = types.spelled;
      proto_ids = protos.spelled;
      field_ids = fields.spelled;
      method_ids = methods.spelled;
    }
