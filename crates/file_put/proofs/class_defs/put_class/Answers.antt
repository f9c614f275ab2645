use Rattle.std.proofs.Common.{◌∷◌, [], arith, refl}
use Rattle.std.proofs.lemmas.Result.{on_ok_weaker}
use Rattle.dex_base.specs.Words.{words_bytes}
use Rattle.file_put.proofs.class_defs.put_class.Goals as goal

pub returns-clause-ok : goal.returns-clause-ok
returns-clause-ok c =
    on_ok_weaker c.push_words.result
    (λ v. record {
      bytes = words_bytes (c.from.result ∷ c.args.class.now.flags ∷ c.type_or_none.result ∷ c.args.places.list ∷ c.string_or_none.result ∷ 0 ∷ c.args.places.class_data ∷ c.args.places.array ∷ []);
      joined = v;
      spelled = record {
        class = c.from.result;
        above = c.type_or_none.result;
        source = c.string_or_none.result;
        whole = refl;
        small_class = omega arith;
        small_flags = c.is_word.ensures;
        small_above = omega arith;
        small_list = omega arith;
        small_source = omega arith;
        small_class_data = omega arith;
        small_array = omega arith;
        class_is = rw c.from.ensures c.type_index.ensures;
        above_is = c.type_or_none.ensures;
        source_is = c.string_or_none.ensures;
      };
    })
    c.push_words.ensures.ok
