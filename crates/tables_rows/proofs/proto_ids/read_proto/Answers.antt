use Rattle.std.proofs.Common.{◌∙◌, ◌∷◌, refl, sym, ap, map, subst, true≢false}
use Rattle.program_types.specs.Shorty.{letter_of}
use Rattle.program_types.specs.View.{str, desc}
use Rattle.tables_rows.specs.inner.Known.{IsKnown}
use Rattle.tables_rows.specs.Stands.{StringStands}
use Rattle.tables_rows.specs.TableFaults.{ParametersAt}
use Rattle.tables_rows.proofs.CachedLaws.{cached_more}
use Rattle.tables_rows.proofs.ClearRows.{parameter_list, other_shorty}
use Rattle.tables_rows.proofs.RowReading.{string_one}
use Rattle.tables_rows.specs.RowFields.{proto_shorty}
use Rattle.tables_rows.proofs.proto_ids.read_proto.Goals as goal

pub returns-in_default-2-clause-err : goal.returns-in_default-2-clause-err
returns-in_default-2-clause-err c = λ _. rw c.at-in_default-2.ensures (record {
  breaks = parameter_list _ _ (rw c.proto_shorty-shorty.ensures at c.in-Some.ensures.some).row (rw c.proto_return.ensures at c.in-Some-type_at.ensures.some).row
      (λ ts at. (rw c.in_default-2.is at c.in_ok-known.ensures.none) ts (subst (λ n. ParametersAt c.args.sections.now n ts) (sym c.proto_parameters-off.ensures) at));
  place = c.proto_row-row.ensures;
})

pub returns-then-not-is_shorty-clause-err : goal.returns-then-not-is_shorty-clause-err
returns-then-not-is_shorty-clause-err c = λ _. rw c.at-then-not-is_shorty.ensures (record {
  breaks = other_shorty _ _ c.requires.framed (record { ret = desc c.in-Some-type_at.ret; params = map desc c.in-Some-2.known.params.now }) (str c.in-Some.text) (rw c.proto_return.ensures at c.in-Some-type_at.ensures.some)
      (rw c.proto_parameters-off.ensures at (rw c.in-Some-2.is at c.in_ok-known.ensures.found).list) (rw c.proto_shorty-shorty.ensures at c.in-Some.ensures.some) (λ e. true≢false (sym (c.if-not-is_shorty.ensures.1 e)));
  place = c.proto_row-row.ensures;
})

pub returns-then-known-shorty-clause-ok : goal.returns-then-known-shorty-clause-ok
returns-then-known-shorty-clause-ok c =
    let b = c.args.sections.now in
    let found = rw c.in-Some-2.is at c.in_ok-known.ensures.found in
    let text = found.fits (str c.in-Some.text) (rw (← c.if-known-shorty.true) at c.in-Some.ensures.some) in
    let list = rw c.proto_parameters-off.ensures at found.list in
    record {
      row = c.requires.row;
      ret = rw c.proto_return.ensures at c.in-Some-type_at.ensures.some;
      params = list.types;
      values = list.values;
      shorty = subst (λ s. StringStands b (proto_shorty b c.args.i) s) (text ∙ ap (λ n. n ∷ map letter_of (map desc c.in-Some-2.known.params.now)) (c.if-known-first.true ∙ c.letter-first.ensures)) (rw c.proto_shorty-shorty.ensures at c.in-Some.ensures.some);
    }

pub returns-clause-cached : goal.returns-clause-cached
returns-clause-cached c =
    let b = c.args.sections.now in
    let found = rw c.in-Some-2.is at c.in_ok-known.ensures.found in
    cached_more (IsKnown b) c.args.cached.now c.insert.new.self c.proto_parameters-off.result (record { params = c.in-Some-2.known.params; letter = c.letter-first.result; shorty = c.proto_shorty-shorty.result }) c.requires.cached (record {
      list = found.list;
      fits = λ text at. string_one b c.proto_shorty-shorty.result text (str c.in-Some.text) c.requires.framed at c.in-Some.ensures.some ∙ c.if-not-is_shorty.ensures.0 refl ∙ ap (λ n. n ∷ map letter_of (map desc c.in-Some-2.known.params.now)) (sym c.letter-first.ensures);
    }) c.in_ok-insert.ensures.updates
