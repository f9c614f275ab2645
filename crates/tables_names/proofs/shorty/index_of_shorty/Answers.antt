use Rattle.std.proofs.Common.{rules, nat_cmp, sym, true≢false}
use Rattle.std.proofs.lemmas.Fn.{always_returns_same}
use Rattle.std.specs.Cmp.Lexicographic.{slice_cmp}
use Rattle.program_types.specs.Key.{text_key}
use Rattle.program_types.specs.KeyLaws.{ordering_then-equal}
use Rattle.program_types.specs.Shorty.{shorty}
use Rattle.program_types.specs.View.{str, proto}
use Rattle.tables_names.specs.Keys.{key_of_str}
use Rattle.tables_names.proofs.NameSetLemmas.{searched_key, index_fits}
use Rattle.tables_names.proofs.shorty.index_of_shorty.Goals as goal

pub returns-in-Ok : goal.returns-in-Ok
returns-in-Ok c =
    let units = shorty (proto c.args.name.now) in
    let facts = c.binary_search_by-found.ensures in
    let is = facts.position (λ text. slice_cmp nat_cmp (str text) units) (always_returns_same _ _ _ (λ a r g called. search rules)) in
    let s = searched_key key_of_str c.args.strings.now (text_key units) c.requires (λ text. slice_cmp nat_cmp (str text) units) (λ text. ordering_then-equal _) c.binary_search_by-found.result facts.bound is in
    let at = rw c.in-Ok.is at s in
    rw (at.0, at.1, c.ok.ensures.value) (index_fits c.try_from.result _ c.in-Ok.at c.try_from.ensures)

pub returns-in-Err : goal.returns-in-Err
returns-in-Err c =
    let units = shorty (proto c.args.name.now) in
    let facts = c.binary_search_by-found.ensures in
    let is = facts.position (λ text. slice_cmp nat_cmp (str text) units) (always_returns_same _ _ _ (λ a r g called. search rules)) in
    let s = searched_key key_of_str c.args.strings.now (text_key units) c.requires (λ text. slice_cmp nat_cmp (str text) units) (λ text. ordering_then-equal _) c.binary_search_by-found.result facts.bound is in
    let missing = rw c.in-Err.is at s in
    rw missing (λ h. true≢false (sym h.0))
