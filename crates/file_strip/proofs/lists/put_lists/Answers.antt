use Rattle.std.proofs.Common.{List, ℕ, ◌++◌, ap, ◌∙◌}
use Rattle.tables_names.specs.Needed.{needed}
use Rattle.file_limits.specs.inner.Wide.{list_values}
use Rattle.file_strip.proofs.ListLaws.{all_lists}
use Rattle.file_strip.proofs.lists.put_lists.Goals as goal

pub place_lists-requires-clause-lists : goal.place_lists-requires-clause-lists
place_lists-requires-clause-lists c =
    let p = c.requires.kept.0 in
    let k = c.requires.kept.1 in
    let offs = c.in_ok-offs.offs.items in
    let all = c.deref-2.ensures.value ∙ c.in_ok-extend_from_slice.ensures.items ∙ ap (λ (l : List ℕ). offs ++ l) c.deref.ensures.value in
    (needed p, list_values (needed p) p, all_lists c.args.sections.now c.args.numbers.now p k offs c.in_ok-interfaces.interfaces.items c.deref-2.result.now all (c.in_ok-offs.ensures.ok p k) c.in_ok-interfaces.ensures.ok, c.requires.kept.2)

pub returns-clause-ok : goal.returns-clause-ok
returns-clause-ok c = λ p k.
    let offs = c.in_ok-offs.offs.items in
    let all = c.deref-2.ensures.value ∙ c.in_ok-extend_from_slice.ensures.items ∙ ap (λ (l : List ℕ). offs ++ l) c.deref.ensures.value in
    c.in_ok-place_lists.ensures.ok (needed p) (list_values (needed p) p) (all_lists c.args.sections.now c.args.numbers.now p k offs c.in_ok-interfaces.interfaces.items c.deref-2.result.now all (c.in_ok-offs.ensures.ok p k) c.in_ok-interfaces.ensures.ok)

pub returns-clause-once : goal.returns-clause-once
returns-clause-once c = λ p k.
    let offs = c.in_ok-offs.offs.items in
    let all = c.deref-2.ensures.value ∙ c.in_ok-extend_from_slice.ensures.items ∙ ap (λ (l : List ℕ). offs ++ l) c.deref.ensures.value in
    c.in_ok-place_lists.ensures.once (needed p) (list_values (needed p) p) k.marked.rise (all_lists c.args.sections.now c.args.numbers.now p k offs c.in_ok-interfaces.interfaces.items c.deref-2.result.now all (c.in_ok-offs.ensures.ok p k) c.in_ok-interfaces.ensures.ok)
