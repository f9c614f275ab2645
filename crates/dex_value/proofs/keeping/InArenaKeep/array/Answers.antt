use Rattle.std.proofs.Common.{map, ap, sym, ◌∙◌}
use Rattle.program_types.specs.Content.{Array, values}
use Rattle.program_types.specs.View.{value}
use Rattle.program_types.proofs.ValueViews.{value_array}
use Rattle.dex_value.proofs.keeping.InArenaKeep.array.Goals as goal

pub returns-clause-ok : goal.returns-clause-ok
returns-clause-ok c = λ vs are.
    let copy = c.in_ok-try_alloc_slice_copy.field-0 in
    let same = c.in_ok-try_alloc_slice_copy.ensures ∙ c.deref.ensures.value in
    ap (λ ws. Array (values ws)) (are ∙ ap (map value) (sym same)) ∙ sym (value_array (record { ref_ptr = copy.ref_ptr; now = copy.now }))
