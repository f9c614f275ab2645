use Rattle.std.proofs.Common.{◌+◌, ◌-◌, ◌<◌, ◌≤◌, length, ap, sym, arith, refl, subst, List, ℕ}
use Rattle.program_types.specs.View as view
use Rattle.file_put.proofs.NumberLaws.{params_held, list_first, list_second, interfaces_held, list_count, no_proto, no_class}
use Rattle.std.specs.Prelude.{IfOk}
use Rattle.file_layout.specs.inner.Sections.{is_empty_list}
use Rattle.file_layout.specs.inner.Sharing.{UsesItem}
use Rattle.file_put.specs.inner.Lists.{SpellsRanks}
use Rattle.file_limits.specs.Wide.{wide_list}
use Rattle.file_put.proofs.type_lists.add_numbered.Goals as goal

pub add_list-requires-clause-held : goal.add_list-requires-clause-held
add_list-requires-clause-held c =
    let qs = c.protos-protos.result.now in
    let s = c.args.ranks.now in
    let lt : c.args.number < length qs = omega arith in
    params_held s (view.program c.args.program.now) qs c.args.number _ c.requires.needed c.protos-protos.ensures lt

pub add_list-requires-clause-room : goal.add_list-requires-clause-room
add_list-requires-clause-room c =
    let qs = c.protos-protos.result.now in
    let cs = c.args.program.now.classes.now in
    let s = c.args.ranks.now in
    let lt : c.args.number < length qs = omega arith in
    let e = list_first s qs cs c.args.number no_proto c.protos-protos.ensures lt in
    let w = ap wide_list e in
    omega (arith, w, c.requires.room)

pub returns-then-number-protos-clause-ok : goal.returns-then-number-protos-clause-ok
returns-then-number-protos-clause-ok c =
    let qs = c.protos-protos.result.now in
    let cs = c.args.program.now.classes.now in
    let s = c.args.ranks.now in
    let lt : c.args.number < length qs = omega arith in
    let e = list_first s qs cs c.args.number no_proto c.protos-protos.ensures lt in
    subst (λ (ts : List (List ℕ)). IfOk c.add_list.result (UsesItem is_empty_list (SpellsRanks s) 4 c.args.items.now c.add_list.new.items c.args.out.now.items c.add_list.new.out.items ts)) (sym e) c.add_list.ensures.ok

pub add_list-requires-else-number-protos-clause-held : goal.add_list-requires-else-number-protos-clause-held
add_list-requires-else-number-protos-clause-held c =
    let qs = c.protos-protos.result.now in
    let cs = c.args.program.now.classes.now in
    let s = c.args.ranks.now in
    let n = list_count s qs cs c.protos-protos.ensures in
    let le : length qs ≤ c.args.number = omega arith in
    let lt : c.args.number < length qs + length cs = omega (arith, n, c.requires.number) in
    let e = list_second s qs cs c.args.number no_class c.protos-protos.ensures le lt in
    interfaces_held s (view.program c.args.program.now) cs (c.args.number - length qs) _ c.requires.needed refl (omega (arith, le, lt))

pub add_list-requires-else-number-protos-clause-room : goal.add_list-requires-else-number-protos-clause-room
add_list-requires-else-number-protos-clause-room c =
    let qs = c.protos-protos.result.now in
    let cs = c.args.program.now.classes.now in
    let s = c.args.ranks.now in
    let n = list_count s qs cs c.protos-protos.ensures in
    let le : length qs ≤ c.args.number = omega arith in
    let lt : c.args.number < length qs + length cs = omega (arith, n, c.requires.number) in
    let e = list_second s qs cs c.args.number no_class c.protos-protos.ensures le lt in
    let w = ap wide_list e in
    omega (arith, w, c.requires.room)

pub returns-else-number-protos-clause-ok : goal.returns-else-number-protos-clause-ok
returns-else-number-protos-clause-ok c =
    let qs = c.protos-protos.result.now in
    let cs = c.args.program.now.classes.now in
    let s = c.args.ranks.now in
    let n = list_count s qs cs c.protos-protos.ensures in
    let le : length qs ≤ c.args.number = omega arith in
    let lt : c.args.number < length qs + length cs = omega (arith, n, c.requires.number) in
    let e = list_second s qs cs c.args.number no_class c.protos-protos.ensures le lt in
    subst (λ (ts : List (List ℕ)). IfOk c.add_list-else-number-protos.result (UsesItem is_empty_list (SpellsRanks s) 4 c.args.items.now c.add_list-else-number-protos.new.items c.args.out.now.items c.add_list-else-number-protos.new.out.items ts)) (sym e) c.add_list-else-number-protos.ensures.ok
