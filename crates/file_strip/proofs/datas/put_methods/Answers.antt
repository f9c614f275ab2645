use Rattle.std.proofs.Common.{map, get_or, arith, refl}
use Rattle.std.proofs.lemmas.List.{length-map}
use Rattle.file_classes.specs.inner.Reading.{method_entry}
use Rattle.file_classes.specs.declared.class_data.MethodEntry as made
use Rattle.file_strip.proofs.MemberLaws.{methods_start, run_index, run_low, method_more, methods_end}
use Rattle.file_strip.proofs.datas.put_methods.Goals as goal
use Rattle.dex_base.proofs.ListFacts.{map_at}

pub loop-i-init : goal.loop-i-init
loop-i-init c = λ s class ms r. methods_start c.args.numbers.now.methods s class (map method_entry c.args.entries.now) ms c.args.codes.now c.args.out.now.items

pub overflow_add-index : goal.overflow_add-index
overflow_add-index c =
    let r = c.requires.run in
    let xs = c.args.entries.now in
    let i = c.loop-i.i in
    let n = length-map xs method_entry in
    let d : made.MethodEntry = record { step = 0; flags = 0; code = 0 } in
    let h = (run_index r.3 (c.loop-i.invariant r.0 r.1 r.2 r.3).to (omega (arith, n, c.loop-i-test.true)) (method_entry (get_or xs i d)) (map_at method_entry xs i d c.loop-i-test.true) c.requires.few).1 in
    omega (arith, h)

pub of-number-requires : goal.of-number-requires
of-number-requires c =
    let r = c.requires.run in
    let n = length-map c.args.entries.now method_entry in
    (run_index r.3 (c.loop-i.invariant r.0 r.1 r.2 r.3).to (omega (arith, n, c.loop-i-test.true)) _ (map_at method_entry c.args.entries.now c.loop-i.i _ c.loop-i-test.true) c.requires.few).0

pub overflow_sub-number : goal.overflow_sub-number
overflow_sub-number c =
    let r = c.requires.run in
    let n = length-map c.args.entries.now method_entry in
    run_low r.3 (c.loop-i.invariant r.0 r.1 r.2 r.3).to (omega (arith, n, c.loop-i-test.true)) _ (map_at method_entry c.args.entries.now c.loop-i.i _ c.loop-i-test.true) c.of-number.result c.of-number.ensures

pub loop-i-preserved : goal.loop-i-preserved
loop-i-preserved c = λ s class ms r.
    let xs = c.args.entries.now in
    let i = c.loop-i.i in
    let n = length-map xs method_entry in
    method_more c.args.numbers.now.methods s class (map method_entry xs) ms c.args.codes.now r _ _ _ i c.loop-i.index c.loop-i.last _ c.of-number.result _ (c.loop-i.invariant s class ms r) (omega (arith, n, c.loop-i-test.true)) (omega (arith, c.requires.codes, c.loop-i-test.true)) (map_at method_entry xs i _ c.loop-i-test.true) c.of-number.ensures refl c.in_ok-put_method.ensures.ok

pub returns-clause-ok : goal.returns-clause-ok
returns-clause-ok c = λ s class ms r.
    let xs = c.args.entries.now in
    let n = length-map xs method_entry in
    methods_end c.args.numbers.now.methods s class (map method_entry xs) ms c.args.codes.now r _ _ c.loop-i.i _ _ (omega (arith, n, c.loop-i-test.false)) (omega (arith, n, c.requires.codes)) (c.loop-i.invariant s class ms r)
