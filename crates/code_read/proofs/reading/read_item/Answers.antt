use Rattle.std.proofs.Common.{◌+◌, refl, subst, ap, ℕ, List, [], None, length, map, arith, length-drop}
use Rattle.program_types.specs.View.{try}
use Rattle.tables_rows.specs.Names.{NameIsAt}
use Rattle.code_read.specs.Item.{list_begin}
use Rattle.code_read.specs.inner.ItemChecking.{code_with}
use Rattle.code_read.specs.inner.ItemReading.{ReadTries}
use Rattle.code_read.specs.Faults.{TriesBreak}
use Rattle.code_read.proofs.ItemLaws.{item-read}
use Rattle.code_read.proofs.TryLaws.{no-tries}
use Rattle.code_read.proofs.PastLaws.{named_of, past_of}
use Rattle.code_read.proofs.FaultLaws.{insns-break, tries-break, units-asked}
use Rattle.code_read.proofs.reading.read_item.Goals as goal
use Rattle.dex_base.proofs.ListFacts.{passed}

pub clear_insns-requires : goal.clear_insns-requires
clear_insns-requires g c = λ k.
    ((refl, tt), units-asked c.args.bytes.now c.in-Some.item.units.now c.in-Some.ensures.some.whole c.in-Some.ensures.some.units c.requires)

pub read_insns-requires : goal.read_insns-requires
read_insns-requires g c =
    let u = units-asked c.args.bytes.now c.in-Some.item.units.now c.in-Some.ensures.some.whole c.in-Some.ensures.some.units c.requires in
    let f = c.from-base.ensures in
    let r = c.ranges.off.fits in
    λ k. ((refl, tt), (u.0, (u.1, omega (arith, f, r))))

pub returns-in-Some-2-clause-ok : goal.returns-in-Some-2-clause-ok
returns-in-Some-2-clause-ok g c =
    let i = c.in-Some.item in
    let N = NameIsAt c.args.tables.now in
    let clear = rw c.in-Some-2.is at c.in_ok-insns.ensures in
    let read = item-read N c.args.bytes.now clear.begins i clear.insns [] c.in-Some.ensures.some c.if-item-eq0.false clear.plain.read (no-tries N clear.begins i.size i.tries i.items.now i.list.now clear.none) in (
      record {
        code = code_with i clear.insns [];
        rest = read.0;
        takes = read.1;
        named = named_of (code_with i clear.insns []) c.register_fault-past.result None c.register_fault-past.ensures.none clear.plain.among;
        breaks = past_of c.args.off (code_with i clear.insns []) c.register_fault-past.result None c.register_fault-past.ensures.some tt;
      },
      c.keep_code.ensures clear.insns clear.are,
    )

pub returns-in_err-found-clause-err : goal.returns-in_err-found-clause-err
returns-in_err-found-clause-err g c =
    passed _ _ _ c.from_residual-in_err-found.ensures.1 (λ ne. insns-break (NameIsAt c.args.tables.now) c.args.off c.from-base.result c.args.bytes.now c.in-Some.item.units.now _ c.in-Some.ensures.some.whole (let e = c.in-Some.ensures.some.size in let n = c.if-item-eq0.false in omega arith) c.in-Some.ensures.some.units c.from-base.ensures (c.in_err-found.ensures.err ne))

pub read_tries-requires-clause-base : goal.read_tries-requires-clause-base
read_tries-requires-clause-base g c = let l = c.in-Some.ensures.low in let f = c.from-2.ensures in let r = c.ranges.off.fits in omega arith

pub read_tries-requires-clause-short : goal.read_tries-requires-clause-short
read_tries-requires-clause-short g c =
    let e = ap length c.in-Some.ensures.some.list in
    let d = length-drop (list_begin c.args.bytes.now) c.args.bytes.now in
    let r = c.requires in
    omega arith

pub read_tries-requires-clause-rises : goal.read_tries-requires-clause-rises
read_tries-requires-clause-rises g c = rw c.deref.ensures.value c.in_ok-found.ensures.ok.read.table.rises

pub read_tries-requires-clause-few : goal.read_tries-requires-clause-few
read_tries-requires-clause-few g c = rw c.deref.ensures.value c.in_ok-found.ensures.ok.read.table.few

pub returns-in_err-tries-clause-err : goal.returns-in_err-tries-clause-err
returns-in_err-tries-clause-err g c =
    let i = c.in-Some.item in
    passed _ _ _ c.from_residual-in_err-tries.ensures.1 (λ ne.
    tries-break (NameIsAt c.args.tables.now) c.args.off c.from-2.result c.args.bytes.now c.in_ok-found.found.starts.items i _ _ c.in-Some.ensures.some (let e = c.in-Some.ensures.some.size in let n = c.if-item-eq0.false in omega arith) c.from-2.ensures c.in_ok-found.ensures.ok.read
    (subst (λ (z : List ℕ). TriesBreak (NameIsAt c.args.tables.now) z i.size i.tries i.items.now i.list.now (c.from-2.result + i.items_at) c.in_err-tries.field-0.0) c.deref.ensures.value (c.in_err-tries.ensures.err ne)))

pub returns-clause-ok : goal.returns-clause-ok
returns-clause-ok g c =
    let i = c.in-Some.item in
    let N = NameIsAt c.args.tables.now in
    let found = c.in_ok-found.ensures.ok in
    let ts = map try c.in_ok-tries.tries.now in
    let read = item-read N c.args.bytes.now c.in_ok-found.found.starts.items i found.insns ts c.in-Some.ensures.some c.if-item-eq0.false found.read
    (subst (λ (z : List ℕ). ReadTries N z i.size i.tries i.items.now i.list.now ts) c.deref.ensures.value c.in_ok-tries.ensures.ok) in (
      record {
        code = code_with i found.insns ts;
        rest = read.0;
        takes = read.1;
        named = named_of (code_with i found.insns ts) c.register_fault-past-2.result c.in_ok-found.found.past c.register_fault-past-2.ensures.none found.among;
        breaks = past_of c.args.off (code_with i found.insns ts) c.register_fault-past-2.result c.in_ok-found.found.past c.register_fault-past-2.ensures.some found.first;
      },
      c.keep_code-2.ensures found.insns found.are,
    )
