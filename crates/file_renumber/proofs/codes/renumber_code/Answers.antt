use Rattle.std.proofs.Common.{◌≡◌, ◌∙◌, ◌<◌, ◌++◌, ℕ, List, length, get_or, ap, sym, subst, arith}
use Rattle.std.specs.List.{AllByRecursion}
use Rattle.dex_base.specs.Fields.{AreBytes}
use Rattle.program_types.specs.Sizes.{addresses_of}
use Rattle.tables_rows.specs.Stands.{NameStands}
use Rattle.code_read.specs.Places.{Rises}
use Rattle.code_write.specs.Packs.{items_bytes, padding}
use Rattle.file_renumber.proofs.CodeLemmas.{cover_with, items_with, can_renumber_all, addresses_are, carried_tries, cover_tries, packed_code}
use Rattle.file_renumber.proofs.WideLemmas.{count_same}
use Rattle.file_renumber.proofs.codes.renumber_code.Goals as goal
use Rattle.dex_base.proofs.ListFacts.{passed}

pub item_at-item-requires-clause-stands : goal.item_at-item-requires-clause-stands
item_at-item-requires-clause-stands c = (c.requires.carried.1, c.requires.carried.2.stands)

pub renumber_insns-requires-clause-even : goal.renumber_insns-requires-clause-even
renumber_insns-requires-clause-even c = let u = c.item_at-item.ensures.units in omega (arith, u)

pub renumber_insns-requires-clause-short : goal.renumber_insns-requires-clause-short
renumber_insns-requires-clause-short c = let u = c.item_at-item.ensures.units in omega (arith, u)

pub renumber_insns-requires-clause-insns : goal.renumber_insns-requires-clause-insns
renumber_insns-requires-clause-insns c =
    let x = c.requires.carried.2 in
    let y = c.item_at-item.ensures.spelled c.requires.carried.1 x.stands in
    let are : AreBytes c.args.sections.now = subst AreBytes c.bytes.ensures.value c.are_bytes.ensures.each in
    (y.raws, y.insns.walk, can_renumber_all c.args.sections.now c.args.off c.args.numbers.now c.requires.carried.0 c.item_at-item.result c.requires.carried.1 x y are c.item_at-item.ensures.framed c.are_bytes-2.ensures.each c.item_at-item.ensures.units)

pub starts_needed-requires-clause-even : goal.starts_needed-requires-clause-even
starts_needed-requires-clause-even c = let u = c.item_at-item.ensures.units in omega (arith, u)

pub starts_needed-requires-clause-short : goal.starts_needed-requires-clause-short
starts_needed-requires-clause-short c = let u = c.item_at-item.ensures.units in omega (arith, u)

pub starts_needed-requires-clause-insns : goal.starts_needed-requires-clause-insns
starts_needed-requires-clause-insns c = let y = c.item_at-item.ensures.spelled c.requires.carried.1 c.requires.carried.2.stands in (y.raws, y.insns.walk)

pub lay_tries-requires-clause-tries : goal.lay_tries-requires-clause-tries
lay_tries-requires-clause-tries c =
    let x = c.requires.carried.2 in
    let y = c.item_at-item.ensures.spelled c.requires.carried.1 x.stands in
    let are : AreBytes c.args.sections.now = subst AreBytes c.bytes.ensures.value c.are_bytes.ensures.each in
    carried_tries c.args.sections.now c.args.off c.args.numbers.now c.requires.carried.0 c.item_at-item.result c.requires.carried.1 x y are c.item_at-item.ensures.framed c.are_bytes-2.ensures.each c.item_at-item.ensures.units

pub put_items-requires-clause-rises : goal.put_items-requires-clause-rises
put_items-requires-clause-rises c =
    subst Rises (sym c.deref.ensures.value) c.in_ok-starts.ensures.rises

pub put_items-requires-clause-count : goal.put_items-requires-clause-count
put_items-requires-clause-count c =
    let x = c.requires.carried.2 in
    let y = c.item_at-item.ensures.spelled c.requires.carried.1 x.stands in
    let are : AreBytes c.args.sections.now = subst AreBytes c.bytes.ensures.value c.are_bytes.ensures.each in
    let hs = c.in_ok-laid.ensures.ok (carried_tries c.args.sections.now c.args.off c.args.numbers.now c.requires.carried.0 c.item_at-item.result c.requires.carried.1 x y are c.item_at-item.ensures.framed c.are_bytes-2.ensures.each c.item_at-item.ensures.units) in
    ap length c.deref-2.ensures.value ∙ hs.offsets.count ∙ count_same (NameStands c.args.sections.now) c.item_at-item.result c.requires.carried.1 y c.item_at-item.ensures.units

pub returns-clause-ok : goal.returns-clause-ok
returns-clause-ok c = λ s code x.
    let B = c.args.sections.now in
    let I = c.item_at-item.result in
    let y = c.item_at-item.ensures.spelled code x.stands in
    let are : AreBytes B = subst AreBytes c.bytes.ensures.value c.are_bytes.ensures.each in
    let hs = c.in_ok-laid.ensures.ok (carried_tries B c.args.off c.args.numbers.now s I code x y are c.item_at-item.ensures.framed c.are_bytes-2.ensures.each c.item_at-item.ensures.units) in
    let begins : 0 < I.tries → c.deref.result.now ≡ addresses_of code.insns =
    λ some. c.deref.ensures.value ∙ c.in_ok-starts.ensures.table y.raws y.insns.walk some ∙ addresses_are B c.args.off c.args.numbers.now s I code x y are c.item_at-item.ensures.framed c.are_bytes-2.ensures.each c.item_at-item.ensures.units in
    let cover = cover_tries B c.args.off c.args.numbers.now s I code x y are c.item_at-item.ensures.framed c.are_bytes-2.ensures.each c.item_at-item.ensures.units in
    let items = c.in_ok-put_items.ensures.ok code.tries (cover_with I.tries I.items.now (addresses_of code.insns) c.deref.result.now code.tries begins cover) in
    packed_code B c.args.off c.args.numbers.now s I code x y are c.item_at-item.ensures.framed c.are_bytes-2.ensures.each c.item_at-item.ensures.units
    c.in_ok-out.out.items c.put_head.new.out.items c.renumber_insns.new.out.items c.put_padding.new.out.items c.put_items.new.out.items _ c.in_ok-laid.laid.bytes.items c.in_ok-laid.laid.offsets.items
    c.in_ok-out.ensures.items c.in_ok-put_head.ensures.ok (c.in_ok-renumber_insns.ensures.ok y.raws y.insns.walk) (c.in_ok-renumber_insns.ensures.fit y.raws y.insns.walk) (c.in_ok-put_padding.ensures.ok ∙ ap (λ (n : ℕ). c.renumber_insns.new.out.items ++ padding I.size n) c.from.ensures)
    (items ∙ ap (λ z. c.put_padding.new.out.items ++ z)
    (items_with I.size I.tries (addresses_of code.insns) c.deref.result.now code.tries c.deref-2.result.now begins cover.count ∙ ap (items_bytes I.size (addresses_of code.insns) code.tries) c.deref-2.ensures.value))
    (c.in_ok-extend_from_slice.ensures.items ∙ ap (λ z. c.put_items.new.out.items ++ z) c.deref-3.ensures.value) hs
    (subst (λ (os : List ℕ). AllByRecursion (λ off. off < 65536) os) c.deref-2.ensures.value c.in_ok-put_items.ensures.near) (omega arith)

pub returns-in_err-put_items-clause-far : goal.returns-in_err-put_items-clause-far
returns-in_err-put_items-clause-far c =
    passed _ _ _ c.from_residual-in_err-put_items.ensures.1
    (λ ne.
    let f = c.in_err-put_items.ensures.far ne in (
      f.0,
      λ s code x.
          let B = c.args.sections.now in
          let I = c.item_at-item.result in
          let y = c.item_at-item.ensures.spelled code x.stands in
          let are : AreBytes B = subst AreBytes c.bytes.ensures.value c.are_bytes.ensures.each in
          let hs = c.in_ok-laid.ensures.ok (carried_tries B c.args.off c.args.numbers.now s I code x y are c.item_at-item.ensures.framed c.are_bytes-2.ensures.each c.item_at-item.ensures.units) in
          record { list = c.in_ok-laid.laid.bytes.items; offs = c.in_ok-laid.laid.offsets.items; laid = hs; index = f.1; inside = subst (λ (os : List ℕ). f.1 < length os) c.deref-2.ensures.value f.2; far = subst (λ (os : List ℕ). 65535 < get_or os f.1 0) c.deref-2.ensures.value f.3 },
    ))
