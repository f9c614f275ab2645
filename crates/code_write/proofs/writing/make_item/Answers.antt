use Rattle.std.proofs.Common.{◌≡◌, ◌<◌, ℕ, List, map, length, get_or, arith, ap, sym, ◌∙◌, ◌++◌, subst}
use Rattle.std.proofs.lemmas.List.{length-map}
use Rattle.program_types.specs.View as view
use Rattle.program_types.specs.Sizes.{addresses_of, length_of}
use Rattle.tables_names.specs.Closure.{NameRanks}
use Rattle.code_write.specs.Fits.{OffsetsFit, IsEven}
use Rattle.code_write.specs.Packs.{PacksHandlersOf}
use Rattle.code_write.specs.inner.Packs.{PutInsns}
use Rattle.code_rules.specs.inner.Branches.{AreOrigins}
use Rattle.code_write.proofs.FitLaws.{count-of, tries-there}
use Rattle.code_write.proofs.FormLaws.{good, names-fit, caught-ranked}
use Rattle.code_write.proofs.ListLaws.{all-from}
use Rattle.code_write.proofs.PackLaws.{packed}
use Rattle.code_write.proofs.writing.make_item.Goals as goal

pub invariant_of-starts : goal.invariant_of-starts
invariant_of-starts c =
    let g = good c.args.code.now.insns.now c.deref.result.now (c.deref.ensures.value ∙ c.in_ok-all.ensures.ok) (let w = c.requires.ranked.short in omega arith) in (g.rises, g.low)

pub lay_handlers-requires-clause-formed : goal.lay_handlers-requires-clause-formed
lay_handlers-requires-clause-formed c = tries-there c.args.code.now.insns.now c.args.code.now.tries.now c.deref.result.now (c.deref.ensures.value ∙ c.in_ok-all.ensures.ok) c.requires.formed.tries

pub lay_handlers-requires-clause-ranked : goal.lay_handlers-requires-clause-ranked
lay_handlers-requires-clause-ranked c =
    caught-ranked (NameRanks c.args.ranks.now) (view.code c.args.code.now) c.requires.ranked

pub lay_handlers-requires-clause-short : goal.lay_handlers-requires-clause-short
lay_handlers-requires-clause-short c =
    let n = length-map c.args.code.now.tries.now view.try in let w = c.requires.ranked.short in omega arith

pub put_insns-requires-clause-count : goal.put_insns-requires-clause-count
put_insns-requires-clause-count c = count-of c.args.code.now.insns.now c.deref.result.now (c.deref.ensures.value ∙ c.in_ok-all.ensures.ok)

pub put_insns-requires-clause-names : goal.put_insns-requires-clause-names
put_insns-requires-clause-names c =
    let m = length-map c.args.code.now.insns.now view.insn in λ k l. names-fit (NameRanks c.args.ranks.now) (view.code c.args.code.now) k c.requires.fits c.requires.ranked (omega arith)

pub put_insns-requires-clause-offsets : goal.put_insns-requires-clause-offsets
put_insns-requires-clause-offsets c =
    let m = length-map c.args.code.now.insns.now view.insn in
    λ k l. subst (λ (ss : List ℕ). OffsetsFit (map view.insn c.args.code.now.insns.now) ss k) (sym (c.deref.ensures.value ∙ c.in_ok-all.ensures.ok)) (c.requires.fits.offsets k (omega arith))

pub put_insns-requires-clause-even : goal.put_insns-requires-clause-even
put_insns-requires-clause-even c =
    let m = length-map c.args.code.now.insns.now view.insn in
    λ k l. subst (λ (ss : List ℕ). IsEven (map view.insn c.args.code.now.insns.now) ss k) (sym (c.deref.ensures.value ∙ c.in_ok-all.ensures.ok)) (c.requires.fits.even k (omega arith))

pub put_insns-requires-clause-origins : goal.put_insns-requires-clause-origins
put_insns-requires-clause-origins c =
    subst (λ (js : List ℕ). AreOrigins (map view.insn c.args.code.now.insns.now) js) (sym c.deref-2.ensures.value) c.in_ok-origins.ensures

pub put_items-requires-clause-formed : goal.put_items-requires-clause-formed
put_items-requires-clause-formed c = tries-there c.args.code.now.insns.now c.args.code.now.tries.now c.deref.result.now (c.deref.ensures.value ∙ c.in_ok-all.ensures.ok) c.requires.formed.tries

pub put_items-requires-clause-count : goal.put_items-requires-clause-count
put_items-requires-clause-count c =
    let n = length-map c.args.code.now.tries.now view.try in
    let o = c.in_ok-laid.ensures.ok.offsets.count in
    ap length c.deref-3.ensures.value ∙ o ∙ n

pub put_items-requires-clause-offsets : goal.put_items-requires-clause-offsets
put_items-requires-clause-offsets c =
    let h : PacksHandlersOf (NameRanks c.args.ranks.now) (addresses_of (map view.insn c.args.code.now.insns.now)) (map view.try c.args.code.now.tries.now) c.in_ok-laid.laid.bytes.items c.in_ok-laid.laid.offsets.items =
    subst (λ (z : List ℕ). PacksHandlersOf (NameRanks c.args.ranks.now) z (map view.try c.args.code.now.tries.now) c.in_ok-laid.laid.bytes.items c.in_ok-laid.laid.offsets.items) (c.deref.ensures.value ∙ c.in_ok-all.ensures.ok) c.in_ok-laid.ensures.ok in
    subst (λ (z : List ℕ). (i : ℕ) → i < length z → get_or z i 0 < 65536) (sym c.deref-3.ensures.value) (c.requires.fits.handlers c.requires.ranked.short _ _ h)

pub returns-clause-ok : goal.returns-clause-ok
returns-clause-ok c =
    let N = NameRanks c.args.ranks.now in
    let laid = c.in_ok-laid.laid in
    let ts = map view.try c.args.code.now.tries.now in
    let w = c.requires.ranked.short in
    let hs : PacksHandlersOf N (addresses_of (map view.insn c.args.code.now.insns.now)) ts laid.bytes.items laid.offsets.items =
    subst (λ (z : List ℕ). PacksHandlersOf N z ts laid.bytes.items laid.offsets.items) (c.deref.ensures.value ∙ c.in_ok-all.ensures.ok) c.in_ok-laid.ensures.ok in
    let few = c.requires.fits.few in
    let size : c.in_ok-all.all.end ≡ length_of (map view.insn c.args.code.now.insns.now) = c.in_ok-all.ensures.end in
    packed N (view.code c.args.code.now) c.in_ok-all.all.starts.items
    c.in_ok-item.item.items c.put_head.new.out.items c.put_insns.new.out.items c.put_padding.new.out.items c.put_items.new.out.items _
    laid.bytes.items laid.offsets.items c.in_ok-all.all.end (length c.args.code.now.tries.now)
    c.in_ok-all.ensures.ok size (sym (length-map c.args.code.now.tries.now view.try))
    c.in_ok-item.ensures.items c.in_ok-put_head.ensures.ok
    (subst (λ (z : List ℕ). PutInsns N (map view.insn c.args.code.now.insns.now) z c.put_head.new.out.items c.put_insns.new.out.items) c.deref.ensures.value c.in_ok-put_insns.ensures.ok)
    c.in_ok-put_padding.ensures.ok
    (rw (c.deref.ensures.value, c.deref-3.ensures.value) at c.in_ok-put_items.ensures.ok)
    (c.in_ok-extend_from_slice.ensures.items ∙ ap (λ (z : List ℕ). c.put_items.new.out.items ++ z) c.deref-4.ensures.value)
    (subst (λ (z : List ℕ). PacksHandlersOf N z ts laid.bytes.items laid.offsets.items) c.deref.ensures.value c.in_ok-laid.ensures.ok)
    (omega arith) (all-from (λ (off : ℕ). off < 65536) laid.offsets.items 0 (c.requires.fits.handlers w laid.bytes.items laid.offsets.items hs)) (omega arith)
