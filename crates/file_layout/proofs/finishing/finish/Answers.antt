use Rattle.std.proofs.Common.{◌≡◌, ℕ, List, ◌+◌, ◌++◌, ◌<◌, ◌^◌, ◌≤◌, subst, get_or, length, map, drop, ap, sym, ◌∙◌, arith, refl, length-append, append_assoc}
use Rattle.dex_base.specs.Words.{words_bytes}
use Rattle.file_layout.specs.declared.map_list.Entry.{Entry}
use Rattle.file_layout.specs.Tiles.{zeros, gap}
use Rattle.file_layout.specs.inner.Plan.{header_words, tables_end, spans_of}
use Rattle.file_layout.specs.inner.Entries.{list_words, entry_of}
use Rattle.file_layout.proofs.SectionLaws.{length-padded}
use Rattle.file_layout.proofs.FrameLaws.{framed, planned_low}
use Rattle.file_layout.proofs.FinishLaws.{tail_short, finished, finished_short, length-finished, written_back}
use Rattle.file_layout.proofs.finishing.finish.Goals as goal

pub overflow_cast-total : goal.overflow_cast-total
overflow_cast-total c =
    let e = ap length c.in_ok-extend_from_slice.ensures.items ∙ length-append c.args.out.now.items c.deref.result.now in
    let b = ap length (c.deref.ensures.value ∙ c.in_ok-after.ensures.ok) in
    let n = ap length c.entries_of.ensures in
    omega (arith, e, b, n, tail_short c.len-end.result c.entries_of.result, c.len-total.ensures, c.extend_from_slice.new.self.ok.0, c.requires.room)

pub returns-clause-ok : goal.returns-clause-ok
returns-clause-ok c =
    let old = c.args.out.now.items in
    let out = c.extend_from_slice.new.self.items in
    let fr = c.put_front.ensures in
    let rows = c.args.plan.now.rows in
    let map_at = c.len-end.result + c.gap_after.result in
    let end : c.len-end.result ≡ length old = c.len-end.ensures ∙ c.args.out.now.ok.0 in
    let place : map_at ≡ length (old ++ zeros (gap 4 (length old))) = ap (λ g. c.len-end.result + g) c.gap_after.ensures ∙ ap (λ k. k + gap 4 k) end ∙ sym (length-padded old (gap 4 (length old))) in
    let total : c.len-total.result ≡ length out = c.len-total.ensures ∙ c.extend_from_slice.new.self.ok.0 in
    let es = map entry_of (spans_of c.args.plan.now map_at 0) in
    let after = c.deref.ensures.value ∙ c.in_ok-after.ensures.ok in
    let out_is : out ≡ (old ++ zeros (gap 4 (length old))) ++ words_bytes (list_words es) =
    c.in_ok-extend_from_slice.ensures.items ∙ ap (λ l. old ++ l) (after ∙ ap (λ k. zeros (gap 4 k) ++ words_bytes (list_words c.entries_of.result)) end ∙ ap (λ xs. zeros (gap 4 (length old)) ++ words_bytes (list_words xs)) c.entries_of.ensures)
    ∙ sym (append_assoc old _ _) in
    let whole = rw c.deref_mut.ensures.value at fr.whole in
    let fits = subst (λ (n : ℕ). (j : ℕ) → get_or (header_words rows map_at n) j 0 < 2 ^ 32) total fr.header_fits in
    let front : fr.front ≡ words_bytes (header_words rows map_at (length out)) ++ (c.args.rows.now ++ drop (tables_end rows) out) = subst (λ (n : ℕ). fr.front ≡ words_bytes (header_words rows map_at n) ++ (c.args.rows.now ++ drop (tables_end rows) out)) total whole in
    let map_fits = subst (λ (xs : List Entry). (j : ℕ) → get_or (list_words xs) j 0 < 2 ^ 32) c.entries_of.ensures c.in_ok-after.ensures.fits in
    let l = planned_low c.args.plan.now c.requires.planned in
    let low : tables_end rows ≤ length old = omega (arith, l, c.requires.end) in
    let f = finished old (old ++ zeros (gap 4 (length old))) out fr.front c.put_front.new.bytes c.args.plan.now c.args.rows.now map_at
    c.requires.planned c.requires.end low c.requires.rows refl place out_is
    front fits map_fits fr.closed fr.bytes in
    let n = length-finished old (old ++ zeros (gap 4 (length old))) out fr.front c.put_front.new.bytes c.args.plan.now c.args.rows.now map_at
    c.requires.planned c.requires.end low c.requires.rows refl place out_is
    front fits map_fits fr.closed fr.bytes in
    rw (written_back c.put_front.new.bytes out c.extend_from_slice.new.self.len n c.extend_from_slice.new.self.ok.0) f

pub returns-clause-framed : goal.returns-clause-framed
returns-clause-framed c = let f = returns-clause-ok c in framed _ c.args.plan.now f.map f.written

pub returns-clause-short : goal.returns-clause-short
returns-clause-short c = finished_short c.args.out.now.items _ c.args.plan.now c.args.rows.now (returns-clause-ok c)
