use Rattle.std.proofs.Common.{◌≡◌, ◌+◌, ℕ, List, length, take, drop, subst, ap, ◌∙◌, arith}
use Rattle.std.proofs.lemmas.List.{length-map, length-take}
use Rattle.file_classes.specs.inner.Reading.{method_entry}
use Rattle.file_layout.specs.inner.Sections.{AddsSome}
use Rattle.file_put.specs.inner.Data.{PacksData, has_no_members, method_count}
use Rattle.tables_names.specs.Closure.{NameRanks}
use Rattle.file_strip.proofs.datas.put_class.Goals as goal

pub split_at-requires : goal.split_at-requires
split_at-requires c =
    let all = c.args.all.now in
    let m = c.requires.members in
    let d = m.2.directs.count in let v = m.2.virtuals.count in
    let f = length-map all.directs.items method_entry in let g = length-map all.virtuals.items method_entry in
    omega (arith, d, v, f, g, m.3.1, c.len.ensures, c.len-2.ensures, all.directs.ok.0, all.virtuals.ok.0)

pub add_data-requires-clause-members : goal.add_data-requires-clause-members
add_data-requires-clause-members c = let m = c.requires.members in (m.0, m.1, m.2, m.3.0)

pub add_data-requires-clause-codes : goal.add_data-requires-clause-codes
add_data-requires-clause-codes c =
    let all = c.args.all.now in
    let m = c.requires.members in
    let d = m.2.directs.count in let v = m.2.virtuals.count in
    let f = length-map all.directs.items method_entry in let g = length-map all.virtuals.items method_entry in
    let l = ap length c.split_at.ensures.front in
    let t = length-take (c.len.result + c.len-2.result) c.args.codes.now in
    omega (arith, d, v, f, g, m.3.1, l, t, c.len.ensures, c.len-2.ensures, all.directs.ok.0, all.virtuals.ok.0)

pub returns-clause-ok : goal.returns-clause-ok
returns-clause-ok c = λ s x m.
    let codes : List ℕ = c.args.codes.now in
    let all = c.args.all.now in
    let d = m.directs.count in let v = m.virtuals.count in
    let f = length-map all.directs.items method_entry in let g = length-map all.virtuals.items method_entry in
    let count : c.len.result + c.len-2.result ≡ method_count x = omega (arith, d, v, f, g, c.len.ensures, c.len-2.ensures, all.directs.ok.0, all.virtuals.ok.0) in
    let own : c.split_at.result.0.now ≡ take (method_count x) codes = c.split_at.ensures.front ∙ ap (λ (j : ℕ). take j codes) count in (
      c.split_at.ensures.back ∙ ap (λ (j : ℕ). drop j codes) count,
      subst (λ (l : List ℕ). AddsSome has_no_members (PacksData (NameRanks s)) 1 c.args.out.now.items c.add_data.new.out.items (record { class = x; codes = l }) c.in_ok-place.place) own (c.in_ok-place.ensures.ok s x m),
    )
