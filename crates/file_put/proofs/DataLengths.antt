-- How long class data is.
use Rattle.std.proofs.Common.{◌≡◌, ℕ, ◌+◌, ◌*◌, ◌<◌, ◌≤◌, List, [], ◌∷◌, length, refl, ap, ◌∙◌, arith, length-append, false}
use Rattle.std.specs.Prelude.{◌&&◌}
use Rattle.dex_base.specs.Grammar.{Each}
use Rattle.dex_base.specs.Leb128.{Spells, Shortest}
use Rattle.file_classes.specs.ClassData.{FieldEntry, MethodEntry, SpellsFieldEntry, SpellsMethodEntry}
use Rattle.file_layout.specs.inner.Sections.{is_empty_list}
use Rattle.tables_names.specs.Closure.{Five, NameRanks}
use Rattle.program_types.specs.Content.{Member, Method}
use Rattle.file_put.specs.inner.Data.{PacksData, ClassWithCodes, wide_with_codes}

some_sequence : (bytes : List ℕ) (n : ℕ) → Spells bytes n → 0 < length bytes
some_sequence [] n s = absurd s.sequence
some_sequence (b ∷ bytes) n s = omega arith

tens : (bytes : List ℕ) (es : List FieldEntry) → Each (SpellsFieldEntry (Shortest Spells)) bytes es → length bytes ≤ 10 * length es
tens bytes [] e = let l = ap length e in omega (arith, l)
tens bytes (x ∷ es) e =
    let l = ap length e.2 ∙ length-append e.0 e.1 in
    let p = ap length e.3.joined ∙ length-append e.3.front e.3.back in
    let a = e.3.first.spelled.short in
    let b = e.3.second.spelled.short in
    let r = tens e.1 es e.4 in
    omega (arith, l, p, a, b, r)

fifteens : (bytes : List ℕ) (es : List MethodEntry) → Each (SpellsMethodEntry (Shortest Spells)) bytes es → length bytes ≤ 15 * length es
fifteens bytes [] e = let l = ap length e in omega (arith, l)
fifteens bytes (x ∷ es) e =
    let l = ap length e.2 ∙ length-append e.0 e.1 in
    let p = ap length e.3.joined ∙ length-append e.3.front e.3.back in
    let q = ap length e.3.second.joined ∙ length-append e.3.second.front e.3.second.back in
    let a = e.3.first.spelled.short in
    let b = e.3.second.first.spelled.short in
    let c = e.3.second.second.spelled.short in
    let r = fifteens e.1 es e.4 in
    omega (arith, l, p, q, a, b, c, r)

pub data_length : (s : Five) (bytes : List ℕ) (v : ClassWithCodes) → PacksData (NameRanks s) bytes v → (0 < length bytes) × (length bytes ≤ wide_with_codes v)
data_length s bytes v p =
    let k = p.spelled in
    let n = k.first in
    let q = k.second in
    let l = ap length k.joined ∙ length-append k.front k.back in
    let l1 = ap length q.joined ∙ length-append q.front q.back in
    let l2 = ap length q.second.joined ∙ length-append q.second.front q.second.back in
    let l3 = ap length q.second.second.joined ∙ length-append q.second.second.front q.second.second.back in
    let c1 = ap length n.joined ∙ length-append n.front n.back in
    let c2 = ap length n.second.joined ∙ length-append n.second.front n.second.back in
    let c3 = ap length n.second.second.joined ∙ length-append n.second.second.front n.second.second.back in
    let u1 = n.first.spelled.short in
    let u2 = n.second.first.spelled.short in
    let u3 = n.second.second.first.spelled.short in
    let u4 = n.second.second.second.spelled.short in
    let some = some_sequence n.front _ n.first.spelled in
    let t1 = tens q.front p.entries.statics q.first.1 in
    let t2 = tens q.second.front p.entries.instances q.second.first.1 in
    let t3 = fifteens q.second.second.front p.entries.directs q.second.second.first.1 in
    let t4 = fifteens q.second.second.back p.entries.virtuals q.second.second.second.1 in
    let e1 = p.members.statics.count in
    let e2 = p.members.instances.count in
    let e3 = p.members.directs.count in
    let e4 = p.members.virtuals.count in
    (omega (arith, l, c1, some), omega (arith, l, l1, l2, l3, c1, c2, c3, u1, u2, u3, u4, t1, t2, t3, t4, e1, e2, e3, e4))

pub some_members : (a b : List Member) (c d : List Method) → 0 < length a + length b + (length c + length d) → (is_empty_list a && is_empty_list b && is_empty_list c && is_empty_list d) ≡ false
some_members [] [] [] [] h = absurd (omega (arith, h))
some_members [] [] [] (x ∷ d) h = refl
some_members [] [] (x ∷ c) d h = refl
some_members [] (x ∷ b) c d h = refl
some_members (x ∷ a) b c d h = refl
