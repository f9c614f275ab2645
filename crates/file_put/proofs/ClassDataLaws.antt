-- Class data of a class.
use Rattle.std.proofs.Common.{◌≡◌, ℕ, ◌+◌, ◌<◌, ◌≤◌, List, ◌++◌, length, refl, sym, ap, ◌∙◌, arith, length-append, append_assoc}
use Rattle.dex_base.specs.Grammar.{Appends}
use Rattle.dex_base.specs.Leb128.{Spells, Shortest}
use Rattle.file_classes.specs.ClassData.{SpellsCounts}
use Rattle.file_layout.specs.inner.Sections.{AddsSome}
use Rattle.file_layout.proofs.SectionLaws.{adds_some, gap_one, unpadded}
use Rattle.tables_names.specs.Closure.{Five, NameRanks}
use Rattle.program_types.specs.Content.{Class}
use Rattle.file_put.specs.Data.{code_offs}
use Rattle.file_put.specs.inner.Data.{PacksData, ClassWithCodes, has_no_members, wide_with_codes}
use Rattle.file_put.specs.inner.Growing.{AddsFields, AddsMethods}
use Rattle.file_put.proofs.DataLengths.{data_length, some_members}

-- four counts, then the four lists
pub members_append : (s : Five) (c : Class) (a b d v : ℕ) (codes first last old m0 m1 m2 m3 new : List ℕ) → a ≡ length c.statics → b ≡ length c.instances → d ≡ length c.directs → v ≡ length c.virtuals → codes ≡ first ++ last
    → Appends (SpellsCounts (Shortest Spells)) old m0 (a, (b, (d, v)))
    → AddsFields (NameRanks s) c.ty m0 m1 c.statics → AddsFields (NameRanks s) c.ty m1 m2 c.instances → AddsMethods (NameRanks s) c.ty first m2 m3 c.directs → AddsMethods (NameRanks s) c.ty last m3 new c.virtuals
    → Appends (PacksData (NameRanks s)) old new (record { class = c; codes = codes })
members_append s c n1 n2 n3 n4 codes first last old m0 m1 m2 m3 new f1 f2 f3 f4 whole n a b d v =
    let e1 : length a.entries ≡ n1 = sym (f1 ∙ a.run.count) in
    let e2 : length b.entries ≡ n2 = sym (f2 ∙ b.run.count) in
    let e3 : length d.entries ≡ n3 = sym (f3 ∙ d.run.count) in
    let e4 : length v.entries ≡ n4 = sym (f4 ∙ v.run.count) in
    let counted : SpellsCounts (Shortest Spells) n.bytes (length a.entries, (length b.entries, (length d.entries, length v.entries))) = rw (e1, e2, e3, e4) n.spelled in
    record {
      bytes = n.bytes ++ (a.bytes ++ (b.bytes ++ (d.bytes ++ v.bytes)));
      joined = rw (v.whole, d.whole, b.whole, a.whole, n.joined) (simp append_assoc);
      spelled = record {
        entries = record { statics = a.entries; instances = b.entries; directs = d.entries; virtuals = v.entries };
        spelled = record {
          front = n.bytes;
          back = a.bytes ++ (b.bytes ++ (d.bytes ++ v.bytes));
          joined = refl;
          first = counted;
          second = record {
            front = a.bytes;
            back = b.bytes ++ (d.bytes ++ v.bytes);
            joined = refl;
            first = (refl, a.spelled);
            second = record {
              front = b.bytes;
              back = d.bytes ++ v.bytes;
              joined = refl;
              first = (refl, b.spelled);
              second = record { front = d.bytes; back = v.bytes; joined = refl; first = (refl, d.spelled); second = (refl, v.spelled) };
            };
          };
        };
        members = record { statics = a.run; instances = b.run; directs = d.run; virtuals = v.run };
        codes = ap (λ (l : List ℕ). l ++ code_offs v.entries) d.places ∙ ap (λ (l : List ℕ). first ++ l) v.places ∙ sym whole;
      };
    }

pub data_adds : (s : Five) (old new : List ℕ) (c : Class) (codes : List ℕ) (place : ℕ) → 0 < length c.statics + length c.instances + (length c.directs + length c.virtuals) → place ≡ length old
    → Appends (PacksData (NameRanks s)) old new (record { class = c; codes = codes }) → AddsSome has_no_members (PacksData (NameRanks s)) 1 old new (record { class = c; codes = codes }) place
data_adds s old new c codes place some p a =
    let g = gap_one (length old) in
    adds_some has_no_members (PacksData (NameRanks s)) 1 old new (record { class = c; codes = codes }) place (some_members c.statics c.instances c.directs c.virtuals some)
    (record { there = omega (arith, p, g); bytes = a.bytes; whole = a.joined ∙ ap (λ (l : List ℕ). l ++ a.bytes) (sym (unpadded old)); some = (data_length s a.bytes (record { class = c; codes = codes }) a.spelled).0; spelled = a.spelled })

pub data_bound : (s : Five) (old new : List ℕ) (v : ClassWithCodes) → Appends (PacksData (NameRanks s)) old new v → length new ≤ length old + wide_with_codes v
data_bound s old new v a =
    let e = ap length a.joined ∙ length-append old a.bytes in
    let m = (data_length s a.bytes v a.spelled).1 in
    omega (arith, e, m)
