-- The data section begins after the header, so none of its items stands at offset 0.
use Rattle.std.proofs.Common.{◌≡◌, ℕ, ◌<◌, ◌≤◌, List, sym, subst, arith}
use Rattle.dex_container.specs.Layout.{size_of, data_begin, data_end, place_at, kind_at}
use Rattle.dex_container.specs.Frame.{IsFramed}
use Rattle.dex_container.specs.Where.{At}

pub none_at_zero : {V : Type 0} (G : List ℕ → V → Type 0) (b : List ℕ) (kind align : ℕ) (v : V) → IsFramed b → At G b kind align 0 v → ⊥
none_at_zero G b kind align v f a =
    let s = a.section in
    let of_data : 0x1000 ≤ kind_at b s.entry = subst (λ (k : ℕ). 0x1000 ≤ k) (sym s.named) s.of_data in
    let inside = (f.map.each s.entry s.in_map).inside of_data in
    let low : data_begin b ≤ place_at b s.entry = inside.0 in
    let high : place_at b s.entry < data_end b = inside.1 in
    let first : a.begin ≤ 0 = a.after in
    let begins : a.begin ≡ place_at b s.entry = s.begins in
    let some : 0 < size_of b 6 = omega (arith, low, high, first, begins) in
    let after : 112 ≤ data_begin b = (f.sections.each 6 (omega arith) some).after in
    absurd (omega (arith, low, first, begins, after))
