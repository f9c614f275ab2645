-- What is written, put together.
use Rattle.std.proofs.Common.{◌≡◌, ℕ, ◌<◌, ◌++◌, List, [], length, ap, ◌∙◌, append_assoc, subst}
use Rattle.std.specs.List.{AllByRecursion}
use Rattle.program_types.specs.Content.{Name, Code}
use Rattle.program_types.specs.Sizes.{addresses_of, length_of}
use Rattle.code_write.specs.Packs.{AreLowered, joined, padding, items_bytes, head_bytes, PacksHandlersOf, PacksCode}
use Rattle.code_write.specs.inner.Packs.{PutInsns}

regroup : (h j p t l : List ℕ) → (((h ++ j) ++ p) ++ t) ++ l ≡ h ++ (j ++ (p ++ (t ++ l)))
regroup h j p t l = append_assoc ((h ++ j) ++ p) t l ∙ append_assoc (h ++ j) p (t ++ l) ∙ append_assoc h j (p ++ (t ++ l))

pub packed : (N : ℕ → Name → Type 0) (c : Code) (ss i0 i1 i2 i3 i4 i5 list offs : List ℕ) (size n : ℕ) → ss ≡ addresses_of c.insns → size ≡ length_of c.insns → n ≡ length c.tries
    → i0 ≡ [] → i1 ≡ i0 ++ head_bytes c size → PutInsns N c.insns ss i1 i2 → i3 ≡ i2 ++ padding size n → i4 ≡ i3 ++ items_bytes size ss c.tries offs → i5 ≡ i4 ++ list
    → PacksHandlersOf N ss c.tries list offs → length c.tries < 65536 → AllByRecursion (λ off. off < 65536) offs → length_of c.insns < 4294967296 → PacksCode N i5 c
packed N c ss i0 i1 i2 i3 i4 i5 list offs size n es ez en e0 e1 p e3 e4 e5 hs few near short =
    let size' = length_of c.insns in
    let ss' = addresses_of c.insns in
    let a1 : i1 ≡ head_bytes c size' = e1 ∙ ap (λ (z : List ℕ). z ++ head_bytes c size) e0 ∙ ap (head_bytes c) ez in
    let a2 : i2 ≡ head_bytes c size' ++ joined p.raws = p.is_new ∙ ap (λ (z : List ℕ). z ++ joined p.raws) a1 in
    let a3 : i3 ≡ (head_bytes c size' ++ joined p.raws) ++ padding size' (length c.tries) =
    e3 ∙ ap (λ (z : List ℕ). z ++ padding size n) a2 ∙ (λ i. (head_bytes c size' ++ joined p.raws) ++ padding (ez i) (en i)) in
    let a4 : i4 ≡ ((head_bytes c size' ++ joined p.raws) ++ padding size' (length c.tries)) ++ items_bytes size' ss' c.tries offs =
    e4 ∙ ap (λ (z : List ℕ). z ++ items_bytes size ss c.tries offs) a3
    ∙ (λ i. ((head_bytes c size' ++ joined p.raws) ++ padding size' (length c.tries)) ++ items_bytes (ez i) (es i) c.tries offs) in
    record {
      raws = p.raws;
      lowered = subst (λ (z : List ℕ). AreLowered N c.insns z p.raws) es p.lowered;
      list = list;
      offsets = offs;
      handlers = subst (λ (z : List ℕ). PacksHandlersOf N z c.tries list offs) es hs;
      few = few;
      near = near;
      short = short;
      is = e5 ∙ ap (λ (z : List ℕ). z ++ list) a4 ∙ regroup (head_bytes c size') (joined p.raws) (padding size' (length c.tries)) (items_bytes size' ss' c.tries offs) list;
    }
