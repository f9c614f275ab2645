-- Where no payload has an odd address, aligning changes nothing.
use Rattle.std.proofs.Common.{◌≡◌, ℕ, List, [], ◌∷◌, map, refl, ap, sym, ◌∙◌, arith, zero, suc, subst, Bool, false}
use Rattle.std.proofs.lemmas.List.{map-id}
use Rattle.std.proofs.lemmas.Iterator.Adapters.{option_map_id}
use Rattle.program_types.specs.Content.{Insn, Code, Try}
use Rattle.program_types.specs.Content as made
use Rattle.code_align.specs.Aligned.{PayloadsEven, with_nops, PadsPayloads, nops_to, moved, moved_insn, moved_try, padded, Aligned}
use Rattle.code_align.proofs.PadLaws.{pads-one}

falses-good : (is : List Insn) → PadsPayloads (map (λ (i : Insn). false) is) is
falses-good [] = tt
falses-good (i ∷ is) = (λ e. absurd cc, falses-good is)

falses-same : (is : List Insn) → with_nops (map (λ (i : Insn). false) is) is ≡ is
falses-same [] = refl
falses-same (i ∷ is) = ap (λ (js : List Insn). i ∷ js) (falses-same is)

no-nops : (is : List Insn) (k : ℕ) → nops_to (map (λ (i : Insn). false) is) k ≡ 0
no-nops [] k = refl
no-nops (i ∷ is) zero = refl
no-nops (i ∷ is) (suc k) = let r = no-nops is k in omega arith

-- numbers that stay leave all as it is
insn-stays : (i : Insn) → moved_insn (λ k. k) i ≡ i
insn-stays (made.Packed first to) = ap (λ (ks : List ℕ). made.Packed first ks) (map-id to)
insn-stays (made.Sparse keys to) = ap (λ (ks : List ℕ). made.Sparse keys ks) (map-id to)
insn-stays _ = refl

insns-stay : (is : List Insn) → map (moved_insn (λ k. k)) is ≡ is
insns-stay [] = refl
insns-stay (i ∷ is) = let e = insn-stays i in let r = insns-stay is in (λ j. e j ∷ r j)

tries-stay : (ts : List Try) → map (moved_try (λ k. k)) ts ≡ ts
tries-stay [] = refl
tries-stay (t ∷ ts) =
    let c = map-id t.catches in let d = option_map_id t.catch_all in let r = tries-stay ts in
    (λ j. record { from = t.from; to = t.to; catches = c j; catch_all = d j } ∷ r j)

pub aligned-same : (c d : Code) → PayloadsEven 0 c.insns → Aligned c d → d ≡ c
aligned-same c d e a =
    let ps = map (λ (i : Insn). false) c.insns in
    let s = pads-one 0 c.insns a.pads (map (λ (i : Insn). false) c.insns) a.payloads (falses-good c.insns) a.even
    (subst (λ (is : List Insn). PayloadsEven 0 is) (sym (falses-same c.insns)) e) in
    let stays : (k : ℕ) → moved (map (λ (i : Insn). false) c.insns) k ≡ k = λ k. let n = no-nops c.insns k in omega arith in
    let insns : map (moved_insn (moved ps)) (with_nops ps c.insns) ≡ c.insns = (λ j. map (moved_insn (λ k. stays k j)) (falses-same c.insns j)) ∙ insns-stay c.insns in
    let tries : map (moved_try (moved ps)) c.tries ≡ c.tries = (λ j. map (moved_try (λ k. stays k j)) c.tries) ∙ tries-stay c.tries in
    a.is ∙ ap (λ (qs : List Bool). padded qs c) s
    ∙ (λ j. record { registers = c.registers; ins = c.ins; outs = c.outs; insns = insns j; tries = tries j })
