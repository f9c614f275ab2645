-- The mnemonics of the table: each has a slot of its own, so no two are the same.
use Rattle.std.proofs.Common.{◌≡◌, ◌≢◌, ℕ, zero, suc, ◌+◌, Bool, true, ◌&&◌, ◌==◌, refl, get_or, List, [], ◌∷◌, sym, ◌∙◌, arith}
use Rattle.std.proofs.lemmas.Bool.Decides.{nat_tests}
use Rattle.dex_insn.specs.Mnemonics.{mnemonics, IsNamed}
use Rattle.dex_base.specs.Fields.{u32_at}
use Rattle.dex_insn.specs.inner.Named.{candidate, text_sum}
use Rattle.std.proofs.lemmas.Bool.{and_parts}

-- each text, the first of which is row n, has the slot of its row
abbrev slots_hold : ℕ → List (List ℕ) → Bool
slots_hold n [] = true
slots_hold n ([] ∷ ts) = slots_hold (n + 1) ts
slots_hold n ((c ∷ cs) ∷ ts) = (candidate (c ∷ cs) == n) && slots_hold (n + 1) ts

all_hold : slots_hold 0 mnemonics ≡ true
unfolding mnemonics candidate text_sum u32_at
all_hold = refl

pub equal : (a b : ℕ) → (a == b) ≡ true → a ≡ b
equal a b e = grind (arith, nat_tests)

row : (n : ℕ) (ts : List (List ℕ)) (i : ℕ) (t : List ℕ) → slots_hold n ts ≡ true → t ≢ [] → get_or ts i [] ≡ t → candidate t ≡ n + i
row n [] i t e some is = absurd (some (sym is))
row n ([] ∷ ts) zero t e some is = absurd (some (sym is))
row n ((c ∷ cs) ∷ ts) zero t e some is = rw (← is) (equal (candidate (c ∷ cs)) n (and_parts _ _ e).0 ∙ omega arith)
row n ([] ∷ ts) (suc i) t e some is = row (n + 1) ts i t e some is ∙ omega arith
row n ((c ∷ cs) ∷ ts) (suc i) t e some is = row (n + 1) ts i t (and_parts _ _ e).1 some is ∙ omega arith

-- the opcode of a mnemonic is in its slot
pub named_slot : (op : ℕ) (text : List ℕ) → IsNamed op text → candidate text ≡ op
named_slot op text h = let e = row 0 mnemonics op text all_hold h.used h.is in omega arith

-- no two opcodes have one mnemonic
pub named_once : (x y : ℕ) (text : List ℕ) → IsNamed x text → IsNamed y text → x ≡ y
named_once x y text p q = sym (named_slot x text p) ∙ named_slot y text q
