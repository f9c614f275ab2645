-- The front of an instruction's units, as code reads it.
use Rattle.std.proofs.Common.{◌≡◌, ◌≢◌, ℕ, ◌+◌, ◌*◌, ◌/◌, ◌%◌, ◌<◌, ◌≤◌, List, ◌∷◌, ◌++◌, take, drop, length, refl, ap, subst, ◌∙◌, arith}
use Rattle.std.specs.Prelude.{set}
use Rattle.std.proofs.lemmas.List.{length-set}
use Rattle.dex_base.specs.Fields.{u16_at, u32_at, u16_bytes}
use Rattle.dex_insn.specs.Fields.{number, field}
use Rattle.dex_insn.specs.Opcodes.{index_kind_of}
use Rattle.dex_insn.specs.Raw as raw
use Rattle.dex_insn.specs.Raw.{Raw, units}
use Rattle.dex_insn.specs.RawInsns.{SpellsInsn, InsnStands, IsPayload, register}
use Rattle.dex_insn.proofs.StandingLaws.{spelled-whole}
use Rattle.file_renumber.specs.inner.Marked.{Columns}
use Rattle.file_renumber.specs.declared.shapes.Shape.TheVariants.{Short, Long, Five}
use Rattle.file_renumber.specs.inner.Renumbered.{number_in, HasShortNumber}
use Rattle.file_renumber.specs.inner.Shapes.{shape_of}
use Rattle.file_renumber.specs.inner.InPlace.{named_unit, with_named, IsRenumbered}
use Rattle.file_renumber.proofs.FormLemmas.{with_short}

pub unit_long : (us : List ℕ) (r : Raw) → SpellsInsn us r → 2 ≤ length us
unit_long us r s = let w = spelled-whole us r s in let some = w.0 in let there = w.1 in omega (arith, some, there)

-- what is at the front stands at unit 0
pub stands_in_front : (us : List ℕ) (r : Raw) → SpellsInsn us r → InsnStands us 0 r
stands_in_front us r s = record { spelled = s; even = λ p. refl }

-- ---- numbers of units, by their bytes

pub first_unit : (us : List ℕ) → u16_at us 0 ≡ number us 0 1
unfolding u16_at number
first_unit us = refl

pub second_unit : (us : List ℕ) → u16_at us 2 ≡ number us 1 1
unfolding u16_at number
second_unit us = refl

pub third_unit : (us : List ℕ) → u16_at us 4 ≡ number us 2 1
unfolding u16_at number
third_unit us = refl

pub second_units : (us : List ℕ) → u32_at us 2 ≡ number us 1 2
unfolding u32_at number
second_units us = refl

pub op_is : (us : List ℕ) (first : ℕ) → first ≡ u16_at us 0 → first % 256 ≡ field us 0 0 8
op_is us first e = let u = first_unit us in omega (arith, e, u)

pub payload_first : (us : List ℕ) (first : ℕ) → first ≡ u16_at us 0 → first % 256 ≡ 0 → first ≢ 0 → first < 1024 → IsPayload us
payload_first us first e low some few = let u = first_unit us in (omega (arith, e, u, low), omega (arith, e, u, low, some), omega (arith, e, u, few))

pub no_payload_far : (us : List ℕ) (first : ℕ) → first ≡ u16_at us 0 → first < 65536 → 1024 ≤ first → IsPayload us → ⊥
no_payload_far us first e low far p = let u = first_unit us in absurd (omega (arith, e, u, low, far, p.0, p.1, p.2))

pub no_payload_zero : (us : List ℕ) (first : ℕ) → first ≡ u16_at us 0 → first ≡ 0 → IsPayload us → ⊥
no_payload_zero us first e none p = let u = first_unit us in omega (arith, e, u, none, p.1)

pub no_payload_op : (us : List ℕ) (first : ℕ) → first ≡ u16_at us 0 → first % 256 ≢ 0 → IsPayload us → ⊥
no_payload_op us first e some p = let u = first_unit us in some (omega (arith, e, u, p.0))

-- ---- sizes

pub short_size : (r : Raw) (n : ℕ) → shape_of r ≡ Short n → n ≡ units r
unfolding units
short_size (raw.I21c op a index) n e = cc
short_size _ n e = cc

pub long_size : (r : Raw) → shape_of r ≡ Long → 3 ≡ units r
unfolding units
long_size (raw.I31c op a index) e = refl
long_size _ e = absurd cc

pub five_size : (r : Raw) → shape_of r ≡ Five → 3 ≡ units r
unfolding units
five_size (raw.I35c op k regs index) e = refl
five_size _ e = absurd cc

-- ---- in place

-- a number put over two bytes sets one after the other
put_over_third : (us : List ℕ) (n : ℕ) → 4 ≤ length us → n < 65536 → take 2 us ++ (u16_bytes n ++ drop (2 + 2) us) ≡ set (set us 2 (n % 256)) 3 (n / 256)
unfolding u16_bytes
put_over_third (a ∷ b ∷ c ∷ d ∷ rest) n l few = let high : n / 256 % 256 ≡ n / 256 = omega (arith, few) in ap (λ (x : ℕ). a ∷ b ∷ n % 256 ∷ x ∷ rest) high
put_over_third _ n l few = absurd (omega (arith, l))

put_over_fifth : (us : List ℕ) (n : ℕ) → 6 ≤ length us → n < 65536 → take 4 us ++ (u16_bytes n ++ drop (4 + 2) us) ≡ set (set us 4 (n % 256)) 5 (n / 256)
unfolding u16_bytes
put_over_fifth (a ∷ b ∷ c ∷ d ∷ e ∷ f ∷ rest) n l few = let high : n / 256 % 256 ≡ n / 256 = omega (arith, few) in ap (λ (x : ℕ). a ∷ b ∷ c ∷ d ∷ n % 256 ∷ x ∷ rest) high
put_over_fifth _ n l few = absurd (omega (arith, l))

pub short_put : (us new : List ℕ) (n m : ℕ) → 4 ≤ length us → m < 65536 → n ≡ m → new ≡ take 2 us ++ (u16_bytes n ++ drop (2 + 2) us) → new ≡ with_short us m
short_put us new n m four few e put = put ∙ put_over_third us n four (omega (arith, few, e)) ∙ ap (with_short us) e

pub size_is : (numbers : Columns) (old new : List ℕ) (n m : ℕ) (r : Raw) → n ≡ m → IsRenumbered numbers old new m r → IsRenumbered numbers old new n r
size_is numbers old new n m r e x = record { size = e ∙ x.size; is_new = x.is_new; fits = x.fits }

pub new_is : (numbers : Columns) (old new same : List ℕ) (n : ℕ) (r : Raw) → new ≡ same → IsRenumbered numbers old same n r → IsRenumbered numbers old new n r
new_is numbers old new same n r e x = record { size = x.size; is_new = e ∙ x.is_new; fits = x.fits }

pub moved_has : (numbers : Columns) (o i j : ℕ) → i ≡ j → HasShortNumber numbers o i → HasShortNumber numbers o j
moved_has numbers o i j e h = subst (λ (x : ℕ). HasShortNumber numbers o x) e h

pub longer : (us new : List ℕ) (n : ℕ) → new ≡ with_named us n → 6 ≤ length us → 4 ≤ length new
longer us new n e l = let k : length new ≡ length us = ap length e ∙ simp length-set in omega (arith, k, l)

pub named_second : (us : List ℕ) (n : ℕ) → 6 ≤ length us → u16_at (with_named us n) 2 ≡ u16_at us 2
unfolding u16_at
named_second (a ∷ b ∷ c ∷ d ∷ e ∷ f ∷ rest) n l = refl
named_second _ n l = absurd (omega (arith, l))

pub subst_named : (numbers : Columns) (us new : List ℕ) (n o : ℕ) → new ≡ with_named us n → 6 ≤ length us
    → with_short new (number_in numbers (index_kind_of o) (u16_at new 2)) ≡ with_short (with_named us n) (number_in numbers (index_kind_of o) (u16_at us 2))
subst_named numbers us new n o e l =
    ap (λ (z : List ℕ). with_short z (number_in numbers (index_kind_of o) (u16_at z 2))) e ∙ ap (λ (i : ℕ). with_short (with_named us n) (number_in numbers (index_kind_of o) i)) (named_second us n l)

-- ---- format 35c

same_named : (m n c d e f c' d' e' f' : ℕ) → m ≡ n → c ≡ c' → d ≡ d' → e ≡ e' → f ≡ f'
    → register m 0 c + 16 * register m 1 d + 256 * register m 2 e + 4096 * register m 3 f ≡ register n 0 c' + 16 * register n 1 d' + 256 * register n 2 e' + 4096 * register n 3 f'
same_named m n c d e f c' d' e' f' p q r s t = rw (p, q, r, s, t) refl

same_last : (m n g h : ℕ) → m ≡ n → g ≡ h → register m 4 g ≡ register n 4 h
same_last m n g h p q = rw (p, q) refl

pub unnamed_cleared : (us mid new : List ℕ) (first third kept last : ℕ) → first ≡ u16_at us 0 → first < 65536 → third ≡ u16_at us 4 → third < 65536
    → kept ≡ register (first / 4096) 0 (third % 16) + 16 * register (first / 4096) 1 (third / 16 % 16) + 256 * register (first / 4096) 2 (third / 256 % 16) + 4096 * register (first / 4096) 3 (third / 4096)
    → last ≡ register (first / 4096) 4 (first / 256 % 16) → mid ≡ set us 1 (16 * (first / 4096) + last) → 6 ≤ length us → kept < 65536
    → new ≡ take 4 mid ++ (u16_bytes kept ++ drop (4 + 2) mid) → new ≡ with_named us (field us 0 12 4)
unnamed_cleared us mid new first third kept last e low f few k l m six fits n =
    let u = first_unit us in
    let v = third_unit us in
    let count : first / 4096 ≡ field us 0 12 4 = omega (arith, e, u, low) in
    let all : kept ≡ named_unit us (field us 0 12 4) =
    k ∙ same_named (first / 4096) (field us 0 12 4) (third % 16) (third / 16 % 16) (third / 256 % 16) (third / 4096) (field us 2 0 4) (field us 2 4 4) (field us 2 8 4) (field us 2 12 4) count
    (omega (arith, f, v)) (omega (arith, f, v)) (omega (arith, f, v)) (omega (arith, f, v, few)) in
    let g : last ≡ register (field us 0 12 4) 4 (field us 0 8 4) = l ∙ same_last (first / 4096) (field us 0 12 4) (first / 256 % 16) (field us 0 8 4) count (omega (arith, e, u)) in
    let byte : 16 * (first / 4096) + last ≡ register (field us 0 12 4) 4 (field us 0 8 4) + 16 * field us 0 12 4 = omega (arith, g, count) in
    let front : mid ≡ set us 1 (register (field us 0 12 4) 4 (field us 0 8 4) + 16 * field us 0 12 4) = m ∙ ap (λ (x : ℕ). set us 1 x) byte in
    let whole : length mid ≡ length us = ap length m ∙ simp length-set in
    n ∙ put_over_fifth mid kept (omega (arith, whole, six)) fits ∙ ap (λ (x : ℕ). set (set mid 4 (x % 256)) 5 (x / 256)) all ∙ ap (λ (z : List ℕ). set (set z 4 (named_unit us (field us 0 12 4) % 256)) 5 (named_unit us (field us 0 12 4) / 256)) front
