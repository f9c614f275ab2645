-- What crates above cite of what stands at a unit.
use Rattle.std.proofs.Common.{◌≡◌, ℕ, ◌+◌, ◌*◌, ◌%◌, ◌<◌, ◌≤◌, ◌++◌, List, length, drop, true, false, ⊎_elim, arith, length-drop}
use Rattle.std.proofs.lemmas.List.{drop-append-le}
use Rattle.std.proofs.Math.Seq.{drop-append_seam}
use Rattle.dex_base.specs.declared.fault.Fault.{Fault}
use Rattle.dex_insn.specs.Raw.{Raw, units, is_payload}
use Rattle.dex_insn.specs.RawInsns.{SpellsInsn, InsnStands, IsPayload}
use Rattle.dex_insn.specs.Flaws.{IsFaultAt}
use Rattle.dex_insn.specs.Written.{IsRaw, written}
use Rattle.dex_insn.proofs.Unique.{Plain, Load, known, once}
use Rattle.dex_insn.proofs.Flaws.{no_flaw, some_unit}
use Rattle.dex_insn.proofs.More.{more, less}
use Rattle.dex_insn.proofs.Spelled.{spells}

-- one instruction stands
pub one-stands : (bytes : List ℕ) (at : ℕ) (x y : Raw) → InsnStands bytes at x → InsnStands bytes at y → x ≡ y
one-stands bytes at x y p q = once (drop (2 * at) bytes) x y p.spelled q.spelled

-- an instruction has units, and they are there
pub spelled-whole : (us : List ℕ) (r : Raw) → SpellsInsn us r → (0 < units r) × (2 * units r ≤ length us)
spelled-whole us r h = ⊎_elim
    (λ (p : Plain us r). (let e = p.size in let s = some_unit p.f in let w = p.begins.whole in (omega arith, omega arith)))
    (λ (l : Load us r). l.there)
    (known us r h)

-- what stands is whole
pub stands-whole : (bytes : List ℕ) (at : ℕ) (r : Raw) → InsnStands bytes at r → (0 < units r) × (2 * at + 2 * units r ≤ length bytes)
stands-whole bytes at r s =
    let w = spelled-whole (drop (2 * at) bytes) r s.spelled in
    let some = w.0 in let there = w.1 in
    (some, omega (arith, length-drop (2 * at) bytes))

-- no fault where an instruction stands
pub stands-clear : (bytes : List ℕ) (at : ℕ) (r : Raw) (fault : Fault) → InsnStands bytes at r → IsFaultAt bytes at fault → ⊥
stands-clear bytes at r fault s f = no_flaw fault.code at bytes r s f.broken

-- an instruction that is no payload begins with no payload's identifier
pub not-payload : (us : List ℕ) (r : Raw) → SpellsInsn us r → is_payload r ≡ false → ¬ IsPayload us
not-payload us r h e = ⊎_elim
    (λ (p : Plain us r). p.not_payload)
    (λ (l : Load us r). λ i. (let t = l.kind in cc))
    (known us r h)

-- a payload begins with a payload's identifier
pub is-payload : (us : List ℕ) (r : Raw) → SpellsInsn us r → is_payload r ≡ true → IsPayload us
is-payload us r h e = ⊎_elim
    (λ (p : Plain us r). (let t = p.kind in absurd (cc)))
    (λ (l : Load us r). l.identifier)
    (known us r h)

-- what begins with a payload's identifier is a payload
pub payload-of : (us : List ℕ) (r : Raw) → SpellsInsn us r → IsPayload us → is_payload r ≡ true
payload-of us r h i = ⊎_elim
    (λ (p : Plain us r). absurd (p.not_payload i))
    (λ (l : Load us r). l.kind)
    (known us r h)

-- a payload stands at an even unit
pub even-of : (bytes : List ℕ) (at : ℕ) (r : Raw) → InsnStands bytes at r → is_payload r ≡ true → at % 2 ≡ 0
even-of bytes at r s e = s.even (is-payload (drop (2 * at) bytes) r s.spelled e)

-- what stands after changes nothing
pub stands-before : (bytes after : List ℕ) (at : ℕ) (r : Raw) → InsnStands bytes at r → InsnStands (bytes ++ after) at r
stands-before bytes after at r s =
    let w = stands-whole bytes at r s in
    let there = w.1 in
    let d : drop (2 * at) (bytes ++ after) ≡ drop (2 * at) bytes ++ after = drop-append-le (2 * at) bytes after (omega arith) in
    let here : SpellsInsn (drop (2 * at) (bytes ++ after)) r = rw d (more r (drop (2 * at) bytes) after (spelled-whole (drop (2 * at) bytes) r s.spelled).1 s.spelled) in
    record {
      spelled = here;
      even = λ i. even-of bytes at r s (payload-of (drop (2 * at) (bytes ++ after)) r here i);
    }

-- and can be left out
pub stands-alone : (bytes after : List ℕ) (at : ℕ) (r : Raw) → 2 * at + 2 * units r ≤ length bytes → InsnStands (bytes ++ after) at r → InsnStands bytes at r
stands-alone bytes after at r fits s =
    let d : drop (2 * at) (bytes ++ after) ≡ drop (2 * at) bytes ++ after = drop-append-le (2 * at) bytes after (omega arith) in
    let here : SpellsInsn (drop (2 * at) bytes) r = less r (drop (2 * at) bytes) after (omega (arith, length-drop (2 * at) bytes)) (rw d at s.spelled) in
    record {
      spelled = here;
      even = λ i. even-of (bytes ++ after) at r s (payload-of (drop (2 * at) bytes) r here i);
    }

-- what is written stands
pub written-stands : (before after : List ℕ) (at : ℕ) (r : Raw) → IsRaw r → length before ≡ 2 * at → (is_payload r ≡ true → at % 2 ≡ 0)
    → InsnStands (before ++ (written r ++ after)) at r
written-stands before after at r fits e even =
    let d : drop (2 * at) (before ++ (written r ++ after)) ≡ written r ++ after = rw (← e) (drop-append_seam before (written r ++ after)) in
    let here : SpellsInsn (drop (2 * at) (before ++ (written r ++ after))) r = rw d (more r (written r) after (spelled-whole (written r) r (spells r fits)).1 (spells r fits)) in
    record { spelled = here; even = λ i. even (payload-of (drop (2 * at) (before ++ (written r ++ after))) r here i) }
