-- Units that stand for themselves are their own text.
use Rattle.std.proofs.Common.{◌≡◌, Bool, ℕ, suc, ◌+◌, ◌-◌, ◌<◌, ◌≤◌, true, List, [], ◌∷◌, ◌++◌, length, take, drop, get_or, refl, sym, ap, subst, ◌∙◌, inl, inr, arith, append_assoc, get_or-take, get_or-drop, length-drop}
use Rattle.std.proofs.lemmas.Bool.{cases_lt}
use Rattle.std.proofs.lemmas.Grind.{flat_map-append}
use Rattle.std.proofs.lemmas.List.{length-take, length-take-le, take-append-drop}
use Rattle.std.proofs.Math.Seq.{take-add}
use Rattle.std.specs.List.{flat_map}
use Rattle.listing_words.specs.inner.Plain.{IsPlainFrom, IsFront, AllOrNone}
use Rattle.listing_words.specs.Texts.{unit_text, text_word}
use Rattle.listing_words.specs.Written.{name_unit, name_text}
use Rattle.listing_words.proofs.TextLaws.{text_plain}
use Rattle.listing_words.proofs.WrittenLaws.{name_plain}

name_alone : (us : List ℕ) → ((k : ℕ) → k < length us → IsPlainFrom 33 (get_or us k 0)) → name_text us ≡ us
name_alone [] p = refl
name_alone (u ∷ us) p =
    let one = p 0 (omega arith) in
    ap (λ l. l ++ name_text us) (name_plain u one.from one.plain.high one.plain.no_quote one.plain.no_escape)
    ∙ ap (λ l. u ∷ l) (name_alone us (λ k h. p (suc k) (omega (arith, h))))

-- the front of a name, and after it all others as they are written
pub name_joined : (old front out us : List ℕ) (n : ℕ) → IsFront 35 us old front n → out ≡ front ++ name_text (drop n us) → out ≡ old ++ name_text us
name_joined old front out us n p o =
    let alone : name_text (take n us) ≡ take n us = name_alone (take n us) (λ k h.
    let low : k < n = omega (arith, length-take n us) in
    let same : get_or (take n us) k 0 ≡ get_or us k 0 = get_or-take n us k 0 low in
    subst (λ u. IsPlainFrom 33 u) (sym same) (record { from = omega (arith, (p.plain k low).from); plain = (p.plain k low).plain })) in
    o ∙ ap (λ l. l ++ name_text (drop n us)) p.appended ∙ append_assoc old (take n us) (name_text (drop n us))
    ∙ ap (λ l. old ++ l) (ap (λ l. l ++ name_text (drop n us)) (sym alone) ∙ sym (flat_map-append name_unit (take n us) (drop n us)) ∙ ap name_text (take-append-drop n us))

text_alone : (us : List ℕ) → ((k : ℕ) → k < length us → IsPlainFrom 32 (get_or us k 0)) → flat_map unit_text us ≡ us
text_alone [] p = refl
text_alone (u ∷ us) p =
    ap (λ l. l ++ flat_map unit_text us) (text_plain u (p 0 (omega arith)).plain)
    ∙ ap (λ l. u ∷ l) (text_alone us (λ k h. p (suc k) (omega (arith, h))))

-- the same of a text, between its quotes
pub text_joined : (old front out us : List ℕ) (n : ℕ) → IsFront 32 us (old ++ 34 ∷ []) front n
    → out ≡ (front ++ flat_map unit_text (drop n us)) ++ 34 ∷ [] → out ≡ old ++ text_word us
text_joined old front out us n p o =
    let alone : flat_map unit_text (take n us) ≡ take n us = text_alone (take n us) (λ k h.
    let low : k < n = omega (arith, length-take n us) in
    subst (λ u. IsPlainFrom 32 u) (sym (get_or-take n us k 0 low)) (p.plain k low)) in
    let both : flat_map unit_text us ≡ take n us ++ flat_map unit_text (drop n us) =
    ap (λ l. flat_map unit_text l) (sym (take-append-drop n us)) ∙ flat_map-append unit_text (take n us) (drop n us) ∙ ap (λ l. l ++ flat_map unit_text (drop n us)) alone in
    rw (o, p.appended, both) (simp append_assoc)

-- a front, and the front of what is after it
pub front_joined : (least : ℕ) (us old mid new : List ℕ) (n m : ℕ) → IsFront least us old mid n → IsFront least (drop n us) mid new m → IsFront least us old new (n + m)
front_joined least us old mid new n m p q = record {
  inside = omega (arith, p.inside, q.inside, length-drop n us);
  plain = λ k h. elim (cases_lt k n) [
    | inl low ↦ p.plain k low
    | inr high ↦
        let back : n + (k - n) ≡ k = omega arith in
        let more : k - n < m = omega arith in
        subst (λ u. IsPlainFrom least u) (get_or-drop n us (k - n) 0 ∙ ap (λ i. get_or us i 0) back) (q.plain (k - n) more)
  ];
  appended = q.appended ∙ ap (λ l. l ++ take m (drop n us)) p.appended ∙ append_assoc old (take n us) (take m (drop n us)) ∙ ap (λ l. old ++ l) (sym (take-add n m us));
}

-- three fronts, each of what stands after the one before it
pub three_joined : (least : ℕ) (us after last old one two new : List ℕ) (n m k : ℕ) → after ≡ drop n us → last ≡ drop m after
    → IsFront least us old one n → IsFront least after one two m → IsFront least last two new k → IsFront least us old new (n + m + k)
three_joined least us after last old one two new n m k e f p q r =
    let both : IsFront least after one new (m + k) = front_joined least after one two new m k q (subst (λ l. IsFront least l two new k) f r) in
    subst (λ i. IsFront least us old new i) (omega arith) (front_joined least us old one new n (m + k) p (subst (λ l. IsFront least l one new (m + k)) e both))

-- one run more of what stands after a front
pub run_more : (least size n : ℕ) (us old mid new : List ℕ) → n + size ≤ length us → IsFront least us old mid n
    → AllOrNone true least (take size (drop n us)) mid new → IsFront least us old new (n + size)
run_more least size n us old mid new room p (plain, e) =
    let count : length (take size (drop n us)) ≡ size = length-take-le size (drop n us) (omega (arith, length-drop n us)) in
    let q : IsFront least (drop n us) mid new size = record {
      inside = omega (arith, length-drop n us);
      plain = λ k h. subst (λ u. IsPlainFrom least u) (get_or-take size (drop n us) k 0 h) (plain k (omega (arith, count)));
      appended = e;
    } in
    front_joined least us old mid new n size p q

-- the same with the run as it was cut out
pub run_cut : (least size n next : ℕ) (us old mid new after run : List ℕ) (b : Bool) → n + size ≡ next → after ≡ drop n us → run ≡ take size after → b ≡ true
    → n + size ≤ length us → IsFront least us old mid n → AllOrNone b least run mid new → IsFront least us old new next
run_cut least size n next us old mid new after run b s e f t room p h =
    let whole : AllOrNone true least run mid new = subst (λ v. AllOrNone v least run mid new) t h in
    subst (λ m. IsFront least us old new m) s
    (run_more least size n us old mid new room p (subst (λ v. AllOrNone true least v mid new) (f ∙ ap (λ l. take size l) e) whole))
