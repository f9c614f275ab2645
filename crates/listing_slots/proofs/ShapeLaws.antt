-- Words have one shape.
use Rattle.std.proofs.Common.{◌≡◌, ℕ, zero, suc, ◌+◌, Bool, true, false, inl, inr, ◌⊎◌, List, [], ◌∷◌, ◌++◌, length, get_or, drop, map, option_map, Option, Some, None, refl, sym, ap, subst, ◌∙◌, append_assoc, arith, add-one}
use Rattle.std.specs.Prelude.{◌==◌, if◌then◌else◌, Result, Ok, Err, IfOk, IfSome, IfNone}
use Rattle.dex_base.specs.declared.fault.Fault.{Fault}
use Rattle.std.specs.List.{list_all}
use Rattle.std.proofs.lemmas.List.{append_cancel_right, length-map}
use Rattle.dex_insn.proofs.Mnemonics.{named_once}
use Rattle.dex_insn.specs.Mnemonics.{IsNamed, mnemonics}
use Rattle.listing_words.specs.inner.View.{word}
use Rattle.listing_words.specs.declared.words.Word.{Word as Made}
use Rattle.listing_words.specs.Words.{Word, plain_word}
use Rattle.listing_words.specs.Numbers.{is_natural}
use Rattle.listing_slots.specs.declared.key.Key.{Key}
use Rattle.listing_slots.specs.declared.kind.Kind.{Kind}
use Rattle.listing_slots.specs.declared.slot.Slot.{Slot}
use Rattle.listing_slots.specs.declared.slot.Slot.TheVariants as slot
use Rattle.listing_slots.specs.Keys.{key_text, same, find_key, lead_keys, payload_keys}
use Rattle.listing_slots.specs.Slots.{has_form, have_forms}
use Rattle.listing_slots.specs.Shapes.{Shape, Row, BeginsWithKey, BeginsWithInsn, IsPlainRow, IsInsnRow, IsKeyed, HasShape, HasBareShape, key_row, payload_row, pairs, target}
use Rattle.listing_slots.specs.inner.Shapes.{onto_row}
use Rattle.listing_slots.proofs.KeyLaws.{same_true}
use Rattle.std.proofs.lemmas.Bool.{and_parts}

-- ---- no keyword ends in `:`

abbrev ends : List ℕ → Bool
ends [] = false
ends (c ∷ []) = c == 58
ends (c ∷ d ∷ cs) = ends (d ∷ cs)

ends_label : (label : List ℕ) → ends (label ++ 58 ∷ []) ≡ true
ends_label (c ∷ d ∷ cs) = ends_label (d ∷ cs)
ends_label _ = refl

abbrev free : Bool → Bool
free true = false
free false = true

free_of : (b : Bool) → free b ≡ true → b ≡ false
free_of true e = absurd cc
free_of false e = refl

same_free : (a text : List ℕ) → same a text ≡ true → free (ends a) ≡ true → ends text ≡ false
same_free a text e f = subst (λ (t : List ℕ). ends t ≡ false) (same_true a text e) (free_of (ends a) f)

pub chosen : (b : Bool) (j : Key) (more : Option Key) (k : Key) → Some k ≡ (if b then Some j else more) → ((b ≡ true) × (k ≡ j)) ⊎ ((b ≡ false) × (Some k ≡ more))
chosen true j more k e = inl (refl, cc)
chosen false j more k e = inr (refl, e)

found_free : (ks : List Key) (text : List ℕ) (k : Key) → list_all (λ k. free (ends (key_text k))) ks ≡ true → Some k ≡ find_key ks text → ends text ≡ false
unfolding find_key
found_free [] text k a e = absurd cc
found_free (j ∷ ks) text k a e =
    let b = and_parts (free (ends (key_text j))) (list_all (λ k. free (ends (key_text k))) ks) a in
    elim (chosen (same (key_text j) text) j (find_key ks text) k e) [
      | inl f ↦ same_free (key_text j) text f.0 b.0
      | inr f ↦ found_free ks text k b.1 f.1
    ]

leads_free : list_all (λ k. free (ends (key_text k))) lead_keys ≡ true
unfolding key_text
leads_free = refl

pub no_colon : (text label : List ℕ) (k : Key) → Some k ≡ find_key lead_keys text → text ≡ label ++ 58 ∷ [] → ⊥
no_colon text label k e f = let a = found_free lead_keys text k leads_free e in let b : ends text ≡ true = rw f (ends_label label) in absurd (let c : true ≡ false = sym b ∙ a in cc)

-- ---- a mnemonic is no word of a payload

abbrev no_key : Option Key → Bool
no_key None = true
no_key (Some k) = false

none_of : (k : Key) (o : Option Key) → no_key o ≡ true → Some k ≡ o → ⊥
none_of k None e f = cc
none_of k (Some j) e f = cc

pub all_at : (P : List ℕ → Bool) (xs : List (List ℕ)) (i : ℕ) (d : List ℕ) → list_all P xs ≡ true → P d ≡ true → P (get_or xs i d) ≡ true
all_at P [] i d a e = e
all_at P (x ∷ xs) zero d a e = (and_parts (P x) (list_all P xs) a).0
all_at P (x ∷ xs) (suc i) d a e = all_at P xs i d (and_parts (P x) (list_all P xs) a).1 e

mnemonics_free : list_all (λ m. no_key (find_key payload_keys m)) mnemonics ≡ true
unfolding mnemonics find_key same key_text
mnemonics_free = refl

empty_free : no_key (find_key payload_keys []) ≡ true
unfolding find_key same key_text
empty_free = refl

pub no_payload : (op : ℕ) (text : List ℕ) (k : Key) → IsNamed op text → Some k ≡ find_key payload_keys text → ⊥
no_payload op text k n e = none_of k (find_key payload_keys text) (subst (λ (t : List ℕ). no_key (find_key payload_keys t) ≡ true) n.is (all_at (λ m. no_key (find_key payload_keys m)) mnemonics op [] mnemonics_free empty_free)) e

some_key : (j k : Key) (o : Option Key) → Some j ≡ o → Some k ≡ o → j ≡ k
some_key j k o e f = cc

pub row_one : (text : List ℕ) (ws : List Word) (r s : Row) → IsInsnRow text ws r → IsInsnRow text ws s → r ≡ s
row_one text ws r s p q = elim p [
  | inl a ↦ elim q [
    | inl b ↦ let e = named_once a.0 b.0 text a.1 b.1 in a.2 ∙ rw e (sym b.2)
    | inr b ↦ absurd (no_payload a.0 text b.0 a.1 b.1)
  ]
  | inr a ↦ elim q [
    | inl b ↦ absurd (no_payload b.0 text a.0 b.1 a.1)
    | inr b ↦ let e = some_key a.0 b.0 (find_key payload_keys text) a.1 b.1 in let f = a.2 in let g : Some s ≡ payload_row a.0 ws = rw e b.2 in cc
  ]
]

-- ---- shapes

label_is : (a b : List ℕ) → a ++ 58 ∷ [] ≡ b ++ 58 ∷ [] → a ≡ b
label_is a b e = append_cancel_right a b (58 ∷ []) e

insn_one : (ws : List Word) (r s : Row) → BeginsWithInsn ws r → BeginsWithInsn ws s → r ≡ s
insn_one ws r s p q =
    let i = p.words in let j = q.words in
    let m : p.text ≡ q.text = cc in let n : p.after ≡ q.after = cc in
    row_one q.text q.after r s (subst (λ (u : List ℕ). IsInsnRow u q.after r) m (subst (λ (v : List Word). IsInsnRow p.text v r) n p.has_row)) q.has_row

keyed_one : (text : List ℕ) (ws : List Word) (r s : Row) → BeginsWithKey text ws r → BeginsWithKey text ws s → r ≡ s
keyed_one text ws r s p q =
    let k = some_key p.lead q.lead (find_key lead_keys text) p.found q.found in
    let e : Some r ≡ Some s = p.has_row ∙ rw k (sym q.has_row) in cc

-- a line with a number is no line with a keyword
pub not_both : (ws : List Word) (label text : List ℕ) (after more : List Word) (row : Row) → ws ≡ plain_word (label ++ 58 ∷ []) ∷ after → ws ≡ plain_word text ∷ more → BeginsWithKey text more row → ⊥
not_both ws label text after more row e f k = let c : text ≡ label ++ 58 ∷ [] = cc in no_colon text label k.lead k.found c

pub labelled_only : (ws after : List Word) (text label : List ℕ) → ws ≡ plain_word text ∷ after → text ≡ label ++ 58 ∷ [] → (is_natural label ≡ true → (row : Row) → BeginsWithInsn after row → ⊥) → (s : Shape) → HasShape ws s → ⊥
labelled_only ws after text label e f refuse s h = elim h [
  | inl a ↦
      let w = a.words in
      let i : a.label ++ 58 ∷ [] ≡ text = cc in
      let j : a.after ≡ after = cc in
      let k = label_is a.label label (i ∙ f) in
      refuse (subst (λ (t : List ℕ). is_natural t ≡ true) k a.natural) a.row (subst (λ (t : List Word). BeginsWithInsn t a.row) j a.insn)
  | inr a ↦ not_both ws label a.text after a.after a.row (rw f at e) a.words a.keyed
]

pub keyed_only : (ws after : List Word) (text : List ℕ) → ws ≡ plain_word text ∷ after → ((label : List ℕ) → text ≡ label ++ 58 ∷ [] → ⊥) → ((row : Row) → BeginsWithKey text after row → ⊥) → (s : Shape) → HasShape ws s → ⊥
keyed_only ws after text e plain refuse s h = elim h [
  | inl a ↦ let w = a.words in let i : text ≡ a.label ++ 58 ∷ [] = cc in plain a.label i
  | inr a ↦
      let w = a.words in
      let i : a.text ≡ text = cc in let j : a.after ≡ after = cc in
      refuse a.row (subst (λ (t : List ℕ). BeginsWithKey t after a.row) i (subst (λ (v : List Word). BeginsWithKey a.text v a.row) j a.keyed))
]

pub no_words : (ws : List Word) → ws ≡ [] → (s : Shape) → HasShape ws s → ⊥
no_words ws e s h = elim h [
  | inl a ↦ let w = a.words in cc
  | inr a ↦ let w = a.words in cc
]

pub labelled_shape : (ws after : List Word) (text label : List ℕ) (row : Row) → ws ≡ plain_word text ∷ after → text ≡ label ++ 58 ∷ [] → is_natural label ≡ true → BeginsWithInsn after row
    → HasShape ws (record { kind = row.0; label = label; slots = row.1; words = drop 2 ws })
labelled_shape ws after text label row e f n b = rw (e, f) (inl (record { label = label; after = after; words = refl; natural = n; row = row; insn = b; is = refl }))

pub keyed_line : (ws after : List Word) (text : List ℕ) (row : Row) → ws ≡ plain_word text ∷ after → BeginsWithKey text after row → IsKeyed ws (record { kind = row.0; label = []; slots = row.1; words = drop 1 ws })
keyed_line ws after text row e k = record { text = text; after = after; words = e; row = row; keyed = k; is = rw e refl }

pub shapes_one : (ws : List Word) (s t : Shape) → HasShape ws s → HasShape ws t → s ≡ t
shapes_one ws s t p q = elim p [
  | inl a ↦ elim q [
    | inl b ↦
        let i = a.words in let j = b.words in
        let c : a.label ++ 58 ∷ [] ≡ b.label ++ 58 ∷ [] = cc in
        let l = label_is a.label b.label c in
        let n : a.after ≡ b.after = cc in
        let r = insn_one b.after a.row b.row (subst (λ (v : List Word). BeginsWithInsn v a.row) n a.insn) b.insn in
        a.is ∙ rw (l, n, r) (sym b.is)
    | inr b ↦ absurd (not_both ws a.label b.text a.after b.after b.row a.words b.words b.keyed)
  ]
  | inr a ↦ elim q [
    | inl b ↦ absurd (not_both ws b.label a.text b.after a.after a.row b.words a.words a.keyed)
    | inr b ↦
        let i = a.words in let j = b.words in
        let m : a.text ≡ b.text = cc in let n : a.after ≡ b.after = cc in
        let u = keyed_one b.text b.after a.row b.row (subst (λ (t : List ℕ). BeginsWithKey t b.after a.row) m (subst (λ (v : List Word). BeginsWithKey a.text v a.row) n a.keyed)) b.keyed in
        a.is ∙ rw (n, u) (sym b.is)
  ]
]

-- ---- what the readers meet

onto_empty : (old : List Slot) (o : Option Row) (k : Kind) (new : List Slot) → old ≡ [] → onto_row old o ≡ Some (k, new) → Some (k, new) ≡ o
onto_empty old None k new e h = absurd cc
onto_empty old (Some r) k new e h = sym (rw e at h)

pub keyed_found : (text : List ℕ) (ws : List Word) (lead : Key) (k : Kind) (old new : List Slot) → old ≡ [] → Some lead ≡ find_key lead_keys text → onto_row old (key_row lead ws) ≡ Some (k, new) → true ≡ have_forms new ws → BeginsWithKey text ws (k, new)
keyed_found text ws lead k old new e f h forms = record { lead = lead; found = f; has_row = onto_empty old (key_row lead ws) k new e h; forms = sym forms }

pub keyed_none : (text : List ℕ) (ws : List Word) (lead : Key) → Some lead ≡ find_key lead_keys text → key_row lead ws ≡ None → (row : Row) → BeginsWithKey text ws row → ⊥
keyed_none text ws lead f h row b =
    let k = some_key b.lead lead (find_key lead_keys text) b.found f in
    let e : Some row ≡ None = b.has_row ∙ rw k h in cc

pub keyed_formless : (text : List ℕ) (ws : List Word) (lead : Key) (k : Kind) (old new : List Slot) → old ≡ [] → Some lead ≡ find_key lead_keys text → onto_row old (key_row lead ws) ≡ Some (k, new) → false ≡ have_forms new ws → (row : Row) → BeginsWithKey text ws row → ⊥
keyed_formless text ws lead k old new e f h forms row b =
    let i = some_key b.lead lead (find_key lead_keys text) b.found f in
    let j = onto_empty old (key_row lead ws) k new e h in
    let r : Some row ≡ Some (k, new) = b.has_row ∙ rw i (sym j) in
    let s : row ≡ (k, new) = cc in
    let t = rw s at b.forms in
    let u = forms ∙ t in cc

-- what holds of a kind holds of what is made of it
pub made_all : {F : Type 0} (o : Option Kind) (r : Option F) (f : Kind → F) (P : Kind → Type 0) (Q : F → Type 0) → r ≡ option_map f o → IfSome o P → ((k : Kind) → P k → Q (f k)) → IfSome r Q
made_all None r f P Q e p each = rw e tt
made_all (Some k) r f P Q e p each = rw e (each k p)

pub made_none : {F : Type 0} (o : Option Kind) (r : Option F) (f : Kind → F) (M N : Type 0) → r ≡ option_map f o → IfNone o M → (M → N) → IfNone r N
made_none None r f M N e none so = rw e (so none)
made_none (Some k) r f M N e none so = rw e tt

pub leadless : (text : List ℕ) (ws : List Word) → None ≡ find_key lead_keys text → (row : Row) → BeginsWithKey text ws row → ⊥
leadless text ws e row b = let f = b.found ∙ sym e in cc

pub insn_found : (ws rest : List Word) (text : List ℕ) (k : Kind) (ss old new : List Slot) → old ≡ [] → ws ≡ plain_word text ∷ rest → IsInsnRow text rest (k, ss) → new ≡ old ++ ss → true ≡ have_forms new rest → BeginsWithInsn ws (k, new)
insn_found ws rest text k ss old new e f r n forms =
    let i : new ≡ ss = n ∙ rw e refl in
    record { text = text; after = rest; words = f; has_row = rw i r; forms = sym forms }

pub insn_none : (ws rest : List Word) (text : List ℕ) → ws ≡ plain_word text ∷ rest → ((row : Row) → IsInsnRow text rest row → ⊥) → (row : Row) → BeginsWithInsn ws row → ⊥
insn_none ws rest text f none row b =
    let i = b.words in
    let m : b.text ≡ text = cc in let n : b.after ≡ rest = cc in
    none row (subst (λ (u : List ℕ). IsInsnRow u rest row) m (subst (λ (v : List Word). IsInsnRow b.text v row) n b.has_row))

pub insn_formless : (ws rest : List Word) (text : List ℕ) (k : Kind) (ss old new : List Slot) → old ≡ [] → ws ≡ plain_word text ∷ rest → IsInsnRow text rest (k, ss) → new ≡ old ++ ss → false ≡ have_forms new rest → (row : Row) → BeginsWithInsn ws row → ⊥
insn_formless ws rest text k ss old new e f r n forms row b =
    let i = b.words in
    let m : b.text ≡ text = cc in let j : b.after ≡ rest = cc in
    let h = subst (λ (u : List ℕ). IsInsnRow u rest row) m (subst (λ (v : List Word). IsInsnRow b.text v row) j b.has_row) in
    let s = row_one text rest row (k, ss) h r in
    let t : new ≡ ss = n ∙ rw e refl in
    let u : have_forms ss rest ≡ true = rw (← j) (subst (λ (x : Row). have_forms x.1 b.after ≡ true) s b.forms) in
    let v : false ≡ true = forms ∙ rw t u in cc

pub insn_empty : (ws : List Word) → ws ≡ [] → (row : Row) → BeginsWithInsn ws row → ⊥
insn_empty ws e row b = let i = b.words in cc

-- ---- rows of instructions

payload_put : (text : List ℕ) (ws : List Word) (key : Key) (o : Option Row) (k : Kind) (old new : List Slot) → Some key ≡ find_key payload_keys text → o ≡ payload_row key ws → onto_row old o ≡ Some (k, new)
    → (ss : List Slot) × IsInsnRow text ws (k, ss) × (new ≡ old ++ ss)
payload_put text ws key None k old new e f h = absurd cc
payload_put text ws key (Some r) k old new e f h =
    let q : ◌≡◌ {A = Row} (r.0, old ++ r.1) (k, new) = cc in
    let i : r.0 ≡ k = ap (λ (x : Row). x.0) q in
    let j : old ++ r.1 ≡ new = ap (λ (x : Row). x.1) q in
    (r.1, inr (key, e, rw (← i) f), sym j)

pub payload_found : (text : List ℕ) (ws : List Word) (key : Key) (r : Result (Option Kind) Fault) (old new : List Slot) → Some key ≡ find_key payload_keys text
    → IfOk r (λ o. IfSome o (λ k. onto_row old (payload_row key ws) ≡ Some (k, new))) → IfOk r (λ o. IfSome o (λ k. (ss : List Slot) × IsInsnRow text ws (k, ss) × (new ≡ old ++ ss)))
payload_found text ws key (Ok (Some k)) old new e h = payload_put text ws key (payload_row key ws) k old new e refl h
payload_found text ws key (Ok None) old new e h = tt
payload_found text ws key (Err f) old new e h = tt

pub payload_none : (text : List ℕ) (ws : List Word) (key : Key) (r : Result (Option Kind) Fault) → Some key ≡ find_key payload_keys text
    → IfOk r (λ o. IfNone o (payload_row key ws ≡ None)) → IfOk r (λ o. IfNone o ((row : Row) → IsInsnRow text ws row → ⊥))
payload_none text ws key (Ok (Some k)) e h = tt
payload_none text ws key (Ok None) e h = λ row i. elim i [
  | inl a ↦ no_payload a.0 text key a.1 e
  | inr a ↦ let k = some_key a.0 key (find_key payload_keys text) a.1 e in let f : Some row ≡ None = a.2 ∙ rw k h in cc
]
payload_none text ws key (Err f) e h = tt

pub plain_found : (text : List ℕ) (ws : List Word) (r : Result (Option Kind) Fault) (old new : List Slot)
    → IfOk r (λ o. IfSome o (λ k. (ss : List Slot) × IsPlainRow text ws (k, ss) × (new ≡ old ++ ss))) → IfOk r (λ o. IfSome o (λ k. (ss : List Slot) × IsInsnRow text ws (k, ss) × (new ≡ old ++ ss)))
plain_found text ws (Ok (Some k)) old new h = (h.0, inl h.1, h.2)
plain_found text ws (Ok None) old new h = tt
plain_found text ws (Err f) old new h = tt

pub plain_none : (text : List ℕ) (ws : List Word) (r : Result (Option Kind) Fault) → None ≡ find_key payload_keys text
    → IfOk r (λ o. IfNone o ((op : ℕ) → IsNamed op text → ⊥)) → IfOk r (λ o. IfNone o ((row : Row) → IsInsnRow text ws row → ⊥))
plain_none text ws (Ok (Some k)) e h = tt
plain_none text ws (Ok None) e h = λ row i. elim i [
  | inl a ↦ h a.0 a.1
  | inr a ↦ let f = a.1 ∙ sym e in cc
]
plain_none text ws (Err f) e h = tt

-- ---- pairs

pub pairs_none : pairs 0 ≡ []
unfolding pairs
pairs_none = refl

pairs_more : (n : ℕ) → pairs n ++ (slot.Int ∷ target ∷ []) ≡ pairs (suc n)
unfolding pairs
pairs_more zero = refl
pairs_more (suc n) = ap (λ t. slot.Int ∷ target ∷ t) (pairs_more n)

pub pairs_push : (n : ℕ) → pairs n ++ (slot.Int ∷ target ∷ []) ≡ pairs (n + 1)
pairs_push n = pairs_more n ∙ ap pairs (sym (add-one n))

pub pairs_put : (old s t u : List Slot) (n : ℕ) → s ≡ old ++ pairs n → t ≡ s ++ slot.Int ∷ [] → u ≡ t ++ target ∷ [] → u ≡ old ++ pairs (n + 1)
pairs_put old s t u n e f g = rw (g, f, e, ← pairs_push n) (append_assoc (old ++ pairs n) (slot.Int ∷ []) (target ∷ []) ∙ append_assoc old (pairs n) (slot.Int ∷ target ∷ []))

-- words of the slots' forms are as many as the slots
pub forms_length : (ss : List Slot) (ws : List Word) → have_forms ss ws ≡ true → length ss ≡ length ws
unfolding have_forms
forms_length [] [] e = refl
forms_length [] (w ∷ ws) e = absurd cc
forms_length (s ∷ ss) [] e = absurd cc
forms_length (s ∷ ss) (w ∷ ws) e = let i = forms_length ss ws (and_parts (has_form s w) (have_forms ss ws) e).1 in omega arith

-- ---- words in memory

pub first_is : (ws after : List Made) (x : Made) (v : Word) → ws ≡ x ∷ after → word x ≡ v → map word ws ≡ v ∷ map word after
first_is ws after x v e f = rw (e, f) refl

pub empty_is : (ws : List Made) → length ws ≡ 0 → map word ws ≡ []
empty_is [] e = refl
empty_is (w ∷ ws) e = absurd (omega arith)

pub keyed_lengths : (text : List ℕ) (words after : List Made) (x : Made) (k : Kind) (ss : List Slot) → words ≡ x ∷ after → BeginsWithKey text (map word after) (k, ss) → 1 + length ss ≡ length words
keyed_lengths text words after x k ss e b =
    let l = forms_length ss (map word after) b.forms in
    let m = length-map after word in
    rw e (omega arith)

pub insn_lengths : (words after : List Made) (x : Made) (k : Kind) (ss : List Slot) → words ≡ x ∷ after → BeginsWithInsn (map word after) (k, ss) → 2 + length ss ≡ length words
insn_lengths words after x k ss e b =
    let l = forms_length ss b.after b.forms in
    let m = length-map after word in
    let n = ap length b.words in
    rw e (omega arith)

-- ---- without numbers

pub bare_one : (ws : List Word) (s t : Shape) → HasBareShape ws s → HasBareShape ws t → s ≡ t
bare_one ws s t p q = elim p [
  | inl a ↦ elim q [
    | inl b ↦
        let i = a.words in let j = b.words in
        let n : a.after ≡ b.after = cc in
        let r = insn_one ws a.row b.row a.insn b.insn in
        a.is ∙ rw (n, r) (sym b.is)
    | inr b ↦
        let i = a.words in let j = b.words in
        let m : b.text ≡ a.text = cc in
        absurd (leadless a.text b.after a.no_lead b.row (subst (λ (u : List ℕ). BeginsWithKey u b.after b.row) m b.keyed))
  ]
  | inr a ↦ elim q [
    | inl b ↦
        let i = a.words in let j = b.words in
        let m : a.text ≡ b.text = cc in
        absurd (leadless b.text a.after b.no_lead a.row (subst (λ (u : List ℕ). BeginsWithKey u a.after a.row) m a.keyed))
    | inr b ↦
        let i = a.words in let j = b.words in
        let m : a.text ≡ b.text = cc in let n : a.after ≡ b.after = cc in
        let u = keyed_one b.text b.after a.row b.row (subst (λ (t : List ℕ). BeginsWithKey t b.after a.row) m (subst (λ (v : List Word). BeginsWithKey a.text v a.row) n a.keyed)) b.keyed in
        a.is ∙ rw (n, u) (sym b.is)
  ]
]

pub bare_none : (ws : List Word) → ws ≡ [] → (s : Shape) → HasBareShape ws s → ⊥
bare_none ws e s h = elim h [
  | inl a ↦ let w = a.words in cc
  | inr a ↦ let w = a.words in cc
]

-- after a keyword
pub bare_keyed_only : (ws after : List Word) (text : List ℕ) (k : Key) → ws ≡ plain_word text ∷ after → Some k ≡ find_key lead_keys text → ((row : Row) → BeginsWithKey text after row → ⊥) → (s : Shape) → HasBareShape ws s → ⊥
bare_keyed_only ws after text k e f refuse s h = elim h [
  | inl a ↦
      let w = a.words in let i : a.text ≡ text = cc in
      let g : None ≡ find_key lead_keys text = subst (λ (u : List ℕ). None ≡ find_key lead_keys u) i a.no_lead in
      let x = f ∙ sym g in cc
  | inr a ↦
      let w = a.words in
      let i : a.text ≡ text = cc in let j : a.after ≡ after = cc in
      refuse a.row (subst (λ (t : List ℕ). BeginsWithKey t after a.row) i (subst (λ (v : List Word). BeginsWithKey a.text v a.row) j a.keyed))
]

-- after any other word
pub bare_only : (ws after : List Word) (text : List ℕ) → ws ≡ plain_word text ∷ after → None ≡ find_key lead_keys text → ((row : Row) → BeginsWithInsn ws row → ⊥) → (s : Shape) → HasBareShape ws s → ⊥
bare_only ws after text e f refuse s h = elim h [
  | inl a ↦ refuse a.row a.insn
  | inr a ↦
      let w = a.words in let i : a.text ≡ text = cc in
      leadless text a.after f a.row (subst (λ (u : List ℕ). BeginsWithKey u a.after a.row) i a.keyed)
]

pub bare_shape : (ws after : List Word) (text : List ℕ) (row : Row) → ws ≡ plain_word text ∷ after → None ≡ find_key lead_keys text → BeginsWithInsn ws row → HasBareShape ws (record { kind = row.0; label = []; slots = row.1; words = drop 1 ws })
bare_shape ws after text row e f b = inl (record { text = text; after = after; words = e; no_lead = f; row = row; insn = b; is = rw e refl })

pub bare_lengths : (words : List Made) (k : Kind) (ss : List Slot) → BeginsWithInsn (map word words) (k, ss) → 1 + length ss ≡ length words
bare_lengths words k ss b =
    let l = forms_length ss b.after b.forms in
    let m = length-map words word in
    let n = ap length b.words in
    omega arith
