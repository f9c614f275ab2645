-- Texts that grow by a piece.
use Rattle.std.proofs.Common.{◌≡◌, ℕ, ℤ, zero, suc, min, ◌+◌, ◌<◌, ◌≤◌, List, [], ◌∷◌, ◌++◌, length, get_or, take, map, Some, None, slice_get, refl, sym, ap, ◌∙◌, append_assoc, arith, Result, Ok, Err}
use Rattle.std.proofs.lemmas.List.{append-nil, map-append, take_all, take_more, length-map, length-take}
use Rattle.std.proofs.lemmas.Grind.{flat_map-append}
use Rattle.std.specs.Result.{OnOk}
use Rattle.std.specs.Fmt.{signed_decimal}
use Rattle.program_types.specs.Content as content
use Rattle.program_types.specs.Content.{Name, OfText, Value, Insn, Member}
use Rattle.program_types.specs.View.{value, insn, member}
use Rattle.program_types.specs.declared.value.Value.{Value as InValue}
use Rattle.program_types.specs.declared.insn.Insn.{Insn as InInsn}
use Rattle.program_types.specs.declared.class.Member.{Member as InMember}
use Rattle.listing_words.specs.Words.{word_bytes}
use Rattle.listing_slots.specs.declared.slot.Slot.TheVariants as slot
use Rattle.listing_slots.specs.declared.key.Key.TheVariants as key
use Rattle.listing_slots.specs.Data.{byte, int, key_word}
use Rattle.listing_slots.specs.Shown.{shown}
use Rattle.listing_slots.specs.Shapes.{register4}
use Rattle.listing_lines.specs.Lines.{static_line}
use Rattle.listing_lines.specs.declared.form.Form.{Form}
use Rattle.listing_print.specs.Operands.{Operand, operand, operand_text, operand_text_in, shown_in, keyword, v4, name_operand, to, pair_operands, value_operands, values_operands}
use Rattle.listing_print.specs.Printed.{keyed_text, insn_text}
use Rattle.listing_print.specs.Canon.{label_if_named, insns_text, statics_text}

-- what follows from a clause of an answer
pub followed : {T E P Q : Type 0} (r : Result T E) → (P → Q) → OnOk r P → OnOk r Q
followed (Ok v) f h = f h
followed (Err e) f h = h

pub text_append : (os ps : List Operand) → operand_text (os ++ ps) ≡ operand_text os ++ operand_text ps
text_append os ps = flat_map-append (λ (o : Operand). 32 ∷ word_bytes (shown o.slot o.value)) os ps

pub text_append_in : (form : Form) (os ps : List Operand) → operand_text_in form (os ++ ps) ≡ operand_text_in form os ++ operand_text_in form ps
text_append_in form os ps = flat_map-append (λ (o : Operand). 32 ∷ word_bytes (shown_in form o.slot o.value)) os ps

-- ---- operands without targets, which both forms show alike

registers_text : (form : Form) (rs : List ℕ) → operand_text_in form (map v4 rs) ≡ operand_text (map v4 rs)
registers_text form [] = refl
registers_text form (r ∷ rs) = ap (λ t. (32 ∷ word_bytes (shown register4 (byte r))) ++ t) (registers_text form rs)

close_text : (form : Form) (which : Name) → operand_text_in form (keyword key.Close ∷ name_operand which ∷ []) ≡ operand_text (keyword key.Close ∷ name_operand which ∷ [])
close_text form (OfText us) = refl
close_text form _ = refl

pub call_text : (form : Form) (rs : List ℕ) (which : Name) → operand_text_in form (keyword key.Open ∷ (map v4 rs ++ (keyword key.Close ∷ name_operand which ∷ []))) ≡ operand_text (keyword key.Open ∷ (map v4 rs ++ (keyword key.Close ∷ name_operand which ∷ [])))
call_text form rs which =
    let a = map v4 rs in
    let b = keyword key.Close ∷ name_operand which ∷ [] in
    ap (λ t. (32 ∷ word_bytes (shown (slot.Key key.Open) (key_word key.Open))) ++ t)
    (text_append_in form a b ∙ ap (λ t. t ++ operand_text_in form b) (registers_text form rs) ∙ ap (λ t. operand_text a ++ t) (close_text form which) ∙ sym (text_append a b))

-- ---- pairs

pairs_more : (ks : List ℤ) (ts : List ℕ) (i : ℕ) (k : ℤ) (t : ℕ) → i < length ks → i < length ts → pair_operands (take (suc i) ks) (take (suc i) ts) ≡ pair_operands (take i ks) (take i ts) ++ (operand slot.Int (int (get_or ks i k)) ∷ to (get_or ts i t) ∷ [])
pairs_more [] ts i k t h l = absurd (omega arith)
pairs_more (a ∷ ks) [] i k t h l = absurd (omega arith)
pairs_more (a ∷ ks) (b ∷ ts) zero k t h l = refl
pairs_more (a ∷ ks) (b ∷ ts) (suc i) k t h l = ap (λ os. operand slot.Int (int a) ∷ to b ∷ os) (pairs_more ks ts i k t (omega arith) (omega arith))

pub pair_text : (form : Form) (old before mid new : List ℕ) (ks : List ℤ) (ts : List ℕ) (i : ℕ) (k : ℤ) (t : ℕ) → i < length ks → i < length ts → before ≡ old ++ operand_text_in form (pair_operands (take i ks) (take i ts))
    → mid ≡ before ++ (32 ∷ signed_decimal (get_or ks i k)) → new ≡ mid ++ operand_text_in form (to (get_or ts i t) ∷ []) → new ≡ old ++ operand_text_in form (pair_operands (take (i + 1) ks) (take (i + 1) ts))
pair_text form old before mid new ks ts i k t h l e f g =
    let n : i + 1 ≡ suc i = omega arith in
    let os = pair_operands (take i ks) (take i ts) in
    let m = operand_text_in form os in
    let x = 32 ∷ signed_decimal (get_or ks i k) in
    let y = operand_text_in form (to (get_or ts i t) ∷ []) in
    rw (n, pairs_more ks ts i k t h l, text_append_in form os (operand slot.Int (int (get_or ks i k)) ∷ to (get_or ts i t) ∷ []), g, f, e)
    (append_assoc (old ++ m) x y ∙ append_assoc old m (x ++ y))

pub pairs_whole : (ks : List ℤ) (ts : List ℕ) (i : ℕ) → min (length ks) (length ts) ≤ i → pair_operands (take i ks) (take i ts) ≡ pair_operands ks ts
pairs_whole [] ts zero h = refl
pairs_whole (a ∷ ks) [] zero h = refl
pairs_whole (a ∷ ks) (b ∷ ts) zero h = absurd (omega arith)
pairs_whole (a ∷ ks) (b ∷ ts) (suc i) h = ap (λ os. operand slot.Int (int a) ∷ to b ∷ os) (pairs_whole ks ts i (omega arith))
pairs_whole _ _ _ h = refl

-- ---- values

values_join : (vs : List Value) (v : Value) → values_operands (content.values (vs ++ v ∷ [])) ≡ values_operands (content.values vs) ++ value_operands v
values_join [] v = append-nil (value_operands v)
values_join (u ∷ vs) v = ap (λ os. value_operands u ++ os) (values_join vs v) ∙ sym (append_assoc (value_operands u) (values_operands (content.values vs)) (value_operands v))

pub value_text : (old before new : List ℕ) (vs : List InValue) (i : ℕ) (x : InValue) → i < length vs → before ≡ old ++ operand_text (keyword key.Array ∷ keyword key.Open ∷ values_operands (content.values (map value (take i vs))))
    → new ≡ before ++ operand_text (value_operands (value (get_or vs i x))) → new ≡ old ++ operand_text (keyword key.Array ∷ keyword key.Open ∷ values_operands (content.values (map value (take (i + 1) vs))))
value_text old before new vs i x h e f =
    let a = keyword key.Array ∷ keyword key.Open ∷ values_operands (content.values (map value (take i vs))) in
    let b = value_operands (value (get_or vs i x)) in
    let n : map value (take (i + 1) vs) ≡ map value (take i vs) ++ value (get_or vs i x) ∷ [] = ap (map value) (take_more vs i x h) ∙ map-append value (take i vs) (get_or vs i x ∷ []) in
    f ∙ ap (λ t. t ++ operand_text b) e ∙ append_assoc old (operand_text a) (operand_text b) ∙ ap (λ t. old ++ t) (sym (text_append a b)) ∙ ap (λ os. old ++ operand_text (keyword key.Array ∷ keyword key.Open ∷ os)) (sym (ap (λ l. values_operands (content.values l)) n ∙ values_join (map value (take i vs)) (value (get_or vs i x))))

-- ---- instructions

-- instructions and the labels before them
abbrev pub insns_front : Form → List ℕ → ℕ → List Insn → List ℕ
insns_front form ns k [] = []
insns_front form ns k (i ∷ is) = label_if_named form ns k ++ (insn_text form k i ++ insns_front form ns (k + 1) is)

front_join : (form : Form) (ns : List ℕ) (k : ℕ) (is : List Insn) (i : Insn) → insns_front form ns k (is ++ i ∷ []) ≡ insns_front form ns k is ++ (label_if_named form ns (k + length is) ++ insn_text form (k + length is) i)
front_join form ns k [] i = let n : k + 0 ≡ k = omega arith in rw n (ap (λ t. label_if_named form ns k ++ t) (append-nil (insn_text form k i)))
front_join form ns k (j ∷ is) i =
    let n : k + 1 + length is ≡ k + suc (length is) = omega arith in
    let m = label_if_named form ns k in let x = insn_text form k j in let f = insns_front form ns (k + 1) is in
    let z = label_if_named form ns (k + suc (length is)) ++ insn_text form (k + suc (length is)) i in
    ap (λ t. m ++ (x ++ t)) (front_join form ns (k + 1) is i) ∙ rw n (sym (append_assoc m (x ++ f) z ∙ ap (λ t. m ++ t) (append_assoc x f z)))

pub front_whole : (form : Form) (ns : List ℕ) (k : ℕ) (is : List Insn) → insns_text form ns k is ≡ insns_front form ns k is ++ label_if_named form ns (k + length is)
front_whole form ns k [] = let n : k + 0 ≡ k = omega arith in rw n refl
front_whole form ns k (j ∷ is) =
    let n : k + 1 + length is ≡ k + suc (length is) = omega arith in
    let m = label_if_named form ns k in let x = insn_text form k j in let f = insns_front form ns (k + 1) is in
    let z = label_if_named form ns (k + suc (length is)) in
    ap (λ t. m ++ (x ++ t)) (front_whole form ns (k + 1) is) ∙ rw n (sym (append_assoc m (x ++ f) z ∙ ap (λ t. m ++ t) (append_assoc x f z)))

pub insn_more : (form : Form) (ns old before mid new : List ℕ) (is : List InInsn) (i : ℕ) (x : InInsn) → i < length is → before ≡ old ++ insns_front form ns 0 (map insn (take i is)) → mid ≡ before ++ label_if_named form ns i → new ≡ mid ++ insn_text form i (insn (get_or is i x))
    → new ≡ old ++ insns_front form ns 0 (map insn (take (i + 1) is))
insn_more form ns old before mid new is i x h e g f =
    let n : map insn (take (i + 1) is) ≡ map insn (take i is) ++ insn (get_or is i x) ∷ [] = ap (map insn) (take_more is i x h) ∙ map-append insn (take i is) (get_or is i x ∷ []) in
    let l : length (map insn (take i is)) ≡ i = (let a = length-map (take i is) insn in let b = length-take i is in omega arith) in
    let z : 0 + length (map insn (take i is)) ≡ i = omega arith in
    let m = label_if_named form ns i in let t = insn_text form i (insn (get_or is i x)) in let p = insns_front form ns 0 (map insn (take i is)) in
    f ∙ ap (λ y. y ++ t) (g ∙ ap (λ y. y ++ m) e) ∙ append_assoc (old ++ p) m t ∙ append_assoc old p (m ++ t)
    ∙ ap (λ y. old ++ y) (sym (ap (insns_front form ns 0) n ∙ front_join form ns 0 (map insn (take i is)) (insn (get_or is i x)) ∙ ap (λ k. p ++ (label_if_named form ns k ++ insn_text form k (insn (get_or is i x)))) z))

pub insns_end : (form : Form) (ns old before new : List ℕ) (is : List InInsn) (i : ℕ) → length is ≤ i → before ≡ old ++ insns_front form ns 0 (map insn (take i is)) → new ≡ before ++ label_if_named form ns (length is) → new ≡ old ++ insns_text form ns 0 (map insn is)
insns_end form ns old before new is i h e f =
    let n = take_all i is h in
    let l : 0 + length (map insn is) ≡ length is = (let a = length-map is insn in omega arith) in
    let p = insns_front form ns 0 (map insn is) in let m = label_if_named form ns (length is) in
    f ∙ ap (λ y. y ++ m) (e ∙ ap (λ (x : List InInsn). old ++ insns_front form ns 0 (map insn x)) n) ∙ append_assoc old p m
    ∙ ap (λ y. old ++ y) (sym (front_whole form ns 0 (map insn is) ∙ ap (λ k. p ++ label_if_named form ns k) l))

-- ---- static fields

statics_join : (ms : List Member) (m : Member) (vs : List Value) → statics_text (ms ++ m ∷ []) vs ≡ statics_text ms vs ++ keyed_text (static_line m (slice_get vs (length ms)))
statics_join [] m [] = append-nil (keyed_text (static_line m None))
statics_join [] m (v ∷ vs) = append-nil (keyed_text (static_line m (Some v)))
statics_join (n ∷ ms) m [] = ap (λ t. keyed_text (static_line n None) ++ t) (statics_join ms m []) ∙ sym (append_assoc (keyed_text (static_line n None)) (statics_text ms []) (keyed_text (static_line m None)))
statics_join (n ∷ ms) m (v ∷ vs) = ap (λ t. keyed_text (static_line n (Some v)) ++ t) (statics_join ms m vs) ∙ sym (append_assoc (keyed_text (static_line n (Some v))) (statics_text ms vs) (keyed_text (static_line m (slice_get vs (length ms)))))

pub static_more : (old before new : List ℕ) (ms : List InMember) (vs : List Value) (i : ℕ) (x : InMember) → i < length ms → before ≡ old ++ statics_text (map member (take i ms)) vs
    → new ≡ before ++ keyed_text (static_line (member (get_or ms i x)) (slice_get vs i)) → new ≡ old ++ statics_text (map member (take (i + 1) ms)) vs
static_more old before new ms vs i x h e f =
    let n : map member (take (i + 1) ms) ≡ map member (take i ms) ++ member (get_or ms i x) ∷ [] = ap (map member) (take_more ms i x h) ∙ map-append member (take i ms) (get_or ms i x ∷ []) in
    let z : length (map member (take i ms)) ≡ i = (let a = length-map (take i ms) member in let b = length-take i ms in omega arith) in
    let j = statics_join (map member (take i ms)) (member (get_or ms i x)) vs in
    f ∙ ap (λ t. t ++ keyed_text (static_line (member (get_or ms i x)) (slice_get vs i))) e ∙ append_assoc old (statics_text (map member (take i ms)) vs) (keyed_text (static_line (member (get_or ms i x)) (slice_get vs i)))
    ∙ ap (λ t. old ++ t) (sym (ap (λ l. statics_text l vs) n ∙ j ∙ ap (λ k. statics_text (map member (take i ms)) vs ++ keyed_text (static_line (member (get_or ms i x)) (slice_get vs k))) z))
