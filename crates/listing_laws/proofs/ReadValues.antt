-- What is read as a value is spelled as it.
use Rattle.std.proofs.Common.{◌≡◌, ℕ, zero, suc, ◌+◌, ◌<◌, ◌≤◌, Bool, true, false, if◌then◌else◌, inl, inr, ◌⊎◌, List, [], ◌∷◌, ◌++◌, length, drop, Option, Some, None, refl, sym, ap, subst, ◌∙◌, append_assoc, add-one, arith, length-append}
use Rattle.std.proofs.lemmas.List.{append-nil}
use Rattle.std.specs.List.{AllByRecursion}
use Rattle.program_types.specs.Content as content
use Rattle.program_types.specs.Content.{OfText, OfDesc, OfField, OfMethod, Value, Values, no_values, more_values}
use Rattle.listing_words.specs.Words.{Word, plain_word, text_in_quotes}
use Rattle.listing_slots.specs.declared.key.Key.{Key}
use Rattle.listing_slots.specs.declared.key.Key.TheVariants as key
use Rattle.listing_slots.specs.declared.slot.Mark.TheVariants.{Nothing}
use Rattle.listing_slots.specs.declared.slot.Slot.{Slot}
use Rattle.listing_slots.specs.declared.slot.Slot.TheVariants as slot
use Rattle.listing_slots.specs.Data.{Datum, key_word}
use Rattle.listing_slots.specs.Keys.{key_text, same, find_key, value_keys}
use Rattle.listing_slots.specs.Slots.{SpellsSlot, has_form}
use Rattle.listing_slots.specs.declared.due.Due.TheVariants as due
use Rattle.listing_slots.specs.Shapes.{slot_at, due_after_word, due_after, due_of_key, due_after_close, due_after_key, key_slot}
use Rattle.listing_slots.proofs.ShapeLaws.{chosen}
use Rattle.listing_lines.specs.Lines.{value_of}
use Rattle.listing_print.specs.Operands.{value_operands, values_operands}
use Rattle.listing_print.specs.Operands as print
use Rattle.listing_print.specs.inner.Reading.{data_of}
use Rattle.listing_print.proofs.MadeLaws.{data_join, value_made}
use Rattle.listing_laws.specs.inner.Values.{word_of_key, ValueText, ValuesText, IsReadAsValue}
use Rattle.listing_laws.proofs.WordRuns.{Runs, run_of}
use Rattle.listing_slots.proofs.KeyLaws.{same_true}

-- A value stands at the front, in so many arrays.
record Front (n : ℕ) (ws : List Word) (ds : List Datum) : Type 0 where
  pub value : Value
  pub front : List Word
  pub back : List Word
  pub left : List Datum
  pub some : 0 < length front
  pub words : ws ≡ front ++ back
  pub data_are : ds ≡ data_of (value_operands value) ++ left
  pub is_text : ValueText front value
  pub run : Runs (due_after n) back left

-- `}` does.
record Closes (n : ℕ) (ws : List Word) (ds : List Datum) : Type 0 where
  pub outside : ℕ
  pub back : List Word
  pub left : List Datum
  pub is : n ≡ suc outside
  pub words : ws ≡ word_of_key key.Close ∷ back
  pub data_are : ds ≡ key_word key.Close ∷ left
  pub run : Runs (due_after outside) back left

-- The values of an array do, up to its `}`.
record Inner (n : ℕ) (ws : List Word) (ds : List Datum) : Type 0 where
  pub values : Values
  pub inner : List Word
  pub back : List Word
  pub left : List Datum
  pub words : ws ≡ inner ++ (word_of_key key.Close ∷ back)
  pub data_are : ds ≡ data_of (values_operands values) ++ (key_word key.Close ∷ left)
  pub is_text : ValuesText inner values
  pub run : Runs (due_after n) back left

-- ---- words that end nothing

refused_never : (ws : List Word) (ds : List Datum) → Runs due.Refused ws ds → ⊥
unfolding due_after_word
refused_never [] [] r = cc
refused_never (w ∷ ws) (x ∷ ds) r = refused_never ws ds r.2
refused_never _ _ r = r

nothing_more : (ws : List Word) (ds : List Datum) → Runs due.Nothing ws ds → (ws ≡ []) × (ds ≡ [])
unfolding due_after_word
nothing_more [] [] r = (refl, refl)
nothing_more (w ∷ ws) (x ∷ ds) r = absurd (refused_never ws ds r.2)
nothing_more _ _ r = absurd r

-- ---- keywords

-- what holds of each keyword of a list holds of the one that the text is
among : (P : Key → Type 0) (ks : List Key) (text : List ℕ) (k : Key) → Some k ≡ find_key ks text → AllByRecursion P ks → (key_text k ≡ text) × P k
unfolding find_key
among P [] text k e all = absurd cc
among P (j ∷ ks) text k e all = elim (chosen (same (key_text j) text) j (find_key ks text) k e) [
  | inl f ↦ (subst (λ (i : Key). key_text i ≡ text) (sym f.1) (same_true (key_text j) text f.0), subst P (sym f.1) all.0)
  | inr f ↦ among P ks text k f.1 all.1
]

-- a word of a keyword's form is the keyword
pub key_is : (k : Key) (w : Word) → has_form (slot.Key k) w ≡ true → w ≡ word_of_key k
key_is k (plain_word t) e = ap plain_word (sym (same_true (key_text k) t e))
key_is k (text_in_quotes us) e = absurd cc

-- The word after a keyword, and what follows it.
record Operand (s : Slot) (n : ℕ) (ws : List Word) (ds : List Datum) : Type 0 where
  pub word : Word
  pub word_value : Datum
  pub back : List Word
  pub left : List Datum
  pub words : ws ≡ word ∷ back
  pub data_are : ds ≡ word_value ∷ left
  pub form : has_form s word ≡ true
  pub spelled : SpellsSlot s word word_value
  pub run : Runs (due_after n) back left

operand_of : (s : Slot) (n : ℕ) (ws : List Word) (ds : List Datum) → Runs (due.Word s n) ws ds → Operand s n ws ds
unfolding slot_at due_after_word
operand_of s n [] [] r = absurd cc
operand_of s n (w ∷ ws) (x ∷ ds) r = record { word = w; word_value = x; back = ws; left = ds; words = refl; data_are = refl; form = r.0; spelled = r.1; run = r.2 }
operand_of s n _ _ r = absurd r

-- a keyword and its operand, of which each thing key_word makes a value
before_front : {X : Type 0} (IsText : Word → X → Type 0) (d : X → Datum) (k : Key) (s : Slot) (v : X → Value) (n : ℕ) (ws : List Word) (ds : List Datum)
    → ((w : Word) (x : Datum) → SpellsSlot s w x → (y : X) × IsText w y × (x ≡ d y)) → ((y : X) → key_word k ∷ d y ∷ [] ≡ data_of (value_operands (v y)))
    → ((w : Word) (y : X) → IsText w y → ValueText (word_of_key k ∷ w ∷ []) (v y)) → Runs (due.Word s n) ws ds → Front n (word_of_key k ∷ ws) (key_word k ∷ ds)
before_front IsText d k s v n ws ds spells makes is_text r =
    let o = operand_of s n ws ds r in
    let h = spells o.word o.word_value o.spelled in
    record {
      value = v h.0;
      front = word_of_key k ∷ o.word ∷ [];
      back = o.back;
      left = o.left;
      some = omega arith;
      words = ap (λ us. word_of_key k ∷ us) o.words;
      data_are = ap (λ xs. key_word k ∷ xs) (o.data_are ∙ ap (λ x. x ∷ o.left) h.2) ∙ ap (λ xs. xs ++ o.left) (makes h.0);
      is_text = is_text o.word h.0 h.1;
      run = o.run;
    }

-- a keyword alone
alone_front : (k : Key) (n : ℕ) (ws : List Word) (ds : List Datum) (v : Value) → key_word k ∷ [] ≡ data_of (value_operands v) → ValueText (word_of_key k ∷ []) v → Runs (due_after n) ws ds → Front n (word_of_key k ∷ ws) (key_word k ∷ ds)
alone_front k n ws ds v e h r = record {
  value = v;
  front = word_of_key k ∷ [];
  back = ws;
  left = ds;
  some = omega arith;
  words = refl;
  data_are = ap (λ xs. xs ++ ds) e;
  is_text = h;
  run = r;
}

-- what stands after a keyword is a value's
abbrev Step : ℕ → List Word → List Datum → Key → Type 0
Step n ws ds k = Runs (due_of_key n k) ws ds → Front n (word_of_key k ∷ ws) (key_word k ∷ ds)

-- the same of `array`, where the values of shorter lists of words are known
array_step : (n : ℕ) (ws : List Word) (ds : List Datum) → ((us : List Word) (xs : List Datum) → length us < length ws → Runs (due.Value (suc n)) us xs → Inner n us xs) → Step n ws ds key.Array
array_step n ws ds shorter r =
    let o = operand_of (slot.Key key.Open) (n + 1) ws ds r in
    let run : Runs (due.Value (suc n)) o.back o.left = subst (λ (m : ℕ). Runs (due_after m) o.back o.left) (add-one n) o.run in
    let less : length o.back < length ws = subst (λ (us : List Word). length o.back < length us) (sym o.words) (omega arith) in
    let i = shorter o.back o.left less run in
    let close = word_of_key key.Close ∷ [] in
    let words : ws ≡ word_of_key key.Open ∷ ((i.inner ++ close) ++ i.back) =
    o.words ∙ ap (λ w. w ∷ o.back) (key_is key.Open o.word o.form) ∙ ap (λ us. word_of_key key.Open ∷ us) (i.words ∙ sym (append_assoc i.inner close i.back)) in
    let others = data_of (values_operands i.values) in
    let joined : others ++ (key_word key.Close ∷ i.left) ≡ data_of (values_operands i.values ++ (print.keyword key.Close ∷ [])) ++ i.left =
    sym (append_assoc others (key_word key.Close ∷ []) i.left) ∙ ap (λ xs. xs ++ i.left) (sym (data_join (values_operands i.values) (print.keyword key.Close ∷ []))) in
    let word_values : ds ≡ key_word key.Open ∷ (data_of (values_operands i.values ++ (print.keyword key.Close ∷ [])) ++ i.left) =
    o.data_are ∙ ap (λ x. x ∷ o.left) o.spelled ∙ ap (λ xs. key_word key.Open ∷ xs) (i.data_are ∙ joined) in
    record {
      value = content.Array i.values;
      front = word_of_key key.Array ∷ word_of_key key.Open ∷ (i.inner ++ close);
      back = i.back;
      left = i.left;
      some = omega arith;
      words = ap (λ us. word_of_key key.Array ∷ us) words;
      data_are = ap (λ xs. key_word key.Array ∷ xs) word_values;
      is_text = (i.inner, refl, i.is_text);
      run = i.run;
    }

-- ---- values

close_front : (n : ℕ) (ws : List Word) (ds : List Datum) → Runs (due_after_close n) ws ds → Closes n (word_of_key key.Close ∷ ws) (key_word key.Close ∷ ds)
close_front zero ws ds r = absurd (refused_never ws ds r)
close_front (suc n) ws ds r = record { outside = n; back = ws; left = ds; is = refl; words = refl; data_are = refl; run = r }

-- by the word at the front
plain_front : (n : ℕ) (text : List ℕ) (x : Datum) (ws : List Word) (ds : List Datum) (all : AllByRecursion (Step n ws ds) value_keys) (b : Bool) (o : Option Key) → same (key_text key.Close) text ≡ b → o ≡ find_key value_keys text
    → SpellsSlot (if b then slot.Key key.Close else key_slot o) (plain_word text) x → Runs (if b then due_after_close n else due_after_key n o) ws ds → Front n (plain_word text ∷ ws) (x ∷ ds) ⊎ Closes n (plain_word text ∷ ws) (x ∷ ds)
plain_front n text x ws ds all true o e f h r =
    let c = close_front n ws ds r in
    inr (subst (λ (t : List ℕ). Closes n (plain_word t ∷ ws) (x ∷ ds)) (same_true (key_text key.Close) text e) (subst (λ (y : Datum). Closes n (word_of_key key.Close ∷ ws) (y ∷ ds)) (sym h) c))
plain_front n text x ws ds all false None e f h r = absurd (refused_never ws ds r)
plain_front n text x ws ds all false (Some k) e f h r =
    let step = among (Step n ws ds) value_keys text k f all in
    inl (subst (λ (t : List ℕ). Front n (plain_word t ∷ ws) (x ∷ ds)) step.0 (subst (λ (y : Datum). Front n (word_of_key k ∷ ws) (y ∷ ds)) (sym h) (step.1 r)))

-- a value more in front of others
more_inner : (n : ℕ) (ws : List Word) (ds : List Datum) (f : Front (suc n) ws ds) → Inner n f.back f.left → Inner n ws ds
more_inner n ws ds f i =
    let first = data_of (value_operands f.value) in
    let others = data_of (values_operands i.values) in
    let rest = key_word key.Close ∷ i.left in
    record {
      values = more_values f.value i.values;
      inner = f.front ++ i.inner;
      back = i.back;
      left = i.left;
      words = f.words ∙ ap (λ us. f.front ++ us) i.words ∙ sym (append_assoc f.front i.inner (word_of_key key.Close ∷ i.back));
      data_are = f.data_are ∙ ap (λ xs. first ++ xs) i.data_are ∙ sym (append_assoc first others rest) ∙ ap (λ xs. xs ++ rest) (sym (data_join (value_operands f.value) (values_operands i.values)));
      is_text = (f.front, i.inner, refl, f.is_text, i.is_text);
      run = i.run;
    }

-- no value more
ended_inner : (n : ℕ) (ws : List Word) (ds : List Datum) → Closes (suc n) ws ds → Inner n ws ds
ended_inner n ws ds c = let e : c.outside ≡ n = omega (arith, c.is) in record {
  values = no_values;
  inner = [];
  back = c.back;
  left = c.left;
  words = c.words;
  data_are = c.data_are;
  is_text = refl;
  run = subst (λ (m : ℕ). Runs (due_after m) c.back c.left) e c.run;
}

shorter_back : (n fuel : ℕ) (ws : List Word) (ds : List Datum) (f : Front (suc n) ws ds) → length ws < suc fuel → length f.back < fuel
shorter_back n fuel ws ds f l =
    let e : length ws ≡ length f.front + length f.back = ap length f.words ∙ length-append f.front f.back in
    let some = f.some in
    omega (arith, e, some, l)

mutual
  unfolding slot_at due_after_word

  front : (fuel n : ℕ) (ws : List Word) (ds : List Datum) → length ws ≤ fuel → Runs (due.Value n) ws ds → Front n ws ds ⊎ Closes n ws ds
  front fuel n [] [] l r = absurd cc
  front zero n (w ∷ ws) (x ∷ ds) l r = absurd (omega (arith, l))
  front (suc fuel) n (text_in_quotes us ∷ ws) (x ∷ ds) l r = absurd (refused_never ws ds r.2)
  front (suc fuel) n (plain_word text ∷ ws) (x ∷ ds) l r =
      let array = array_step n ws ds (λ us xs short s. inner fuel n us xs (omega (arith, l, short)) s) in
      let P = Step n ws ds in
      let byte : P key.Byte = before_front _ _ key.Byte slot.Tiny content.Byte n ws ds (λ w x h. h) (λ y. refl) (λ w y h. (w, refl, h)) in
      let short : P key.Short = before_front _ _ key.Short slot.Short content.Short n ws ds (λ w x h. h) (λ y. refl) (λ w y h. (w, refl, h)) in
      let char : P key.Char = before_front _ _ key.Char (slot.Half Nothing 65535) content.Char n ws ds (λ w x h. h) (λ y. refl) (λ w y h. (w, refl, h)) in
      let int : P key.Int = before_front _ _ key.Int slot.Int content.Int n ws ds (λ w x h. h) (λ y. refl) (λ w y h. (w, refl, h)) in
      let long : P key.Long = before_front _ _ key.Long slot.Long content.Long n ws ds (λ w x h. h) (λ y. refl) (λ w y h. (w, refl, h)) in
      let float : P key.Float = before_front _ _ key.Float slot.Float content.Float n ws ds (λ w x h. h) (λ y. refl) (λ w y h. (w, refl, h)) in
      let double : P key.Double = before_front _ _ key.Double slot.Double content.Double n ws ds (λ w x h. h) (λ y. refl) (λ w y h. (w, refl, h)) in
      let string : P key.Text = before_front _ _ key.Text slot.Text (λ us. content.Named (OfText us)) n ws ds (λ w x h. h) (λ y. refl) (λ w y h. (w, refl, h)) in
      let type : P key.Desc = before_front _ _ key.Desc slot.Desc (λ t. content.Named (OfDesc t)) n ws ds (λ w x h. h) (λ y. refl) (λ w y h. (w, refl, h)) in
      let field : P key.Field = before_front _ _ key.Field slot.Field (λ f. content.Named (OfField f)) n ws ds (λ w x h. h) (λ y. refl) (λ w y h. (w, refl, h)) in
      let method : P key.Method = before_front _ _ key.Method slot.Method (λ m. content.Named (OfMethod m)) n ws ds (λ w x h. h) (λ y. refl) (λ w y h. (w, refl, h)) in
      let enum : P key.Enum = before_front _ _ key.Enum slot.Enum content.Enum n ws ds (λ w x h. h) (λ y. refl) (λ w y h. (w, refl, h)) in
      let alone : AllByRecursion P (drop 13 value_keys) = (alone_front key.Null n ws ds content.Null refl refl, (alone_front key.True n ws ds (content.Boolean true) refl refl, (alone_front key.False n ws ds (content.Boolean false) refl refl, tt))) in
      let named : AllByRecursion P (drop 7 value_keys) = (string, (type, (field, (method, (enum, (array, alone)))))) in
      let all : AllByRecursion P value_keys = (byte, (short, (char, (int, (long, (float, (double, named))))))) in
      plain_front n text x ws ds all (same (key_text key.Close) text) (find_key value_keys text) refl refl r.1 r.2
  front fuel n _ _ l r = absurd r

  inner : (fuel n : ℕ) (ws : List Word) (ds : List Datum) → length ws < fuel → Runs (due.Value (suc n)) ws ds → Inner n ws ds
  inner zero n ws ds l r = absurd (omega (arith, l))
  inner (suc fuel) n ws ds l r = elim (front fuel (suc n) ws ds (omega (arith, l)) r) [
    | inl f ↦ more_inner n ws ds f (inner fuel n f.back f.left (shorter_back n fuel ws ds f l) f.run)
    | inr c ↦ ended_inner n ws ds c
  ]

pub read_is_spelled : (ws : List Word) (v : Value) → IsReadAsValue ws v → ValueText ws v
read_is_spelled ws v h = elim (front (length ws) 0 ws h.word_values (omega arith) (run_of (due.Value 0) ws h.slots h.word_values h.has_slots h.forms h.spelled)) [
  | inl f ↦
      let end = nothing_more f.back f.left f.run in
      let words : f.front ≡ ws = sym (f.words ∙ ap (λ us. f.front ++ us) end.0 ∙ append-nil f.front) in
      let first = data_of (value_operands f.value) in
      let data_are : first ≡ h.word_values = sym (f.data_are ∙ ap (λ xs. first ++ xs) end.1 ∙ append-nil first) in
      let made : f.value ≡ v = sym (value_made f.value) ∙ ap value_of data_are ∙ h.made in
      subst (λ (u : Value). ValueText ws u) made (subst (λ (us : List Word). ValueText us f.value) words f.is_text)
  | inr c ↦ absurd (omega (arith, c.is))
]
