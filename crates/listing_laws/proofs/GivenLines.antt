-- The line of a static field with a value, read and spelled.
use Rattle.std.proofs.Common.{◌≡◌, Bool, true, false, if◌then◌else◌, inl, inr, List, [], ◌∷◌, ◌++◌, length, drop, Option, Some, None, refl, sym, ap, subst, ◌∙◌}
use Rattle.std.specs.Prelude.{nat_le}
use Rattle.program_types.specs.Content.{OfText, OfDesc, Value, Member}
use Rattle.listing_words.specs.Words.{Word}
use Rattle.listing_slots.specs.declared.key.Key.TheVariants as key
use Rattle.listing_slots.specs.declared.kind.Kind.TheVariants as kind
use Rattle.listing_slots.specs.declared.slot.Slot.{Slot}
use Rattle.listing_slots.specs.declared.slot.Slot.TheVariants as slot
use Rattle.listing_slots.specs.Data.{Datum, word, named, key_word, text_of, type_of, word_of}
use Rattle.listing_slots.specs.Keys.{key_text, same, find_key, lead_keys}
use Rattle.listing_slots.specs.Slots.{mark_text, SpellsNumber, SpellsNamed, IsMember, IsType, SpellsSlots, has_form, have_forms}
use Rattle.listing_slots.specs.declared.slot.Mark.TheVariants.{Nothing}
use Rattle.listing_slots.specs.declared.due.Due.TheVariants as due
use Rattle.listing_slots.specs.Shapes.{Shape, Row, IsKeyed, key_row, given_row, field_slots, flags, value_slots}
use Rattle.listing_slots.proofs.ShapeLaws.{no_colon}
use Rattle.listing_lines.specs.Lines.{line_of, static_line, value_of, member_of}
use Rattle.listing_print.proofs.RowLaws.{past_three}
use Rattle.listing_lines.specs.declared.form.Form.{Form}
use Rattle.listing_lines.specs.declared.form.Form.TheVariants.{One, Two}
use Rattle.listing_lines.specs.Labels.{Label}
use Rattle.listing_parse.specs.Forms.{HasShapeInForm, SpellsInForm}
use Rattle.listing_laws.proofs.FreeSlots.{AreFree, row_is_free, value_is_free, read_here, read_anywhere}
use Rattle.listing_laws.specs.inner.Values.{word_of_key, StaticText, IsReadAsValue, IsReadAsLine}
use Rattle.listing_laws.proofs.SpelledValues.{spelled_is_read, plain_form}
use Rattle.listing_laws.proofs.ReadValues.{read_is_spelled, key_is}
use Rattle.std.proofs.lemmas.Bool.{and_parts}

-- the slots of such a line, whose value has these
abbrev given_slots : List Slot → List Slot
given_slots ss = slot.Member ∷ slot.Desc ∷ flags ∷ slot.Key key.Equals ∷ ss

-- ---- what is read is spelled

parts_mean : (a b c d : Word) (rest : List Word) (x y z e : Datum) (es : List Datum) (ss : List Slot) (m : Member) (v : Value) → value_slots (due.Value 0) rest ≡ Some ss → have_forms (given_slots ss) (a ∷ b ∷ c ∷ d ∷ rest) ≡ true
    → SpellsSlots (given_slots ss) (a ∷ b ∷ c ∷ d ∷ rest) (x ∷ y ∷ z ∷ e ∷ es) → line_of kind.Given (x ∷ y ∷ z ∷ e ∷ es) ≡ static_line m (Some v) → StaticText (a ∷ b ∷ c ∷ d ∷ rest) m v
unfolding line_of have_forms text_of type_of word_of
parts_mean a b c d rest x y z e es ss m v h f g l =
    let f0 = and_parts (has_form slot.Member a) (have_forms (slot.Desc ∷ flags ∷ slot.Key key.Equals ∷ ss) (b ∷ c ∷ d ∷ rest)) f in
    let f1 = and_parts (has_form slot.Desc b) (have_forms (flags ∷ slot.Key key.Equals ∷ ss) (c ∷ d ∷ rest)) f0.1 in
    let f2 = and_parts (has_form flags c) (have_forms (slot.Key key.Equals ∷ ss) (d ∷ rest)) f1.1 in
    let f3 = and_parts (has_form (slot.Key key.Equals) d) (have_forms ss rest) f2.1 in
    let name = g.0 in
    let ty = g.1.0 in
    let number = g.1.1.0 in
    let member : member_of (x ∷ y ∷ z ∷ e ∷ es) ≡ m = cc in
    let value : value_of es ≡ v = cc in
    record {
      name = a;
      ty = b;
      flags = c;
      value = rest;
      words = ap (λ w. a ∷ b ∷ c ∷ w ∷ rest) (key_is key.Equals d f3.0);
      is_name = subst (SpellsNamed IsMember a) (sym (ap text_of name.2) ∙ ap (λ (k : Member). k.name) member) name.1;
      is_type = subst (SpellsNamed IsType b) (sym (ap type_of ty.2) ∙ ap (λ (k : Member). k.ty) member) ty.1;
      are_flags = subst (SpellsNumber Nothing 4294967295 c) (sym (ap word_of number.2) ∙ ap (λ (k : Member). k.flags) member) number.1;
      is_text = read_is_spelled rest v (record { slots = ss; has_slots = h; forms = f3.1; word_values = es; spelled = g.1.1.1.1; made = value });
    }

-- a word for the first slot
first_word : (s : Slot) (ss : List Slot) (ws : List Word) (ds : List Datum) → SpellsSlots (s ∷ ss) ws ds → (w : Word) × (rest : List Word) × (x : Datum) × (more : List Datum) × (ws ≡ w ∷ rest) × (ds ≡ x ∷ more) × SpellsSlots ss rest more
first_word s ss (w ∷ ws) (x ∷ ds) g = (w, ws, x, ds, refl, refl, g.1)
first_word s ss _ _ g = absurd g

words_read : (ws : List Word) (ds : List Datum) (ss : List Slot) (m : Member) (v : Value) → value_slots (due.Value 0) (drop 4 ws) ≡ Some ss → have_forms (given_slots ss) ws ≡ true
    → SpellsSlots (given_slots ss) ws ds → line_of kind.Given ds ≡ static_line m (Some v) → StaticText ws m v
words_read ws ds ss m v h f g l =
    let a = first_word slot.Member (slot.Desc ∷ flags ∷ slot.Key key.Equals ∷ ss) ws ds g in
    let b = first_word slot.Desc (flags ∷ slot.Key key.Equals ∷ ss) a.1 a.3 a.6 in
    let c = first_word flags (slot.Key key.Equals ∷ ss) b.1 b.3 b.6 in
    let d = first_word (slot.Key key.Equals) ss c.1 c.3 c.6 in
    let words : ws ≡ a.0 ∷ b.0 ∷ c.0 ∷ d.0 ∷ d.1 = a.4 ∙ ap (λ us. a.0 ∷ us) (b.4 ∙ ap (λ us. b.0 ∷ us) (c.4 ∙ ap (λ us. c.0 ∷ us) d.4)) in
    let word_values : ds ≡ a.2 ∷ b.2 ∷ c.2 ∷ d.2 ∷ d.3 = a.5 ∙ ap (λ xs. a.2 ∷ xs) (b.5 ∙ ap (λ xs. b.2 ∷ xs) (c.5 ∙ ap (λ xs. c.2 ∷ xs) d.5)) in
    subst (λ us. StaticText us m v) (sym words) (parts_mean a.0 b.0 c.0 d.0 d.1 a.2 b.2 c.2 d.2 d.3 ss m v
    (subst (λ (us : List Word). value_slots (due.Value 0) (drop 4 us) ≡ Some ss) words h)
    (subst (λ (us : List Word). have_forms (given_slots ss) us ≡ true) words f)
    (subst (λ (xs : List Datum). SpellsSlots (given_slots ss) (a.0 ∷ b.0 ∷ c.0 ∷ d.0 ∷ d.1) xs) word_values (subst (λ (us : List Word). SpellsSlots (given_slots ss) us ds) words g))
    (subst (λ (xs : List Datum). line_of kind.Given xs ≡ static_line m (Some v)) word_values l))

row_reads : (ws : List Word) (ds : List Datum) (row : Row) (few : Bool) (o : Option (List Slot)) (m : Member) (v : Value) → o ≡ value_slots (due.Value 0) (drop 4 ws) → Some row ≡ (if few then Some (kind.Static, field_slots) else given_row o)
    → have_forms row.1 ws ≡ true → SpellsSlots row.1 ws ds → line_of row.0 ds ≡ static_line m (Some v) → StaticText ws m v
unfolding line_of
row_reads ws ds row true o m v e r f g l =
    let k : row ≡ (kind.Static, field_slots) = cc in
    let n : line_of kind.Static ds ≡ static_line m (Some v) = subst (λ (q : Row). line_of q.0 ds ≡ static_line m (Some v)) k l in
    absurd cc
row_reads ws ds row false None m v e r f g l = absurd cc
row_reads ws ds row false (Some ss) m v e r f g l =
    let k : row ≡ (kind.Given, given_slots ss) = cc in
    words_read ws ds ss m v (sym e) (subst (λ (q : Row). have_forms q.1 ws ≡ true) k f) (subst (λ (q : Row). SpellsSlots q.1 ws ds) k g) (subst (λ (q : Row). line_of q.0 ds ≡ static_line m (Some v)) k l)

-- the row of such a line
keyed_row : (ws : List Word) (s : Shape) (k : IsKeyed (word_of_key key.Static ∷ ws) s) → (Some k.row ≡ key_row key.Static ws) × (k.after ≡ ws)
unfolding key_text find_key same
keyed_row ws s k =
    let w = k.words in
    let text : k.text ≡ key_text key.Static = cc in
    let after : k.after ≡ ws = cc in
    let found : Some k.keyed.lead ≡ Some key.Static = k.keyed.found ∙ ap (find_key lead_keys) text in
    let lead : k.keyed.lead ≡ key.Static = cc in
    (k.keyed.has_row ∙ ap (λ q. key_row q k.after) lead ∙ ap (key_row key.Static) after, after)

keyed_reads : (ws : List Word) (s : Shape) (ds : List Datum) (m : Member) (v : Value) → IsKeyed (word_of_key key.Static ∷ ws) s → SpellsSlots s.slots s.words ds → line_of s.kind ds ≡ static_line m (Some v) → StaticText ws m v
unfolding key_row
keyed_reads ws s ds m v k g l =
    let r = keyed_row ws s k in
    let key_word : SpellsSlots k.row.1 k.after ds = subst (λ (t : Shape). SpellsSlots t.slots t.words ds) k.is g in
    row_reads ws ds k.row (nat_le (length ws) 3) (value_slots (due.Value 0) (drop 4 ws)) m v refl r.0 (subst (λ us. have_forms k.row.1 us ≡ true) r.1 k.keyed.forms) (subst (λ us. SpellsSlots k.row.1 us ds) r.1 key_word)
    (subst (λ (t : Shape). line_of t.kind ds ≡ static_line m (Some v)) k.is l)

-- no target stands in its slots
keyed_is_free : (ws : List Word) (s : Shape) → IsKeyed (word_of_key key.Static ∷ ws) s → AreFree s.slots
unfolding key_row
keyed_is_free ws s k =
    let r = keyed_row ws s k in
    subst (λ (t : Shape). AreFree t.slots) (sym k.is) (row_is_free k.row (nat_le (length ws) 3) (value_slots (due.Value 0) (drop 4 ws)) (λ ss e. value_is_free (drop 4 ws) ss e) r.0)

pub line_is_spelled : (form : Form) (ls : List Label) (ws : List Word) (m : Member) (v : Value) → IsReadAsLine form ls (word_of_key key.Static ∷ ws) (static_line m (Some v)) → StaticText ws m v
unfolding key_text find_key same
line_is_spelled One ls ws m v h = elim h.has_shape [
  | inl l ↦ absurd (no_colon (key_text key.Static) l.label key.Static refl (let w = l.words in cc))
  | inr k ↦ keyed_reads ws h.shape h.word_values m v k h.spelled h.made
]
line_is_spelled Two ls ws m v h = elim h.has_shape [
  | inl b ↦
      let w = b.words in
      let text : b.text ≡ key_text key.Static = cc in
      let none : None ≡ Some key.Static = b.no_lead ∙ ap (find_key lead_keys) text in
      absurd cc
  | inr k ↦ keyed_reads ws h.shape h.word_values m v k (read_anywhere ls h.shape.slots h.shape.words h.word_values (keyed_is_free ws h.shape k) h.spelled) h.made
]

-- ---- what is spelled is read

shaped_in : (form : Form) (ws : List Word) (s : Shape) → IsKeyed ws s → HasShapeInForm form ws s
shaped_in One ws s k = inr k
shaped_in Two ws s k = inr k

read_in : (form : Form) (ls : List Label) (ss : List Slot) (ws : List Word) (ds : List Datum) → AreFree ss → SpellsSlots ss ws ds → SpellsInForm form ls ss ws ds
read_in One ls ss ws ds f h = h
read_in Two ls ss ws ds f h = read_here ls ss ws ds f h

parts_read : (form : Form) (ls : List Label) (a b c : Word) (rest : List Word) (m : Member) (v : Value) → SpellsNamed IsMember a m.name → SpellsNamed IsType b m.ty → SpellsNumber Nothing 4294967295 c m.flags → IsReadAsValue rest v
    → IsReadAsLine form ls (word_of_key key.Static ∷ a ∷ b ∷ c ∷ word_of_key key.Equals ∷ rest) (static_line m (Some v))
unfolding line_of have_forms text_of type_of word_of key_row key_text find_key same
parts_read form ls a b c rest m v n t f r =
    let ws = a ∷ b ∷ c ∷ word_of_key key.Equals ∷ rest in
    let forms : have_forms (given_slots r.slots) ws ≡ true =
    rw (plain_form slot.Member a n.0 n.2 refl, plain_form slot.Desc b t.0 t.2 refl, plain_form flags c (mark_text Nothing ++ f.digits) f.joined refl, r.forms) refl in
    let row : Some (kind.Given, given_slots r.slots) ≡ key_row key.Static ws = rw (past_three rest a b c (word_of_key key.Equals), r.has_slots) refl in
    let ds = named (OfText m.name) ∷ named (OfDesc m.ty) ∷ word m.flags ∷ key_word key.Equals ∷ r.word_values in
    let shape : Shape = record { kind = kind.Given; label = []; slots = given_slots r.slots; words = ws } in
    record {
      shape = shape;
      has_shape = shaped_in form (word_of_key key.Static ∷ ws) shape (record {
        text = key_text key.Static;
        after = ws;
        words = refl;
        row = (kind.Given, given_slots r.slots);
        keyed = record { lead = key.Static; found = refl; has_row = row; forms = forms };
        is = refl;
      });
      word_values = ds;
      spelled = read_in form ls (given_slots r.slots) ws ds (refl, (refl, (refl, (refl, value_is_free rest r.slots r.has_slots)))) ((m.name, n, refl), ((m.ty, t, refl), ((m.flags, f, refl), (refl, r.spelled))));
      made = ap (λ u. static_line m (Some u)) r.made;
    }

pub spelled_line_is_read : (form : Form) (ls : List Label) (ws : List Word) (m : Member) (v : Value) → StaticText ws m v → IsReadAsLine form ls (word_of_key key.Static ∷ ws) (static_line m (Some v))
spelled_line_is_read form ls ws m v h =
    subst (λ us. IsReadAsLine form ls (word_of_key key.Static ∷ us) (static_line m (Some v))) (sym h.words) (parts_read form ls h.name h.ty h.flags h.value m v h.is_name h.is_type h.are_flags (spelled_is_read h.value v h.is_text))
