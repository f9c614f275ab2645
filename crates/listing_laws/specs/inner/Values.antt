-- Which words are the text of which value of a static field.
-- Page: docs/LISTING.md, "Values", "What a word can be".
use Rattle.std.specs.Prelude.{◌≡◌, true, false, List, [], ◌∷◌, ◌++◌, Some}
use Rattle.program_types.specs.Content as content
use Rattle.program_types.specs.Content.{OfText, OfDesc, OfField, OfMethod, Value, Values, no_values, more_values, Member}
use Rattle.listing_words.specs.Names.{IsFieldText, IsMethodText}
use Rattle.listing_words.specs.Numbers.{SpellsBits}
use Rattle.listing_words.specs.Words.{Word, plain_word, text_in_quotes}
use Rattle.listing_slots.specs.declared.key.Key.{Key}
use Rattle.listing_slots.specs.declared.key.Key.TheVariants as key
use Rattle.listing_slots.specs.declared.slot.Mark.TheVariants.{Nothing}
use Rattle.listing_slots.specs.declared.slot.Slot.{Slot}
use Rattle.listing_slots.specs.Data.{Datum}
use Rattle.listing_slots.specs.Keys.{key_text}
use Rattle.listing_slots.specs.Slots.{SpellsNumber, SpellsInteger, SpellsPlain, SpellsNamed, IsMember, IsType, SpellsSlots, have_forms}
use Rattle.listing_slots.specs.declared.due.Due.TheVariants as due
use Rattle.listing_slots.specs.Shapes.{Shape, value_slots}
use Rattle.listing_lines.specs.Lines.{Line, line_of, value_of}
use Rattle.listing_lines.specs.declared.form.Form.{Form}
use Rattle.listing_lines.specs.Labels.{Label}
use Rattle.listing_parse.specs.Forms.{HasShapeInForm, SpellsInForm}

-- The word that a keyword is.
abbrev pub word_of_key : Key → Word
word_of_key k = plain_word (key_text k)

-- The keyword, and one word after it, of which this holds.
abbrev pub IsBefore : Key → (Word → Type 0) → List Word → Type 0
IsBefore k IsText ws = (w : Word) × (ws ≡ word_of_key k ∷ w ∷ []) × IsText w

-- The words are the text of the value: its keyword, and its operand; an array's values are between braces.
abbrev mutual
  pub ValueText : List Word → Value → Type 0
  ValueText ws (content.Byte z) = IsBefore key.Byte (λ w. SpellsInteger 127 w z) ws
  ValueText ws (content.Short z) = IsBefore key.Short (λ w. SpellsInteger 32767 w z) ws
  ValueText ws (content.Char n) = IsBefore key.Char (λ w. SpellsNumber Nothing 65535 w n) ws
  ValueText ws (content.Int z) = IsBefore key.Int (λ w. SpellsInteger 2147483647 w z) ws
  ValueText ws (content.Long z) = IsBefore key.Long (λ w. SpellsInteger 9223372036854775807 w z) ws
  ValueText ws (content.Float n) = IsBefore key.Float (λ w. SpellsPlain (SpellsBits 8) w n) ws
  ValueText ws (content.Double n) = IsBefore key.Double (λ w. SpellsPlain (SpellsBits 16) w n) ws
  ValueText ws (content.Named (OfText us)) = IsBefore key.Text (λ w. w ≡ text_in_quotes us) ws
  ValueText ws (content.Named (OfDesc d)) = IsBefore key.Desc (λ w. SpellsNamed IsType w d) ws
  ValueText ws (content.Named (OfField f)) = IsBefore key.Field (λ w. SpellsNamed IsFieldText w f) ws
  ValueText ws (content.Named (OfMethod m)) = IsBefore key.Method (λ w. SpellsNamed IsMethodText w m) ws
  ValueText ws (content.Enum f) = IsBefore key.Enum (λ w. SpellsNamed IsFieldText w f) ws
  ValueText ws (content.Array vs) =
      (inner : List Word) × (ws ≡ word_of_key key.Array ∷ word_of_key key.Open ∷ (inner ++ word_of_key key.Close ∷ []))
      × ValuesText inner vs
  ValueText ws content.Null = ws ≡ word_of_key key.Null ∷ []
  ValueText ws (content.Boolean true) = ws ≡ word_of_key key.True ∷ []
  ValueText ws (content.Boolean false) = ws ≡ word_of_key key.False ∷ []

  -- The words are the text of the values, one after the other.
  pub ValuesText : List Word → Values → Type 0
  ValuesText ws no_values = ws ≡ []
  ValuesText ws (more_values v vs) =
      (front back : List Word) × (ws ≡ front ++ back) × ValueText front v × ValuesText back vs

-- The words after `static` are the text of a field and its value: a name, a type, flags, `=`, and the words of the value.
pub record StaticText (ws : List Word) (m : Member) (v : Value) : Type 0 where
  pub name : Word
  pub ty : Word
  pub flags : Word
  pub value : List Word
  pub words : ws ≡ name ∷ ty ∷ flags ∷ word_of_key key.Equals ∷ value
  pub is_name : SpellsNamed IsMember name m.name
  pub is_type : SpellsNamed IsType ty m.ty
  pub are_flags : SpellsNumber Nothing 4294967295 flags m.flags
  pub is_text : ValueText value v

-- ---- what is read

-- The words are read as the value: they have the slots of a value, each word has its slot's form and a value
-- there, and these make the value.
pub record IsReadAsValue (ws : List Word) (v : Value) : Type 0 where
  pub slots : List Slot
  pub has_slots : value_slots (due.Value 0) ws ≡ Some slots
  pub forms : have_forms slots ws ≡ true
  pub word_values : List Datum
  pub spelled : SpellsSlots slots ws word_values
  pub made : value_of word_values ≡ v

-- The words of a line are read as the line, in a text of this form, where the open code has these labels: they have a shape, each
-- has a value in its slot, and these make the line.
pub record IsReadAsLine (form : Form) (ls : List Label) (ws : List Word) (l : Line) : Type 0 where
  pub shape : Shape
  pub has_shape : HasShapeInForm form ws shape
  pub word_values : List Datum
  pub spelled : SpellsInForm form ls shape.slots shape.words word_values
  pub made : line_of shape.kind word_values ≡ l
