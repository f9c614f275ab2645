-- The names of values, and how many bytes values take at most.
use Rattle.std.proofs.Common.{◌≡◌, ℕ, ◌*◌, ◌<◌, ◌≤◌, ◌⊎◌, inl, inr, List, [], ◌∷◌, ◌++◌, length, refl, sym, ap, subst, ◌∙◌, arith, true, false}
use Rattle.std.specs.List.{flat_map}
use Rattle.std.proofs.lemmas.List.{length-append}
use Rattle.dex_base.specs.Grammar.{Each}
use Rattle.program_types.specs.Content.{Name, OfText, OfDesc, OfField, OfMethod, Value, Byte, Named, Enum, Array, Null, Boolean, Values, no_values, more_values, values}
use Rattle.program_types.specs.Mentions.{names_of_value, names_of_values}
use Rattle.dex_insn.specs.declared.opcode.IndexKind.{IndexKind}
use Rattle.dex_value.specs.declared.types.NameType.{NameType}
use Rattle.dex_value.specs.declared.types.NameType.TheVariants as named
use Rattle.dex_value.specs.declared.types.NumberType.{NumberType}
use Rattle.dex_value.specs.declared.types.NumberType.TheVariants as number
use Rattle.dex_value.specs.Faults.{widest_of, IsNameOfType}
use Rattle.dex_value.specs.Reading.{name_code, number_code, table_of_type}
use Rattle.dex_value.specs.inner.Reading.{ValueStands}
use Rattle.dex_value.specs.Spelling.{unsigned_of, Sized, SpellsValue, SpellsValues}
use Rattle.dex_value.specs.Wide.{wide_value, wide_values}
use Rattle.dex_value.proofs.Fronts.{LoneFront, BareNull, BareFalse, BareTrue}
use Rattle.dex_value.proofs.Lists.{each-values}
use Rattle.tables_rows.specs.Stands.{NameStands}
use Rattle.file_renumber.specs.inner.Marked.{kind_of, IsRowOf}
use Rattle.file_renumber.specs.inner.ValueWalks.{IsLow}
use Rattle.program_types.proofs.Nesting.{listed}

-- ---- the name of a value of bytes after its head

record LowName (N : ℕ → Name → Type 0) (t : ℕ) (low : List ℕ) (v : Value) : Type 0 where
  which : Name
  names : names_of_value v ≡ which ∷ []
  of : IsNameOfType t which
  big : 23 ≤ t
  stands : N (unsigned_of low) which

low_name : (N : ℕ → Name → Type 0) (t k : ℕ) (low : List ℕ) (v : Value) (which : Name) → t ≡ k → names_of_value v ≡ which ∷ [] → IsNameOfType k which → 23 ≤ k → N (unsigned_of low) which → LowName N t low v ⊎ ((t < 23) × (names_of_value v ≡ []))
low_name N t k low v which e names of big n =
    inl (record { which = which; names = names; of = subst (λ (j : ℕ). IsNameOfType j which) (sym e) of; big = omega (arith, e, big); stands = n })

low_names : (N : ℕ → Name → Type 0) (t : ℕ) (low : List ℕ) (v : Value) → ValueStands N t low v → LowName N t low v ⊎ ((t < 23) × (names_of_value v ≡ []))
low_names N t low (Named (OfText n)) s = low_name N t 23 low (Named (OfText n)) (OfText n) s.0 refl refl (omega arith) s.1
low_names N t low (Named (OfDesc n)) s = low_name N t 24 low (Named (OfDesc n)) (OfDesc n) s.0 refl refl (omega arith) s.1
low_names N t low (Named (OfField n)) s = low_name N t 25 low (Named (OfField n)) (OfField n) s.0 refl refl (omega arith) s.1
low_names N t low (Named (OfMethod n)) s = low_name N t 26 low (Named (OfMethod n)) (OfMethod n) s.0 refl refl (omega arith) s.1
low_names N t low (Enum f) s = low_name N t 27 low (Enum f) (OfField f) s.0 refl refl (omega arith) s.1
low_names N t low (Array vs) s = absurd s
low_names N t low Null s = absurd s
low_names N t low (Boolean b) s = absurd s
low_names N t low _ s = inr (omega (arith, s.0), refl)

-- names of a type are in its table
kind_is : (ty : NameType) (which : Name) → IsNameOfType (name_code ty) which → kind_of which ≡ table_of_type ty
kind_is named.String (OfText n) e = refl
kind_is named.Type (OfDesc n) e = refl
kind_is named.Field (OfField n) e = refl
kind_is named.Method (OfMethod n) e = refl
kind_is named.Enum (OfField n) e = refl
kind_is _ _ e = absurd (omega (arith, e))

named_big : (ty : NameType) → 23 ≤ name_code ty
named_big named.String = omega arith
named_big _ = omega arith

number_small : (ty : NumberType) → number_code ty < 23
number_small number.Byte = omega arith
number_small _ = omega arith

-- the row that a value's name has
pub record NamedRow (b : List ℕ) (table : IndexKind) (i : ℕ) (v : Value) : Type 0 where
  pub which : Name
  pub names : names_of_value v ≡ which ∷ []
  pub row : IsRowOf b table i which

pub row_of_low : (b : List ℕ) (ty : NameType) (t : ℕ) (low : List ℕ) (v : Value) → name_code ty ≡ t → IsLow b t low v → NamedRow b (table_of_type ty) (unsigned_of low) v
row_of_low b ty t low v is l = elim (low_names (NameStands b) t low v l.stands) [
  | inl n ↦ record { which = n.which; names = n.names; row = record { kind = kind_is ty n.which (subst (λ (k : ℕ). IsNameOfType k n.which) (sym is) n.of); stands = n.stands } }
  | inr x ↦ let big = named_big ty in let small = x.0 in absurd (omega (arith, is, big, small))
]

pub no_name : (b : List ℕ) (ty : NumberType) (t : ℕ) (low : List ℕ) (v : Value) → number_code ty ≡ t → IsLow b t low v → names_of_value v ≡ []
no_name b ty t low v is l = elim (low_names (NameStands b) t low v l.stands) [
  | inl n ↦ let big = n.big in let small = number_small ty in absurd (omega (arith, is, big, small))
  | inr x ↦ x.1
]

pub lone_names : (bytes : List ℕ) (v : Value) → LoneFront bytes v → names_of_value v ≡ []
lone_names bytes v (BareNull e i) = ap names_of_value i
lone_names bytes v (BareFalse e i) = ap names_of_value i
lone_names bytes v (BareTrue e i) = ap names_of_value i

pub lone_wide : (bytes : List ℕ) (v : Value) → LoneFront bytes v → 9 ≡ wide_value v
lone_wide bytes v (BareNull e i) = sym (ap wide_value i)
lone_wide bytes v (BareFalse e i) = sym (ap wide_value i)
lone_wide bytes v (BareTrue e i) = sym (ap wide_value i)

pub low_wide : (N : ℕ → Name → Type 0) (t : ℕ) (low : List ℕ) (v : Value) → ValueStands N t low v → 9 ≡ wide_value v
low_wide N t low (Array vs) s = absurd s
low_wide N t low _ s = refl

-- ---- lists of values

pub names-listed : (vs : Values) → flat_map names_of_value (listed vs) ≡ names_of_values vs
names-listed no_values = refl
names-listed (more_values v vs) = ap (λ l. names_of_value v ++ l) (names-listed vs)

-- ---- how many bytes

-- a value takes at most nine bytes for each that spells it
sized_wide : (type widest : ℕ) (Means : List ℕ → Type 0) (bytes : List ℕ) → Sized type widest Means bytes → 9 ≤ 9 * length bytes
sized_wide type widest Means bytes s = let e = ap length s.joined in omega (arith, e)

module _ (N : ℕ → Name → Type 0) where
  mutual
    pub value_wide : (bytes : List ℕ) (v : Value) → SpellsValue N bytes v → wide_value v ≤ 9 * length bytes
    value_wide bytes (Array vs) s =
        let b = s.2 in
        let inner = values_wide b.back vs b.means in
        let e = ap length s.1 in
        let f = ap length b.joined ∙ length-append b.count b.back in
        omega (arith, inner, e, f)
    value_wide bytes Null s = let e = ap length s in omega (arith, e)
    value_wide bytes (Boolean false) s = let e = ap length s in omega (arith, e)
    value_wide bytes (Boolean true) s = let e = ap length s in omega (arith, e)
    value_wide bytes _ s = sized_wide _ _ _ bytes s

    pub values_wide : (bytes : List ℕ) (vs : Values) → SpellsValues N bytes vs → wide_values vs ≤ 9 * length bytes
    values_wide bytes no_values s = omega arith
    values_wide bytes (more_values v vs) s =
        let first = value_wide s.0 v s.3 in
        let rest = values_wide s.1 vs s.4 in
        let e = ap length s.2 ∙ length-append s.0 s.1 in
        omega (arith, first, rest, e)

  pub each_wide : (bytes : List ℕ) (vs : List Value) → Each (SpellsValue N) bytes vs → wide_values (values vs) ≤ 9 * length bytes
  each_wide bytes vs s = values_wide bytes (values vs) (each-values N vs bytes s)

-- the row, however it was found
pub row_for : (b : List ℕ) (table index_kind : IndexKind) (i j : ℕ) (which : Name) → index_kind ≡ table → j ≡ i → IsRowOf b table i which → IsRowOf b index_kind j which
row_for b table index_kind i j which same at r =
    subst (λ (k : ℕ). IsRowOf b index_kind k which) (sym at) (subst (λ (k : IndexKind). IsRowOf b k i which) (sym same) r)

pub named_four : (ty : NameType) → widest_of (name_code ty) ≡ 4
named_four named.String = refl
named_four _ = refl
