-- What holds of each row of the table, by computing over its columns.
use Rattle.std.proofs.Common.{◌≡◌, ◌≢◌, ℕ, zero, suc, Bool, true, false, ◌&&◌, refl, get_or, None, Some, Option, List, [], ◌∷◌, sym, ◌∙◌}
use Rattle.std.specs.List.{list_all}
use Rattle.dex_insn.specs.Opcodes.{formats, index_kinds, format_of, index_kind_of, format_has_index, names_table}
use Rattle.dex_insn.specs.Mnemonics.{mnemonics, mnemonic_of, IsNamed, is_mnemonic_byte}
use Rattle.dex_insn.specs.declared.opcode.Format.{Format}
use Rattle.dex_insn.specs.declared.opcode.IndexKind.{IndexKind}
use Rattle.std.proofs.lemmas.Bool.{and_parts}

abbrev same_bool : Bool → Bool → Bool
same_bool true true = true
same_bool false false = true
same_bool _ _ = false

same-is : (a b : Bool) → same_bool a b ≡ true → a ≡ b
same-is true true e = refl
same-is false false e = refl
same-is _ _ e = absurd (cc)

-- each used row names a table exactly if its format has an index
abbrev kinds_agree : List (Option Format) → List (Option IndexKind) → Bool
kinds_agree [] ks = true
kinds_agree (f ∷ fs) [] = false
kinds_agree (None ∷ fs) (k ∷ ks) = kinds_agree fs ks
kinds_agree (Some f ∷ fs) (k ∷ ks) = same_bool (format_has_index f) (names_table k) && kinds_agree fs ks

all_agree : kinds_agree formats index_kinds ≡ true
unfolding formats index_kinds
all_agree = refl

row-agrees : (fs : List (Option Format)) (ks : List (Option IndexKind)) (i : ℕ) (f : Format) → kinds_agree fs ks ≡ true → get_or fs i None ≡ Some f → format_has_index f ≡ names_table (get_or ks i None)
row-agrees [] ks i f e is = absurd (cc)
row-agrees (g ∷ fs) [] i f e is = absurd (cc)
row-agrees (None ∷ fs) (k ∷ ks) zero f e is = absurd (cc)
row-agrees (None ∷ fs) (k ∷ ks) (suc i) f e is = row-agrees fs ks i f e is
row-agrees (Some g ∷ fs) (k ∷ ks) zero f e is = let h = same-is (format_has_index g) (names_table k) (and_parts _ _ e).0 in let s : g ≡ f = cc in rw (← s) h
row-agrees (Some g ∷ fs) (k ∷ ks) (suc i) f e is = row-agrees fs ks i f (and_parts _ _ e).1 is

-- the index kind of an opcode names a table exactly if its format has an index
pub kind_agrees : (op : ℕ) (f : Format) → format_of op ≡ Some f → format_has_index f ≡ names_table (index_kind_of op)
kind_agrees op f is = row-agrees formats index_kinds op f all_agree is

-- a row has a mnemonic exactly if it is used
abbrev uses_agree : List (Option Format) → List (List ℕ) → Bool
uses_agree [] [] = true
uses_agree (None ∷ fs) ([] ∷ ts) = uses_agree fs ts
uses_agree (Some f ∷ fs) ((c ∷ cs) ∷ ts) = uses_agree fs ts
uses_agree _ _ = false

all_used : uses_agree formats mnemonics ≡ true
unfolding formats mnemonics
all_used = refl

row-used : (fs : List (Option Format)) (ts : List (List ℕ)) (i : ℕ) → uses_agree fs ts ≡ true → get_or fs i None ≡ None → get_or ts i [] ≡ []
row-used [] [] i e is = refl
row-used [] (t ∷ ts) i e is = absurd (cc)
row-used (None ∷ fs) [] i e is = absurd (cc)
row-used (None ∷ fs) ([] ∷ ts) zero e is = refl
row-used (None ∷ fs) ([] ∷ ts) (suc i) e is = row-used fs ts i e is
row-used (None ∷ fs) ((c ∷ cs) ∷ ts) i e is = absurd (cc)
row-used (Some f ∷ fs) [] i e is = absurd (cc)
row-used (Some f ∷ fs) ([] ∷ ts) i e is = absurd (cc)
row-used (Some f ∷ fs) ((c ∷ cs) ∷ ts) zero e is = absurd (cc)
row-used (Some f ∷ fs) ((c ∷ cs) ∷ ts) (suc i) e is = row-used fs ts i e is

row-named : (fs : List (Option Format)) (ts : List (List ℕ)) (i : ℕ) (f : Format) → uses_agree fs ts ≡ true → get_or fs i None ≡ Some f → get_or ts i [] ≢ []
row-named [] ts i f e is = absurd (cc)
row-named (None ∷ fs) [] i f e is = absurd (cc)
row-named (None ∷ fs) ([] ∷ ts) zero f e is = absurd (cc)
row-named (None ∷ fs) ([] ∷ ts) (suc i) f e is = row-named fs ts i f e is
row-named (None ∷ fs) ((c ∷ cs) ∷ ts) i f e is = absurd (cc)
row-named (Some g ∷ fs) [] i f e is = absurd (cc)
row-named (Some g ∷ fs) ([] ∷ ts) i f e is = absurd (cc)
row-named (Some g ∷ fs) ((c ∷ cs) ∷ ts) zero f e is = λ n. cc
row-named (Some g ∷ fs) ((c ∷ cs) ∷ ts) (suc i) f e is = row-named fs ts i f e is

some-of : (o : Option Format) → o ≢ None → (f : Format) × (o ≡ Some f)
some-of None some = absurd (some refl)
some-of (Some f) some = (f, refl)

-- an opcode that is used has a mnemonic
pub used_named : (op : ℕ) (f : Format) → format_of op ≡ Some f → mnemonic_of op ≢ []
used_named op f is = row-named formats mnemonics op f all_used is

-- an opcode that has a mnemonic has a format
pub named_used : (op : ℕ) (text : List ℕ) → IsNamed op text → (f : Format) × (format_of op ≡ Some f)
named_used op text h = some-of (format_of op) (λ n. h.used (sym h.is ∙ row-used formats mnemonics op all_used n))

all_plain : list_all (list_all is_mnemonic_byte) mnemonics ≡ true
unfolding mnemonics
all_plain = refl

row-plain : (ts : List (List ℕ)) (i : ℕ) → list_all (list_all is_mnemonic_byte) ts ≡ true → list_all is_mnemonic_byte (get_or ts i []) ≡ true
row-plain [] i e = refl
row-plain (t ∷ ts) zero e = (and_parts _ _ e).0
row-plain (t ∷ ts) (suc i) e = row-plain ts i (and_parts _ _ e).1

-- a mnemonic has lower-case letters, digits, `-` and `/` alone
pub mnemonic_plain : (op : ℕ) → list_all is_mnemonic_byte (mnemonic_of op) ≡ true
mnemonic_plain op = row-plain mnemonics op all_plain
