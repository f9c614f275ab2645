-- A class, by its row and its members.
use Rattle.std.proofs.Common.{◌≡◌, ℕ, ◌+◌, ◌<◌, List, [], ◌∷◌, ◌++◌, length, map, take, refl, sym, ap, ◌∙◌, subst, arith, Some}
use Rattle.std.specs.List.{flat_map, slice_get}
use Rattle.std.proofs.lemmas.Grind.{flat_map-append}
use Rattle.std.proofs.lemmas.List.{append-nil, append_assoc}
use Rattle.dex_container.specs.Layout.{size_of}
use Rattle.dex_container.specs.Section as section
use Rattle.tables_names.specs.Closure.{nothing, with_names}
use Rattle.tables_names.specs.Needed.{needed}
use Rattle.tables_names.proofs.NeededLemmas.{names_append}
use Rattle.tables_rows.specs.Names.{AreRows}
use Rattle.file_layout.specs.Sections.{wide_all}
use Rattle.file_limits.specs.Wide.{wide_class}
use Rattle.file_limits.proofs.SumLaws.{wide_all_append}
use Rattle.dex_container.specs.Frame.{IsFramed}
use Rattle.program_types.specs.Content.{Class, Name, Program}
use Rattle.program_types.specs.Mentions.{field_of_class, names_of_class, names_of_method, names_of_value}
use Rattle.file_classes.specs.ClassRows.{class_word}
use Rattle.file_classes.specs.ClassData.{Entries, EntriesAt}
use Rattle.file_classes.specs.Classes.{CodesAre, MembersAre, SpellsClass}
use Rattle.file_classes.proofs.EntryLaws.{entries_one, entry_at}
use Rattle.file_strip.specs.inner.Survey.{AreFound, FindsNames, SpellsMembers, names_of_head, names_of_members}
use Rattle.file_strip.specs.declared.survey.Surveyed.{Surveyed}
use Rattle.file_strip.proofs.WalkLaws.{take_next}

pub spells_members : (b : List ℕ) → IsFramed b → (i : ℕ) (c : Class) (e : Entries) → SpellsClass b i c → EntriesAt b (class_word b i 6) e → SpellsMembers b e (class_word b i 7) c
spells_members b framed i c e s at =
    let same = entries_one b framed (class_word b i 6) s.entries e s.head.class_data at in
    record {
      members = subst (λ (x : Entries). MembersAre b x c) same s.head.members;
      most = length s.entries.statics;
      values = s.values;
      directs = subst (λ (x : Entries). CodesAre b x.directs c.directs) same s.directs;
      virtuals = subst (λ (x : Entries). CodesAre b x.virtuals c.virtuals) same s.virtuals;
    }

five : {X : Type 0} (h a b c d e : List X) → h ++ (a ++ b ++ c ++ d ++ e) ≡ h ++ a ++ b ++ c ++ d ++ e
five h a b c d e =
    sym (append_assoc h (a ++ b ++ c ++ d) e)
    ∙ ap (λ x. x ++ e) (sym (append_assoc h (a ++ b ++ c) d) ∙ ap (λ x. x ++ d) (sym (append_assoc h (a ++ b) c) ∙ ap (λ x. x ++ c) (sym (append_assoc h a b))))

-- a class mentions what its row and its members do
pub class_names : (c : Class) → names_of_head c ++ names_of_members c ≡ names_of_class c
class_names c =
    five (names_of_head c) (map (field_of_class c.ty) c.statics) (flat_map names_of_value c.values) (map (field_of_class c.ty) c.instances) (flat_map (names_of_method c.ty) c.directs) (flat_map (names_of_method c.ty) c.virtuals)

-- ---- all classes

pub class_at : (b : List ℕ) (p : Program) (i : ℕ) → AreRows SpellsClass b section.class_defs p → i < size_of b section.class_defs → (c : Class) × (slice_get p i ≡ Some c) × SpellsClass b i c
class_at b p i rows lt =
    let n = rows.count in
    let at = entry_at p i (omega (arith, n, lt)) in
    (at.0, at.1, rows.each i at.0 at.1)

next_names : (p : Program) (i : ℕ) (c : Class) → slice_get p i ≡ Some c → flat_map names_of_class (take (i + 1) p) ≡ flat_map names_of_class (take i p) ++ names_of_class c
next_names p i c at =
    ap (flat_map names_of_class) (take_next p i c at) ∙ flat_map-append names_of_class (take i p) (c ∷ []) ∙ ap (λ (ns : List Name). flat_map names_of_class (take i p) ++ ns) (append-nil (names_of_class c))

-- one class more was looked at
pub next_class : (b : List ℕ) (old new : Surveyed) (p : Program) (i : ℕ) (c : Class) → slice_get p i ≡ Some c → AreFound b old (with_names nothing (flat_map names_of_class (take i p))) → FindsNames b old new (names_of_class c)
    → AreFound b new (with_names nothing (flat_map names_of_class (take (i + 1) p)))
next_class b old new p i c at a f =
    subst (AreFound b new) (sym (ap (with_names nothing) (next_names p i c at) ∙ names_append nothing (flat_map names_of_class (take i p)) (names_of_class c)))
    (f (with_names nothing (flat_map names_of_class (take i p))) a)

pub next_wide : (p : Program) (i : ℕ) (c : Class) → slice_get p i ≡ Some c → wide_all wide_class (take (i + 1) p) ≡ wide_all wide_class (take i p) + wide_class c
next_wide p i c at = ap (wide_all wide_class) (take_next p i c at) ∙ wide_all_append wide_class (take i p) (c ∷ []) ∙ omega arith

pub needed_is : (p : Program) → with_names nothing (flat_map names_of_class p) ≡ needed p
unfolding needed
needed_is p = refl
