-- Names that are noted by their numbers.
use Rattle.std.proofs.Common.{◌≡◌, ℕ, suc, ◌+◌, ◌<◌, List, [], ◌∷◌, ◌++◌, map, take, drop, get_or, length, refl, sym, ap, ◌∙◌, append_assoc, append-nil, subst}
use Rattle.std.proofs.Math.Seq.{take-append_seam}
use Rattle.std.specs.List.{AllZip}
use Rattle.program_types.specs.Content.{Descriptor, Name, OfText, OfDesc, OfField, OfMethod}
use Rattle.program_types.specs.Key.{text_key, proto_key, field_ref_key, method_ref_key}
use Rattle.tables_names.specs.Closure.{Five, AddsPart, IsPart, NameRanks, closure_of, parts_of, with_name, with_names, with_parts}
use Rattle.tables_names.specs.Numbers.{AllGrow, sets}
use Rattle.tables_names.specs.Noted.{AddsNoted, AreNoted, Continues, Notes, NumberIs, AreRanks}
use Rattle.tables_names.specs.inner.Noted.{HasRanks, rank_by}
use Rattle.tables_names.specs.declared.noted.Number.{Number}
use Rattle.tables_names.specs.declared.noted.Number.TheVariants.{Text, Desc, Field, Method}
use Rattle.tables_names.specs.declared.noted.RankOf.{RankOf}
use Rattle.tables_names.proofs.FiveLemmas.{IsPart-trans, all_added, parts_in_field, parts_in_method, wider}
use Rattle.tables_names.proofs.NeededLemmas.{members_more, members_split, names_append, with_names-grows}
use Rattle.tables_names.proofs.NumberLemmas.{AllGrow-refl, AllGrow-trans, rank_there}
use Rattle.tables_names.proofs.SubsetLemmas as sub
use Rattle.dex_base.proofs.ListFacts.{zip_more, zip_weaker}

number_stays : (old new : Five) → AllGrow old new → (name : Name) (n : Number) → NumberIs old name n → NumberIs new name n
number_stays old new g (OfText t) (Text n) at = g.strings.each n (text_key t) at
number_stays old new g (OfText t) (Desc n) at = absurd at
number_stays old new g (OfText t) (Field n) at = absurd at
number_stays old new g (OfText t) (Method n) at = absurd at
number_stays old new g (OfDesc t) (Text n) at = absurd at
number_stays old new g (OfDesc t) (Desc n) at = g.types.each n (text_key t) at
number_stays old new g (OfDesc t) (Field n) at = absurd at
number_stays old new g (OfDesc t) (Method n) at = absurd at
number_stays old new g (OfField f) (Text n) at = absurd at
number_stays old new g (OfField f) (Desc n) at = absurd at
number_stays old new g (OfField f) (Field n) at = g.fields.each n (field_ref_key f) at
number_stays old new g (OfField f) (Method n) at = absurd at
number_stays old new g (OfMethod m) (Text n) at = absurd at
number_stays old new g (OfMethod m) (Desc n) at = absurd at
number_stays old new g (OfMethod m) (Field n) at = absurd at
number_stays old new g (OfMethod m) (Method n) at = g.methods.each n (method_ref_key m) at

-- the parts of a name come with it
parts_in_name : (n : Name) → IsPart (parts_of n) (closure_of n)
parts_in_name (OfText t) = record { strings = sub.IsSubset-nil _; types = sub.IsSubset-refl _; protos = sub.IsSubset-refl _; fields = sub.IsSubset-refl _; methods = sub.IsSubset-refl _ }
parts_in_name (OfDesc t) = record { strings = sub.IsSubset-refl _; types = sub.IsSubset-nil _; protos = sub.IsSubset-refl _; fields = sub.IsSubset-refl _; methods = sub.IsSubset-refl _ }
parts_in_name (OfField f) = parts_in_field f.class f.name f.ty
parts_in_name (OfMethod m) = parts_in_method m.class m.name (proto_key m.proto)

-- where only parts of a name have come, only that name and parts of it have
pub parts_alone : (s new : Five) (n : Name) → AddsPart s new (with_parts s n) → AddsPart s new (with_name s n)
unfolding with_name with_parts
parts_alone s new n left = wider s (parts_of n) (closure_of n) new (parts_in_name n) left

pub name_alone : (s : Five) (n : Name) → AddsPart s (with_name s n) (with_name s n)
unfolding with_name
name_alone s n = all_added s (closure_of n)

-- what was noted stays noted
pub noted_still : (old new : Five) (names : List Name) (numbers : List Number) → AllGrow old new → AllZip (NumberIs old) names numbers → AllZip (NumberIs new) names numbers
noted_still old new names numbers g = zip_weaker (NumberIs old) (NumberIs new) (number_stays old new g) names numbers

-- one more name
pub noted_more : (old new : Five) (names : List Name) (numbers pushed : List Number) (name : Name) (n : Number) → AllGrow old new → AllZip (NumberIs old) names numbers → NumberIs new name n → pushed ≡ numbers ++ n ∷ [] → AllZip (NumberIs new) (names ++ name ∷ []) pushed
noted_more old new names numbers pushed name n g so_far here is =
    rw is (zip_more (NumberIs new) names numbers name n (noted_still old new names numbers g so_far) here)

module _ (s t : Five) (rank_of : RankOf) (leads : HasRanks s t rank_of) where
  number_leads : (name : Name) (n : Number) → NumberIs s name n → NameRanks t (rank_by rank_of n) name
  number_leads (OfText x) (Text n) at = (rank_there s.strings t.strings rank_of.strings.items n (text_key x) leads.strings at).1
  number_leads (OfText x) (Desc n) at = absurd at
  number_leads (OfText x) (Field n) at = absurd at
  number_leads (OfText x) (Method n) at = absurd at
  number_leads (OfDesc x) (Text n) at = absurd at
  number_leads (OfDesc x) (Desc n) at = (rank_there s.types t.types rank_of.types.items n (text_key x) leads.types at).1
  number_leads (OfDesc x) (Field n) at = absurd at
  number_leads (OfDesc x) (Method n) at = absurd at
  number_leads (OfField f) (Text n) at = absurd at
  number_leads (OfField f) (Desc n) at = absurd at
  number_leads (OfField f) (Field n) at = (rank_there s.fields t.fields rank_of.fields.items n (field_ref_key f) leads.fields at).1
  number_leads (OfField f) (Method n) at = absurd at
  number_leads (OfMethod m) (Text n) at = absurd at
  number_leads (OfMethod m) (Desc n) at = absurd at
  number_leads (OfMethod m) (Field n) at = absurd at
  number_leads (OfMethod m) (Method n) at = (rank_there s.methods t.methods rank_of.methods.items n (method_ref_key m) leads.methods at).1

  -- numbers lead to ranks
  pub noted_lead : (names : List Name) (numbers : List Number) → AllZip (NumberIs s) names numbers → AreRanks t names (map (rank_by rank_of) numbers)
  noted_lead [] [] all = tt
  noted_lead [] (n ∷ numbers) all = absurd all
  noted_lead (x ∷ names) [] all = absurd all
  noted_lead (x ∷ names) (n ∷ numbers) all = (number_leads x n all.0, noted_lead names numbers all.1)

-- ---- notes that go on

pub goes_on : (n : Notes) → Continues n n
goes_on n = record { grows = AllGrow-refl n.names; front = ([], sym (append-nil n.numbers)) }

-- without a note
pub goes_on_same : (old new : Notes) → AllGrow old.names new.names → new.numbers ≡ old.numbers → Continues old new
goes_on_same old new g e = record { grows = g; front = ([], e ∙ sym (append-nil old.numbers)) }

-- with one
pub goes_on_more : (old new : Notes) (n : Number) → AllGrow old.names new.names → new.numbers ≡ old.numbers ++ n ∷ [] → Continues old new
goes_on_more old new n g e = record { grows = g; front = (n ∷ [], e) }

pub goes_on_both : (a b d : Notes) → Continues a b → Continues b d → Continues a d
goes_on_both a b d f g =
    record {
      grows = AllGrow-trans a.names b.names d.names f.grows g.grows;
      front = (f.front.0 ++ g.front.0, g.front.1 ∙ ap (λ (l : List Number). l ++ g.front.0) f.front.1 ∙ append_assoc a.numbers f.front.0 g.front.0);
    }

-- What was noted is noted when what came after it is cut off.
pub noted_cut : (old new : Notes) (names : List Name) → Continues old new → AreNoted old names → AllZip (NumberIs new.names) names (take (length old.numbers) new.numbers)
noted_cut old new names on h =
    let e : take (length old.numbers) new.numbers ≡ old.numbers = ap (λ (l : List Number). take (length old.numbers) l) on.front.1 ∙ take-append_seam old.numbers on.front.0 in
    rw e (noted_still old.names new.names names old.numbers on.grows h)

-- ---- names that are added and noted

pub notes_none : (n : Notes) → AddsNoted n n []
notes_none n = record { added = refl; noted = λ before h. subst (AreNoted n) (sym (append-nil before)) h }

pub notes_both : (a b d : Notes) (xs ys : List Name) → AddsNoted a b xs → AddsNoted b d ys → AddsNoted a d (xs ++ ys)
notes_both a b d xs ys f g =
    record {
      added = g.added ∙ ap (λ s. with_names s ys) f.added ∙ sym (names_append (sets a.names) xs ys);
      noted = λ before h. subst (AreNoted d) (append_assoc before xs ys) (g.noted (before ++ xs) (f.noted before h));
    }

-- the next member of a class
pub next_member : {A B : Type 0} (f : B → Name) (g : A → B) (s l new : Notes) (xs : List A) (i : ℕ) (d : A) → i < length xs → AddsNoted s l (map f (map g (take i xs))) → AddsNoted l new (f (g (get_or xs i d)) ∷ []) → AddsNoted s new (map f (map g (take (i + 1) xs)))
next_member f g s l new xs i d lt so_far here =
    rw (members_more f g xs i d lt) (notes_both s l new (map f (map g (take i xs))) (f (g (get_or xs i d)) ∷ []) so_far here)

-- a class was added, and its members were noted
pub class_noted : (s m new : Five) (class : Descriptor) (names : List Name) → m ≡ with_name s (OfDesc class) → new ≡ with_names m names → new ≡ with_names s (OfDesc class ∷ names)
class_noted s m new class names own rest = rest ∙ ap (λ q. with_names q names) own

-- ---- what a refusal leaves

-- names were added, and then what a refusal of more of them left
names_refused : (s l new : Five) (all front xs rest : List Name) → all ≡ front ++ xs ++ rest → l ≡ with_names s front → AddsPart l new (with_names l xs) → AddsPart s new (with_names s all)
names_refused s l new all front xs rest split so_far left =
    let keeps : IsPart s l = rw so_far (with_names-grows s front) in
    let two : with_names s (front ++ xs) ≡ with_names l xs = names_append s front xs ∙ ap (λ q. with_names q xs) (sym so_far) in
    let whole : with_names s all ≡ with_names (with_names l xs) rest = ap (with_names s) split ∙ names_append s (front ++ xs) rest ∙ ap (λ q. with_names q rest) two in
    record {
      keeps = IsPart-trans s l new keeps left.keeps;
      adds = rw whole (IsPart-trans new (with_names l xs) (with_names (with_names l xs) rest) left.adds (with_names-grows (with_names l xs) rest));
    }

-- members were added, and then what a refusal of the next left
pub member_refused : {A B : Type 0} (f : B → Name) (g : A → B) (s l new : Five) (xs : List A) (i : ℕ) (d : A) → i < length xs → l ≡ with_names s (map f (map g (take i xs))) → AddsPart l new (with_name l (f (g (get_or xs i d)))) → AddsPart s new (with_names s (map f (map g xs)))
member_refused f g s l new xs i d lt so_far left =
    let front = map f (map g (take i xs)) in
    let x = f (g (get_or xs i d)) in
    let rest = map f (map g (drop (suc i) xs)) in
    names_refused s l new (map f (map g xs)) front (x ∷ []) rest (members_split f g xs i d lt ∙ sym (append_assoc front (x ∷ []) rest)) so_far left

-- a class and some members were added, and then what a refusal of more of them left
pub class_refused : (s : Five) (own l new : Notes) (class : Descriptor) (done xs rest all : List Name) → sets own.names ≡ with_name s (OfDesc class) → AddsNoted own l done → all ≡ done ++ xs ++ rest
    → AddsPart (sets l.names) (sets new.names) (with_names (sets l.names) xs) → AddsPart s (sets new.names) (with_names s (OfDesc class ∷ all))
class_refused s own l new class done xs rest all first so_far split left =
    names_refused s (sets l.names) (sets new.names) (OfDesc class ∷ all) (OfDesc class ∷ done) xs rest (ap (λ q. OfDesc class ∷ q) split) (class_noted s (sets own.names) (sets l.names) class done first so_far.added) left

-- the class itself was refused
pub class_alone : (s new : Five) (class : Descriptor) (all : List Name) → AddsPart s new (with_name s (OfDesc class)) → AddsPart s new (with_names s (OfDesc class ∷ all))
class_alone s new class all left = names_refused s s new (OfDesc class ∷ all) [] (OfDesc class ∷ []) all refl refl left
