-- Members by rising ranks, entry by entry.
use Rattle.std.proofs.Common.{◌≡◌, ℕ, zero, suc, ◌+◌, ◌-◌, ◌<◌, ◌≤◌, List, [], ◌∷◌, ◌++◌, length, map, take, get_or, refl, sym, ap, ◌∙◌, arith, subst, append-nil, append_assoc, length-append, Option, Some, None}
use Rattle.std.proofs.lemmas.List.{length-map, length-take, map-append}
use Rattle.std.specs.Cmp.Lexicographic.{slice_cmp}
use Rattle.std.specs.Cmp.{nat_cmp_is}
use Rattle.std.specs.List.{slice_get}
use Rattle.std.specs.Ordering.{nat_cmp, ordering_then}
use Rattle.std.specs.declared.cmp.Ordering.TheVariants.{Less, Equal}
use Rattle.std.specs.declared.cmp.Ordering.{Ordering}
use Rattle.dex_base.proofs.GrammarLaws.{Each-push}
use Rattle.dex_base.specs.Grammar.{Appends, Each}
use Rattle.dex_base.specs.Leb128.{Spells, Shortest}
use Rattle.file_classes.specs.ClassData.{EntriesAre, MethodEntry, SpellsFieldEntry, SpellsMethodEntry}
use Rattle.tables_names.proofs.RowLemmas.{keys_compare_as_indices}
use Rattle.tables_names.specs.Closure.{Five, NameRanks, method_of_class}
use Rattle.tables_names.specs.Rank.{Rising, IsAt}
use Rattle.program_types.specs.Content.{Units, Descriptor, Member, Method}
use Rattle.program_types.specs.Key.{Key, key_cmp}
use Rattle.program_types.specs.Mentions.{field_of_class}
use Rattle.program_types.specs.View as view
use Rattle.program_types.specs.declared.class.Method as made_method
use Rattle.program_rules.specs.Rules.{KeysRise, member_key, method_key}
use Rattle.file_put.proofs.RunLaws.{total, total_push, no_run, run_push}
use Rattle.file_put.specs.Data.{code_offs}
use Rattle.file_put.specs.inner.Data.{FieldRanks, MethodRanks}
use Rattle.file_put.specs.inner.Growing.{AddsFields, AddsMethods}
use Rattle.program_rules.proofs.MemberLaws.{key-at}
use Rattle.tables_names.proofs.IndexLemmas.{less_than}
use Rattle.dex_base.proofs.ListFacts.{map_more}

abbrev some_or : {V : Type 0} → V → Option V → V
some_or d None = d
some_or d (Some v) = v

-- ---- ranks rise

units_same : (us : List ℕ) → slice_cmp nat_cmp us us ≡ Equal
units_same [] = refl
units_same (u ∷ us) = ap (λ (o : Ordering). ordering_then o (slice_cmp nat_cmp us us)) (sym (nat_cmp_is u u Equal refl)) ∙ units_same us

-- of one class the lesser key has the lower rank
pub rank_rises : (table : List Key) (class : Units) (i j : ℕ) (k l : Key) → Rising table → IsAt table i (class ∷ k) → IsAt table j (class ∷ l) → key_cmp k l ≡ Less → i < j
rank_rises table class i j k l up at_i at_j less =
    less_than i j (sym (keys_compare_as_indices table i j (class ∷ k) (class ∷ l) up at_i at_j) ∙ ap (λ (o : Ordering). ordering_then o (key_cmp k l)) (units_same class) ∙ less)

-- the key at k is below the next
next_above : {A V : Type 0} (key : V → Key) (g : A → V) (xs : List A) (k : ℕ) (d : A) → suc k < length xs → KeysRise (map key (map g xs)) → key_cmp (key (g (get_or xs k d))) (key (g (get_or xs (suc k) d))) ≡ Less
next_above key g xs k d lt rise =
    let n = length-map xs g in
    let m = length-map (map g xs) key in
    let s : k + 1 ≡ suc k = omega arith in
    let r = rise k (omega (arith, n, m, lt)) in
    sym (ap (λ (x : Key). key_cmp x (key (g (get_or xs (suc k) d)))) (key-at key g xs k d (omega (arith, lt))) ∙ ap (key_cmp (key (g (get_or xs k d)))) refl)
    ∙ sym (ap (key_cmp (get_or (map key (map g xs)) k [])) (ap (λ (j : ℕ). get_or (map key (map g xs)) j []) s ∙ key-at key g xs (suc k) d lt)) ∙ r

-- ---- entries

-- The entries so far, where N says which index stands for which value, the last of them with this index, 0 for none.
pub record RunTo {R V : Type 0} (M : ℕ → ℕ × R → V → Type 0) (G : List ℕ → ℕ × R → Type 0) (N : ℕ → V → Type 0) (old new : List ℕ) (vs : List V) (last : ℕ) : Type 0 where
  pub bytes : List ℕ
  pub entries : List (ℕ × R)
  pub whole : new ≡ old ++ bytes
  pub spelled : Each G bytes entries
  pub run : EntriesAre M entries vs
  pub sum : last ≡ total entries
  pub after : (j : ℕ) (v : V) → length vs ≡ j + 1 → slice_get vs j ≡ Some v → N last v

abbrev pub run_start : {R V : Type 0} (M : ℕ → ℕ × R → V → Type 0) (G : List ℕ → ℕ × R → Type 0) (N : ℕ → V → Type 0) (old : List ℕ) → RunTo M G N old old [] 0
run_start M G N old = record { bytes = []; entries = []; whole = sym (append-nil old); spelled = refl; run = no_run M; sum = refl; after = λ j v n at. absurd (omega (arith, n)) }

no_total : {R : Type 0} (es : List (ℕ × R)) → length es ≡ 0 → total es ≡ 0
no_total [] e = refl
no_total (x ∷ es) e = absurd (omega (arith, e))

taken : {A V : Type 0} (g : A → V) (ys : List A) (k : ℕ) (d : A) → suc k < length ys → slice_get (map g (take (suc k) ys)) k ≡ Some (g (get_or ys k d))
taken g [] k d h = absurd (omega (arith, h))
taken g (y ∷ ys) zero d h = refl
taken g (y ∷ ys) (suc k) d h = taken g ys k d (omega (arith, h))

pub last_one : {V : Type 0} (vs : List V) (v : V) (j : ℕ) (w : V) → length (vs ++ v ∷ []) ≡ j + 1 → slice_get (vs ++ v ∷ []) j ≡ Some w → v ≡ w
last_one [] v zero w n e = ap (some_or v) e
last_one [] v (suc j) w n e = absurd (omega (arith, n))
last_one (x ∷ vs) v zero w n e = let l = length-append vs (v ∷ []) in absurd (omega (arith, n, l))
last_one (x ∷ vs) v (suc j) w n e = last_one vs v j w (omega (arith, n)) e

-- the value at i comes after those before it
pub run_step : {R V A : Type 0} {M : ℕ → ℕ × R → V → Type 0} {G : List ℕ → ℕ × R → Type 0} {N : ℕ → V → Type 0} {old new : List ℕ} {last : ℕ} (g : A → V) (key : V → Key) → ((i j : ℕ) (v w : V) → N i v → N j w → key_cmp (key v) (key w) ≡ Less → i < j)
    → (xs : List A) (i : ℕ) (d : A) (index : ℕ) → i < length xs → KeysRise (map key (map g xs)) → RunTo M G N old new (map g (take i xs)) last → N index (g (get_or xs i d)) → (0 < i → last < index) × (last ≤ index)
run_step g key rises xs zero d index lt up f at =
    let n = f.run.count in
    let e = f.sum ∙ no_total f.entries (omega (arith, n)) in
    (λ h. absurd (omega (arith, h)), omega (arith, e))
run_step g key rises xs (suc i) d index lt up f at =
    let n : length (map g (take (suc i) xs)) ≡ i + 1 = let a = length-map (take (suc i) xs) g in let b = length-take (suc i) xs in omega (arith, a, b, lt) in
    let r = rises _ index _ _ (f.after i (g (get_or xs i d)) n (taken g xs i d lt)) at (next_above key g xs i d lt up) in
    (λ h. r, omega (arith, r))

abbrev pub run_more : {R V A : Type 0} {M : ℕ → ℕ × R → V → Type 0} {G : List ℕ → ℕ × R → Type 0} {N : ℕ → V → Type 0} {old mid new : List ℕ} {last : ℕ} (g : A → V) (key : V → Key) → ((i j : ℕ) (v w : V) → N i v → N j w → key_cmp (key v) (key w) ≡ Less → i < j)
    → (xs : List A) (i : ℕ) (d : A) (index : ℕ) → i < length xs → KeysRise (map key (map g xs)) → RunTo M G N old mid (map g (take i xs)) last → N index (g (get_or xs i d))
    → (rest : R) → M index (index - last, rest) (g (get_or xs i d)) → Appends G mid new (index - last, rest) → RunTo M G N old new (map g (take (i + 1) xs)) index
run_more {V = V} {M = M} {G = G} {N = N} {old = old} {last = last} g key rises xs i d index lt up f at rest m a =
    let p = run_step g key rises xs i d index lt up f at in
    let v = g (get_or xs i d) in
    let low = p.1 in
    let n : length (map g (take i xs)) ≡ i = let x = length-map (take i xs) g in let y = length-take i xs in omega (arith, x, y, lt) in
    let sum = f.sum in
    let t = total_push f.entries (index - last, rest) in
    let more : map g (take i xs) ++ v ∷ [] ≡ map g (take (i + 1) xs) = sym (map_more g xs i d lt) in
    record {
      bytes = f.bytes ++ a.bytes;
      entries = f.entries ++ (index - last, rest) ∷ [];
      whole = a.joined ∙ ap (λ (l : List ℕ). l ++ a.bytes) f.whole ∙ append_assoc old f.bytes a.bytes;
      spelled = Each-push G f.bytes a.bytes f.entries (index - last, rest) f.spelled a.spelled;
      run = subst (λ (vs : List V). EntriesAre M (f.entries ++ (index - last, rest) ∷ []) vs) more
          (run_push M f.entries (map g (take i xs)) (index - last, rest) v index f.run (omega (arith, sum, low)) m (λ h. let q = p.0 (omega (arith, h, n)) in omega (arith, q)));
      sum = omega (arith, t, sum, low);
      after = λ j w count there. subst (λ (x : V). N index x) (last_one (map g (take i xs)) v j w (ap length more ∙ count) (subst (λ (vs : List V). slice_get vs j ≡ Some w) (sym more) there)) at;
    }

-- ---- fields

abbrev pub FieldsTo : Five → Descriptor → List ℕ → List ℕ → List Member → ℕ → Type 0
FieldsTo s class old new ms last = RunTo (FieldRanks (NameRanks s) class) (SpellsFieldEntry (Shortest Spells)) (λ i m. NameRanks s i (field_of_class class m)) old new ms last

pub fields_rise : (s : Five) (class : Descriptor) → Rising s.fields → (i j : ℕ) (v w : Member) → NameRanks s i (field_of_class class v) → NameRanks s j (field_of_class class w) → key_cmp (member_key v) (member_key w) ≡ Less → i < j
fields_rise s class up i j v w p q less = rank_rises s.fields class i j _ _ up p q less

pub fields_added : (s : Five) (class : Descriptor) {old new : List ℕ} {ms : List Member} {last : ℕ} → FieldsTo s class old new ms last → AddsFields (NameRanks s) class old new ms
fields_added s class f = record { bytes = f.bytes; entries = f.entries; whole = f.whole; spelled = f.spelled; run = f.run }

-- ---- methods

-- The methods so far, of which the bodies stand at these places.
pub record MethodsTo (s : Five) (class : Descriptor) (codes old new : List ℕ) (ms : List Method) (last : ℕ) : Type 0 where
  pub to : RunTo (MethodRanks (NameRanks s) class) (SpellsMethodEntry (Shortest Spells)) (λ i m. NameRanks s i (method_of_class class m)) old new ms last
  pub places : code_offs to.entries ≡ codes

pub methods_start : (s : Five) (class : Descriptor) (old : List ℕ) → MethodsTo s class [] old old [] 0
methods_start s class old = record { to = run_start (MethodRanks (NameRanks s) class) (SpellsMethodEntry (Shortest Spells)) (λ i m. NameRanks s i (method_of_class class m)) old; places = refl }

pub methods_rise : (s : Five) (class : Descriptor) → Rising s.methods → (i j : ℕ) (v w : Method) → NameRanks s i (method_of_class class v) → NameRanks s j (method_of_class class w) → key_cmp (method_key v) (method_key w) ≡ Less → i < j
methods_rise s class up i j v w p q less = rank_rises s.methods class i j _ _ up p q less

pub methods_more : (s : Five) (class : Descriptor) (codes old mid new : List ℕ) (xs : List made_method.Method) (i : ℕ) (d : made_method.Method) (last index code : ℕ) → Rising s.methods → i < length xs → KeysRise (map method_key (map view.method xs))
    → MethodsTo s class codes old mid (map view.method (take i xs)) last → NameRanks s index (method_of_class class (view.method (get_or xs i d)))
    → Appends (SpellsMethodEntry (Shortest Spells)) mid new (index - last, ((view.method (get_or xs i d)).flags, code)) → MethodsTo s class (codes ++ code ∷ []) old new (map view.method (take (i + 1) xs)) index
methods_more s class codes old mid new xs i d last index code up lt rise f at a =
    let flags = (view.method (get_or xs i d)).flags in
    record {
      to = run_more view.method method_key (methods_rise s class up) xs i d index lt rise f.to at (flags, code) (record { method = at; flags = refl }) a;
      places = map-append (λ (e : MethodEntry). e.1.1) f.to.entries ((index - last, (flags, code)) ∷ []) ∙ ap (λ (l : List ℕ). l ++ code ∷ []) f.places;
    }

pub methods_added : {s : Five} {class : Descriptor} {codes old new : List ℕ} {ms : List Method} {last : ℕ} → MethodsTo s class codes old new ms last → AddsMethods (NameRanks s) class codes old new ms
methods_added f = record { bytes = f.to.bytes; entries = f.to.entries; whole = f.to.whole; spelled = f.to.spelled; run = f.to.run; places = f.places }
