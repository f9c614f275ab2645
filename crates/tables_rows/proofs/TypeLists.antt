-- Lists of types, by the indices that they are spelled with.
use Rattle.std.proofs.Common.{◌≢◌, Bool, true, false, ◌≡◌, ℕ, zero, suc, ◌+◌, ◌<◌, List, [], ◌∷◌, ◌++◌, length, map, take, get_or, refl, sym, ap, ◌∙◌, subst, arith}
use Rattle.std.specs.Prelude.{MatchBool, ◌==◌}
use Rattle.std.specs.List.{AllZip, AllByRecursion}
use Rattle.std.proofs.lemmas.List.{take_more}
use Rattle.dex_container.specs.Frame.{IsFramed}
use Rattle.program_types.specs.Content.{Units}
use Rattle.program_types.specs.View.{desc}
use Rattle.program_types.specs.declared.names.Desc.{Desc}
use Rattle.dex_container.specs.Where.{At, AtOrNone}
use Rattle.tables_rows.specs.RowFields.{type_string, proto_return, proto_parameters}
use Rattle.tables_rows.specs.Sorted.{IsBelow, ProtoIsBelow}
use Rattle.program_types.specs.Kinds.{void}
use Rattle.tables_rows.specs.Stands.{TypeStands, TypesAt, ListAt, SpellsTypes, SpellsIndexes}
use Rattle.tables_rows.specs.TableFaults.{ParametersAt}
use Rattle.tables_rows.proofs.RowReading.{string_one}
use Rattle.tables_rows.proofs.HalvesLaws.{list_or_none_one}

-- these indices spell the list of types at an offset
pub record HasIndexes (T : ℕ → Units → Type 0) (b : List ℕ) (off : ℕ) (ts : List Units) : Type 0 where
  pub indexes : List ℕ
  pub spelled : AtOrNone SpellsIndexes b 0x1001 4 off indexes
  pub named : AllZip T indexes ts

module _ (T : ℕ → Units → Type 0) (b : List ℕ) (off : ℕ) where
  pub list_indexes : (ts : List Units) → ListAt T b off ts → HasIndexes T b off ts
  list_indexes ts at = let x = by (off == 0) at in record { indexes = x.0; spelled = x.1.0; named = x.1.1 }
    where
      by : (z : Bool) → MatchBool z (ts ≡ []) (At (SpellsTypes T) b 0x1001 4 off ts) → (indexes : List ℕ) × (MatchBool z (indexes ≡ []) (At SpellsIndexes b 0x1001 4 off indexes) × AllZip T indexes ts)
      by true e = ([], (refl, subst (λ (x : List Units). AllZip T [] x) (sym e) tt))
      by false a =
          let s = a.spelled in
          (s.indexes, (record { begin = a.begin; end = a.end; section = a.section; after = a.after; aligned = a.aligned; size = a.size; within = a.within; spelled = s.spelled }, s.named))

  -- and back
  pub list_of : (indexes : List ℕ) (ts : List Units) → AtOrNone SpellsIndexes b 0x1001 4 off indexes → AllZip T indexes ts → ListAt T b off ts
  list_of indexes ts at named = by (off == 0) at
    where
      none : (xs : List ℕ) (ys : List Units) → xs ≡ [] → AllZip T xs ys → ys ≡ []
      none [] [] e z = refl
      none [] (y ∷ ys) e z = absurd z
      none (x ∷ xs) ys e z = absurd cc

      by : (z : Bool) → MatchBool z (indexes ≡ []) (At SpellsIndexes b 0x1001 4 off indexes) → MatchBool z (ts ≡ []) (At (SpellsTypes T) b 0x1001 4 off ts)
      by true e = none indexes ts e named
      by false a =
          record { begin = a.begin; end = a.end; section = a.section; after = a.after; aligned = a.aligned; size = a.size; within = a.within; spelled = record { indexes = indexes; spelled = a.spelled; named = named } }

  -- no list of indices, no list of types
  pub no_list : ((indexes : List ℕ) → AtOrNone SpellsIndexes b 0x1001 4 off indexes → ⊥) → (ts : List Units) → ListAt T b off ts → ⊥
  no_list none ts at = let x = list_indexes ts at in none x.indexes x.spelled

  -- an index that stands for no type
  pub no_type : (indexes : List ℕ) (j : ℕ) → IsFramed b → AtOrNone SpellsIndexes b 0x1001 4 off indexes → j < length indexes → ((t : Units) → T (get_or indexes j 0) t → ⊥) → (ts : List Units) → ListAt T b off ts → ⊥
  no_type indexes j framed at lt past ts types =
      let x = list_indexes ts types in
      let same : x.indexes ≡ indexes = list_or_none_one b framed 0x1001 4 off x.indexes indexes x.spelled at in
      type_at indexes ts j lt past (subst (λ (xs : List ℕ). AllZip T xs ts) same x.named)
    where
      type_at : (xs : List ℕ) (ys : List Units) (k : ℕ) → k < length xs → ((t : Units) → T (get_or xs k 0) t → ⊥) → AllZip T xs ys → ⊥
      type_at [] ys k lt past z = absurd (omega (arith, lt))
      type_at (x ∷ xs) [] k lt past z = absurd z
      type_at (x ∷ xs) (y ∷ ys) zero lt past z = past y z.0
      type_at (x ∷ xs) (y ∷ ys) (suc k) lt past z = type_at xs ys k (omega (arith, lt)) past z.1

-- one more type
pub zip_more : (T : ℕ → Units → Type 0) (indexes : List ℕ) (j : ℕ) (ts : List Units) (t : Units) → j < length indexes → AllZip T (take j indexes) ts → T (get_or indexes j 0) t → AllZip T (take (j + 1) indexes) (ts ++ t ∷ [])
zip_more T indexes j ts t lt zip stands = rw (take_more indexes j 0 lt) (push (take j indexes) ts zip)
  where
    push : (xs : List ℕ) (ys : List Units) → AllZip T xs ys → AllZip T (xs ++ get_or indexes j 0 ∷ []) (ys ++ t ∷ [])
    push [] [] z = (stands, tt)
    push [] (y ∷ ys) z = absurd z
    push (x ∷ xs) [] z = absurd z
    push (x ∷ xs) (y ∷ ys) z = (z.0, push xs ys z.1)

-- where indices stand for other types too, the list does
pub list_weaker : (T U : ℕ → Units → Type 0) (b : List ℕ) (off : ℕ) → ((i : ℕ) (t : Units) → T i t → U i t) → (ts : List Units) → ListAt T b off ts → ListAt U b off ts
list_weaker T U b off weaker ts at =
    let x = list_indexes T b off ts at in
    list_of U b off x.indexes ts x.spelled (each x.indexes ts x.named)
  where
    each : (xs : List ℕ) (ys : List Units) → AllZip T xs ys → AllZip U xs ys
    each [] [] z = tt
    each [] (y ∷ ys) z = absurd z
    each (x ∷ xs) [] z = absurd z
    each (x ∷ xs) (y ∷ ys) z = (weaker x y z.0, each xs ys z.1)

-- the same of the rows of a file
pub indexes_of : (b : List ℕ) (off : ℕ) (ts : List Units) → TypesAt b off ts → HasIndexes (TypeStands b) b off ts
indexes_of b off ts at = list_indexes (TypeStands b) b off ts at

pub types_of : (b : List ℕ) (off : ℕ) (indexes : List ℕ) (ts : List Units) → AtOrNone SpellsIndexes b 0x1001 4 off indexes → AllZip (TypeStands b) indexes ts → TypesAt b off ts
types_of b off indexes ts at named = list_of (TypeStands b) b off indexes ts at named

-- a row of types is one type
pub type_one : (b : List ℕ) (i : ℕ) (s t : Units) → IsFramed b → TypeStands b i s → TypeStands b i t → s ≡ t
type_one b i s t framed x y = string_one b (type_string b i) s t framed x.string y.string

-- at an offset stands one list of types
pub types_one : (b : List ℕ) (off : ℕ) (xs ys : List Units) → IsFramed b → TypesAt b off xs → TypesAt b off ys → xs ≡ ys
types_one b off xs ys framed p q =
    let x = indexes_of b off xs p in
    let y = indexes_of b off ys q in
    let same = list_or_none_one b framed 0x1001 4 off x.indexes y.indexes x.spelled y.spelled in
    zip_one y.indexes xs ys (subst (λ (zs : List ℕ). AllZip (TypeStands b) zs xs) same x.named) y.named
  where
    zip_one : (zs : List ℕ) (us vs : List Units) → AllZip (TypeStands b) zs us → AllZip (TypeStands b) zs vs → us ≡ vs
    zip_one [] [] [] m n = refl
    zip_one [] [] (v ∷ vs) m n = absurd n
    zip_one [] (u ∷ us) vs m n = absurd m
    zip_one (z ∷ zs) [] vs m n = absurd m
    zip_one (z ∷ zs) (u ∷ us) [] m n = absurd n
    zip_one (z ∷ zs) (u ∷ us) (v ∷ vs) m n = let e = type_one b z u v framed m.0 n.0 in rw (e, zip_one zs us vs m.1 n.1) refl

-- ---- the order of protos

module _ (b : List ℕ) (framed : IsFramed b) (i j : ℕ) (xs ys : List ℕ) (at_i : AtOrNone SpellsIndexes b 0x1001 4 (proto_parameters b i) xs) (at_j : AtOrNone SpellsIndexes b 0x1001 4 (proto_parameters b j) ys) where
  pub protos_below : IsBelow (proto_return b i ∷ xs) (proto_return b j ∷ ys) → ProtoIsBelow b i j
  protos_below below x y p q =
      let px : p.indexes ≡ xs = list_or_none_one b framed 0x1001 4 (proto_parameters b i) p.indexes xs p.params at_i in
      let qy : q.indexes ≡ ys = list_or_none_one b framed 0x1001 4 (proto_parameters b j) q.indexes ys q.params at_j in
      let x_is : x ≡ proto_return b i ∷ xs = p.key_is ∙ ap (λ l. proto_return b i ∷ l) px in
      let y_is : y ≡ proto_return b j ∷ ys = q.key_is ∙ ap (λ l. proto_return b j ∷ l) qy in
      subst (λ (k : List ℕ). IsBelow k y) (sym x_is) (subst (λ (k : List ℕ). IsBelow (proto_return b i ∷ xs) k) (sym y_is) below)

  pub below_protos : ProtoIsBelow b i j → IsBelow (proto_return b i ∷ xs) (proto_return b j ∷ ys)
  below_protos below =
      below (proto_return b i ∷ xs) (proto_return b j ∷ ys) (record { indexes = xs; key_is = refl; params = at_i }) (record { indexes = ys; key_is = refl; params = at_j })

-- where a row has no list of indices, nothing is to be in order
pub protos_below_none : (b : List ℕ) (i j : ℕ) → ((xs : List ℕ) → AtOrNone SpellsIndexes b 0x1001 4 (proto_parameters b i) xs → ⊥) → ProtoIsBelow b i j
protos_below_none b i j none x y p q = absurd (none p.indexes p.params)

pub protos_none_below : (b : List ℕ) (i j : ℕ) → ((ys : List ℕ) → AtOrNone SpellsIndexes b 0x1001 4 (proto_parameters b j) ys → ⊥) → ProtoIsBelow b i j
protos_none_below b i j none x y p q = absurd (none q.indexes q.params)

-- ---- parameters

-- a void parameter
pub void_parameter : (b : List ℕ) (off i : ℕ) (ts : List Units) → IsFramed b → TypesAt b off ts → i < length ts → get_or ts i [] ≡ void → (us : List Units) → ParametersAt b off us → ⊥
void_parameter b off i ts framed at lt is us p =
    let same = types_one b off us ts framed p.types at in
    void_at ts i lt is (subst (λ (zs : List Units). AllByRecursion (λ t. t ≢ void) zs) same p.values)
  where
    void_at : (zs : List Units) (k : ℕ) → k < length zs → get_or zs k [] ≡ void → AllByRecursion (λ t. t ≢ void) zs → ⊥
    void_at [] k lt is all = absurd (omega (arith, lt))
    void_at (z ∷ zs) zero lt is all = all.0 is
    void_at (z ∷ zs) (suc k) lt is all = void_at zs k (omega (arith, lt)) is all.1

-- one more type that is not void
pub values_more : (ts : List Units) (i : ℕ) → i < length ts → AllByRecursion (λ t. t ≢ void) (take i ts) → get_or ts i [] ≢ void → AllByRecursion (λ t. t ≢ void) (take (i + 1) ts)
values_more ts i lt all not = rw (take_more ts i [] lt) (push (take i ts) all)
  where
    push : (zs : List Units) → AllByRecursion (λ t. t ≢ void) zs → AllByRecursion (λ t. t ≢ void) (zs ++ get_or ts i [] ∷ [])
    push [] all = (not, tt)
    push (z ∷ zs) all = (all.0, push zs all.1)

-- the descriptor at an index
pub desc_at : (xs : List Desc) (i : ℕ) (d : Desc) → i < length xs → get_or (map desc xs) i [] ≡ desc (get_or xs i d)
desc_at [] i d lt = absurd (omega (arith, lt))
desc_at (x ∷ xs) zero d lt = refl
desc_at (x ∷ xs) (suc i) d lt = desc_at xs i d (omega (arith, lt))
