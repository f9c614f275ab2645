-- A row denotes one name, and the tables of a file have exactly its rows.
use Rattle.std.proofs.Common.{◌≡◌, ℕ, suc, ◌<◌, List, [], ◌∷◌, length, get_or, Some, refl, sym, ap, ◌∙◌, arith, slice_get}
use Rattle.std.proofs.lemmas.Option.{slice_get-get_or}
use Rattle.dex_container.specs.Frame.{IsFramed}
use Rattle.dex_container.specs.Layout.{size_of}
use Rattle.program_types.specs.Content.{Units, Proto, FieldRef, MethodRef, Name, OfText, OfDesc, OfField, OfMethod}
use Rattle.tables_rows.specs.Names.{Names, AreRows, AreNamesOf, NameIsAt, TypeIsAt}
use Rattle.tables_rows.specs.RowFields.{proto_return, proto_parameters, member_class, member_kind, member_name}
use Rattle.tables_rows.specs.Stands.{StringStands, TypeStands, ProtoStands, FieldStands, MethodStands, NameStands, ListAt, TypesAt}
use Rattle.tables_rows.proofs.RowReading.{string_one}
use Rattle.tables_rows.proofs.TypeLists.{type_one, types_one, list_weaker}

pub proto_one : (b : List ℕ) → IsFramed b → (i : ℕ) (p q : Proto) → ProtoStands b i p → ProtoStands b i q → p ≡ q
proto_one b framed i p q x y =
    let ret = type_one b (proto_return b i) p.ret q.ret framed x.ret y.ret in
    let params = types_one b (proto_parameters b i) p.params q.params framed x.params y.params in
    (λ k. record { ret = ret k; params = params k })

pub field_one : (b : List ℕ) → IsFramed b → (i : ℕ) (f g : FieldRef) → FieldStands b i f → FieldStands b i g → f ≡ g
field_one b framed i f g x y =
    let class = type_one b (member_class b 3 i) f.class g.class framed x.class y.class in
    let name = string_one b (member_name b 3 i) f.name g.name framed x.name y.name in
    let ty = type_one b (member_kind b 3 i) f.ty g.ty framed x.ty y.ty in
    (λ k. record { class = class k; name = name k; ty = ty k })

pub method_one : (b : List ℕ) → IsFramed b → (i : ℕ) (m n : MethodRef) → MethodStands b i m → MethodStands b i n → m ≡ n
method_one b framed i m n x y =
    let class = type_one b (member_class b 4 i) m.class n.class framed x.class y.class in
    let name = string_one b (member_name b 4 i) m.name n.name framed x.name y.name in
    let proto = proto_one b framed (member_kind b 4 i) m.proto n.proto x.proto y.proto in
    (λ k. record { class = class k; name = name k; proto = proto k })

-- a row that denotes one name is that row of the table in memory
pub row_is : {V : Type 0} (S : List ℕ → ℕ → V → Type 0) (b : List ℕ) (k i : ℕ) (names : List V) (v : V) → ((w : V) → S b i w → w ≡ v) → AreRows S b k names → i < size_of b k → slice_get names i ≡ Some v
row_is S b k i names v one rows lt =
    let size = rows.count in
    let within : i < length names = omega (arith, size, lt) in
    let got = slice_get-get_or names i v within in
    got ∙ ap Some (one (get_or names i v) (rows.each i (get_or names i v) got))

-- the lists of types by the rows in memory are those of the file
pub list_stands : (b : List ℕ) (types : List Units) (off : ℕ) (ts : List Units) → AreRows TypeStands b 1 types → ListAt (TypeIsAt types) b off ts → TypesAt b off ts
list_stands b types off ts rows at = list_weaker (TypeIsAt types) (TypeStands b) b off rows.each ts at

pub stands_list : (b : List ℕ) (types : List Units) (off : ℕ) (ts : List Units) → IsFramed b → AreRows TypeStands b 1 types → TypesAt b off ts → ListAt (TypeIsAt types) b off ts
stands_list b types off ts framed rows at =
    list_weaker (TypeStands b) (TypeIsAt types) b off (λ i t st. row_is TypeStands b 1 i types t (λ w x. type_one b i w t framed x st) rows st.row) ts at

pub names_stand : (b : List ℕ) (names : Names) (i : ℕ) (n : Name) → AreNamesOf b names → NameIsAt names i n → NameStands b i n
names_stand b names i (OfText s) are at = are.strings.each i s at
names_stand b names i (OfDesc t) are at = are.types.each i t at
names_stand b names i (OfField f) are at = are.fields.each i f at
names_stand b names i (OfMethod m) are at = are.methods.each i m at

pub stands_names : (b : List ℕ) (names : Names) (i : ℕ) (n : Name) → IsFramed b → AreNamesOf b names → NameStands b i n → NameIsAt names i n
stands_names b names i (OfText s) framed are st = row_is StringStands b 0 i names.strings s (λ w x. string_one b i w s framed x st) are.strings st.row
stands_names b names i (OfDesc t) framed are st = row_is TypeStands b 1 i names.types t (λ w x. type_one b i w t framed x st) are.types st.row
stands_names b names i (OfField f) framed are st = row_is FieldStands b 3 i names.fields f (λ w x. field_one b framed i w f x st) are.fields st.row
stands_names b names i (OfMethod m) framed are st = row_is MethodStands b 4 i names.methods m (λ w x. method_one b framed i w m x st) are.methods st.row

-- the same rows are the same names
rows_one : {V : Type 0} (S : List ℕ → ℕ → V → Type 0) (b : List ℕ) (k : ℕ) (xs ys : List V) → ((i : ℕ) (v w : V) → S b i v → S b i w → v ≡ w) → AreRows S b k xs → AreRows S b k ys → xs ≡ ys
rows_one {V} S b k xs ys one x y = same xs ys (x.count ∙ sym y.count) (λ i v w e f. one i v w (x.each i v e) (y.each i w f))
  where
    same : (us vs : List V) → length us ≡ length vs → ((i : ℕ) (v w : V) → slice_get us i ≡ Some v → slice_get vs i ≡ Some w → v ≡ w) → us ≡ vs
    same [] [] size alike = refl
    same [] (v ∷ vs) size alike = absurd (omega (arith, size))
    same (u ∷ us) [] size alike = absurd (omega (arith, size))
    same (u ∷ us) (v ∷ vs) size alike = rw (alike 0 u v refl refl, same us vs (omega (arith, size)) (λ i. alike (suc i))) refl

pub names_one : (b : List ℕ) (x y : Names) → IsFramed b → AreNamesOf b x → AreNamesOf b y → x ≡ y
names_one b x y framed p q =
    let strings = rows_one StringStands b 0 x.strings y.strings (λ i v w s t. string_one b i v w framed s t) p.strings q.strings in
    let types = rows_one TypeStands b 1 x.types y.types (λ i v w s t. type_one b i v w framed s t) p.types q.types in
    let protos = rows_one ProtoStands b 2 x.protos y.protos (λ i v w s t. proto_one b framed i v w s t) p.protos q.protos in
    let fields = rows_one FieldStands b 3 x.fields y.fields (λ i v w s t. field_one b framed i v w s t) p.fields q.fields in
    let methods = rows_one MethodStands b 4 x.methods y.methods (λ i v w s t. method_one b framed i v w s t) p.methods q.methods in
    (λ k. record { strings = strings k; types = types k; protos = protos k; fields = fields k; methods = methods k })
