-- Names in words: each is read in one way.
use Rattle.std.proofs.Common.{◌≡◌, ◌≢◌, ℕ, suc, ◌<◌, ◌≤◌, inl, inr, ◌⊎◌, List, [], ◌∷◌, ◌++◌, length, get_or, take, drop, refl, sym, ap, subst, ◌∙◌, append_assoc, arith, eq-eqb}
use Rattle.std.proofs.lemmas.List.{take-append-drop}
use Rattle.std.proofs.Math.Seq.{take-append_seam}
use Rattle.std.proofs.lemmas.Bool.{ne_eqb, cases_eq}
use Rattle.std.specs.List.{flat_map, AllByRecursion}
use Rattle.dex_base.specs.Descriptor.{IsDescriptor, IsMemberName, NoFront}
use Rattle.dex_base.proofs.NameUnits.{IsPlain, descriptor_prefix_free, member_units_plain, descriptor_not_close}
use Rattle.program_types.specs.Content.{Proto, FieldRef, MethodRef}
use Rattle.listing_words.specs.Taking.{EachTaken}
use Rattle.listing_words.specs.inner.Taking.{NoneAt}
use Rattle.listing_words.specs.Names.{TakesNameUnit, SpellsUnits, IsProtoText, IsFieldText, IsMethodText}
use Rattle.listing_words.specs.inner.Names.{HasNameUnit, TakesDescriptor, IsMemberText, up_to, from}
use Rattle.listing_words.proofs.TakingLaws.{IsDecided, Each-one}

takes_has : (text : List ℕ) (u : ℕ) (rest : List ℕ) → TakesNameUnit text u rest → (len : ℕ) × HasNameUnit text u len
takes_has text u rest h = elim h [
  | inl p ↦ (1, rw p.1 (inl (p.0, refl, omega arith, refl)))
  | inr p ↦ (6, rw p.joined (inr (refl, (omega arith, refl, refl, p.digits.0, p.digits.1, p.digits.2, p.digits.3, p.number))))
]

pub name_unit_none : (text : List ℕ) → ((u len : ℕ) → HasNameUnit text u len → ⊥) → NoneAt TakesNameUnit text
name_unit_none text none u rest h = let x = takes_has text u rest h in none u x.0 x.1

pub name_unit_decided : IsDecided TakesNameUnit
name_unit_decided text v w r s p q = elim p [
  | inl a ↦ elim q [
    | inl b ↦ let i = a.1 in let j = b.1 in (cc, cc)
    | inr b ↦ let i = a.1 in let j = b.joined in let k : v ≡ 92 = cc in absurd (a.0 k)
  ]
  | inr a ↦ elim q [
    | inl b ↦ let i = a.joined in let j = b.1 in let k : w ≡ 92 = cc in absurd (b.0 k)
    | inr b ↦ let i = a.joined in let j = b.joined in let k = a.number in let l = b.number in
        let e1 : a.a ≡ b.a = cc in let e2 : a.b ≡ b.b = cc in let e3 : a.c ≡ b.c = cc in let e4 : a.d ≡ b.d = cc in
        (k ∙ rw (e1, e2, e3, e4) (sym l), cc)
  ]
]

name_end : NoneAt TakesNameUnit []
name_end u more h = elim h [
  | inl p ↦ let e = p.1 in cc
  | inr p ↦ let e = p.joined in cc
]

-- a word has its units in one way
pub units_one : (text us vs : List ℕ) → SpellsUnits text us → SpellsUnits text vs → us ≡ vs
units_one text us vs p q = (Each-one TakesNameUnit name_unit_decided us vs text [] [] p q name_end name_end).0

pub units_none : (text us rest : List ℕ) → EachTaken TakesNameUnit text us rest → NoneAt TakesNameUnit rest → length rest ≢ 0 → (vs : List ℕ) → SpellsUnits text vs → ⊥
units_none text us rest p n some vs q = some (ap length (Each-one TakesNameUnit name_unit_decided us vs text rest [] p q n name_end).1)

plain_taken : (plain rest : List ℕ) → ((k : ℕ) → k < length plain → get_or plain k 0 ≢ 92) → EachTaken TakesNameUnit (plain ++ rest) plain rest
plain_taken [] rest p = refl
plain_taken (c ∷ plain) rest p = (plain ++ rest, inl (p 0 (omega arith), refl), plain_taken plain rest (λ k h. p (suc k) (omega (arith, h))))

-- bytes that begin no escape are units as they stand
pub read_taken : (word plain rest room more : List ℕ) (n : ℕ) → word ≡ plain ++ rest → ((k : ℕ) → k < length plain → get_or plain k 0 ≢ 92)
    → room ≡ plain → n ≡ length plain → EachTaken TakesNameUnit word (take n (room ++ more)) rest
read_taken word plain rest room more n e p r l = rw (e, r, l, take-append_seam plain more) (plain_taken plain rest p)

-- ---- descriptors one after the other

no_descriptor : (x : List ℕ) → IsDescriptor [] → ⊥
no_descriptor x d = let one = descriptor_prefix_free [] (86 ∷ []) (86 ∷ []) [] d (inl refl) refl in let e = one.0 in cc

pub descriptor_decided : IsDecided TakesDescriptor
descriptor_decided text v w r s p q = descriptor_prefix_free v w r s p.0 q.0 (sym p.1 ∙ q.1)

pub no_front : (text : List ℕ) → NoFront IsDescriptor text → NoneAt TakesDescriptor text
no_front text n d rest h = n d rest h.1 h.0

close_stops : (rest : List ℕ) → NoneAt TakesDescriptor (41 ∷ rest)
close_stops rest [] more h = no_descriptor [] h.0
close_stops rest (c ∷ d) more h = let e = h.1 in let f : 41 ≡ c = cc in descriptor_not_close (c ∷ d) h.0 (sym f)

pub params_each : (ps : List (List ℕ)) (rest : List ℕ) → AllByRecursion IsDescriptor ps → EachTaken TakesDescriptor (flat_map (λ t. t) ps ++ rest) ps rest
params_each [] rest h = refl
params_each (p ∷ ps) rest h = (flat_map (λ t. t) ps ++ rest, (h.0, append_assoc p (flat_map (λ t. t) ps) rest), params_each ps rest h.1)

pub each_params : (text : List ℕ) (ps : List (List ℕ)) (rest : List ℕ) → EachTaken TakesDescriptor text ps rest → AllByRecursion IsDescriptor ps × (text ≡ flat_map (λ t. t) ps ++ rest)
each_params text [] rest h = (tt, h)
each_params text (p ∷ ps) rest h = let more = each_params h.0 ps rest h.2 in
    ((h.1.0, more.0), h.1.1 ∙ ap (λ t. p ++ t) more.1 ∙ sym (append_assoc p (flat_map (λ t. t) ps) rest))

pub proto_found : (text : List ℕ) (ps : List (List ℕ)) (rest ret : List ℕ) (p : Proto) → EachTaken TakesDescriptor text ps rest → rest ≡ 41 ∷ ret → IsDescriptor ret → p ≡ record { ret = ret; params = ps } → IsProtoText (40 ∷ text) p
proto_found text ps rest ret p h e d is = rw is (let m = each_params text ps rest h in record { params = m.0; ret = d; joined = ap (λ t. 40 ∷ t) (m.1 ∙ ap (λ t. flat_map (λ u. u) ps ++ t) e) })

-- where the parameters end, `)` and the type stand
pub proto_rest : (text : List ℕ) (ps : List (List ℕ)) (rest : List ℕ) → EachTaken TakesDescriptor text ps rest → NoneAt TakesDescriptor rest → (p : Proto) → IsProtoText (40 ∷ text) p → (p.params ≡ ps) × (rest ≡ 41 ∷ p.ret)
proto_rest text ps rest h n p q =
    let j = q.joined in
    let e : text ≡ flat_map (λ t. t) p.params ++ (41 ∷ p.ret) = cc in
    let f : EachTaken TakesDescriptor text p.params (41 ∷ p.ret) = rw e (params_each p.params (41 ∷ p.ret) q.params) in
    let one = Each-one TakesDescriptor descriptor_decided p.params ps text (41 ∷ p.ret) rest f h (close_stops p.ret) n in
    (one.0, sym one.1)

pub proto_none : (text : List ℕ) (ps : List (List ℕ)) (rest : List ℕ) → EachTaken TakesDescriptor text ps rest → NoneAt TakesDescriptor rest → ((ret : List ℕ) → rest ≡ 41 ∷ ret → IsDescriptor ret → ⊥) → (p : Proto) → IsProtoText (40 ∷ text) p → ⊥
proto_none text ps rest h n f p q = f p.ret (proto_rest text ps rest h n p q).1 q.ret

pub proto_one : (us : List ℕ) (p q : Proto) → IsProtoText us p → IsProtoText us q → p ≡ q
proto_one us p q a b =
    let j = b.joined in
    let h = params_each q.params (41 ∷ q.ret) b.params in
    let m = proto_rest (flat_map (λ t. t) q.params ++ (41 ∷ q.ret)) q.params (41 ∷ q.ret) h (close_stops q.ret) p (subst (λ t. IsProtoText t p) j a) in
    let e = m.0 in let f = m.1 in let g : p.ret ≡ q.ret = cc in rw (← e, ← g) refl

-- ---- members

pub stop_front : (stop : ℕ) (name tail : List ℕ) → AllByRecursion (λ u. u ≢ stop) name → (up_to stop (name ++ (stop ∷ tail)) ≡ name) × (from stop (name ++ (stop ∷ tail)) ≡ stop ∷ tail)
stop_front stop [] tail h = rw (eq-eqb stop stop refl) (refl, refl)
stop_front stop (c ∷ name) tail h = let m = stop_front stop name tail h.1 in rw (ne_eqb c stop h.0) (ap (λ t. c ∷ t) m.0, m.1)

pub stop_joined : (stop : ℕ) (us : List ℕ) → us ≡ up_to stop us ++ from stop us
stop_joined stop [] = refl
stop_joined stop (c ∷ us) = elim (cases_eq c stop) [
  | inl e ↦ rw (eq-eqb c stop e) refl
  | inr n ↦ rw (ne_eqb c stop n) (ap (λ t. c ∷ t) (stop_joined stop us))
]

pub stop_first : (stop : ℕ) (us : List ℕ) (c : ℕ) (tail : List ℕ) → from stop us ≡ c ∷ tail → c ≡ stop
stop_first stop [] c tail e = cc
stop_first stop (d ∷ us) c tail e = elim (cases_eq d stop) [
  | inl i ↦ let f = rw (eq-eqb d stop i) at e in cc
  | inr n ↦ stop_first stop us c tail (rw (ne_eqb d stop n) at e)
]

plain_stop : (stop : ℕ) → ((stop ≡ 58) ⊎ (stop ≡ 40)) → (us : List ℕ) → AllByRecursion IsPlain us → AllByRecursion (λ u. u ≢ stop) us
plain_stop stop s [] h = tt
plain_stop stop s (u ∷ us) h = (elim s [ inl e ↦ (λ f. h.0.3 (f ∙ e)) | inr e ↦ (λ f. h.0.1 (f ∙ e)) ], plain_stop stop s us h.1)

-- a member's text is in one way
pub member_parts : (stop : ℕ) → ((stop ≡ 58) ⊎ (stop ≡ 40)) → (us front rest class name tail : List ℕ) → IsDescriptor front → us ≡ front ++ rest → IsMemberText stop us class name tail
    → (class ≡ front) × ((more : List ℕ) × (rest ≡ 45 ∷ 62 ∷ more) × (up_to stop more ≡ name) × (from stop more ≡ stop ∷ tail))
member_parts stop s us front rest class name tail d e m =
    let one = descriptor_prefix_free class front (45 ∷ 62 ∷ (name ++ (stop ∷ tail))) rest m.is_class d (sym m.joined ∙ e) in
    let f = stop_front stop name tail (plain_stop stop s name (member_units_plain name m.is_name)) in
    (one.0, (name ++ (stop ∷ tail), sym one.1, f.0, f.1))

pub member_one : (stop : ℕ) → ((stop ≡ 58) ⊎ (stop ≡ 40)) → (us a m t b n u : List ℕ) → IsMemberText stop us a m t → IsMemberText stop us b n u → (a ≡ b) × (m ≡ n) × (t ≡ u)
member_one stop s us a m t b n u p q =
    let x = member_parts stop s us b (45 ∷ 62 ∷ (n ++ (stop ∷ u))) a m t q.is_class q.joined p in
    let y = stop_front stop n u (plain_stop stop s n (member_units_plain n q.is_name)) in
    let e = x.1.1 in let f : x.1.0 ≡ n ++ (stop ∷ u) = cc in
    let g = x.1.2 in let h = x.1.3 in let i = y.0 in let j = y.1 in
    (x.0, sym (rw f at g) ∙ i, (let k : stop ∷ t ≡ stop ∷ u = sym (rw f at h) ∙ j in cc))

pub field_member : (us : List ℕ) (f : FieldRef) → IsFieldText us f → IsMemberText 58 us f.class f.name f.ty
field_member us f h = record { is_class = h.class; is_name = h.name; joined = h.joined }

pub field_one : (us : List ℕ) (f g : FieldRef) → IsFieldText us f → IsFieldText us g → f ≡ g
field_one us f g p q = let m = member_one 58 (inl refl) us f.class f.name f.ty g.class g.name g.ty (field_member us f p) (field_member us g q) in
    let a = m.0 in let b = m.1 in let c = m.2 in rw (← a, ← b, ← c) refl

pub method_member : (us : List ℕ) (m : MethodRef) → IsMethodText us m → (tail : List ℕ) × IsMemberText 40 us m.class m.name tail × IsProtoText (40 ∷ tail) m.proto
method_member us m h =
    let j = h.proto.joined in
    (flat_map (λ t. t) m.proto.params ++ (41 ∷ m.proto.ret), record { is_class = h.class; is_name = h.name; joined = h.joined ∙ rw j refl }, rw j at h.proto)

pub method_one : (us : List ℕ) (m n : MethodRef) → IsMethodText us m → IsMethodText us n → m ≡ n
method_one us m n p q =
    let a = method_member us m p in let b = method_member us n q in
    let o = member_one 40 (inr refl) us m.class m.name a.0 n.class n.name b.0 a.1 b.1 in
    let t = o.2 in
    let r = proto_one (40 ∷ a.0) m.proto n.proto a.2 (subst (λ u. IsProtoText (40 ∷ u) n.proto) (sym t) b.2) in
    let c = o.0 in let d = o.1 in rw (← c, ← d, ← r) refl

-- ---- the parts of a member's text, as they are found

pub member_rest : (stop : ℕ) → ((stop ≡ 58) ⊎ (stop ≡ 40)) → (us rest : List ℕ) (n : ℕ) → IsDescriptor (take n us) → rest ≡ drop n us → (class name tail : List ℕ) → IsMemberText stop us class name tail
    → (more : List ℕ) × (rest ≡ 45 ∷ 62 ∷ more) × (up_to stop more ≡ name) × (from stop more ≡ stop ∷ tail)
member_rest stop s us rest n d e class name tail m = (member_parts stop s us (take n us) rest class name tail d (sym (rw e (take-append-drop n us))) m).1

pub member_none : (stop : ℕ) → ((stop ≡ 58) ⊎ (stop ≡ 40)) → (us rest more : List ℕ) (n : ℕ) → IsDescriptor (take n us) → rest ≡ drop n us → more ≡ drop 2 rest
    → ((name tail : List ℕ) → up_to stop more ≡ name → from stop more ≡ stop ∷ tail → IsMemberName name → ⊥) → (class name tail : List ℕ) → IsMemberText stop us class name tail → ⊥
member_none stop s us rest more n d e f refuse class name tail m =
    let x = member_rest stop s us rest n d e class name tail m in
    let i : more ≡ x.0 = f ∙ ap (drop 2) x.1 in
    refuse name tail (ap (up_to stop) i ∙ x.2) (ap (from stop) i ∙ x.3) m.is_name

pub member_found : (stop : ℕ) (us class rest more name end tail : List ℕ) (n c : ℕ) → IsDescriptor (take n us) → class ≡ take n us → rest ≡ drop n us → 2 ≤ length rest → get_or rest 0 0 ≡ 45 → get_or rest 1 0 ≡ 62
    → more ≡ drop 2 rest → name ≡ up_to stop more → end ≡ from stop more → end ≡ c ∷ tail → IsMemberName name → IsMemberText stop us class name tail
member_found stop us class (p ∷ q ∷ rest) more name end tail n c d a e l x y f g h i m =
    let k : c ≡ stop = stop_first stop more c tail (sym h ∙ i) in
    let j : more ≡ name ++ (stop ∷ tail) = stop_joined stop more ∙ rw (← g, ← h, i, k) refl in
    record {
      is_class = rw a d;
      is_name = m;
      joined = sym (take-append-drop n us) ∙ rw (← a, ← e, x, y, ← f, j) refl;
    }
member_found stop us class _ more name end tail n c d a e l x y f g h i m = absurd (omega arith)

pub front_taken : (text front rest : List ℕ) (n : ℕ) → IsDescriptor (take n text) → front ≡ take n text → rest ≡ drop n text → TakesDescriptor text front rest
front_taken text front rest n d e f = (rw e d, rw (e, f) (sym (take-append-drop n text)))
