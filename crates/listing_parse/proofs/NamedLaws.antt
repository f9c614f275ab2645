-- What the instructions name, after a line more.
use Rattle.std.proofs.Common.{◌≡◌, ℕ, Bool, true, false, if◌then◌else◌, List, [], ◌∷◌, ◌++◌, Option, Some, None, zero, suc, sym, subst, rules}
use Rattle.std.specs.Prelude.{⊤, IfSome}
use Rattle.std.specs.List.{AllByRecursion}
use Rattle.std.specs.Ordering.{is_eq, is_lt}
use Rattle.dex_base.proofs.ListFacts.{all_append}
use Rattle.dex_insn.specs.declared.opcode.Format.{Format}
use Rattle.dex_insn.specs.declared.opcode.Format.TheVariants as format
use Rattle.dex_insn.specs.Opcodes.{format_of}
use Rattle.program_types.specs.Content.{Descriptor, Units, Insn, Member, Method, Code}
use Rattle.program_types.specs.Key.{Key, key_cmp}
use Rattle.program_rules.specs.Rules.{CodesHold, member_key, method_key}
use Rattle.program_rules.specs.Valid.{IsValidName}
use Rattle.program_rules.specs.inner.Valid.{InsnIsNamed, InsnsAreNamed}
use Rattle.listing_slots.specs.Data.{Datum, named, at, name_of}
use Rattle.listing_slots.specs.inner.ValidNames.{IsValidDatum, Spellings, StayValid}
use Rattle.listing_slots.specs.declared.kind.Kind.{Kind}
use Rattle.listing_slots.specs.declared.kind.Kind.TheVariants as kind
use Rattle.listing_lines.specs.Lines.{Line, first_line, open_class, end_class, super_line, implements_line, source_line, static_line, instance_line, direct_line, virtual_line, open_code, end_code, insn_line, try_line, catch_line, catch_all_line, insn_of, line_of}
use Rattle.listing_lines.specs.Needs.{earliest}
use Rattle.listing_lines.specs.Places.{is_start, is_top}
use Rattle.listing_parse.specs.Members.{Given, given_key, is_held, put_in, with_member}
use Rattle.listing_parse.specs.States.{Open, Owner, ClassPart, at_heads, at_members, after_method, OpenBody, CodePart, after_try, Block, at_top, in_class, in_code, State, stage_of, opened, closed, with_code, with_code_at, is_among, with_static, with_instance}
use Rattle.listing_parse.specs.States.{with_direct, with_virtual, with_superclass, with_source, with_interface, at_part, class_line, begun, noted, with_tries, with_catch, is_in_try, whole_code, code_line, inside, class_of, owner_of, with_body, code_ended, late_in, with_block, add}
use Rattle.listing_parse.specs.inner.Named.{MethodsAreNamed, OpenIsNamed, BlockIsNamed, StateIsNamed, ReadingIsNamed, StayNamed}
use Rattle.listing_parse.specs.Text.{Reading, begin, in_second, line_counted}
use Rattle.dex_base.proofs.OptionLaws.{IfSome-map}

-- ---- of one of two, and of what may be missing

either_way : {A : Type 0} (P : A → Type 0) (b : Bool) (x y : A) → P x → P y → P (if b then x else y)
either_way P true x y p q = p
either_way P false x y p q = q

any : {A : Type 0} (o : Option A) → IfSome o (λ (a : A). ⊤)
any None = tt
any (Some a) = tt

-- ---- what a line says

name_valid : (d : Datum) → IsValidDatum d → IsValidName (name_of d)
unfolding name_of
name_valid (named n) h = h
name_valid _ h = tt

at_valid : (ds : List Datum) (i : ℕ) → AllByRecursion IsValidDatum ds → IsValidName (name_of (at ds i))
unfolding name_of
at_valid [] i h = tt
at_valid (d ∷ ds) zero h = name_valid d h.0
at_valid (d ∷ ds) (suc i) h = at_valid ds i h.1

insn_named : (f : Option Format) (op : ℕ) (ds : List Datum) → AllByRecursion IsValidDatum ds → InsnIsNamed (insn_of f op ds)
unfolding insn_of
insn_named (Some format.F21c) op ds h = (at_valid ds 1 h, tt)
insn_named _ op ds h = search (rules, at_valid)

abbrev LineIsNamed : Line → Type 0
LineIsNamed (insn_line i) = InsnIsNamed i
LineIsNamed (direct_line m) = IfSome m.code InsnsAreNamed
LineIsNamed (virtual_line m) = IfSome m.code InsnsAreNamed
LineIsNamed _ = ⊤

line_named : (k : Kind) (ds : List Datum) → AllByRecursion IsValidDatum ds → LineIsNamed (line_of k ds)
unfolding line_of
line_named (kind.Plain op) ds h = insn_named (format_of op) op ds h
line_named _ ds h = tt

-- ---- the class

code_named : (ms : List Method) (k : Key) (c : Code) → MethodsAreNamed ms → InsnsAreNamed c → MethodsAreNamed (with_code ms k c)
code_named [] k c h i = tt
code_named (m ∷ ms) k c h i = either_way MethodsAreNamed (is_eq (key_cmp k (method_key m))) (record m { code = Some c } ∷ ms) (m ∷ with_code ms k c) (i, h.1) (h.0, code_named ms k c h.1 i)

code_at_named : (o : Open) (w : Owner) (c : Code) → OpenIsNamed o → InsnsAreNamed c → OpenIsNamed (with_code_at o w c)
code_at_named o w c h i = either_way OpenIsNamed w.direct (record o { directs = with_code o.directs w.method c }) (record o { virtuals = with_code o.virtuals w.method c }) (code_named o.directs w.method c h.0 i, h.1) (h.0, code_named o.virtuals w.method c h.1 i)

put_named : (m : Method) (ms : List Method) → IfSome m.code InsnsAreNamed → MethodsAreNamed ms → MethodsAreNamed (put_in method_key m ms)
put_named m [] n h = (n, tt)
put_named m (y ∷ ys) n h = either_way MethodsAreNamed (is_lt (key_cmp (method_key m) (method_key y))) (m ∷ (y ∷ ys)) (y ∷ put_in method_key m ys) (n, h) (h.0, put_named m ys n h.1)

member_named : (m : Method) (ms : List Method) → IfSome m.code InsnsAreNamed → MethodsAreNamed ms → IfSome (with_member method_key m ms) MethodsAreNamed
member_named m ms n h = either_way (λ (o : Option (List Method)). IfSome o MethodsAreNamed) (is_held method_key (method_key m) ms) None (Some (put_in method_key m ms)) tt (put_named m ms n h)

part_named : (p : ClassPart) (o : Option Open) → IfSome o OpenIsNamed → IfSome (at_part p o) (λ (q : Open × ClassPart). OpenIsNamed q.0)
part_named p o h = IfSome-map (λ c. (c, p)) OpenIsNamed (λ (q : Open × ClassPart). OpenIsNamed q.0) o (λ c k. k) h

superclass_named : (o : Open) (d : Descriptor) → OpenIsNamed o → IfSome (with_superclass o d) OpenIsNamed
unfolding with_superclass
superclass_named o d h = elim o.superclass as (λ s. IfSome (elim s [ None ↦ Some (record o { superclass = Some d }) | Some e ↦ None ]) OpenIsNamed) [ None ↦ h | Some e ↦ tt ]

source_named : (o : Open) (us : Units) → OpenIsNamed o → IfSome (with_source o us) OpenIsNamed
unfolding with_source
source_named o us h = elim o.source as (λ s. IfSome (elim s [ None ↦ Some (record o { source = Some us }) | Some e ↦ None ]) OpenIsNamed) [ None ↦ h | Some e ↦ tt ]

interface_named : (o : Open) (d : Descriptor) → OpenIsNamed o → IfSome (with_interface o d) OpenIsNamed
unfolding with_interface
interface_named o d h = either_way (λ (x : Option Open). IfSome x OpenIsNamed) (is_among o.interfaces d) None (Some (record o { interfaces = o.interfaces ++ d ∷ [] })) tt h

static_named : (o : Open) (g : Given) → OpenIsNamed o → IfSome (with_static o g) OpenIsNamed
unfolding with_static
static_named o g h = IfSome-map (λ gs. record o { statics = gs }) (λ (gs : List Given). ⊤) OpenIsNamed (with_member given_key g o.statics) (λ gs t. h) (any (with_member given_key g o.statics))

instance_named : (o : Open) (m : Member) → OpenIsNamed o → IfSome (with_instance o m) OpenIsNamed
unfolding with_instance
instance_named o m h = IfSome-map (λ ms. record o { instances = ms }) (λ (ms : List Member). ⊤) OpenIsNamed (with_member member_key m o.instances) (λ ms t. h) (any (with_member member_key m o.instances))

direct_named : (o : Open) (m : Method) → IfSome m.code InsnsAreNamed → OpenIsNamed o → IfSome (with_direct o m) OpenIsNamed
unfolding with_direct
direct_named o m n h = IfSome-map (λ ms. record o { directs = ms }) MethodsAreNamed OpenIsNamed (with_member method_key m o.directs) (λ ms k. (k, h.1)) (member_named m o.directs n h.0)

virtual_named : (o : Open) (m : Method) → IfSome m.code InsnsAreNamed → OpenIsNamed o → IfSome (with_virtual o m) OpenIsNamed
unfolding with_virtual
virtual_named o m n h = IfSome-map (λ ms. record o { virtuals = ms }) MethodsAreNamed OpenIsNamed (with_member method_key m o.virtuals) (λ ms k. (h.0, k)) (member_named m o.virtuals n h.1)

class_line_named : (o : Open) (l : Line) → LineIsNamed l → OpenIsNamed o → IfSome (class_line o l) (λ (q : Open × ClassPart). OpenIsNamed q.0)
class_line_named o (super_line d) n h = part_named at_heads (with_superclass o d) (superclass_named o d h)
class_line_named o (implements_line d) n h = part_named at_heads (with_interface o d) (interface_named o d h)
class_line_named o (source_line us) n h = part_named at_heads (with_source o us) (source_named o us h)
class_line_named o (static_line m v) n h = part_named at_members (with_static o (record { field = m; value = v })) (static_named o (record { field = m; value = v }) h)
class_line_named o (instance_line m) n h = part_named at_members (with_instance o m) (instance_named o m h)
class_line_named o (direct_line m) n h = part_named (after_method (record { direct = true; method = method_key m })) (with_direct o m) (direct_named o m n h)
class_line_named o (virtual_line m) n h = part_named (after_method (record { direct = false; method = method_key m })) (with_virtual o m) (virtual_named o m n h)
class_line_named o _ n h = tt

-- ---- the code

abbrev BodyIsNamed : OpenBody × CodePart → Type 0
BodyIsNamed q = AllByRecursion InsnIsNamed q.0.insns

code_line_named : (b : OpenBody) (p : CodePart) (l : Line) → LineIsNamed l → AllByRecursion InsnIsNamed b.insns → IfSome (code_line b p l) BodyIsNamed
code_line_named b p (insn_line i) n h = all_append InsnIsNamed b.insns (i ∷ []) h (n, tt)
code_line_named b p (try_line from to) n h = h
code_line_named b p (catch_line d k) n h = IfSome-map (λ q. (b, q)) (λ (q : CodePart). ⊤) BodyIsNamed (with_catch p (record { ty = d; at = k })) (λ q t. h) (any (with_catch p (record { ty = d; at = k })))
code_line_named b p (catch_all_line k) n h = either_way (λ (o : Option (OpenBody × CodePart)). IfSome o BodyIsNamed) (is_in_try p) (Some (with_tries b p (Some k), after_try)) None h tt
code_line_named b p _ n h = tt

-- ---- the block

inside_named : (k : Block) (n : ℕ) (l : Line) → LineIsNamed l → BlockIsNamed k → IfSome (inside k n l) BlockIsNamed
unfolding inside
inside_named (in_class o p) n l m h = IfSome-map (λ q. in_class q.0 q.1) (λ (q : Open × ClassPart). OpenIsNamed q.0) BlockIsNamed (class_line o l) (λ q k. k) (class_line_named o l m h)
inside_named (in_code o b p) n l m h = IfSome-map (λ q. in_code o q.0 q.1) BodyIsNamed BlockIsNamed (code_line (noted b n l) p l) (λ q k. (h.0, k)) (code_line_named (noted b n l) p l m h.1)
inside_named _ n l m h = tt

class_of_named : (k : Block) → BlockIsNamed k → IfSome (class_of k) OpenIsNamed
class_of_named (in_class o p) h = h
class_of_named _ h = tt

with_body_named : (k : Block) (b : OpenBody) → BlockIsNamed k → AllByRecursion InsnIsNamed b.insns → BlockIsNamed (with_body k b)
with_body_named (in_class o p) b h i = (h, i)
with_body_named _ b h i = h

code_ended_named : (k : Block) → BlockIsNamed k → IfSome (code_ended k) BlockIsNamed
code_ended_named (in_code o b p) h = code_at_named o b.owner (whole_code (with_tries b p None)) h.0 h.1
code_ended_named _ h = tt

-- ---- a line more

add_named : (s : State) (l : Line) → LineIsNamed l → StateIsNamed s → IfSome (add s l) StateIsNamed
unfolding add
add_named s first_line n h = either_way (λ (o : Option State). IfSome o StateIsNamed) (is_start (stage_of s.block)) (Some (with_block s at_top)) None (record { done = h.done; block = tt }) tt
add_named s (open_class d f) n h = either_way (λ (o : Option State). IfSome o StateIsNamed) (is_top (stage_of s.block)) (Some (with_block s (in_class (opened d f) at_heads))) None (record { done = h.done; block = (tt, tt) }) tt
add_named s end_class n h =
    IfSome-map (λ o. record s { done = s.done ++ closed o ∷ []; block = at_top }) OpenIsNamed StateIsNamed (class_of s.block)
    (λ o k. record { done = all_append (CodesHold InsnsAreNamed) s.done (closed o ∷ []) h.done (record { directs = k.0; virtuals = k.1 }, tt); block = tt }) (class_of_named s.block h.block)
add_named s (open_code r i u) n h = IfSome-map (λ w. with_block s (with_body s.block (begun w r i u))) (λ (w : Owner). ⊤) StateIsNamed (owner_of s.block) (λ w t. record { done = h.done; block = with_body_named s.block (begun w r i u) h.block tt }) (any (owner_of s.block))
add_named s end_code n h = IfSome-map (λ b. record s { block = b; late = earliest s.late (late_in s.block) }) BlockIsNamed StateIsNamed (code_ended s.block) (λ b k. record { done = h.done; block = k }) (code_ended_named s.block h.block)
add_named s l n h = IfSome-map (λ b. with_block s b) BlockIsNamed StateIsNamed (inside s.block s.lines l) (λ b k. record { done = h.done; block = k }) (inside_named s.block s.lines l n h.block)

-- ---- a reading

pub first_named : (r : Reading) → r ≡ begin → StateIsNamed r.base
first_named r e = subst (λ (x : Reading). StateIsNamed x.base) (sym e) (record { done = tt; block = tt })

pub read_named : (old new : Spellings) (r t : Reading) (k : Kind) (ds : List Datum) → StayValid old new ds → add r.base (line_of k ds) ≡ Some t.base → ReadingIsNamed old r → ReadingIsNamed new t
read_named old new r t k ds stay e n = λ valid.
    let h = stay valid in
    subst (λ (o : Option State). IfSome o StateIsNamed) e (add_named r.base (line_of k ds) (line_named k ds h.1) (n h.0))

pub insn_read_named : (old new : Spellings) (r t : Reading) (i : Insn) → StayNamed old new i → add r.base (insn_line i) ≡ Some t.base → ReadingIsNamed old r → ReadingIsNamed new t
insn_read_named old new r t i stay e n = λ valid.
    let h = stay valid in
    subst (λ (o : Option State). IfSome o StateIsNamed) e (add_named r.base (insn_line i) h.1 (n h.0))

pub second_named : (k : Spellings) (r t : Reading) → t ≡ in_second r → ReadingIsNamed k r → ReadingIsNamed k t
second_named k r t e n = λ valid. subst (λ (x : Reading). StateIsNamed x.base) (sym e) (record { done = (n valid).done; block = tt })

pub counted_named : (k : Spellings) (r t : Reading) → t ≡ line_counted r → ReadingIsNamed k r → ReadingIsNamed k t
counted_named k r t e n = λ valid. subst (λ (x : Reading). StateIsNamed x.base) (sym e) (record { done = (n valid).done; block = (n valid).block })
