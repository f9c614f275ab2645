-- A name is told by its key.
use Rattle.std.proofs.Common.{◌≡◌}
use Rattle.program_types.specs.Content.{Units, Proto, FieldRef, MethodRef}
use Rattle.program_types.specs.Key.{text_key, proto_key, field_ref_key, method_ref_key}

pub text_told : (t u : Units) → text_key t ≡ text_key u → t ≡ u
text_told t u e = cc e

pub proto_told : (p q : Proto) → proto_key p ≡ proto_key q → p ≡ q
proto_told p q e =
    let ret : p.ret ≡ q.ret = cc e in
    let params : p.params ≡ q.params = cc e in
    λ i. record { ret = ret i; params = params i }

pub field_told : (f g : FieldRef) → field_ref_key f ≡ field_ref_key g → f ≡ g
field_told f g e =
    let class : f.class ≡ g.class = cc e in
    let name : f.name ≡ g.name = cc e in
    let ty : f.ty ≡ g.ty = cc e in
    λ i. record { class = class i; name = name i; ty = ty i }

pub method_told : (m n : MethodRef) → method_ref_key m ≡ method_ref_key n → m ≡ n
method_told m n e =
    let class : m.class ≡ n.class = cc e in
    let name : m.name ≡ n.name = cc e in
    let key : proto_key m.proto ≡ proto_key n.proto = cc e in
    let proto = proto_told m.proto n.proto key in
    λ i. record { class = class i; name = name i; proto = proto i }
