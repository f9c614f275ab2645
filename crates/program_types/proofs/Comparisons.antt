-- The derived `==` of names says that their contents are equal.
use Rattle.std.proofs.Common.{◌≡◌, ℕ, Bool, refl, ap, List, ◌&&◌, nat_eq, map}
use Rattle.std.specs.Bool.{Decides}
use Rattle.std.specs.Cmp.Derive.Mapped.{pointwise-map}
use Rattle.std.proofs.lemmas.Slice.Eq.{slice_eq-Decides, bytes_eq-Decides}
use Rattle.std.proofs.lemmas.Bool.Decides.{Decides-and}
use Rattle.program_types.specs.View.{str, desc, proto, method_ref}
use Rattle.program_types.specs.declared.names.Desc.{Desc}
use Rattle.program_types.specs.declared.names.MethodRef.{MethodRef}
use Rattle.program_types.specs.declared.names.Proto.{Proto}
use lib.Pointwise.{pointwise}

-- what the derived `==` of each kind computes
abbrev pub units_eq : List ℕ → List ℕ → Bool
units_eq = pointwise nat_eq

abbrev descs_eq : List Desc → List Desc → Bool
descs_eq = pointwise (λ d e. units_eq (desc d) (desc e))

abbrev pub derived_proto_eq : Proto → Proto → Bool
derived_proto_eq p q = units_eq (desc p.ret) (desc q.ret) && descs_eq p.params.now q.params.now

abbrev pub derived_method_ref_eq : MethodRef → MethodRef → Bool
derived_method_ref_eq m n = units_eq (desc m.class) (desc n.class) && (units_eq (str m.name) (str n.name) && derived_proto_eq m.proto.now n.proto.now)

-- lists of texts are equal text by text
texts_same : (xs ys : List (List ℕ)) → Decides (pointwise units_eq xs ys) (xs ≡ ys)
texts_same xs ys = slice_eq-Decides bytes_eq-Decides xs ys _ refl

descs_same : (ps qs : List Desc) → Decides (descs_eq ps qs) (map desc ps ≡ map desc qs)
descs_same ps qs = rw (← pointwise-map desc units_eq ps qs) (texts_same (map desc ps) (map desc qs))

pub proto_same : (p q : Proto) → Decides (derived_proto_eq p q) (proto p ≡ proto q)
proto_same p q =
    let both = Decides-and _ _ (bytes_eq-Decides (desc p.ret) (desc q.ret)) (descs_same p.params.now q.params.now) in (
      λ e. let h = both.0 e in λ i. record { ret = h.0 i; params = h.1 i },
      λ e. both.1 (ap (λ c. c.ret) e, ap (λ c. c.params) e),
    )

pub method_ref_same : (m n : MethodRef) → Decides (derived_method_ref_eq m n) (method_ref m ≡ method_ref n)
method_ref_same m n =
    let names = Decides-and _ _ (bytes_eq-Decides (str m.name) (str n.name)) (proto_same m.proto.now n.proto.now) in
    let all = Decides-and _ _ (bytes_eq-Decides (desc m.class) (desc n.class)) names in (
      λ e. let h = all.0 e in λ i. record { class = h.0 i; name = h.1.0 i; proto = h.1.1 i },
      λ e. all.1 (ap (λ c. c.class) e, (ap (λ c. c.name) e, ap (λ c. c.proto) e)),
    )
