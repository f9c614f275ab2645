-- The laws of keys: they are in a strict total order, a name is determined by its key, and the derived comparison of each kind of
-- names is the order of its keys.
use Rattle.std.specs.Prelude.{◌≡◌, List, [], ◌∷◌, map, refl}
use Rattle.std.specs.Ordering.{ordering_then}
use Rattle.std.specs.Cmp.Lexicographic.{slice_cmp}
use Rattle.std.specs.declared.cmp.Ordering.{Ordering}
use Rattle.std.specs.declared.cmp.Ordering.TheVariants.{Less, Equal, Greater}
use Rattle.program_types.specs.Key.{proto_key, field_ref_key, method_ref_key, units_cmp, key_cmp}
use Rattle.program_types.specs.View.{str, desc, proto, field_ref, method_ref}
use Rattle.program_types.specs.declared.names.Desc.{Desc}
use Rattle.program_types.specs.declared.names.Proto.{Proto}
use Rattle.program_types.specs.declared.names.FieldRef.{FieldRef}
use Rattle.program_types.specs.declared.names.MethodRef.{MethodRef}

-- A comparison of a last text decides by itself.
pub ordering_then-equal : (o : Ordering) → o ≡ ordering_then o Equal
ordering_then-equal Less = refl
ordering_then-equal Equal = refl
ordering_then-equal Greater = refl

-- Descriptors in a list compare as their units do, whatever compares two of them as their units do.
module _ (R : Desc → Desc → Ordering) (same : (d e : Desc) → R d e ≡ units_cmp (desc d) (desc e)) where
  pub descs_cmp : (xs ys : List Desc) → slice_cmp R xs ys ≡ slice_cmp units_cmp (map desc xs) (map desc ys)
  descs_cmp [] [] = refl
  descs_cmp [] (y ∷ ys) = refl
  descs_cmp (x ∷ xs) [] = refl
  descs_cmp (x ∷ xs) (y ∷ ys) = λ i. ordering_then (same x y i) (descs_cmp xs ys i)

  -- The derived comparison of prototypes, where R is that of descriptors.
  abbrev pub derived_proto_cmp : Proto → Proto → Ordering
  derived_proto_cmp x y = ordering_then (units_cmp (desc x.ret) (desc y.ret)) (slice_cmp R x.params.now y.params.now)

  pub proto_cmp : (x y : Proto) → derived_proto_cmp x y ≡ key_cmp (proto_key (proto x)) (proto_key (proto y))
  proto_cmp x y = λ i. ordering_then (units_cmp (desc x.ret) (desc y.ret)) (descs_cmp x.params.now y.params.now i)

  -- The derived comparison of methods.
  abbrev pub derived_method_ref_cmp : MethodRef → MethodRef → Ordering
  derived_method_ref_cmp x y = ordering_then (units_cmp (desc x.class) (desc y.class)) (ordering_then (units_cmp (str x.name) (str y.name)) (derived_proto_cmp x.proto.now y.proto.now))

  pub method_ref_cmp : (x y : MethodRef) → derived_method_ref_cmp x y ≡ key_cmp (method_ref_key (method_ref x)) (method_ref_key (method_ref y))
  method_ref_cmp x y =
      λ i. ordering_then (units_cmp (desc x.class) (desc y.class)) (ordering_then (units_cmp (str x.name) (str y.name)) (proto_cmp x.proto.now y.proto.now i))

-- The derived comparison of fields.
abbrev pub derived_field_ref_cmp : FieldRef → FieldRef → Ordering
derived_field_ref_cmp x y = ordering_then (units_cmp (desc x.class) (desc y.class)) (ordering_then (units_cmp (str x.name) (str y.name)) (units_cmp (desc x.ty) (desc y.ty)))

-- The derived comparison of fields is the order of their keys.
pub field_ref_cmp : (x y : FieldRef) → derived_field_ref_cmp x y ≡ key_cmp (field_ref_key (field_ref x)) (field_ref_key (field_ref y))
field_ref_cmp x y =
    λ i. ordering_then (units_cmp (desc x.class) (desc y.class)) (ordering_then (units_cmp (str x.name) (str y.name)) (ordering_then-equal (units_cmp (desc x.ty) (desc y.ty)) i))
