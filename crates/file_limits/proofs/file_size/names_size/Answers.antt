use Rattle.std.proofs.Common.{length, ap, arith, refl, subst, inl}
use Rattle.std.proofs.lemmas.List.{length-map}
use Rattle.file_layout.specs.Sections.{wide_all}
use Rattle.tables_names.specs.Keys.{key_of_desc, key_of_field, key_of_method}
use Rattle.file_limits.specs.inner.Sum.{IsSum}
use Rattle.file_limits.specs.Wide.{wide_proto, wide_string}
use Rattle.file_limits.proofs.file_size.names_size.Goals as goal

pub returns : goal.returns
returns c =
    let a = c.plus-texts.ensures 112 _ (inl refl) c.strings_size.ensures in
    let b = c.plus-types.ensures _ _ a c.times.ensures in
    let d = c.plus-protos.ensures _ _ b c.protos_size.ensures in
    let e = c.plus-fields.ensures _ _ d c.times-2.ensures in
    let f = c.plus.ensures _ _ e c.times-3.ensures in
    let e1 = ap (wide_all wide_string) c.strings.ensures in
    let e2 = ap length c.types.ensures in
    let e3 = ap (wide_all wide_proto) c.protos.ensures in
    let e4 = ap length c.fields.ensures in
    let e5 = ap length c.methods.ensures in
    let n2 = length-map c.types.result.now key_of_desc in
    let n4 = length-map c.fields.result.now key_of_field in
    let n5 = length-map c.methods.result.now key_of_method in
    subst (IsSum c.plus.result) (omega (arith, e1, e2, e3, e4, e5, n2, n4, n5)) f
