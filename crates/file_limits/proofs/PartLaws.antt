-- The sum over names and classes is the sum over the parts of a file.
use Rattle.std.proofs.Common.{◌≡◌, ◌+◌, ◌*◌, List, [], ◌∷◌, length, map, refl, ap, arith}
use Rattle.std.specs.List.{flat_map}
use Rattle.file_layout.specs.Sections.{wide_all}
use Rattle.tables_names.specs.Closure.{Five}
use Rattle.tables_names.specs.Rows.{first_of}
use Rattle.program_types.specs.Content.{Class, Program}
use Rattle.program_types.specs.Key.{Key}
use Rattle.dex_value.specs.Wide.{wide_array}
use Rattle.file_limits.proofs.SumLaws.{wide_all_append}
use Rattle.file_limits.specs.Wide.{wide_of, wide_string, wide_proto, wide_list, wide_class, wide_data, wide_body, params_of, bodies_of}
use Rattle.file_limits.specs.inner.Wide.{wide_parts, wide_text}

pub map_map : {A B C : Type 0} (f : B → C) (g : A → B) (xs : List A) → map f (map g xs) ≡ map (λ x. f (g x)) xs
map_map f g [] = refl
map_map f g (x ∷ xs) = ap (λ l. f (g x) ∷ l) (map_map f g xs)

strings_by_parts : (ks : List Key) → wide_all wide_string ks ≡ 4 * length ks + wide_all wide_text (map first_of ks)
strings_by_parts [] = refl
strings_by_parts (k ∷ ks) = let r = strings_by_parts ks in omega (arith, r)

protos_by_parts : (ks : List Key) → wide_all wide_proto ks ≡ 12 * length ks + wide_all wide_list (map params_of ks)
protos_by_parts [] = refl
protos_by_parts (k ∷ ks) = let r = protos_by_parts ks in omega (arith, r)

classes_by_parts : (cs : Program) → wide_all wide_class cs ≡ 32 * length cs + wide_all wide_list (map (λ (c : Class). c.interfaces) cs) + wide_all wide_body (flat_map bodies_of cs) + wide_all wide_array (map (λ (c : Class). c.values) cs) + wide_all wide_data cs
classes_by_parts [] = refl
classes_by_parts (c ∷ cs) =
    let r = classes_by_parts cs in
    let b = wide_all_append wide_body (bodies_of c) (flat_map bodies_of cs) in
    omega (arith, r, b)

pub by_parts : (s : Five) (p : Program) → wide_of s p ≡ wide_parts s p
by_parts s p =
    let t = strings_by_parts s.strings in
    let q = protos_by_parts s.protos in
    let c = classes_by_parts p in
    let l = wide_all_append wide_list (map params_of s.protos) (map (λ (c : Class). c.interfaces) p) in
    omega (arith, t, q, c, l)
