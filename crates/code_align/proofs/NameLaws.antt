-- An aligned program has the names of the program.
use Rattle.std.proofs.Common.{◌≡◌, ℕ, ◌++◌, List, [], ◌∷◌, map, refl, ap, ◌∙◌, Bool, true, false, Option, None, Some}
use Rattle.std.specs.List.{flat_map}
use Rattle.code_align.specs.Programs.{Pairwise, AlignedBody, AlignedMethod, AlignedClass}
use Rattle.code_align.proofs.PairLaws.{paired_lists}
use Rattle.code_align.specs.Aligned.{with_nops, PadsPayloads, moved, moved_insn, moved_catch, moved_try, Aligned}
use Rattle.program_types.specs.Content.{Descriptor, OfText, OfDesc, OfMethod, Insn, Catch, Try, Code, Method, Class}
use Rattle.program_types.specs.Content as made
use Rattle.program_types.specs.Mentions.{if_any, names_of_value, names_of_insn, names_of_try, names_of_code, field_of_class, names_of_method, names_of_class}

module _ (f : ℕ → ℕ) where
  insn_names : (i : Insn) → names_of_insn (moved_insn f i) ≡ names_of_insn i
  insn_names (made.I10t op to) = refl
  insn_names _ = refl

  catch_names : (cs : List Catch) → map (λ (c : Catch). OfDesc c.ty) (map (moved_catch f) cs) ≡ map (λ (c : Catch). OfDesc c.ty) cs
  catch_names [] = refl
  catch_names (c ∷ cs) = ap (λ z. OfDesc c.ty ∷ z) (catch_names cs)

  try_names : (ts : List Try) → flat_map names_of_try (map (moved_try f) ts) ≡ flat_map names_of_try ts
  try_names [] = refl
  try_names (t ∷ ts) = (λ i. catch_names t.catches i ++ try_names ts i)

  insns_names : (ps : List Bool) (is : List Insn) → PadsPayloads ps is → flat_map names_of_insn (map (moved_insn f) (with_nops ps is)) ≡ flat_map names_of_insn is
  insns_names [] [] p = refl
  insns_names (true ∷ ps) (i ∷ is) p = (λ k. insn_names i k ++ insns_names ps is p.1 k)
  insns_names (false ∷ ps) (i ∷ is) p = (λ k. insn_names i k ++ insns_names ps is p.1 k)
  insns_names [] (i ∷ is) p = absurd p
  insns_names (true ∷ ps) [] p = absurd p
  insns_names (false ∷ ps) [] p = absurd p

code_names : (c d : Code) → Aligned c d → names_of_code d ≡ names_of_code c
code_names c d a = ap names_of_code a.is ∙ λ i. insns_names (moved a.pads) a.pads c.insns a.payloads i ++ try_names (moved a.pads) c.tries i

body_names : (c d : Option Code) → AlignedBody c d → if_any names_of_code d ≡ if_any names_of_code c
body_names None None a = refl
body_names (Some c) (Some d) a = code_names c d a
body_names None (Some d) a = absurd a
body_names (Some c) None a = absurd a

method_names : (t : Descriptor) (m n : Method) → AlignedMethod m n → names_of_method t n ≡ names_of_method t m
method_names t m n a = λ i. OfMethod (record { class = t; name = a.name i; proto = a.proto i }) ∷ body_names m.code n.code a.code i

methods_names : (t u : Descriptor) → u ≡ t → (ms ns : List Method) → Pairwise AlignedMethod ms ns → flat_map (names_of_method u) ns ≡ flat_map (names_of_method t) ms
methods_names t u e ms ns p = ap (λ z. flat_map (names_of_method z) ns) e ∙ paired_lists AlignedMethod (names_of_method t) (names_of_method t) (method_names t) ms ns p

pub class_names : (c d : Class) → AlignedClass c d → names_of_class d ≡ names_of_class c
class_names c d a = λ i.
    OfDesc (a.ty i)
    ∷ if_any (λ t. OfDesc t ∷ []) (a.superclass i)
    ++ map OfDesc (a.interfaces i)
    ++ if_any (λ s. OfText s ∷ []) (a.source i)
    ++ map (field_of_class (a.ty i)) (a.statics i)
    ++ flat_map names_of_value (a.values i)
    ++ map (field_of_class (a.ty i)) (a.instances i)
    ++ methods_names c.ty d.ty a.ty c.directs d.directs a.directs i
    ++ methods_names c.ty d.ty a.ty c.virtuals d.virtuals a.virtuals i
