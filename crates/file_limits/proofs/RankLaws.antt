-- Bodies one by one, and the names in them.
use Rattle.std.proofs.Common.{◌≡◌, ℕ, zero, suc, ◌+◌, ◌<◌, ◌≤◌, List, [], ◌∷◌, ◌++◌, map, take, get_or, length, sym, ap, ◌∙◌, arith, subst, Option, append_assoc, append-nil}
use Rattle.std.proofs.lemmas.List.{length-map, length-take}
use Rattle.std.proofs.lemmas.Option.{slice_get_within}
use Rattle.std.specs.Option.{option_to_list}
use Rattle.std.specs.List.{AllByRecursion, flat_map}
use Rattle.dex_base.specs.declared.fault.Fault.{Fault}
use Rattle.code_write.specs.Fits.{HasIndexBelow}
use Rattle.tables_names.specs.Closure.{Five, NameRanks}
use Rattle.program_types.specs.Content as content
use Rattle.program_types.specs.Content.{Name, OfDesc, Code, Catch, Try}
use Rattle.program_types.specs.Key.{text_key}
use Rattle.program_types.specs.Mentions.{names_of_insn, names_of_try, names_of_code}
use Rattle.program_types.specs.View as view
use Rattle.program_types.specs.declared.class.Class.{Class}
use Rattle.program_types.specs.declared.class.Method.{Method}
use Rattle.program_types.specs.Kinds.{HasIndex}
use Rattle.file_limits.specs.Limits.{codes_in}
use Rattle.file_limits.specs.inner.Lowest.{IsLowestBroken, IsLowestOf, lower, earlier}
use Rattle.file_limits.proofs.BodyLaws.{both_least, class_more}
use Rattle.dex_base.proofs.ListFacts.{all_back, all_front, all_append, map_more}

-- ---- the names in a body

catches_below : (s : Five) (cs : List Catch) → length s.types ≤ 65535 → AllByRecursion (HasIndex (NameRanks s)) (map (λ (c : Catch). OfDesc c.ty) cs) → AllByRecursion (HasIndexBelow (NameRanks s) 4294967296) (map (λ (c : Catch). OfDesc c.ty) cs)
catches_below s [] few h = tt
catches_below s (c ∷ cs) few h = let lt = slice_get_within s.types h.0.0 (text_key c.ty) h.0.1 in ((h.0.0, omega (arith, lt, few), h.0.1), catches_below s cs few h.1)

tries_below : (s : Five) (ts : List Try) → length s.types ≤ 65535 → AllByRecursion (HasIndex (NameRanks s)) (flat_map names_of_try ts) → AllByRecursion (HasIndexBelow (NameRanks s) 4294967296) (flat_map names_of_try ts)
tries_below s [] few h = tt
tries_below s (t ∷ ts) few h =
    all_append (HasIndexBelow (NameRanks s) 4294967296) (names_of_try t) (flat_map names_of_try ts)
    (catches_below s t.catches few (all_front (HasIndex (NameRanks s)) (names_of_try t) (flat_map names_of_try ts) h))
    (tries_below s ts few (all_back (HasIndex (NameRanks s)) (names_of_try t) (flat_map names_of_try ts) h))

-- types that are caught have indices of 16 bits
pub caught_below : (s : Five) (c : Code) → length s.types ≤ 65535 → AllByRecursion (HasIndex (NameRanks s)) (names_of_code c) → AllByRecursion (HasIndexBelow (NameRanks s) 4294967296) (flat_map names_of_try c.tries)
caught_below s c few h = tries_below s c.tries few (all_back (HasIndex (NameRanks s)) (flat_map names_of_insn c.insns) (flat_map names_of_try c.tries) h)

-- ---- methods

-- the body of one of the methods
pub ready_at : (P : Code → Type 0) (ms : List Method) (i : ℕ) (d : Method) → i < length ms → AllByRecursion P (codes_in (map view.method ms)) → AllByRecursion P (option_to_list (view.method (get_or ms i d)).code)
ready_at P [] i d lt h = absurd (omega (arith, lt))
ready_at P (m ∷ ms) zero d lt h = all_front P (option_to_list (view.method m).code) (codes_in (map view.method ms)) h
ready_at P (m ∷ ms) (suc i) d lt h = ready_at P ms i d (omega (arith, lt)) (all_back P (option_to_list (view.method m).code) (codes_in (map view.method ms)) h)

flat_one : (ms : List content.Method) (m : content.Method) → codes_in (ms ++ m ∷ []) ≡ codes_in ms ++ option_to_list m.code
flat_one [] m = append-nil (option_to_list m.code)
flat_one (x ∷ ms) m = ap (λ (l : List Code). option_to_list x.code ++ l) (flat_one ms m) ∙ sym (append_assoc (option_to_list x.code) (codes_in ms) (option_to_list m.code))

-- one more method
pub methods_more : (N : ℕ → Name → Type 0) (ms : List Method) (i : ℕ) (d : Method) (least number new : Option ℕ) → i < length ms → new ≡ lower least number → IsLowestBroken N (codes_in (map view.method (take i ms))) least
    → IsLowestBroken N (option_to_list (view.method (get_or ms i d)).code) number → IsLowestBroken N (codes_in (map view.method (take (i + 1) ms))) new
methods_more N ms i d least number new lt e a b =
    let all = ap codes_in (map_more view.method ms i d lt) ∙ flat_one (map view.method (take i ms)) (view.method (get_or ms i d)) in
    subst (λ (cs : List Code). IsLowestBroken N cs new) (sym all)
    (subst (IsLowestBroken N (codes_in (map view.method (take i ms)) ++ option_to_list (view.method (get_or ms i d)).code)) (sym e) (both_least N _ _ least number a b))

-- ---- classes

-- one more class
pub classes_more : (N : ℕ → Name → Type 0) (cs : List Class) (i : ℕ) (d : Class) (lowest new : Option Fault) (number : Option ℕ) → i < length cs → new ≡ earlier lowest number i
    → IsLowestOf N (map view.class (take i cs)) lowest → IsLowestBroken N (codes_in (map view.method (get_or cs i d).directs.now) ++ codes_in (map view.method (get_or cs i d).virtuals.now)) number
    → IsLowestOf N (map view.class (take (i + 1) cs)) new
classes_more N cs i d lowest new number lt e a b =
    let n : length (map view.class (take i cs)) ≡ i = let m = length-map (take i cs) view.class in let t = length-take i cs in omega (arith, m, t, lt) in
    subst (λ (p : List content.Class). IsLowestOf N p new) (sym (map_more view.class cs i d lt))
    (subst (IsLowestOf N (map view.class (take i cs) ++ view.class (get_or cs i d) ∷ [])) (sym (e ∙ ap (earlier lowest number) (sym n))) (class_more N (map view.class (take i cs)) (view.class (get_or cs i d)) lowest number a b))
