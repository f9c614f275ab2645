-- The bodies of a well-formed program are well formed, and can be written where it fits.
use Rattle.std.proofs.Common.{◌≡◌, ℕ, ◌≤◌, List, [], ◌∷◌, length, sym, subst, arith, Some, Option, None}
use Rattle.std.specs.Prelude.{IfSome}
use Rattle.std.specs.List.{AllByRecursion, flat_map, slice_get}
use Rattle.std.specs.Option.{option_to_list}
use Rattle.code_write.specs.Fits.{FitsCode}
use Rattle.file_layout.specs.Sections.{wide_all}
use Rattle.file_limits.specs.Limits.{Fits, method_code, codes_in, codes_of}
use Rattle.file_limits.specs.inner.Limits.{BodyIsReady}
use Rattle.file_limits.specs.Wide.{bodies_in, bodies_of, wide_body}
use Rattle.tables_names.specs.Closure.{Five, NameRanks}
use Rattle.tables_names.specs.Needed.{needed}
use Rattle.file_needed.proofs.ClassNames.{directs_kept, virtuals_kept}
use Rattle.program_types.specs.Content.{Class, Code, Descriptor, Method, Program}
use Rattle.program_types.specs.Formed.{IsFormed}
use Rattle.program_types.specs.Mentions.{if_any, names_of_code, names_of_method}
use Rattle.program_types.specs.Kinds.{HasIndex}
use Rattle.program_rules.specs.Ranges.{ClassInRange}
use Rattle.program_rules.specs.WellFormed.{WellFormed}
use Rattle.program_rules.proofs.FormedLaws.{class_formed}
use Rattle.file_put.specs.inner.Named.{BodyCanBePut, FewNames}
use Rattle.file_put.proofs.FitsLaws.{Room, back_small, class_small, few_of, front_small}
use Rattle.file_put.proofs.NamedLaws.{all_below, class_ranked, types_short}
use Rattle.dex_base.proofs.ListFacts.{all_append, all_back, all_front, all_get}

body_kept : (s : Five) (o : Option Code) → IfSome o IsFormed → AllByRecursion (HasIndex (NameRanks s)) (if_any names_of_code o) → IfSome o (BodyIsReady s)
body_kept s None f n = tt
body_kept s (Some code) f n = record { formed = f; ranked = n }

-- all bodies of methods
abbrev pub MethodsKeep : Five → List Method → Type 0
MethodsKeep s ms = AllByRecursion (λ (m : Method). IfSome m.code (BodyIsReady s)) ms

methods_keep : (s : Five) (class : Descriptor) (ms : List Method) → AllByRecursion (λ (m : Method). IfSome m.code IsFormed) ms
    → AllByRecursion (HasIndex (NameRanks s)) (flat_map (names_of_method class) ms) → MethodsKeep s ms
methods_keep s class [] f n = tt
methods_keep s class (m ∷ ms) f n =
    let own = all_front (HasIndex (NameRanks s)) (names_of_method class m) (flat_map (names_of_method class) ms) n in
    let rest = all_back (HasIndex (NameRanks s)) (names_of_method class m) (flat_map (names_of_method class) ms) n in
    (body_kept s m.code f.0 own.1, methods_keep s class ms f.1 rest)

pub record ClassKeeps (s : Five) (c : Class) : Type 0 where
  pub directs : MethodsKeep s c.directs
  pub virtuals : MethodsKeep s c.virtuals

class_keeps : (s : Five) (p : Program) (i : ℕ) (c : Class) → s ≡ needed p → WellFormed p → slice_get p i ≡ Some c → ClassKeeps s c
class_keeps s p i c e w at =
    let named = class_ranked s p i c e at in
    let k = w.rules i c at in
    let formed = class_formed c k.operands k.targets k.payloads k.tries k.registers (all_get ClassInRange p i c w.ranges at) in
    record {
      directs = methods_keep s c.ty c.directs formed.directs (directs_kept (HasIndex (NameRanks s)) c named);
      virtuals = methods_keep s c.ty c.virtuals formed.virtuals (virtuals_kept (HasIndex (NameRanks s)) c named);
    }

-- ---- ready for the limits

one_ready : (s : Five) (o : Option Code) → IfSome o (BodyIsReady s) → AllByRecursion (BodyIsReady s) (option_to_list o)
one_ready s None h = tt
one_ready s (Some c) h = (h, tt)

all_ready : (s : Five) (ms : List Method) → MethodsKeep s ms → AllByRecursion (BodyIsReady s) (codes_in ms)
all_ready s [] h = tt
all_ready s (m ∷ ms) h = all_append (BodyIsReady s) (method_code m) (codes_in ms) (one_ready s m.code h.0) (all_ready s ms h.1)

pub class_ready : (s : Five) (p : Program) (i : ℕ) (c : Class) → s ≡ needed p → WellFormed p → slice_get p i ≡ Some c → AllByRecursion (BodyIsReady s) (codes_of c)
class_ready s p i c e w at =
    let k = class_keeps s p i c e w at in
    all_append (BodyIsReady s) (codes_in c.directs) (codes_in c.virtuals) (all_ready s c.directs k.directs) (all_ready s c.virtuals k.virtuals)

-- ---- ready to be written

one_can : (s : Five) → FewNames s → length s.types ≤ 65535 → (o : Option Code) → IfSome o (BodyIsReady s) → AllByRecursion (FitsCode (NameRanks s)) (option_to_list o) → wide_body o ≤ 4294967295 → BodyCanBePut s o
one_can s few types None k f small = tt
one_can s few types (Some c) k f small = record {
  formed = k.formed;
  fits = f.0;
  ranked = record {
    ranked = all_below s few (names_of_code c) k.ranked;
    types = λ n lt. types_short s types _;
    short = small;
  };
}

all_can : (s : Five) → FewNames s → length s.types ≤ 65535 → (ms : List Method) → MethodsKeep s ms → AllByRecursion (FitsCode (NameRanks s)) (codes_in ms) → wide_all wide_body (bodies_in ms) ≤ 4294967295
    → AllByRecursion (BodyCanBePut s) (bodies_in ms)
all_can s few types [] k f small = tt
all_can s few types (m ∷ ms) k f small = (
  one_can s few types m.code k.0 (all_front (FitsCode (NameRanks s)) (method_code m) (codes_in ms) f) (omega (arith, small)),
  all_can s few types ms k.1 (all_back (FitsCode (NameRanks s)) (method_code m) (codes_in ms) f) (omega (arith, small)),
)

pub class_can : (s : Five) (p : Program) (i : ℕ) (c : Class) → s ≡ needed p → WellFormed p → Fits p → Room s p → slice_get p i ≡ Some c → AllByRecursion (BodyCanBePut s) (bodies_of c)
class_can s p i c e w f r at =
    let k = class_keeps s p i c e w at in
    let fits : AllByRecursion (FitsCode (NameRanks s)) (codes_of c) =
    subst (λ (t : Five). AllByRecursion (FitsCode (NameRanks t)) (codes_of c)) (sym e) (f.bodies i c at) in
    let small = class_small p i c 4294967295 at (omega (arith, r.codes_are, r.whole)) in
    all_append (BodyCanBePut s) (bodies_in c.directs) (bodies_in c.virtuals)
    (all_can s (few_of s p r) r.few_types c.directs k.directs (all_front (FitsCode (NameRanks s)) (codes_in c.directs) (codes_in c.virtuals) fits) (front_small wide_body (bodies_in c.directs) (bodies_in c.virtuals) 4294967295 small))
    (all_can s (few_of s p r) r.few_types c.virtuals k.virtuals (all_back (FitsCode (NameRanks s)) (codes_in c.directs) (codes_in c.virtuals) fits) (back_small wide_body (bodies_in c.directs) (bodies_in c.virtuals) 4294967295 small))
