-- The names in a body.
use Rattle.std.proofs.Common.{map}
use Rattle.std.specs.List.{AllByRecursion, flat_map}
use Rattle.dex_base.specs.Descriptor.{IsDescriptor}
use Rattle.program_types.specs.Content.{OfDesc, Catch, Try}
use Rattle.program_types.specs.View.{insn, try, code}
use Rattle.program_types.specs.declared.code.Code.{Code}
use Rattle.program_types.specs.Mentions.{names_of_insn, names_of_try, names_of_code}
use Rattle.program_rules.proofs.AllLaws.{all-lists, all-joined, all-made}
use Rattle.program_rules.specs.Valid.{IsValidName}
use Rattle.program_rules.specs.inner.Valid.{InsnsAreNamed}
use Rattle.dex_base.proofs.ListFacts.{all_front, all_back, all_append, all_map, all_weaker}

-- what is asked of the names in a body's tries
abbrev CatchesAreValid : Try → Type 0
CatchesAreValid t = AllByRecursion (λ c. IsDescriptor c.ty) t.catches

caught : (t : Try) → AllByRecursion IsValidName (names_of_try t) → CatchesAreValid t
caught t h = all-made IsValidName (λ (c : Catch). OfDesc c.ty) t.catches h

catching : (t : Try) → CatchesAreValid t → AllByRecursion IsValidName (names_of_try t)
catching t h = all_map IsValidName (λ (c : Catch). OfDesc c.ty) t.catches h

pub code-parts : (c : Code) → AllByRecursion IsValidName (names_of_code (code c)) → InsnsAreNamed (code c) × AllByRecursion CatchesAreValid (map try c.tries.now)
code-parts c h =
    let is = map insn c.insns.now in
    let ts = map try c.tries.now in (
      all-lists IsValidName names_of_insn is (all_front IsValidName (flat_map names_of_insn is) (flat_map names_of_try ts) h),
      all_weaker (λ t. AllByRecursion IsValidName (names_of_try t)) CatchesAreValid caught ts (all-lists IsValidName names_of_try ts (all_back IsValidName (flat_map names_of_insn is) (flat_map names_of_try ts) h)),
    )

pub code-whole : (c : Code) → InsnsAreNamed (code c) → AllByRecursion CatchesAreValid (map try c.tries.now) → AllByRecursion IsValidName (names_of_code (code c))
code-whole c i t =
    let is = map insn c.insns.now in
    let ts = map try c.tries.now in
    all_append IsValidName (flat_map names_of_insn is) (flat_map names_of_try ts) (all-joined IsValidName names_of_insn is i)
    (all-joined IsValidName names_of_try ts (all_weaker CatchesAreValid (λ t. AllByRecursion IsValidName (names_of_try t)) catching ts t))
