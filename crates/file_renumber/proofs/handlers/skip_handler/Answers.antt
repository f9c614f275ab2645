use Rattle.std.proofs.Common.{◌≡◌, ◌<ℤ◌, ◌∙◌, pos, ℕ, List, sym, subst, arith, rules}
use Rattle.std.proofs.lemmas.Int.{ints, to_z-of_z}
use mir.Val.{SFits}
use mir.Syntax.{w32}
use Rattle.dex_base.specs.Leb128.{Spells}
use Rattle.dex_base.specs.Grammar.{Takes}
use Rattle.tables_rows.specs.Stands.{NameStands}
use Rattle.code_read.specs.Handlers.{Handler, catches_of}
use Rattle.code_read.specs.inner.Handlers.{SpellsHandler}
use Rattle.code_read.proofs.HandlerReading.{has-all, lacks-all}
use Rattle.file_renumber.proofs.HandlerLemmas.{HandlerParts, handler_parts, parts_from, counted, last_place, no_last}
use Rattle.file_renumber.proofs.handlers.skip_handler.Goals as goal
use Rattle.file_renumber.proofs.handlers.skip_handler.Goals.{After-unsigned_abs-count}
use Rattle.dex_base.proofs.ListFacts.{number_one}

pub take_signed-n-requires : goal.take_signed-n-requires
take_signed-n-requires c =
    let p = handler_parts (NameStands c.requires.0) c.requires.1 c.args.bytes.now c.requires.2 c.requires.3 c.requires.4 in
    (p.0, p.1, p.2)

-- after the number of its catches
module _ (c : After-unsigned_abs-count) where
  count : c.unsigned_abs-count.result ≡ catches_of c.take_signed-n.result.0
  count =
      let fits : SFits w32 c.take_signed-n.result.0 = search rules in
      simp to_z-of_z at c.unsigned_abs-count.ensures.value

  parts : (b ss : List ℕ) (h : Handler) (after : List ℕ) → Takes (SpellsHandler (NameStands b) ss) c.args.bytes.now h after → HandlerParts (NameStands b) ss c.take_signed-n.result.0 c.unsigned_abs-count.result c.take_signed-n.result.1.now h after
  parts b ss h after t = parts_from (NameStands b) ss c.args.bytes.now h after c.take_signed-n.result.0 c.take_signed-n.result.1.now c.unsigned_abs-count.result count c.take_signed-n.ensures t

pub skip_catches-rest-requires : goal.skip_catches-rest-requires
skip_catches-rest-requires c =
    let p = parts c c.requires.0 c.requires.1 c.requires.2 c.requires.3 c.requires.4 in
    (c.requires.0, c.requires.1, _, p.left, p.catches)

pub take_number-requires : goal.take_number-requires
take_number-requires c =
    let n = c.take_signed-n.result.0 in
    let p = parts (goal.at.take_number-requires c).After-unsigned_abs-count c.requires.0 c.requires.1 c.requires.2 c.requires.3 c.requires.4 in
    let rest = c.skip_catches-rest.ensures c.requires.0 c.requires.1 _ p.left p.catches in
    let last = last_place (NameStands c.requires.0) c.requires.1 n p.left _ c.requires.3 (has-all n (λ h. omega (arith, ints, c.if-n-gt0.false))) p.last in
    (last.address, c.requires.3, subst (λ (l : List ℕ). Takes Spells l last.address c.requires.3) (sym rest) last.taken)

pub returns-then-n-gt0 : goal.returns-then-n-gt0
returns-then-n-gt0 c = λ b ss h after t.
    let n = c.take_signed-n.result.0 in
    let p = parts (goal.at.returns-then-n-gt0 c).After-unsigned_abs-count b ss h after t in
    let above : pos 0 <ℤ n = omega (arith, ints, c.if-n-gt0.true) in
    (sym (counted (NameStands b) ss _ _ _ _ p.catches), c.skip_catches-rest.ensures b ss _ p.left p.catches ∙ (no_last (NameStands b) ss n p.left _ after (lacks-all n above) p.last).1)

pub returns : goal.returns
returns c = λ b ss h after t.
    let n = c.take_signed-n.result.0 in
    let p = parts (goal.at.returns c).After-unsigned_abs-count b ss h after t in
    let rest = c.skip_catches-rest.ensures b ss _ p.left p.catches in
    let last = last_place (NameStands b) ss n p.left _ after (has-all n (λ e. omega (arith, ints, c.if-n-gt0.false))) p.last in
    (sym (counted (NameStands b) ss _ _ _ _ p.catches), (number_one c.skip_catches-rest.result.now _ last.address _ after c.take_number.ensures (subst (λ (l : List ℕ). Takes Spells l last.address after) (sym rest) last.taken)).1)
