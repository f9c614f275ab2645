use Rattle.std.proofs.Common.{◌≡◌, ◌<◌, ◌∙◌, ℕ, List, map, length, get_or, rules, sym, subst}
use Rattle.tables_names.specs.Closure.{NameRanks}
use Rattle.program_types.specs.View.{try}
use Rattle.code_write.proofs.HandlerOnce.{ranks-injective}
use Rattle.code_write.proofs.LayoutOnce.{layout-once}
use Rattle.code_write.proofs.FitLaws.{far-at}
use Rattle.code_write.proofs.tries.handlers_fit.Goals as goal

pub returns-clause-ok : goal.returns-clause-ok
returns-clause-ok c =
    let v = c.deref.ensures.value in (
      λ t list offs p i l.
          let once = layout-once (NameRanks c.args.ranks.now) c.args.starts.now (ranks-injective c.args.ranks.now c.rise.ensures) (map try c.args.tries.now) list offs c.in_ok-laid.laid.bytes.items c.in_ok-laid.laid.offsets.items p c.in_ok-laid.ensures.ok in
          let e : offs ≡ c.deref.result.now = once.1 ∙ sym v in
          subst (λ (os : List ℕ). i < length os → get_or os i 0 < 65536) (sym e) (c.are_near.ensures.0 t i) l,
      λ h. c.are_near.ensures.1 (subst (λ (os : List ℕ). (i : ℕ) → i < length os → get_or os i 0 < 65536) (sym v) (h c.in_ok-laid.laid.bytes.items c.in_ok-laid.laid.offsets.items c.in_ok-laid.ensures.ok)),
    )

pub returns-clause-far : goal.returns-clause-far
returns-clause-far c = λ no.
    let some = far-at c.deref.result.now (λ near. let t = c.are_near.ensures.1 near in search rules) in
    let r = subst (λ (os : List ℕ). (i : ℕ) × (i < length os) × (65535 < get_or os i 0)) c.deref.ensures.value some in
    record { list = c.in_ok-laid.laid.bytes.items; offs = c.in_ok-laid.laid.offsets.items; laid = c.in_ok-laid.ensures.ok; index = r.0; inside = r.1; far = r.2 }
