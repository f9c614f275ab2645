use Rattle.std.proofs.Common.{ℕ, List, drop, get_or, refl, sym, subst, inl, arith, length-drop}
use Rattle.std.proofs.lemmas.List.{length-map}
use Rattle.dex_base.specs.Fields.{AreBytes}
use Rattle.tables_rows.specs.Stands.{NameStands}
use Rattle.tables_names.specs.Closure.{NameRanks}
use Rattle.code_write.specs.inner.Packs.{PacksHandler}
use Rattle.file_renumber.specs.inner.CarriedCodes.{CarriedHandler}
use Rattle.file_renumber.proofs.TryLemmas.{handler_some}
use Rattle.file_renumber.proofs.KnownLemmas.{known_more, all_bytes, number_low}
use Rattle.file_renumber.specs.inner.TryWalks.{IsWrittenOf}
use Rattle.file_renumber.proofs.tries.number_of_handler.Goals as goal
use Rattle.file_renumber.proofs.tries.number_of_handler.Goals.{In_ok-number}

pub returns-then-known-k-ne0-clause-ok : goal.returns-then-known-k-ne0-clause-ok
returns-then-known-k-ne0-clause-ok c =
    let n = c.if-known-k-ne0.true in
    let a = c.requires.known c.args.k (omega (arith, n)) in
    record { key = a.0; numbered = record { there = a.1; is_new = inl refl }; written = a.2 }

pub split_at-requires : goal.split_at-requires
split_at-requires c =
    let x = c.requires.handler in
    let at = get_or c.args.offsets.now c.args.k 0 in
    let s = handler_some (NameStands x.file) x.starts (drop at c.args.list.now) x.handler x.rest x.taken in
    omega (arith, s, length-drop at c.args.list.now)

pub renumber_handler-requires : goal.renumber_handler-requires
renumber_handler-requires c = subst (CarriedHandler c.args.numbers.now) (sym c.split_at.ensures.back) c.requires.handler

pub overflow_add-known : goal.overflow_add-known
overflow_add-known c =
    let few = c.requires.few in
    let low = number_low _ _ _ c.in_ok-number.number c.in_ok-number.ensures.ok in
    omega (arith, few, low, length-map c.args.handlers.now.keys (λ v. v.items))

-- what is written of the handler
written : (c : In_ok-number) → IsWrittenOf c.args.numbers.now (drop (get_or c.args.offsets.now c.args.k 0) c.args.list.now) c.in_ok-written.written.items
written c = record {
  small = all_bytes _ (subst AreBytes c.deref.ensures.value c.are_bytes.ensures.each);
  packs = subst (λ (l : List ℕ). (x : CarriedHandler c.args.numbers.now l) → PacksHandler (NameRanks x.names) x.starts c.in_ok-written.written.items x.handler) c.split_at.ensures.back c.in_ok-written.ensures.ok;
}

pub returns-clause-ok : goal.returns-clause-ok
returns-clause-ok c = record { key = c.in_ok-written.written.items; numbered = c.in_ok-number.ensures.ok; written = written (goal.at.returns-clause-ok c).In_ok-number }

pub returns-clause-known : goal.returns-clause-known
returns-clause-known c =
    known_more c.args.numbers.now c.args.list.now c.args.offsets.now c.args.known.now _ _ c.in_ok-written.written.items c.args.k c.in_ok-number.number (let n = c.requires.count in let i = c.requires.inside in omega (arith, n, i)) c.requires.known c.in_ok-number.ensures.ok
    (written (goal.at.returns-clause-known c).In_ok-number)
