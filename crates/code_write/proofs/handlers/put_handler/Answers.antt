use Rattle.std.proofs.Common.{◌<◌, ◌≢◌, ℕ, ℤ, [], map, length, sym, subst, pos}
use Rattle.std.specs.Prelude.{neg_ℤ}
use Rattle.std.proofs.lemmas.Result.{on_ok_weaker}
use Rattle.std.proofs.lemmas.List.{length-map}
use Rattle.dex_base.specs.Grammar.{Appends}
use Rattle.dex_base.specs.Leb128.{SpellsSigned, Shortest}
use Rattle.program_types.specs.View.{catch, try}
use Rattle.tables_names.specs.Closure.{NameRanks}
use Rattle.code_read.specs.Tries.{handler_of}
use Rattle.code_write.proofs.HandlerPacks.{handler-without, handler-with, small, minus, if-some, if-none}
use Rattle.code_write.proofs.handlers.put_handler.Goals as goal

pub put_address-requires : goal.put_address-requires
put_address-requires c = record { inside = if-some (λ (k : ℕ). k < length c.args.starts.now) c.args.one.now.catch_all c.in-Some.at c.in-Some.is c.requires.last }

pub returns-in_ok-put_sleb-in-None-clause-ok : goal.returns-in_ok-put_sleb-in-None-clause-ok
returns-in_ok-put_sleb-in-None-clause-ok c =
    let n = length c.args.one.now.catches.now in
    let s : Appends (Shortest SpellsSigned) c.args.out.now.items c.put_sleb.new.out.items (pos n) =
    subst (λ (z : ℤ). Appends (Shortest SpellsSigned) c.args.out.now.items c.put_sleb.new.out.items z) (small n c.requires.few) c.in_ok-put_sleb-in-None.ensures.ok in
    on_ok_weaker c.put_catches.result
    (λ q. handler-without (NameRanks c.args.ranks.now) c.args.starts.now _ _ _ n (handler_of (try c.args.one.now)) c.in-None.is (if-none (map catch c.args.one.now.catches.now ≢ []) c.args.one.now.catch_all c.in-None.is c.requires.handled)
    (sym (length-map c.args.one.now.catches.now catch)) s q)
    c.put_catches.ensures.ok

pub returns-in_ok-put_catches-in-Some-clause-ok : goal.returns-in_ok-put_catches-in-Some-clause-ok
returns-in_ok-put_catches-in-Some-clause-ok c =
    let n = length c.args.one.now.catches.now in
    let s : Appends (Shortest SpellsSigned) c.args.out.now.items c.put_sleb-in-Some.new.out.items (neg_ℤ (pos n)) =
    subst (λ (z : ℤ). Appends (Shortest SpellsSigned) c.args.out.now.items c.put_sleb-in-Some.new.out.items z) (minus n c.requires.few) c.in_ok-put_sleb-in-Some.ensures.ok in
    on_ok_weaker c.put_address.result
    (λ r. handler-with (NameRanks c.args.ranks.now) c.args.starts.now _ _ _ _ n c.in-Some.at (handler_of (try c.args.one.now)) c.in-Some.is
    (sym (length-map c.args.one.now.catches.now catch)) s c.in_ok-put_catches-in-Some.ensures.ok r)
    c.put_address.ensures.ok
