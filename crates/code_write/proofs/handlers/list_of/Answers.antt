use Rattle.std.proofs.Common.{◌≡◌, ◌++◌, ◌∙◌, ℕ, List, length, [], ◌∷◌, refl, arith, ap, length-append}
use Rattle.dex_base.specs.Leb128.{Spells, Shortest}
use Rattle.code_write.specs.inner.Writing.{places_from}
use Rattle.code_write.proofs.HandlerPacks.{alone}
use Rattle.code_write.proofs.ListedLaws.{seen, key-at, bytes-turn, places-turn, bytes-few, listed}
use Rattle.code_write.proofs.handlers.list_of.Goals as goal

pub unreachable-requires : goal.unreachable-requires
unreachable-requires c = let f = c.in_default.ensures.found.1 (let e = c.len-k-end.ensures.len in let t = c.loop-k-test.true in omega arith) in cc

pub loop-k-init : goal.loop-k-init
loop-k-init c = record { is = refl; places_are = ap (λ (z : List ℕ). z ++ places_from (length c.put_uleb.new.out.items) (seen c.args.handlers.now.keys)) c.in_ok-places.ensures.items }

pub overflow_cast-len-in-loop-k : goal.overflow_cast-len-in-loop-k
overflow_cast-len-in-loop-k c =
    let b = bytes-few (seen c.args.handlers.now.keys) c.loop-k.bytes.items c.put_uleb.new.out.items _ _ c.loop-k.invariant.is (alone (Shortest Spells) _ _ _ c.new-bytes.ensures.items c.in_ok-put_uleb.ensures.ok) in
    let s = c.requires.short in
    omega (arith, c.len-in-loop-k.ensures)

pub loop-k-preserved : goal.loop-k-preserved
loop-k-preserved c =
    let key = key-at c.args.handlers.now.keys c.loop-k.k c.in-Some.one.now c.in-Some.ensures.key in
    let at : c.len-in-loop-k.result ≡ length c.loop-k.bytes.items = omega (arith, c.len-in-loop-k.ensures) in
    let n = c.in_ok-extend_from_slice.ensures.items ∙ ap (λ (z : List ℕ). c.loop-k.bytes.items ++ z) c.deref.ensures.value in
    record {
      is = bytes-turn (seen c.args.handlers.now.keys) c.loop-k.k c.in-Some.one.now.items c.loop-k.bytes.items _ _ key n c.loop-k.invariant.is;
      places_are = places-turn (seen c.args.handlers.now.keys) c.loop-k.k (length c.loop-k.bytes.items) _ c.in-Some.one.now.items c.loop-k.places.items _ _ key (ap length n ∙ length-append c.loop-k.bytes.items c.in-Some.one.now.items)
          (c.in_ok-push.ensures.items ∙ ap (λ (x : ℕ). c.loop-k.places.items ++ x ∷ []) at) c.loop-k.invariant.places_are;
    }

pub returns-clause-ok : goal.returns-clause-ok
returns-clause-ok c =
    listed c.args.handlers.now.keys c.loop-k.k _ c.put_uleb.new.out.items _ _ c.new-bytes.result.items
    (let e = c.len-k-end.ensures.len in let t = c.loop-k-test.false in omega arith) c.len-2.ensures.len c.new-bytes.ensures.items c.in_ok-put_uleb.ensures.ok c.loop-k.invariant.is c.loop-k.invariant.places_are
