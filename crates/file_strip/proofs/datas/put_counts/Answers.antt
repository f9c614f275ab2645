use Rattle.std.proofs.Common.{◌≡◌, ℕ, length, subst, arith}
use Rattle.std.proofs.lemmas.Result.{on_ok_weaker}
use Rattle.dex_base.proofs.GrammarLaws.{Then-appends}
use Rattle.dex_base.specs.Grammar.{Appends, Pair}
use Rattle.dex_base.specs.Leb128.{Spells, Shortest}
use Rattle.file_classes.specs.ClassData.{SpellsCounts}
use Rattle.file_strip.proofs.datas.put_counts.Goals as goal

pub returns-clause-ok : goal.returns-clause-ok
returns-clause-ok c =
    let all = c.args.all.now in
    let e1 : c.len.result ≡ length all.statics.items = omega (arith, c.len.ensures, all.statics.ok.0) in
    let e2 : c.len-2.result ≡ length all.instances.items = omega (arith, c.len-2.ensures, all.instances.ok.0) in
    let e3 : c.len-3.result ≡ length all.directs.items = omega (arith, c.len-3.ensures, all.directs.ok.0) in
    let e4 : c.len-4.result ≡ length all.virtuals.items = omega (arith, c.len-4.ensures, all.virtuals.ok.0) in
    on_ok_weaker c.put_uleb-4.result
    (λ a. subst (λ (n : ℕ × (ℕ × (ℕ × ℕ))). Appends (SpellsCounts (Shortest Spells)) c.args.out.now.items c.put_uleb-4.new.out.items n) (λ j. (e1 j, (e2 j, (e3 j, e4 j))))
    (Then-appends (Shortest Spells) (λ (n : ℕ). Pair (Shortest Spells) (Pair (Shortest Spells) (Shortest Spells))) _ _ _ _ _ c.in_ok-put_uleb.ensures.ok
    (Then-appends (Shortest Spells) (λ (n : ℕ). Pair (Shortest Spells) (Shortest Spells)) _ _ _ _ _ c.in_ok-put_uleb-2.ensures.ok
    (Then-appends (Shortest Spells) (λ (n : ℕ). Shortest Spells) _ _ _ _ _ c.in_ok-put_uleb-3.ensures.ok a))))
    c.put_uleb-4.ensures.ok
