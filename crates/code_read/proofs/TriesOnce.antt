-- Units and try_items spell one code at most.
use Rattle.std.proofs.Common.{◌≡◌, ℕ, ◌++◌, List, [], sym, ◌∙◌, arith, zero, suc, None, subst}
use Rattle.program_types.specs.Content.{Name, Try}
use Rattle.program_types.specs.Formed.{try_at}
use Rattle.code_read.specs.inner.Symbols.{IsFunctional}
use Rattle.code_read.specs.Handlers.{Handler, SpellsHandlers}
use Rattle.code_read.specs.Tries.{SpellsTry, SpellsTries, handler_of}
use Rattle.code_read.proofs.HandlerLaws.{SpellsList-unique}
use Rattle.dex_base.proofs.ListFacts.{some_one}
use Rattle.std.proofs.lemmas.List.{ext_get_or}

try_same : (t u : Try) → t.from ≡ u.from → t.to ≡ u.to → handler_of t ≡ handler_of u → t ≡ u
try_same t u a b h = λ i. record { from = a i; to = b i; catches = (h i).catches; catch_all = (h i).all }

try-one : (ss items : List ℕ) (hs : List (ℕ × Handler)) (i : ℕ) (t u : Try) → SpellsTry ss items hs i t → SpellsTry ss items hs i u → t ≡ u
try-one ss items hs i t u p q = try_same t u (some_one _ _ _ p.from q.from) (p.to ∙ sym q.to) (some_one _ _ _ p.handler q.handler)

handlers-one : (N : ℕ → Name → Type 0) (ss : List ℕ) (n : ℕ) (l m x y : List ℕ) (hs gs : List (ℕ × Handler)) → IsFunctional N → SpellsHandlers N ss n l hs → SpellsHandlers N ss n m gs → l ++ x ≡ m ++ y → (l ≡ m) × (hs ≡ gs)
handlers-one N ss zero l m x y hs gs f p q e = (p.0 ∙ sym q.0, p.1 ∙ sym q.1)
handlers-one N ss (suc n) l m x y hs gs f p q e = SpellsList-unique N ss f l m x y hs gs p q e

pub tries-one : (N : ℕ → Name → Type 0) (ss : List ℕ) (size n : ℕ) (items l m x y : List ℕ) (ts us : List Try) → IsFunctional N
    → SpellsTries N ss size n items l ts → SpellsTries N ss size n items m us → l ++ x ≡ m ++ y → (l ≡ m) × (ts ≡ us)
tries-one N ss size n items l m x y ts us f p q e =
    let h = handlers-one N ss n l m x y p.handlers q.handlers f p.spelled q.spelled e in
    let a = p.count in let b = q.count in (
      h.0,
      ext_get_or (record { from = 0; to = 0; catches = []; catch_all = None }) ts us (omega arith)
          (λ k i. try-one ss items p.handlers k _ _ (p.each k (omega arith)) (subst (λ (g : List (ℕ × Handler)). SpellsTry ss items g k (try_at us k)) (sym h.1) (q.each k (omega arith)))),
    )
