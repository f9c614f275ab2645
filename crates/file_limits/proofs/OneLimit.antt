-- Of a program one limit is told, at one place.
use Rattle.std.proofs.Common.{◌≡◌, ℕ, refl, subst, arith}
use Rattle.dex_base.specs.declared.fault.Fault.{Fault}
use Rattle.program_types.specs.Content.{Program}
use Rattle.file_limits.specs.Limits.{BodyBreaks, HandlerTooFar, IsLowestLimit, LimitBreaks, TooBig, TooManyProtos, TooManyTypes}
use Rattle.file_limits.proofs.LimitLaws.{class_range}

limit_place : (p : Program) (n a b : ℕ) → LimitBreaks p n a → LimitBreaks p n b → a ≡ b
limit_place p n a b (TooManyTypes x) (TooManyTypes y) = refl
limit_place p n a b (TooManyTypes x) (BodyBreaks most f) = let r = class_range p n b f.here in let low = r.0 in omega (arith, low)
limit_place p n a b (TooManyProtos x) (TooManyProtos y) = refl
limit_place p n a b (TooManyProtos x) (BodyBreaks most f) = let r = class_range p n b f.here in let low = r.0 in omega (arith, low)
limit_place p n a b (BodyBreaks most f) (TooManyTypes y) = let r = class_range p n a f.here in let low = r.0 in omega (arith, low)
limit_place p n a b (BodyBreaks most f) (TooManyProtos y) = let r = class_range p n a f.here in let low = r.0 in omega (arith, low)
limit_place p n a b (BodyBreaks most f) (BodyBreaks more g) = let l = f.first b g.here in let m = g.first a f.here in omega (arith, l, m)
limit_place p n a b (BodyBreaks most f) (HandlerTooFar small g) = omega (arith, most)
limit_place p n a b (BodyBreaks most f) (TooBig y) = omega (arith, most)
limit_place p n a b (HandlerTooFar small f) (BodyBreaks most g) = omega (arith, most)
limit_place p n a b (HandlerTooFar small f) (HandlerTooFar little g) = let l = f.first b g.here in let m = g.first a f.here in omega (arith, l, m)
limit_place p n a b (TooBig x) (BodyBreaks most g) = omega (arith, most)
limit_place p n a b (TooBig x) (TooBig y) = refl

pub limit_one : (p : Program) (e f : Fault) → IsLowestLimit p e → IsLowestLimit p f → e ≡ f
limit_one p e f a b =
    let l = a.lowest f.code f.place b.breaks in let m = b.lowest e.code e.place a.breaks in
    let n : e.code ≡ f.code = omega (arith, l, m) in
    let at = limit_place p f.code e.place f.place (subst (λ (k : ℕ). LimitBreaks p k e.place) n a.breaks) b.breaks in
    (λ k. record { code = n k; place = at k })
