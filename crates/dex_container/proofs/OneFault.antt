-- Header, map and checksums have one fault.
use Rattle.std.proofs.Common.{◌≡◌, ℕ, List, sym, subst, arith}
use Rattle.dex_base.specs.declared.fault.Fault.{Fault}
use Rattle.dex_container.specs.Faults.{FrameBreaks, IsFrameFault}

pub one_fault : (b : List ℕ) (e f : Fault) → IsFrameFault b e → IsFrameFault b f → e ≡ f
one_fault b e f x y =
    let le = x.number f.code f.place y.stands in
    let ge = y.number e.code e.place x.stands in
    let code : e.code ≡ f.code = omega (arith, le, ge) in
    let down = x.place f.place (subst (λ (c : ℕ). FrameBreaks b c f.place) (sym code) y.stands) in
    let up = y.place e.place (subst (λ (c : ℕ). FrameBreaks b c e.place) code x.stands) in
    let place : e.place ≡ f.place = omega (arith, down, up) in
    (λ j. record { code = code j; place = place j })
