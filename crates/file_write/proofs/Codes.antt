-- What is written of a code by one naming is written of it by each naming that it implies.
use Rattle.std.proofs.Common.{ℕ, ℤ, zero, suc, List, Some, None}
use Rattle.dex_base.specs.Leb128.{SpellsSigned, Shortest, Spells}
use Rattle.dex_base.proofs.PlacedLaws.{Placed-weaker}
use Rattle.dex_base.proofs.WeakerLaws.{Implies, Many-weaker, Pair-weaker, Then-weaker}
use Rattle.code_read.specs.Handlers.{AllBy, Handler, PacksHandlers, PartsBy, AddressBy, TypeBy, catches_of}
use Rattle.code_write.specs.Packs.{AreLowered, PacksCode, PacksHandlersOf}
use Rattle.code_write.specs.inner.Packs.{PacksCatch, PacksHandler}
use Rattle.dex_insn.specs.Raw as raw
use Rattle.dex_insn.specs.Raw.{Raw}
use Rattle.program_types.specs.Content.{Code, Insn, Name, OfDesc, Try}
use Rattle.code_read.proofs.CarryLaws.{resolves-weaker}

module _ (M N : ℕ → Name → Type 0) (f : (i : ℕ) (which : Name) → M i which → N i which) where
  -- ---- instructions

  lowered-weaker : (is : List Insn) (ss : List ℕ) (rs : List Raw) → AreLowered M is ss rs → AreLowered N is ss rs
  lowered-weaker is ss rs l = record {
    count = l.count;
    each = λ k lt.
        let e = l.each k lt in
        let o = e.lowers in
        record { origin = e.origin; counts = e.counts; lowers = record { resolves = resolves-weaker M N f _ _ _ o.resolves; fits = o.fits; size = o.size; kind = o.kind }; even = e.even };
  }

  -- ---- handlers

  module _ (ss : List ℕ) where
    type-weaker : Implies (TypeBy (Shortest Spells) (Shortest SpellsSigned) M ss) (TypeBy (Shortest Spells) (Shortest SpellsSigned) N ss)
    type-weaker bytes ty t = record { raw = t.raw; spelled = t.spelled; means = f t.raw (OfDesc ty) t.means }

    catch-weaker : Implies (PacksCatch M ss) (PacksCatch N ss)
    catch-weaker bytes c =
        Pair-weaker (TypeBy (Shortest Spells) (Shortest SpellsSigned) M ss) (TypeBy (Shortest Spells) (Shortest SpellsSigned) N ss) (AddressBy (Shortest Spells) (Shortest SpellsSigned) M ss) (AddressBy (Shortest Spells) (Shortest SpellsSigned) N ss) type-weaker (λ b v p. p) bytes (c.ty, c.at)

    all-weaker : (z : ℤ) → Implies (AllBy (Shortest Spells) (Shortest SpellsSigned) M ss z) (AllBy (Shortest Spells) (Shortest SpellsSigned) N ss z)
    all-weaker z bytes None p = p
    all-weaker z bytes (Some n) p = p

    parts-weaker : (z : ℤ) → Implies (PartsBy (Shortest Spells) (Shortest SpellsSigned) M ss z) (PartsBy (Shortest Spells) (Shortest SpellsSigned) N ss z)
    parts-weaker z = Pair-weaker _ _ _ _ (Many-weaker (PacksCatch M ss) (PacksCatch N ss) (catches_of z) catch-weaker) (all-weaker z)

    handler-weaker : Implies (PacksHandler M ss) (PacksHandler N ss)
    handler-weaker bytes h s = record {
      raw = s.raw;
      spelled = Then-weaker (Shortest SpellsSigned) (Shortest SpellsSigned) (PartsBy (Shortest Spells) (Shortest SpellsSigned) M ss) (PartsBy (Shortest Spells) (Shortest SpellsSigned) N ss) (λ b v p. p) parts-weaker bytes s.raw s.spelled;
      means = s.means;
    }

    handlers-weaker : (n : ℕ) (bytes : List ℕ) (hs : List (ℕ × Handler)) → PacksHandlers M ss n bytes hs → PacksHandlers N ss n bytes hs
    handlers-weaker zero bytes hs s = s
    handlers-weaker (suc n) bytes hs s = record {
      front = s.front;
      back = s.back;
      joined = s.joined;
      count = s.count;
      each = Placed-weaker (PacksHandler M ss) (PacksHandler N ss) handler-weaker _ s.back hs s.each;
    }

    handlers-of-weaker : (ts : List Try) (list offs : List ℕ) → PacksHandlersOf M ss ts list offs → PacksHandlersOf N ss ts list offs
    handlers-of-weaker ts list offs h = record {
      handlers = h.handlers;
      spelled = handlers-weaker _ list h.handlers h.spelled;
      order = h.order;
      offsets = h.offsets;
      bytes = h.bytes;
      short = h.short;
    }

  pub PacksCode-weaker : (bytes : List ℕ) (c : Code) → PacksCode M bytes c → PacksCode N bytes c
  PacksCode-weaker bytes c p = record {
    raws = p.raws;
    lowered = lowered-weaker _ _ p.raws p.lowered;
    list = p.list;
    offsets = p.offsets;
    handlers = handlers-of-weaker _ _ p.list p.offsets p.handlers;
    few = p.few;
    near = p.near;
    short = p.short;
    is = p.is;
  }
