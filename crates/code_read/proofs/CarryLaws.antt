-- A code that is spelled by one naming is spelled by each naming that it implies.
use Rattle.std.proofs.Common.{ℕ, ℤ, zero, suc, List, Some, None}
use Rattle.dex_base.specs.Grammar.{Many}
use Rattle.dex_base.specs.Leb128.{Spells, SpellsSigned}
use Rattle.dex_base.proofs.WeakerLaws.{Implies, Then-weaker, Pair-weaker, Many-weaker}
use Rattle.dex_base.proofs.PlacedLaws.{Placed-weaker}
use Rattle.dex_insn.specs.Raw as raw
use Rattle.dex_insn.specs.Raw.{Raw}
use Rattle.program_types.specs.Content.{Name, OfDesc, Insn, Try, Code}
use Rattle.code_read.specs.Symbols.{Resolves, InsnNames, name_in}
use Rattle.code_read.specs.Linked.{AreLinked, SpellsInsns}
use Rattle.code_read.specs.Handlers.{Handler, AddressBy, TypeBy, CatchBy, AllBy, PartsBy, HandlerBy, ListBy, SpellsHandlers, catches_of}
use Rattle.code_read.specs.Tries.{SpellsTries}
use Rattle.code_read.specs.Code.{SpellsBody, BodyStands, SpellsCode, CodeStands}
use Rattle.code_read.proofs.StandLaws.{code_body, body_code}

module _ (M N : ℕ → Name → Type 0) (f : (i : ℕ) (which : Name) → M i which → N i which) where
  pub names-weaker : (r : Raw) (which : Name) → InsnNames M r which → InsnNames N r which
  names-weaker (raw.I21c op a i) w p = record { kind = p.kind; stands = f i w p.stands }
  names-weaker (raw.I22c op a b i) w p = record { kind = p.kind; stands = f i w p.stands }
  names-weaker (raw.I31c op a i) w p = record { kind = p.kind; stands = f i w p.stands }
  names-weaker (raw.I35c op n regs i) w p = record { kind = p.kind; stands = f i w p.stands }
  names-weaker (raw.I3rc op n first i) w p = record { kind = p.kind; stands = f i w p.stands }
  names-weaker _ w p = tt

  pub resolves-weaker : (T : ℤ → ℕ) (r : Raw) (i : Insn) → Resolves M T r i → Resolves N T r i
  resolves-weaker T r i s = record { symbol = s.symbol; named = names-weaker r (name_in i) s.named }

  pub linked-weaker : (rs : List Raw) (is : List Insn) → AreLinked M rs is → AreLinked N rs is
  linked-weaker rs is s = record { count = s.count; each = λ k lt. let e = s.each k lt in record { origin = e.origin; counts = e.counts; resolves = resolves-weaker _ _ _ e.resolves } }

  pub insns-weaker : (us : List ℕ) (rs : List Raw) (is : List Insn) → SpellsInsns M us rs is → SpellsInsns N us rs is
  insns-weaker us rs is s = record {
    walk = s.walk;
    linked = linked-weaker rs is s.linked;
    keep = s.keep;
  }

  -- the handlers, whichever spellings of numbers U and S they are spelled by
  module _ (U : List ℕ → ℕ → Type 0) (S : List ℕ → ℤ → Type 0) (ss : List ℕ) where
    type-weaker : Implies (TypeBy U S M ss) (TypeBy U S N ss)
    type-weaker bytes ty t = record { raw = t.raw; spelled = t.spelled; means = f t.raw (OfDesc ty) t.means }

    catch-weaker : Implies (CatchBy U S M ss) (CatchBy U S N ss)
    catch-weaker bytes c = Pair-weaker (TypeBy U S M ss) (TypeBy U S N ss) (AddressBy U S M ss) (AddressBy U S N ss) type-weaker (λ b v p. p) bytes (c.ty, c.at)

    all-weaker : (z : ℤ) → Implies (AllBy U S M ss z) (AllBy U S N ss z)
    all-weaker z bytes None p = p
    all-weaker z bytes (Some n) p = p

    parts-weaker : (z : ℤ) → Implies (PartsBy U S M ss z) (PartsBy U S N ss z)
    parts-weaker z = Pair-weaker (Many (CatchBy U S M ss) (catches_of z)) (Many (CatchBy U S N ss) (catches_of z)) (AllBy U S M ss z) (AllBy U S N ss z)
        (Many-weaker (CatchBy U S M ss) (CatchBy U S N ss) (catches_of z) catch-weaker) (all-weaker z)

    handler-weaker : Implies (HandlerBy U S M ss) (HandlerBy U S N ss)
    handler-weaker bytes h s = record {
      raw = s.raw;
      spelled = Then-weaker S S (PartsBy U S M ss) (PartsBy U S N ss) (λ b v p. p) parts-weaker bytes s.raw s.spelled;
      means = s.means;
    }

    pub list-weaker : (bytes : List ℕ) (hs : List (ℕ × Handler)) → ListBy U S M ss bytes hs → ListBy U S N ss bytes hs
    list-weaker bytes hs s = record {
      front = s.front;
      back = s.back;
      joined = s.joined;
      count = s.count;
      each = Placed-weaker (HandlerBy U S M ss) (HandlerBy U S N ss) handler-weaker _ s.back hs s.each;
    }

  module _ (ss : List ℕ) where
    handlers-weaker : (n : ℕ) (bytes : List ℕ) (hs : List (ℕ × Handler)) → SpellsHandlers M ss n bytes hs → SpellsHandlers N ss n bytes hs
    handlers-weaker zero bytes hs s = s
    handlers-weaker (suc n) bytes hs s = list-weaker Spells SpellsSigned ss bytes hs s

    tries-weaker : (size n : ℕ) (items list : List ℕ) (ts : List Try) → SpellsTries M ss size n items list ts → SpellsTries N ss size n items list ts
    tries-weaker size n items list ts s =
        record { count = s.count; hold = s.hold; handlers = s.handlers; spelled = handlers-weaker n list s.handlers s.spelled; each = s.each }

  pub SpellsBody-weaker : Implies (SpellsBody M) (SpellsBody N)
  SpellsBody-weaker bytes c s = record {
    whole = s.whole;
    some = s.some;
    registers = s.registers;
    ins = s.ins;
    outs = s.outs;
    raws = s.raws;
    insns = insns-weaker _ s.raws c.insns s.insns;
    tries = tries-weaker _ _ _ _ _ c.tries s.tries;
  }

  pub body_weaker : (b : List ℕ) (off : ℕ) (c : Code) → BodyStands M b off c → BodyStands N b off c
  body_weaker b off c a =
      record { begin = a.begin; end = a.end; section = a.section; after = a.after; aligned = a.aligned; size = a.size; within = a.within; spelled = SpellsBody-weaker _ c a.spelled }

  pub SpellsCode-weaker : Implies (SpellsCode M) (SpellsCode N)
  SpellsCode-weaker bytes c s = record { body = SpellsBody-weaker bytes c s.body; named = s.named }

  pub code_weaker : (b : List ℕ) (off : ℕ) (c : Code) → CodeStands M b off c → CodeStands N b off c
  code_weaker b off c a = body_code N b off c a.spelled.named (body_weaker b off c (code_body M b off c a))
