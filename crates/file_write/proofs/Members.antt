-- Class data in the fewest bytes is class data, and its members stand where their names do.
use Rattle.std.proofs.Common.{◌≡◌, ℕ, List, [], length, ap, arith}
use Rattle.dex_base.specs.Grammar.{Pair}
use Rattle.dex_base.specs.Leb128.{Spells, Shortest}
use Rattle.dex_base.proofs.WeakerLaws.{Implies, Shortest-weaker, Then-weaker, Pair-weaker, Many-weaker}
use Rattle.file_classes.specs.ClassData.{FieldEntry, MethodEntry, Entries, counts_of, lists_of, SpellsFieldEntry, SpellsMethodEntry, SpellsCounts, SpellsLists, SpellsEntries, EntriesAre}
use Rattle.file_classes.specs.Classes.{IsField, IsMethod, MembersAre}
use Rattle.program_types.specs.Content.{Name, OfField, OfMethod, Descriptor, Member, Method, Class}
use Rattle.file_put.specs.inner.Data.{FieldRanks, MethodRanks, MembersRank}
use Rattle.tables_rows.specs.Stands.{NameStands}

-- ---- numbers in any spelling

field_spelled : Implies (SpellsFieldEntry (Shortest Spells)) (SpellsFieldEntry Spells)
field_spelled = Pair-weaker (Shortest Spells) Spells (Shortest Spells) Spells (Shortest-weaker Spells) (Shortest-weaker Spells)

method_spelled : Implies (SpellsMethodEntry (Shortest Spells)) (SpellsMethodEntry Spells)
method_spelled = Pair-weaker (Shortest Spells) Spells (Pair (Shortest Spells) (Shortest Spells)) (Pair Spells Spells) (Shortest-weaker Spells) field_spelled

counts_spelled : Implies (SpellsCounts (Shortest Spells)) (SpellsCounts Spells)
counts_spelled = Pair-weaker (Shortest Spells) Spells (SpellsMethodEntry (Shortest Spells)) (SpellsMethodEntry Spells) (Shortest-weaker Spells) method_spelled

lists_spelled : (n : ℕ × (ℕ × (ℕ × ℕ))) → Implies (SpellsLists (Shortest Spells) n) (SpellsLists Spells n)
lists_spelled n =
    let fields = λ (k : ℕ). Many-weaker (SpellsFieldEntry (Shortest Spells)) (SpellsFieldEntry Spells) k field_spelled in
    let methods = λ (k : ℕ). Many-weaker (SpellsMethodEntry (Shortest Spells)) (SpellsMethodEntry Spells) k method_spelled in
    Pair-weaker _ _ _ _ (fields n.0) (Pair-weaker _ _ _ _ (fields n.1.0) (Pair-weaker _ _ _ _ (methods n.1.1.0) (methods n.1.1.1)))

pub entries_spelled : (bytes : List ℕ) (e : Entries) → SpellsEntries (Shortest Spells) bytes e → SpellsEntries Spells bytes e
entries_spelled bytes e s =
    Then-weaker (SpellsCounts (Shortest Spells)) (SpellsCounts Spells) (SpellsLists (Shortest Spells)) (SpellsLists Spells) counts_spelled lists_spelled bytes (counts_of e, lists_of e) s

-- ---- runs

-- entries that stand for these stand for them by what follows
pub run_weaker : {R V : Type 0} (M P : ℕ → ℕ × R → V → Type 0) → ((k : ℕ) (e : ℕ × R) (v : V) → M k e v → P k e v) → (es : List (ℕ × R)) (vs : List V) → EntriesAre M es vs → EntriesAre P es vs
run_weaker M P f es vs r = record { count = r.count; each = λ k e v p q. f _ e v (r.each k e v p q); rises = r.rises }

-- no entries stand for nothing
pub empty_run : {R V : Type 0} (M : ℕ → ℕ × R → V → Type 0) (vs : List V) → vs ≡ [] → EntriesAre M [] vs
empty_run M vs none = record { count = ap length none; each = λ k e v p q. absurd cc; rises = λ k some lt. absurd (omega arith) }

module _ (b : List ℕ) (N : ℕ → Name → Type 0) (stand : (i : ℕ) (which : Name) → N i which → NameStands b i which) where
  field_is : (class : Descriptor) (k : ℕ) (e : FieldEntry) (m : Member) → FieldRanks N class k e m → IsField b class k e m
  field_is class k e m r = record { field = stand k (OfField (record { class = class; name = m.name; ty = m.ty })) r.field; flags = r.flags }

  method_is : (class : Descriptor) (k : ℕ) (e : MethodEntry) (m : Method) → MethodRanks N class k e m → IsMethod b class k e m
  method_is class k e m r = record { method = stand k (OfMethod (record { class = class; name = m.name; proto = m.proto })) r.method; flags = r.flags }

  pub members_stand : (e : Entries) (c : Class) → MembersRank N e c → MembersAre b e c
  members_stand e c m = record {
    statics = run_weaker (FieldRanks N c.ty) (IsField b c.ty) (field_is c.ty) e.statics c.statics m.statics;
    instances = run_weaker (FieldRanks N c.ty) (IsField b c.ty) (field_is c.ty) e.instances c.instances m.instances;
    directs = run_weaker (MethodRanks N c.ty) (IsMethod b c.ty) (method_is c.ty) e.directs c.directs m.directs;
    virtuals = run_weaker (MethodRanks N c.ty) (IsMethod b c.ty) (method_is c.ty) e.virtuals c.virtuals m.virtuals;
  }
