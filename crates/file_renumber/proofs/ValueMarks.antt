-- What values name is marked.
use Rattle.std.proofs.Common.{◌≡◌, ℕ, ◌+◌, ◌*◌, ◌<◌, ◌≤◌, List, [], ◌∷◌, ◌++◌, length, take, drop, get_or, refl, sym, ap, subst, ◌∙◌, arith}
use Rattle.std.proofs.Math.Seq.{drop-cons}
use Rattle.std.proofs.lemmas.List.{take_more, take_all, length-append, take-append-drop}
use Rattle.std.specs.List.{flat_map}
use Rattle.dex_base.specs.Grammar.{Takes, Each, Many}
use Rattle.program_types.specs.Content.{Name, Value, Null, values}
use Rattle.program_types.specs.Mentions.{names_of_value}
use Rattle.tables_rows.specs.Stands.{NameStands}
use Rattle.dex_value.specs.Spelling.{SpellsValue}
use Rattle.dex_value.specs.Wide.{wide_value, wide_values}
use Rattle.file_renumber.specs.inner.Marked.{Marked, AddsNames}
use Rattle.file_renumber.proofs.MarkLemmas.{adds_none, adds_next}
use Rattle.file_renumber.specs.inner.ValueWalks.{MarksValue, MarksValues}
use Rattle.file_renumber.proofs.FrontLemmas.{TakenArray, IsLone, taken_lone, due_start, NextDue, due_next, due_end}
use Rattle.file_renumber.proofs.NameLemmas.{names-listed, each_wide, lone_wide, lone_names}
use Rattle.program_types.proofs.Nesting.{listed, values-listed}

-- ---- lists of names

wide_append : (xs ys : List Value) → wide_values (values (xs ++ ys)) ≡ wide_values (values xs) + wide_values (values ys)
wide_append [] ys = omega arith
wide_append (x ∷ xs) ys = let e = wide_append xs ys in omega (arith, e)

-- ---- an array

pub array_marked : (b : List ℕ) (old new : Marked) (tail rest : List ℕ) (v : Value) (t : TakenArray (NameStands b) tail v rest) (wide : ℕ) (after : List ℕ) → MarksValues b old new (listed t.vs) rest wide after → MarksValue b old new v rest (6 + wide) after
array_marked b old new tail rest v t wide after m = record {
  follows = m.follows;
  wide = let e : wide ≡ wide_values t.vs = m.wide ∙ ap wide_values (values-listed t.vs) in ap (λ n. 6 + n) e ∙ sym (ap wide_value t.value);
  marked = subst (λ (ns : List Name). AddsNames b old new ns) (names-listed t.vs ∙ sym (ap names_of_value t.value)) m.marked;
}

-- ---- values one after the other

-- those before a place are marked, and those from it on are due
pub record Walked (b : List ℕ) (old new : Marked) (sum : ℕ) (left : List ℕ) (turn : ℕ) (vs : List Value) (rest : List ℕ) : Type 0 where
  pub wide : sum ≡ wide_values (values (take turn vs))
  pub marked : AddsNames b old new (flat_map names_of_value (take turn vs))
  pub due : Takes (Each (SpellsValue (NameStands b))) left (drop turn vs) rest

pub walked_start : (b : List ℕ) (old : Marked) (n : ℕ) (bytes : List ℕ) (vs : List Value) (rest : List ℕ) → Takes (Many (SpellsValue (NameStands b)) n) bytes vs rest → Walked b old old 0 bytes 0 vs rest
walked_start b old n bytes vs rest t = record {
  wide = refl;
  marked = adds_none b old;
  due = due_start (SpellsValue (NameStands b)) n bytes vs rest t;
}

-- the value that is due next
pub next_due : (b : List ℕ) (n : ℕ) (bytes left : List ℕ) (turn : ℕ) (vs : List Value) (rest : List ℕ) (old new : Marked) (sum : ℕ) → turn < n → Takes (Many (SpellsValue (NameStands b)) n) bytes vs rest → Walked b old new sum left turn vs rest → NextDue (SpellsValue (NameStands b)) left turn vs Null rest
next_due b n bytes left turn vs rest old new sum lt t w = let count = t.spelled.0 in due_next (SpellsValue (NameStands b)) left turn vs Null rest (omega (arith, lt, count)) w.due

-- one value more
pub walked_next : (b : List ℕ) (n : ℕ) (bytes left after : List ℕ) (turn : ℕ) (vs : List Value) (rest : List ℕ) (old mid new : Marked) (sum wide : ℕ) → turn < n → Takes (Many (SpellsValue (NameStands b)) n)
    bytes vs rest → Walked b old mid sum left turn vs rest → (d : NextDue (SpellsValue (NameStands b)) left turn vs Null rest) → MarksValue b mid new (get_or vs turn Null) d.mid wide after → Walked b old new (sum + wide) after (turn + 1) vs rest
walked_next b n bytes left after turn vs rest old mid new sum wide lt t w d m =
    let count = t.spelled.0 in
    let more : take (turn + 1) vs ≡ take turn vs ++ get_or vs turn Null ∷ [] = take_more vs turn Null (omega (arith, lt, count)) in
    let one = get_or vs turn Null in
    record {
      wide = (let e = w.wide in let f = m.wide in let g = wide_append (take turn vs) (one ∷ []) in let h : sum + wide ≡ wide_values (values (take turn vs ++ one ∷ [])) = omega (arith, e, f, g) in h)
          ∙ ap (λ (ws : List Value). wide_values (values ws)) (sym more);
      marked = adds_next names_of_value b old mid new vs turn Null (omega (arith, lt, count)) w.marked m.marked;
      due = subst (λ (l : List ℕ). Takes (Each (SpellsValue (NameStands b))) l (drop (turn + 1) vs) rest) (sym m.follows) d.more;
    }

-- what was walked takes at most nine bytes for each byte
pub walked_few : (b : List ℕ) (n : ℕ) (bytes left : List ℕ) (turn : ℕ) (vs : List Value) (rest : List ℕ) (old new : Marked) (sum : ℕ) → Takes (Many (SpellsValue (NameStands b)) n) bytes vs rest → Walked b old new sum left turn vs rest → sum + wide_values (values (drop turn vs)) ≤ 9 * length bytes
walked_few b n bytes left turn vs rest old new sum t w =
    let all = each_wide (NameStands b) t.front vs t.spelled.1 in
    let size = ap length t.whole ∙ length-append t.front rest in
    let e = w.wide in
    let f = wide_append (take turn vs) (drop turn vs) in
    let g : wide_values (values (take turn vs ++ drop turn vs)) ≡ wide_values (values vs) = ap (λ (ws : List Value). wide_values (values ws)) (take-append-drop turn vs) in
    omega (arith, all, size, e, f, g)

pub walked_end : (b : List ℕ) (n : ℕ) (bytes left : List ℕ) (turn : ℕ) (vs : List Value) (rest : List ℕ) (old new : Marked) (sum : ℕ) → n ≤ turn → Takes (Many (SpellsValue (NameStands b)) n) bytes vs rest → Walked b old new sum left turn vs rest → MarksValues b old new vs rest sum left
walked_end b n bytes left turn vs rest old new sum le t w =
    let count = t.spelled.0 in
    let all : length vs ≤ turn = omega (arith, le, count) in
    let whole : take turn vs ≡ vs = take_all turn vs all in
    record {
      follows = due_end (SpellsValue (NameStands b)) left turn vs rest all w.due;
      wide = w.wide ∙ ap (λ (ws : List Value). wide_values (values ws)) whole;
      marked = subst (λ (ws : List Value). AddsNames b old new (flat_map names_of_value ws)) whole w.marked;
    }

-- values that are due take at most nine bytes for each byte
pub values_few : (b : List ℕ) (n : ℕ) (bytes : List ℕ) (vs : List Value) (rest : List ℕ) → Takes (Many (SpellsValue (NameStands b)) n) bytes vs rest → wide_values (values vs) ≤ 9 * length bytes
values_few b n bytes vs rest t =
    let all = each_wide (NameStands b) t.front vs t.spelled.1 in
    let size = ap length t.whole ∙ length-append t.front rest in
    omega (arith, all, size)

-- the next value is one of those that are due
pub next_wide : (b : List ℕ) (n : ℕ) (bytes : List ℕ) (vs : List Value) (rest : List ℕ) (turn : ℕ) → turn < n → Takes (Many (SpellsValue (NameStands b)) n) bytes vs rest → wide_value (get_or vs turn Null) ≤ wide_values (values (drop turn vs))
next_wide b n bytes vs rest turn lt t =
    let count = t.spelled.0 in
    let e = ap (λ (ws : List Value). wide_values (values ws)) (drop-cons vs turn Null (omega (arith, lt, count))) in
    omega (arith, e)

-- ---- a value without bytes after its head

pub lone_marked : (b : List ℕ) (m : Marked) (h : ℕ) (bytes tail rest : List ℕ) (v : Value) → bytes ≡ h ∷ tail → Takes (SpellsValue (NameStands b)) bytes v rest → IsLone h → MarksValue b m m v rest 9 tail
lone_marked b m h bytes tail rest v first t lone =
    let x = taken_lone (NameStands b) h bytes tail rest v first t lone in
    record {
      follows = x.1;
      wide = lone_wide (h ∷ []) v x.0;
      marked = subst (λ (ns : List Name). AddsNames b m m ns) (sym (lone_names (h ∷ []) v x.0)) (adds_none b m);
    }
