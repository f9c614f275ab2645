-- What is known of a finished file.
use Rattle.std.proofs.Common.{◌≡◌, ℕ, ◌+◌, ◌-◌, ◌*◌, ◌^◌, ◌<◌, ◌≤◌, List, [], ◌∷◌, ◌++◌, length, map, take, drop, get_or, refl, sym, ap, ◌∙◌, subst, arith, append_assoc, length-append, length-drop, length-take, lit<}
use Rattle.std.proofs.lemmas.List.{drop-drop, drop_at, take_at, drop-append-le, take-append-le, take_all}
use Rattle.std.proofs.lemmas.List.Sums.{count_by-le-length, length-filter}
use Rattle.std.specs.List.{filter, flat_map, AllByRecursion}
use Rattle.dex_base.specs.Fields.{AreBytes, u16_at, u32_at, u32_bytes}
use Rattle.dex_base.specs.Words.{words_bytes}
use Rattle.dex_base.proofs.FieldBounds.{u16_at-drop, u16_at-take, u32_at-drop, u32_at-take, length-u32_bytes}
use Rattle.dex_base.proofs.WordsBytes.{u32_at-words, words_bytes-more}
use Rattle.dex_container.specs.Layout.{map_place}
use Rattle.dex_container.specs.Frame.{HasMagic, HasVersion}
use Rattle.dex_container.specs.Closed.{SetsSums}
use Rattle.dex_container.proofs.ClosedBytes.{IsClosed-u32_at, length-IsClosed, IsClosed-magic}
use Rattle.dex_container.specs.Where.{slice}
use Rattle.file_layout.specs.declared.map_list.Entry.{Entry}
use Rattle.file_layout.specs.declared.plan.Plan.{Plan}
use Rattle.file_layout.specs.declared.plan.Rows.{Rows}
use Rattle.file_layout.specs.Tiles.{zeros, gap, IsNext}
use Rattle.file_layout.specs.inner.Tiles.{Agree}
use Rattle.file_layout.specs.inner.Spans.{Span, has_items, MapNames}
use Rattle.file_layout.specs.inner.Plan.{tables_end, header_words, spans_of, IsPlanned}
use Rattle.file_layout.specs.inner.Entries.{list_words, entry_of}
use Rattle.file_layout.specs.inner.Finished.{Finishes}
use Rattle.file_layout.proofs.TileLaws.{length-zeros}
use Rattle.file_layout.proofs.MapBytes.{map_is, three, list_words_are, length-three, few_words}
use Rattle.file_layout.proofs.MapLaws.{all_at, all_kept}

pub length-words : (xs : List ℕ) → length (words_bytes xs) ≡ 4 * length xs
unfolding words_bytes
length-words [] = refl
length-words (x ∷ xs) =
    let e = length-append (u32_bytes x) (words_bytes xs) in
    let f = length-u32_bytes x in
    let r = length-words xs in
    omega (arith, e, f, r)

magic_of : (r : Rows) (q n : ℕ) (rest : List ℕ) → HasMagic (words_bytes (header_words r q n) ++ rest) × HasVersion (words_bytes (header_words r q n) ++ rest)
unfolding words_bytes u32_bytes u32_at u16_at
magic_of r q n rest = (record { dex = refl; zero = refl }, record { front = refl; back = refl })

-- all is written
pub put_end : (old new ws : List ℕ) (n : ℕ) → length ws ≤ n → n ≤ length ws → new ≡ words_bytes (take n ws) ++ drop (4 * n) old → new ≡ words_bytes ws ++ drop (4 * length ws) old
put_end old new ws n a b e = let s : n ≡ length ws = omega arith in e ∙ ap (λ k. words_bytes (take k ws) ++ drop (4 * k) old) s ∙ ap (λ l. words_bytes l ++ drop (4 * length ws) old) (take_all (length ws) ws (omega arith))

-- zeros and map are short
pub tail_short : (at : ℕ) (es : List Entry) → length (zeros (gap 4 at) ++ words_bytes (list_words es)) ≤ 7 + 12 * length es
tail_short at es =
    let a = length-append (zeros (gap 4 at)) (words_bytes (list_words es)) in
    let z = length-zeros (gap 4 at) in
    let w = length-words (list_words es) in let f = few_words es in omega (arith, a, z, w, f)

-- header, then rows, over what was there
pub front_of : (out mid front head rows : List ℕ) (base : ℕ) → length head ≡ 28 → base ≡ 112 + length rows
    → mid ≡ words_bytes head ++ drop (4 * length head) out
    → front ≡ take 112 mid ++ (rows ++ drop (112 + length rows) mid)
    → front ≡ words_bytes head ++ (rows ++ drop base out)
front_of out mid front head rows base h b m f =
    let n : length (words_bytes head) ≡ 112 = let w = length-words head in omega (arith, w, h) in
    let k = length rows in
    let mid_is : mid ≡ words_bytes head ++ drop 112 out = m ∙ (let e : 4 * length head ≡ 112 = omega (arith, h) in ap (λ q. words_bytes head ++ drop q out) e) in
    let first : take 112 mid ≡ words_bytes head = ap (take 112) mid_is ∙ take_at (words_bytes head) (drop 112 out) 112 n in
    let back : drop (112 + k) mid ≡ drop base out = sym (drop-drop k 112 mid) ∙ ap (drop k) (ap (drop 112) mid_is ∙ drop_at (words_bytes head) (drop 112 out) 112 n) ∙ drop-drop k 112 out ∙ ap (λ q. drop q out) (sym b) in
    f ∙ rw (first, back) refl

-- the words so far
pub put_step : (old cur new ws : List ℕ) (i : ℕ) → i < length ws → 4 * length ws ≤ length old
    → cur ≡ words_bytes (take i ws) ++ drop (4 * i) old
    → new ≡ take (4 * i) cur ++ (u32_bytes (get_or ws i 0) ++ drop (4 * i + 4) cur)
    → new ≡ words_bytes (take (i + 1) ws) ++ drop (4 * (i + 1)) old
put_step old cur new ws i lt room c n =
    let k = 4 * i in
    let w = words_bytes (take i ws) in
    let d = drop k old in
    let lw : length w ≡ k = let m = length-words (take i ws) in let t = length-take i ws in omega (arith, m, t, lt) in
    let front : take k cur ≡ w = ap (take k) c ∙ take_at w d k lw in
    let back : drop (k + 4) cur ≡ drop (k + 4) old = ap (λ m. drop m cur) (omega arith) ∙ sym (drop-drop 4 k cur) ∙ ap (drop 4) (ap (drop k) c ∙ drop_at w d k lw) ∙ drop-drop 4 k old ∙ ap (λ m. drop m old) (omega arith) in
    let more = words_bytes-more ws i lt in
    let last : k + 4 ≡ 4 * (i + 1) = omega arith in
    n ∙ rw (front, back, ← append_assoc w (u32_bytes (get_or ws i 0)) (drop (k + 4) old), ← more, last) refl

-- the two lists that make a file before it is closed
module _ (old padded out front b : List ℕ) (p : Plan) (rows : List ℕ) (place : ℕ)
    (planned : IsPlanned p) (end_is : length old ≡ p.datas.end) (low : tables_end p.rows ≤ length old) (count : 112 + length rows ≡ tables_end p.rows)
    (padded_is : padded ≡ old ++ zeros (gap 4 (length old))) (place_is : place ≡ length padded)
    (out_is : out ≡ padded ++ words_bytes (list_words (map entry_of (spans_of p place 0))))
    (front_is : front ≡ words_bytes (header_words p.rows place (length out)) ++ (rows ++ drop (tables_end p.rows) out))
    (header_fits : (j : ℕ) → get_or (header_words p.rows place (length out)) j 0 < 2 ^ 32)
    (map_fits : (j : ℕ) → get_or (list_words (map entry_of (spans_of p place 0))) j 0 < 2 ^ 32)
    (closed : SetsSums front b) (bytes : AreBytes b) where
  head : List ℕ
  head = header_words p.rows place (length out)

  padded_length : length padded ≡ length old + gap 4 (length old)
  padded_length = ap length padded_is ∙ length-append old (zeros (gap 4 (length old))) ∙ ap (λ n. length old + n) (length-zeros (gap 4 (length old)))

  out_low : tables_end p.rows ≤ length out
  out_low = let a = ap length out_is ∙ length-append padded _ in let b = padded_length in omega (arith, a, b, low)

  head_length : length (words_bytes head) ≡ 112
  unfolding head
  head_length = length-words head

  front_length : length front ≡ length out
  unfolding head
  front_length =
      let a = ap length front_is ∙ length-append (words_bytes head) _ in
      let c = length-append (rows) (drop (tables_end p.rows) out) in
      let e = length-drop (tables_end p.rows) out in let h = head_length in let l = out_low in
      omega (arith, a, c, e, h, l, count)

  total : length b ≡ length out
  total = length-IsClosed front b closed (let f = front_length in let l = out_low in omega (arith, f, l)) ∙ front_length

  pub length-finished : length b ≡ length out
  length-finished = total

  -- after the rows nothing has changed
  front_data : drop (tables_end p.rows) front ≡ drop (tables_end p.rows) out
  unfolding head
  front_data =
      let n : length (words_bytes head ++ rows) ≡ tables_end p.rows = let a = length-append (words_bytes head) (rows) in let h = head_length in omega (arith, a, h, count) in
      ap (drop (tables_end p.rows)) (front_is ∙ sym (append_assoc (words_bytes head) (rows) (drop (tables_end p.rows) out)))
      ∙ drop_at (words_bytes head ++ rows) (drop (tables_end p.rows) out) (tables_end p.rows) n

  same_drop : (q : ℕ) → tables_end p.rows ≤ q → drop q b ≡ drop q out
  same_drop q h =
      let k = q - 32 in let m = q - tables_end p.rows in
      let e : 32 + k ≡ q = omega (arith, h) in
      let f : tables_end p.rows + m ≡ q = omega (arith, h) in
      ap (λ n. drop n b) (sym e) ∙ sym (drop-drop k 32 b) ∙ ap (drop k) closed.back ∙ drop-drop k 32 front ∙ ap (λ n. drop n front) (e ∙ sym f)
      ∙ sym (drop-drop m (tables_end p.rows) front) ∙ ap (drop m) front_data ∙ drop-drop m (tables_end p.rows) out ∙ ap (λ n. drop n out) f

  out_whole : out ≡ old ++ (zeros (gap 4 (length old)) ++ words_bytes (list_words (map entry_of (spans_of p place 0))))
  out_whole = out_is ∙ ap (λ l. l ++ words_bytes (list_words (map entry_of (spans_of p place 0)))) padded_is ∙ append_assoc old _ _

  agree : Agree old b (tables_end p.rows) (length old)
  unfolding slice
  agree = record {
    each = λ q size lo hi.
        let rest = zeros (gap 4 (length old)) ++ words_bytes (list_words (map entry_of (spans_of p place 0))) in
        let d = drop-append-le q old rest (omega arith) in
        let l : size ≤ length (drop q old) = rw (length-drop q old) (omega arith) in
        sym (ap (take size) (same_drop q lo ∙ ap (drop q) out_whole ∙ d) ∙ take-append-le size (drop q old) rest l);
  }

  clear : slice b (length old) (gap 4 (length old)) ≡ zeros (gap 4 (length old))
  unfolding slice
  clear =
      let g = gap 4 (length old) in
      let rest = words_bytes (list_words (map entry_of (spans_of p place 0))) in
      ap (take g) (same_drop (length old) low ∙ ap (drop (length old)) out_whole ∙ drop_at old (zeros g ++ rest) (length old) refl)
      ∙ take_at (zeros g) rest g (length-zeros g)

  next : IsNext 4 b (length old) place
  next = record { there = place_is ∙ padded_length; clear = clear }

  -- ---- words

  field : (j : ℕ) → 8 ≤ j → j < 28 → u32_at b (4 * j) ≡ get_or head j 0
  unfolding head
  field j lo hi =
      let k = 4 * j - 32 in
      let e : 32 + k ≡ 4 * j = omega arith in
      ap (u32_at b) (sym e) ∙ IsClosed-u32_at front b k closed ∙ ap (u32_at front) e ∙ ap (λ l. u32_at l (4 * j)) front_is
      ∙ u32_at-words head (rows ++ drop (tables_end p.rows) out) j hi header_fits

  rows_stand : slice b 112 (length rows) ≡ rows
  unfolding slice head
  rows_stand =
      ap (take (length rows)) (sym (drop-drop 80 32 b) ∙ ap (drop 80) closed.back ∙ drop-drop 80 32 front ∙ ap (drop 112) front_is ∙ drop_at (words_bytes head) (rows ++ drop (tables_end p.rows) out) 112 head_length)
      ∙ take_at rows (drop (tables_end p.rows) out) (length rows) refl

  front_magic : HasMagic front × HasVersion front
  front_magic = rw front_is (magic_of p.rows place (length out) (rows ++ drop (tables_end p.rows) out))

  -- ---- the map

  ss : List Span
  ss = filter has_items (spans_of p place (length b))

  map_bytes : drop place b ≡ words_bytes (length ss ∷ flat_map three ss)
  unfolding ss
  map_bytes =
      let l = padded_length in
      same_drop place (omega (arith, place_is, l, low)) ∙ ap (drop place) out_is ∙ drop_at padded (words_bytes (list_words (map entry_of (spans_of p place 0)))) place (sym place_is)
      ∙ ap words_bytes (list_words_are (spans_of p place (length b)))

  words_are : list_words (map entry_of (spans_of p place 0)) ≡ length ss ∷ flat_map three ss
  unfolding ss
  words_are = list_words_are (spans_of p place (length b))

  small_kinds : AllByRecursion (λ s. 0 < s.items → s.kind < 2 ^ 16) (spans_of p place (length b))
  small_kinds = (λ _. lit< tt, (λ _. lit< tt, (λ _. lit< tt, (λ _. lit< tt, (λ _. lit< tt, (λ _. lit< tt, (λ _. lit< tt, (λ _. lit< tt, (λ _. lit< tt, (λ _. lit< tt, (λ _. lit< tt, (λ _. lit< tt, (λ _. lit< tt, tt)))))))))))))

  map_place_is : map_place b ≡ place
  unfolding map_place head
  map_place_is = field 13 (omega arith) (omega arith)

  is : MapNames b (filter has_items (spans_of p place (length b)))
  unfolding ss
  is =
      map_is b place ss map_place_is map_bytes (λ j. subst (λ (ws : List ℕ). get_or ws j 0 < 2 ^ 32) words_are (map_fits j))
      (λ i lt. all_at (λ s. s.kind < 2 ^ 16) ss i (all_kept (λ s. s.kind < 2 ^ 16) (spans_of p place (length b)) small_kinds) lt)

  ends : place + 4 + 12 * length (filter has_items (spans_of p place (length b))) ≡ length b
  unfolding ss
  ends =
      let a = ap length out_is ∙ length-append padded _ in
      let w = length-words (list_words (map entry_of (spans_of p place 0))) in
      let n = ap length words_are in
      let t = length-three ss in
      let l = total in
      omega (arith, a, w, n, t, l, place_is)

  pub finished : Finishes old b p rows
  unfolding head
  finished = record {
    map = place;
    written = record {
      planned = planned;
      after = let l = padded_length in omega (arith, l, place_is, end_is);
      aligned = let l = padded_length in omega (arith, l, place_is);
      named = is;
      ends = ends;
      fields = λ j lo hi. field j lo hi ∙ ap (λ n. get_or (header_words p.rows place n) j 0) (sym total);
      magic = (magic_closed).0;
      version = (magic_closed).1;
      sums = closed.sums;
    };
    next = next;
    rows_are = rows_stand;
    same = agree;
    bytes = bytes;
  }
    where
      magic_closed : HasMagic b × HasVersion b
      magic_closed = IsClosed-magic front b closed (let f = front_length in let l = out_low in omega (arith, f, l)) front_magic.0 front_magic.1

-- a slice of a Vec that was written through
pub written_back : (new old : List ℕ) (n : ℕ) → length new ≡ length old → n ≡ length old → take n (new ++ drop (length new) old) ≡ new
written_back new old n e f = take_at new (drop (length new) old) n (e ∙ sym f)

-- the fields of a row in the file are those of the rows that were given
pub row_u32 : (b rows : List ℕ) (k : ℕ) → slice b 112 (length rows) ≡ rows → k + 4 ≤ length rows → u32_at b (112 + k) ≡ u32_at rows k
unfolding slice
row_u32 b rows k e h =
    let n = ap length e ∙ refl in
    let l = length-take (length rows) (drop 112 b) in
    sym (u32_at-drop b 112 k) ∙ sym (u32_at-take (drop 112 b) (length rows) k h (omega (arith, n, l))) ∙ ap (λ l. u32_at l k) e

pub row_u16 : (b rows : List ℕ) (k : ℕ) → slice b 112 (length rows) ≡ rows → k + 2 ≤ length rows → u16_at b (112 + k) ≡ u16_at rows k
unfolding slice
row_u16 b rows k e h =
    let n = ap length e ∙ refl in
    let l = length-take (length rows) (drop 112 b) in
    sym (u16_at-drop b 112 k) ∙ sym (u16_at-take (drop 112 b) (length rows) k h (omega (arith, n, l))) ∙ ap (λ l. u16_at l k) e

-- zeros and a map take at most 163 bytes: three, four, and twelve for each of 13 entries
pub finished_short : (old new : List ℕ) (p : Plan) (rows : List ℕ) → Finishes old new p rows → length new ≤ length old + 163
finished_short old new p rows f =
    let spans = spans_of p f.map (length new) in
    let few = length-filter has_items spans in
    let all = count_by-le-length has_items spans in
    let ends = f.written.ends in
    let next = f.next.there in
    omega (arith, few, all, ends, next)
