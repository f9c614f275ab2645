use Rattle.std.proofs.Common.{◌≡◌, ℕ, ◌+◌, ◌*◌, ◌/◌, ◌-◌, ◌<◌, ◌≤◌, zero, suc, List, ◌++◌, length, take, drop, refl, sym, ap, ◌∙◌, arith, lit≤, lit<, get_or-take, length-drop, length-take, length-append}
use Rattle.std.proofs.lemmas.List.{take-take, drop-drop, drop_at, take_at, take-append-le}
use borrow.Rule.Slice.PartMut.{put_mid}
use Rattle.dex_base.specs.Fields.{u32_bytes, u16_at, u32_at}
use Rattle.dex_base.specs.Adler32.{adler32}
use Rattle.std.specs.Prelude.{slice_index}
use Rattle.std.specs.Int.{w32, to_be_bytes}
use Rattle.dex_base.proofs.AdlerSums.{adler32-fits}
use Rattle.dex_base.proofs.FieldBounds.{u32_at-bytes, u32_at-append, length-u32_bytes, u32_at-drop, u32_at-take, u16_at-take}
use Rattle.sha1.specs.Sha1.{sha1, digest_bytes, hash_after, padded_message}
use Rattle.dex_container.specs.Frame.{HasChecksum, HasSignature, HasMagic, HasVersion}
use Rattle.dex_container.specs.Closed.{SetsSums}
use Rattle.dex_container.specs.inner.Closed.{with_signature}
use Rattle.dex_base.proofs.ListFacts.{rest_is}

-- the bytes before 8 stay, then the checksum of all after it
unfoldable pub with_sums : List ℕ → List ℕ
with_sums b = take 8 b ++ (u32_bytes (adler32 (with_signature b)) ++ with_signature b)

pub signed_by_parts : (b d : List ℕ) → d ≡ sha1 (take (length b - 32) (drop 32 b)) → put_mid 12 20 b d ≡ take 12 b ++ with_signature b
unfolding with_signature
signed_by_parts b d e = rw (e, rest_is 32 b, drop-drop 20 12 b) refl

pub closed_by_parts : (b s : List ℕ) (n : ℕ) → 32 ≤ length b → s ≡ take 12 b ++ with_signature b → n ≡ adler32 (take (length s - 12) (drop 12 s))
    → take 8 s ++ (u32_bytes n ++ drop 12 s) ≡ with_sums b
unfolding with_sums
closed_by_parts b s n long e sum =
    let front : length (take 12 b) ≡ 12 = simp length-take (omega arith) in
    let back : drop 12 s ≡ with_signature b = rw e (drop_at (take 12 b) (with_signature b) 12 front) in
    let first : take 8 s ≡ take 8 b =
    rw e (take-append-le 8 (take 12 b) (with_signature b) (omega arith) ∙ take-take 8 12 b (lit≤ tt)) in
    rw (sum, rest_is 12 s, back, first) refl

length-digest_bytes : (h : List ℕ) (n : ℕ) → length (digest_bytes h n) ≡ n * 4
unfolding digest_bytes
length-digest_bytes h zero = refl
length-digest_bytes h (suc n) =
    length-append (digest_bytes h n) (to_be_bytes w32 (slice_index h n))
    ∙ ap (λ k. k + 4) (length-digest_bytes h n)
    ∙ omega arith

pub length-sha1 : (m : List ℕ) → length (sha1 m) ≡ 20
unfolding sha1
length-sha1 m = length-digest_bytes (hash_after (padded_message m) (length (padded_message m) / 64)) 5

pub closed-IsClosed : (b : List ℕ) → 32 ≤ length b → SetsSums b (with_sums b)
unfolding with_sums with_signature HasChecksum HasSignature
closed-IsClosed b long =
    let front : length (take 8 b) ≡ 8 = simp length-take (omega arith) in
    let n = adler32 (sha1 (drop 32 b) ++ drop 32 b) in
    let rest = u32_bytes n ++ (sha1 (drop 32 b) ++ drop 32 b) in
    let after : drop 12 (take 8 b ++ rest) ≡ sha1 (drop 32 b) ++ drop 32 b =
    sym (drop-drop 4 8 (take 8 b ++ rest))
    ∙ ap (drop 4) (drop_at (take 8 b) rest 8 front)
    ∙ drop_at (u32_bytes n) (sha1 (drop 32 b) ++ drop 32 b) 4 (length-u32_bytes n) in
    let back : drop 32 (take 8 b ++ rest) ≡ drop 32 b =
    sym (drop-drop 20 12 (take 8 b ++ rest))
    ∙ ap (drop 20) after
    ∙ drop_at (sha1 (drop 32 b)) (drop 32 b) 20 (length-sha1 (drop 32 b)) in
    record {
      sums = record {
        checksum =
            u32_at-append (take 8 b) rest 8 0 front
            ∙ u32_at-bytes n (sha1 (drop 32 b) ++ drop 32 b) (adler32-fits (sha1 (drop 32 b) ++ drop 32 b))
            ∙ ap adler32 (sym after);
        signature =
            ap (take 20) after
            ∙ take_at (sha1 (drop 32 b)) (drop 32 b) 20 (length-sha1 (drop 32 b))
            ∙ ap sha1 (sym back);
      };
      front = take_at (take 8 b) rest 8 front;
      back = back;
    }

-- a field after the signature is as before
pub IsClosed-u32_at : (old new : List ℕ) (p : ℕ) → SetsSums old new → u32_at new (32 + p) ≡ u32_at old (32 + p)
IsClosed-u32_at old new p c =
    sym (u32_at-drop new 32 p) ∙ ap (λ x. u32_at x p) c.back ∙ u32_at-drop old 32 p

pub length-IsClosed : (old new : List ℕ) → SetsSums old new → 32 < length old → length new ≡ length old
length-IsClosed old new c h =
    let e = simp length-drop at (ap length c.back) in omega arith

-- the first eight bytes are as before
pub IsClosed-magic : (old new : List ℕ) → SetsSums old new → 32 < length old → HasMagic old → HasVersion old → HasMagic new × HasVersion new
IsClosed-magic old new c h m v =
    let n = length-IsClosed old new c h in
    let same : (i : ℕ) → i < 8 → slice_index new i ≡ slice_index old i =
    λ i lt. sym (get_or-take 8 new i 0 lt) ∙ ap (λ x. slice_index x i) c.front ∙ get_or-take 8 old i 0 lt in
    let dex : u32_at new 0 ≡ u32_at old 0 =
    sym (u32_at-take new 8 0 (lit≤ tt) (omega arith)) ∙ ap (λ x. u32_at x 0) c.front ∙ u32_at-take old 8 0 (lit≤ tt) (omega arith) in
    let front : u16_at new 4 ≡ u16_at old 4 =
    sym (u16_at-take new 8 4 (lit≤ tt) (omega arith)) ∙ ap (λ x. u16_at x 4) c.front ∙ u16_at-take old 8 4 (lit≤ tt) (omega arith) in
    (record { dex = dex ∙ m.dex; zero = same 7 (lit< tt) ∙ m.zero }, record { front = front ∙ v.front; back = same 6 (lit< tt) ∙ v.back })
