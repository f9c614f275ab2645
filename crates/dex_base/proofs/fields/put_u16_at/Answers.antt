use Rattle.std.proofs.Common.{◌≡◌, ℕ, ◌+◌, ◌-◌, ◌≤◌, List, [], ◌++◌, length, take, drop, refl, arith, length-drop, length-take, append-nil}
use Rattle.std.proofs.lemmas.List.{drop-drop}
use Rattle.std.proofs.Math.ListN.{drop_of_length-le}
use borrow.Rule.Slice.PartMut.{put_mid}
use Rattle.dex_base.specs.Fields.{u16_bytes}
use Rattle.dex_base.proofs.fields.put_u16_at.Goals as goal

put_at : (b buf : List ℕ) (p n : ℕ) → p + 2 ≤ length b → buf ≡ u16_bytes n ++ drop 2 (take (p + 2 - p) (drop p b)) → put_mid p (p + 2 - p) b buf ≡ take p b ++ (u16_bytes n ++ drop (p + 2) b)
put_at b buf p n h e =
    let two : p + 2 - p ≡ 2 = omega arith in
    let none : drop 2 (take 2 (drop p b)) ≡ [] = drop_of_length-le (take 2 (drop p b)) {i = 2} (simp (length-take, length-drop) (omega arith)) in
    let whole : buf ≡ u16_bytes n = rw (e, two, none, append-nil (u16_bytes n)) refl in
    rw (whole, two, drop-drop 2 p b) refl

pub returns : goal.returns
unfolding u16_bytes
returns c = put_at c.args.bytes.now c.write_u16.new.buf c.args.place c.args.n c.requires c.write_u16.ensures
