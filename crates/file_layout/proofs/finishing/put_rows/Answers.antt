use Rattle.std.proofs.Common.{◌≡◌, ◌+◌, ◌-◌, ◌++◌, ℕ, ap, ◌∙◌, arith, take, drop, length}
use Rattle.std.proofs.lemmas.List.{drop-drop}
use Rattle.file_layout.proofs.finishing.put_rows.Goals as goal

pub returns : goal.returns
returns c =
    let old = c.args.bytes.now in
    let k = 112 + length c.args.rows.now - 112 in
    let n : 112 + k ≡ 112 + length c.args.rows.now = omega arith in
    ap (λ l. take 112 old ++ (c.copy_from_slice.new.self ++ l)) (drop-drop k 112 old ∙ ap (λ (m : ℕ). drop m old) n)
    ∙ ap (λ l. take 112 old ++ (l ++ drop (112 + length c.args.rows.now) old)) c.copy_from_slice.ensures.after
