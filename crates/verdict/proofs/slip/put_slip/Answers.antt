use Rattle.std.proofs.Common.{◌≡◌, ◌+◌, ◌-◌, ◌*◌, ◌++◌, length, get_or, take, drop, sym, refl, ap, ◌∙◌, arith, length-drop, length-take}
use Rattle.std.proofs.lemmas.List.{append-nil}
use borrow.Rule.Slice.PartMut.{put_mid}
use Rattle.columns.specs.Numbers.{number_column}
use Rattle.lines.specs.Text.{over}
use Rattle.lines.proofs.Over.{over_part, over_byte, length_number}
use Rattle.verdict.specs.Slips.{slip_word}
use Rattle.verdict.proofs.Pieces.{columns, as_long, column_more, ended, four_numbers, length_word}
use Rattle.verdict.proofs.slip.put_slip.Goals as goal

pub loop-i-init : goal.loop-i-init
loop-i-init c =
    let s = c.args.room.now in
    let w = slip_word c.args.slip in
    ap (put_mid 0 8 s) (c.copy_from_slice.ensures.after ∙ c.word_of-word.ensures)
    ∙ over_part s w 0 8 (length_word c.args.slip)
    ∙ ap (λ t. over 0 t s) (sym (append-nil w))

pub loop-i-preserved : goal.loop-i-preserved
loop-i-preserved c =
    let x = c.args.slip in
    let ns = c.numbers_of-numbers.result in
    let i = c.loop-i.i in
    let r = c.loop-i.room in
    let at = 8 + 11 * i in
    let column = number_column 11 (get_or ns i 0) in
    let four : length ns ≡ 4 = ap length c.numbers_of-numbers.ensures ∙ four_numbers x in
    let long = as_long c.args.room.now r (slip_word x) ns i (length_word x) four c.requires c.loop-i.invariant (omega arith) in
    let wide : at + 11 - at ≡ 11 = omega arith in
    let own : length (take (at + 11 - at) (drop at r)) ≡ 11 = simp (length-take, length-drop) (omega arith) in
    column_more c.args.room.now r (slip_word x) ns i (length_word x) four c.requires c.loop-i.invariant _ at c.loop-i-test.true refl
    (ap (put_mid at (at + 11 - at) r) (c.write_number.ensures ∙ ap (λ n. number_column n (get_or ns i 0)) own)
    ∙ over_part r column at (at + 11 - at) (length_number 11 (get_or ns i 0) ∙ sym wide))

pub returns : goal.returns
returns c =
    let x = c.args.slip in
    let s = c.args.room.now in
    let ns = c.numbers_of-numbers.result in
    let i = c.loop-i.i in
    let four : length ns ≡ 4 = ap length c.numbers_of-numbers.ensures ∙ four_numbers x in
    let long = as_long s c.loop-i.room (slip_word x) ns i (length_word x) four c.requires c.loop-i.invariant (omega arith) in
    ended x s c.loop-i.room _ i c.requires c.loop-i-test.false
    (c.loop-i.invariant ∙ ap (λ ms. over 0 (slip_word x ++ columns (take i ms)) s) c.numbers_of-numbers.ensures)
    (over_byte c.loop-i.room 52 10 (omega arith))
