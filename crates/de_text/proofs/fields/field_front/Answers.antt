use Rattle.std.proofs.Common.{◌≡◌, ℕ, ◌+◌, ◌*◌, ◌/◌, ◌%◌, ◌≤◌, List, length, get_or, take, Fits, w8, sym, ◌∙◌, arith}
use lib.Lanes.{number_l}
use Rattle.de_text.proofs.FieldFronts.{IsFront, front_of, front_before, front_negative, front_digits}
use Rattle.de_text.proofs.fields.field_front.Goals as goal

front : (line : List ℕ) (word : ℕ) → 26 ≤ length line → ((k : ℕ) → Fits w8 (get_or line k 0)) → word ≡ number_l 256 (take 4 line)
    → word ≡ 774905888 + 3328 * (word / 256 % 2) → IsFront line (word / 256 % 2)
front line word long fit is form = front_of line (word / 256 % 2) (omega (arith, long)) fit (omega arith) (sym is ∙ form)

pub returns-clause-before : goal.returns-clause-before
returns-clause-before c =
    front_before c.args.line.now (c.four_bytes_as_number-word.result / 256 % 2) (omega arith)
    (front c.args.line.now c.four_bytes_as_number-word.result c.requires c.type_inv.line c.four_bytes_as_number-word.ensures c.if-word-odd.false)

pub returns-clause-negative : goal.returns-clause-negative
returns-clause-negative c =
    front_negative c.args.line.now (c.four_bytes_as_number-word.result / 256 % 2) (omega (arith, c.requires)) (omega arith)
    (front c.args.line.now c.four_bytes_as_number-word.result c.requires c.type_inv.line c.four_bytes_as_number-word.ensures c.if-word-odd.false)

pub returns-clause-digits : goal.returns-clause-digits
returns-clause-digits c =
    front_digits c.args.line.now (c.four_bytes_as_number-word.result / 256 % 2) (omega (arith, c.requires)) (omega arith)
    (front c.args.line.now c.four_bytes_as_number-word.result c.requires c.type_inv.line c.four_bytes_as_number-word.ensures c.if-word-odd.false)
