use Rattle.std.proofs.Common.{◌≡◌, ◌∙◌, ◌+◌, ◌-◌, ◌*◌, ◌^◌, ◌≤◌, arith, ap, drop, get_or, pos, unsigned_abs}
use Rattle.std.proofs.lemmas.List.{at_drop_more}
use Rattle.std.proofs.lemmas.Nat.{mul-le}
use Rattle.spec_models.specs.Models.{sizes}
use Rattle.span_models.specs.Sizes.{size_limit, terms}
use Rattle.span_models.proofs.Convolved.{tail-step}
use Rattle.span_models.proofs.Fitting.{words_product}
use Rattle.span_models.proofs.Numbers.{number_kept, number_small}
use Rattle.span_models.proofs.columns.omitted_size.Goals as goal
use Rattle.span_models.proofs.columns.omitted_size.Goals.{After-unsigned_abs, After-unsigned_abs-back}

own : (c : After-unsigned_abs) → c.unsigned_abs.result ≡ unsigned_abs (get_or c.args.a.now c.loop-i.i (pos 0))
own c = c.unsigned_abs.ensures.value ∙ ap unsigned_abs (number_kept c.args.a.now c.loop-i.i c.requires.first c.loop-i-test.true)

own_small : (c : After-unsigned_abs) → c.unsigned_abs.result ≤ 2 ^ 60
own_small c = rw (own c) (number_small size_limit c.args.a.now c.loop-i.i c.requires.first c.loop-i-test.true)

part_small : (c : After-unsigned_abs) → c.unsigned_abs.result * c.loop-i.back ≤ terms * 2 ^ 120
part_small c =
    let t = c.loop-i-test.true in
    let few = c.loop-i.invariant.few in
    mul-le c.unsigned_abs.result c.loop-i.back (2 ^ 60) (10 * 2 ^ 60) (own_small c) (omega (arith, t, few))

beside : (c : After-unsigned_abs-back) → c.unsigned_abs-back.result ≡ unsigned_abs (get_or c.args.b.now (terms - 1 - c.loop-i.i) (pos 0))
beside c =
    let t = c.loop-i-test.true in
    c.unsigned_abs-back.ensures.value ∙ ap unsigned_abs (number_kept c.args.b.now (terms - 1 - c.loop-i.i) c.requires.second (omega (arith, t)))

beside_small : (c : After-unsigned_abs-back) → c.unsigned_abs-back.result ≤ 2 ^ 60
beside_small c =
    let t = c.loop-i-test.true in
    rw (beside c) (number_small size_limit c.args.b.now (terms - 1 - c.loop-i.i) c.requires.second (omega (arith, t)))

pub overflow_mul-sum : goal.overflow_mul-sum
overflow_mul-sum c = words_product c.unsigned_abs.result c.loop-i.back c.unsigned_abs.type_inv c.loop-i.auto.back-fits.fits

pub overflow_add-sum : goal.overflow_add-sum
overflow_add-sum c =
    let t = c.loop-i-test.true in
    let size = c.loop-i.invariant.size in
    let p = part_small c in
    record { fits = omega (arith, t, size, p) }

pub overflow_add-back : goal.overflow_add-back
overflow_add-back c =
    let t = c.loop-i-test.true in
    let few = c.loop-i.invariant.few in
    let s = beside_small c in
    record { fits = omega (arith, t, few, s) }

pub loop-i-preserved : goal.loop-i-preserved
loop-i-preserved c =
    let i = c.loop-i.i in
    let t = c.loop-i-test.true in
    let inv = c.loop-i.invariant in
    let made = (goal.at.loop-i-preserved c).After-unsigned_abs in
    let few = inv.few in
    let size = inv.size in
    let before = inv.sum in
    let back = inv.back in
    let p = part_small made in
    let s = beside_small c in
    let value = beside c in
    let long = c.requires.second.count in
    let whole = c.requires.first.count in
    let n : terms - (i + 1) ≡ terms - 1 - i = omega (arith, t) in
    let m : terms - 1 - i + 1 ≡ terms - i = omega (arith, t) in
    let more : sizes (drop (terms - 1 - i) c.args.b.now) ≡ unsigned_abs (get_or c.args.b.now (terms - 1 - i) (pos 0)) + sizes (drop (terms - 1 - i + 1) c.args.b.now) = at_drop_more sizes c.args.b.now (terms - 1 - i) (pos 0) (omega (arith, t, long)) in
    let same = ap (λ k. sizes (drop k c.args.b.now)) m in
    let index = ap (λ k. sizes (drop k c.args.b.now)) n in
    let step = tail-step c.args.a.now c.args.b.now i (terms - i) (terms - (i + 1)) (omega (arith, t, whole)) (omega (arith, t)) in
    let part : c.unsigned_abs.result * c.loop-i.back ≡ unsigned_abs (get_or c.args.a.now i (pos 0)) * sizes (drop (terms - i) c.args.b.now) = λ k. own made k * back k in
    record {
      back = omega (arith, value, back, more, same, index);
      sum = omega (arith, before, step, part);
      few = omega (arith, few, s);
      size = omega (arith, size, p);
    }
