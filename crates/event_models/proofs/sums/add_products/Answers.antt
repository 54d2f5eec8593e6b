use Rattle.std.proofs.Common.{◌≡◌, ◌∙◌, ◌+◌, ◌*◌, ◌^◌, ◌+ℤ◌, ◌*ℤ◌, ◌<◌, ◌≤◌, length, unsigned_abs, arith, slice_index_or, pos, to_z, of_z, w64}
use Rattle.std.proofs.lemmas.List.{get_or-set_other, length-set}
use mir.Syntax.{w128}
use Rattle.event_models.proofs.Entries.{one_more}
use Rattle.event_models.proofs.Steps.{kept60, kept_end, sum_kept}
use Rattle.event_models.proofs.sums.add_products.Goals as goal

pub loop-k-preserved : goal.loop-k-preserved
loop-k-preserved c =
    let below = c.loop-k-test.true in
    let count = c.loop-k.invariant.count in
    let few = c.requires.few in
    let from = c.requires.from_term in
    let place : c.loop-k.k < length c.loop-k.sums = omega (arith, below, count) in
    let same = c.loop-k.invariant.rest c.loop-k.k (omega arith) in
    let made : to_z w128 (of_z w128 c.number_with_product.result) ≡ c.number_with_product.result = sum_kept c.number_with_product.result (c.args.count + 1) (omega (arith, few)) c.number_with_product.ensures.small in
    let own = sum_kept (slice_index_or c.args.sums.now c.loop-k.k (pos 0)) c.args.count (omega (arith, few)) (c.requires.within c.loop-k.k below) in
    let low = kept_end c.args.pair.lo c.requires.pair.small.lo in
    let entry = kept60 (slice_index_or c.args.row.now.coefficients (c.args.from_term + c.loop-k.k) (pos 0)) (c.requires.row.small (c.args.from_term + c.loop-k.k) (omega (arith, from, below))) in
    record {
      count = length-set c.loop-k.sums c.loop-k.k _ ∙ count;
      numbers = one_more (pos 0) (λ j z. z ≡ slice_index_or c.args.sums.now j (pos 0) +ℤ c.args.pair.lo *ℤ slice_index_or c.args.row.now.coefficients (c.args.from_term + j) (pos 0)) c.loop-k.k c.loop-k.sums _ place c.loop-k.invariant.numbers
          (made ∙ c.number_with_product.ensures.equals ∙ (λ i. to_z w128 (of_z w128 (same i)) +ℤ to_z w64 (of_z w64 c.args.pair.lo) *ℤ entry i) ∙ λ i. own i +ℤ low i *ℤ slice_index_or c.args.row.now.coefficients (c.args.from_term + c.loop-k.k) (pos 0));
      small = one_more (pos 0) (λ j z. unsigned_abs z ≤ (c.args.count + 1) * 2 ^ 120) c.loop-k.k c.loop-k.sums _ place c.loop-k.invariant.small (rw made c.number_with_product.ensures.small);
      rest = λ j after. get_or-set_other c.loop-k.sums c.loop-k.k j _ (pos 0) (λ is. absurd (omega (arith, after, is))) ∙ c.loop-k.invariant.rest j (omega (arith, after));
    }
