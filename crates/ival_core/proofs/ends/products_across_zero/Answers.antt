use Rattle.std.proofs.Common.{◌∙◌, arith}
use Rattle.std.proofs.lemmas.Int.{ints}
use Rattle.std.specs.Int.{int_min, int_max}
use Rattle.ival_core.proofs.Passing.{product_kept, kept}
use Rattle.ival_core.proofs.Signs.{least-across, greatest-across, across-above, across-below}
use Rattle.ival_core.proofs.ends.products_across_zero.Goals as goal

pub returns-then-c-ge0 : goal.returns-then-c-ge0
returns-then-c-ge0 c =
    let is = across-above c.args.a c.args.b c.args.c c.args.d c.requires.order c.requires.below c.requires.above (let p = c.ranges.c in omega (arith, ints, c.if-c-ge0.true)) in
    record { least = product_kept c.args.a c.args.d c.wide_product.result c.ranges.a c.ranges.d (record { sfits = c.wide_product.type_inv }) c.wide_product.ensures ∙ is.0; greatest = product_kept c.args.b c.args.d c.wide_product-then-c-ge0.result c.ranges.b c.ranges.d (record { sfits = c.wide_product-then-c-ge0.type_inv }) c.wide_product-then-c-ge0.ensures ∙ is.1 }

pub returns-then-d-le0 : goal.returns-then-d-le0
returns-then-d-le0 c =
    let is = across-below c.args.a c.args.b c.args.c c.args.d c.requires.order c.requires.below c.requires.above (let q = c.ranges.d in omega (arith, ints, c.if-d-le0.true)) in
    record { least = product_kept c.args.b c.args.c c.wide_product-then-d-le0.result c.ranges.b c.ranges.c (record { sfits = c.wide_product-then-d-le0.type_inv }) c.wide_product-then-d-le0.ensures ∙ is.0; greatest = product_kept c.args.a c.args.c c.wide_product-then-d-le0-2.result c.ranges.a c.ranges.c (record { sfits = c.wide_product-then-d-le0-2.type_inv }) c.wide_product-then-d-le0-2.ensures ∙ is.1 }

pub returns-else-d-le0 : goal.returns-else-d-le0
returns-else-d-le0 c =
    let ad = product_kept c.args.a c.args.d c.wide_product-else-d-le0.result c.ranges.a c.ranges.d (record { sfits = c.wide_product-else-d-le0.type_inv }) c.wide_product-else-d-le0.ensures in
    let bc = product_kept c.args.b c.args.c c.wide_product-else-d-le0-2.result c.ranges.b c.ranges.c (record { sfits = c.wide_product-else-d-le0-2.type_inv }) c.wide_product-else-d-le0-2.ensures in
    let ac = product_kept c.args.a c.args.c c.wide_product-else-d-le0-3.result c.ranges.a c.ranges.c (record { sfits = c.wide_product-else-d-le0-3.type_inv }) c.wide_product-else-d-le0-3.ensures in
    let bd = product_kept c.args.b c.args.d c.wide_product-else-d-le0-4.result c.ranges.b c.ranges.d (record { sfits = c.wide_product-else-d-le0-4.type_inv }) c.wide_product-else-d-le0-4.ensures in
    record { least = kept c.min-least.result _ (record { sfits = c.min-least.type_inv }) c.min-least.ensures.value ∙ ((λ i. int_min (ad i) (bc i)) ∙ least-across c.args.a c.args.b c.args.c c.args.d c.requires.order c.requires.below c.requires.above); greatest = kept c.max-greatest.result _ (record { sfits = c.max-greatest.type_inv }) c.max-greatest.ensures.value ∙ ((λ i. int_max (ac i) (bd i)) ∙ greatest-across c.args.a c.args.b c.args.c c.args.d c.requires.order c.requires.below c.requires.above) }
