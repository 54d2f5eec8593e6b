use Rattle.std.proofs.Common.{◌*◌, arith}
use Rattle.std.proofs.lemmas.Int.{ints}
use Rattle.eph_model.proofs.GridTimes.{first_upto, last_from, offset_fits, offset_kept, offset_size}
use Rattle.eph_model.proofs.grid.Grid.index_before_middle.Goals as goal

pub overflow_sub-twice_middle : goal.overflow_sub-twice_middle
overflow_sub-twice_middle c =
    let g = c.args.self in
    offset_fits g.start c.args.a (g.count * g.seconds) g.early g.late g.within c.requires.from (first_upto g.start c.args.a c.args.b (g.count * g.seconds) c.requires.order c.requires.upto) c.ranges.a

pub overflow_sub-twice_middle-2 : goal.overflow_sub-twice_middle-2
overflow_sub-twice_middle-2 c =
    let g = c.args.self in
    offset_fits g.start c.args.b (g.count * g.seconds) g.early g.late g.within (last_from g.start c.args.a c.args.b c.requires.order c.requires.from) c.requires.upto c.ranges.b

pub overflow_add-twice_middle : goal.overflow_add-twice_middle
overflow_add-twice_middle c =
    let g = c.args.self in
    let within = g.within in
    let first = offset_size g.start c.args.a (g.count * g.seconds) g.early g.late g.within c.requires.from (first_upto g.start c.args.a c.args.b (g.count * g.seconds) c.requires.order c.requires.upto) c.ranges.a in
    let last = offset_size g.start c.args.b (g.count * g.seconds) g.early g.late g.within (last_from g.start c.args.a c.args.b c.requires.order c.requires.from) c.requires.upto c.ranges.b in
    record { fits = omega (arith, first, last, within) }

pub half_quotient-requires-clause-within : goal.half_quotient-requires-clause-within
half_quotient-requires-clause-within c =
    let g = c.args.self in
    let from = c.requires.from in
    let order = c.requires.order in
    let upto = c.requires.upto in
    rw (offset_kept g.start c.args.a (g.count * g.seconds) g.early g.late g.within c.requires.from (first_upto g.start c.args.a c.args.b (g.count * g.seconds) c.requires.order c.requires.upto) c.ranges.a, offset_kept g.start c.args.b (g.count * g.seconds) g.early g.late g.within (last_from g.start c.args.a c.args.b c.requires.order c.requires.from) c.requires.upto c.ranges.b)
    (omega (arith, ints, from, order, upto))

pub returns-clause-from : goal.returns-clause-from
returns-clause-from c =
    let g = c.args.self in
    let from = c.requires.from in
    let order = c.requires.order in
    let h = rw (offset_kept g.start c.args.a (g.count * g.seconds) g.early g.late g.within c.requires.from (first_upto g.start c.args.a c.args.b (g.count * g.seconds) c.requires.order c.requires.upto) c.ranges.a, offset_kept g.start c.args.b (g.count * g.seconds) g.early g.late g.within (last_from g.start c.args.a c.args.b c.requires.order c.requires.from) c.requires.upto c.ranges.b) at c.half_quotient.ensures.from in
    omega (arith, ints, h, from, order)

pub returns-clause-before : goal.returns-clause-before
returns-clause-before c =
    let g = c.args.self in
    let from = c.requires.from in
    let order = c.requires.order in
    let h = rw (offset_kept g.start c.args.a (g.count * g.seconds) g.early g.late g.within c.requires.from (first_upto g.start c.args.a c.args.b (g.count * g.seconds) c.requires.order c.requires.upto) c.ranges.a, offset_kept g.start c.args.b (g.count * g.seconds) g.early g.late g.within (last_from g.start c.args.a c.args.b c.requires.order c.requires.from) c.requires.upto c.ranges.b) at c.half_quotient.ensures.before in
    omega (arith, ints, h, from, order)
