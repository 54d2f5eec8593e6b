use Rattle.std.proofs.Common.{◌∙◌, ◌<ℤ◌, ap, arith, w64}
use Rattle.std.proofs.lemmas.Int.{ints, to_z-of_z}
use Rattle.still_spans.specs.Knowledge.{argument_of}
use Rattle.still_spans.proofs.Margins.{kept_as, passed_argument}
use Rattle.still_spans.proofs.known.Known.outlook_between.Goals as goal

pub outlook-requires : goal.outlook-requires
outlook-requires c =
    let x = c.args.self.now in
    let first = to_z-of_z w64 c.argument_at-first.result (record { sfits = c.argument_at-first.type_inv }) ∙ (c.argument_at-first.ensures ∙ ap (argument_of x.first x.last) (to_z-of_z w64 c.args.a c.ranges.a)) in
    let last = to_z-of_z w64 c.argument_at-last.result (record { sfits = c.argument_at-last.type_inv }) ∙ (c.argument_at-last.ensures ∙ ap (argument_of x.first x.last) (to_z-of_z w64 c.args.b c.ranges.b)) in
    let length = to_z-of_z w64 c.length_in_ticks-length.result (record { sfits = c.length_in_ticks-length.type_inv }) ∙ c.length_in_ticks-length.ensures in
    let from = c.requires.within.from in
    let several = c.requires.within.several in
    let upto = c.requires.within.upto in
    let several' : c.args.self.now.first <ℤ c.args.self.now.last = omega (arith, ints, from, several, upto) in
    record {
      first = passed_argument x.first x.last c.args.a _ _ several' from (omega (arith, ints, several, upto)) first length;
      last = passed_argument x.first x.last c.args.b _ _ several' (omega (arith, ints, several, from)) upto last length;
      ordered = omega (arith, ints, first, last, several);
    }

pub returns : goal.returns
returns c =
    let x = c.args.self.now in
    kept_as x.model _ _ _ _ _ _ c.outlook.result.margin
    (to_z-of_z w64 c.argument_at-first.result (record { sfits = c.argument_at-first.type_inv }) ∙ (c.argument_at-first.ensures ∙ ap (argument_of x.first x.last) (to_z-of_z w64 c.args.a c.ranges.a)))
    (to_z-of_z w64 c.argument_at-last.result (record { sfits = c.argument_at-last.type_inv }) ∙ (c.argument_at-last.ensures ∙ ap (argument_of x.first x.last) (to_z-of_z w64 c.args.b c.ranges.b)))
    (to_z-of_z w64 c.length_in_ticks-length.result (record { sfits = c.length_in_ticks-length.type_inv }) ∙ c.length_in_ticks-length.ensures) c.outlook.ensures
