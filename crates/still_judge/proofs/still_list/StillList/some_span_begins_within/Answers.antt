use Rattle.std.proofs.Common.{◌≡◌, ◌≤◌, ℕ, suc, zero, ◌∙◌, arith, pos, refl, sym}
use Rattle.spec_intervals.specs.declared.signs.Sign.TheVariants.{Open}
use Rattle.spec_stills.specs.declared.still.StillSpan.{StillSpan}
use Rattle.still_judge.proofs.Begun.{begun_at, begun_by, none_begun}
use Rattle.still_judge.proofs.still_list.StillList.some_span_begins_within.Goals as goal

some_span : StillSpan
some_span = record { from = pos 0; upto = pos 1; widest = 0; halvings = 0; sign = Open }

none_is : (count : ℕ) → (1 ≤ count → ⊥) → count ≡ 0
none_is zero never = refl
none_is (suc count) never = absurd (never (omega arith))

pub returns-then-span_at_begins_within : goal.returns-then-span_at_begins_within
returns-then-span_at_begins_within c = sym (begun_at c.args.node c.args.self.now c.args.count some_span (sym (c.span_at_begins_within.ensures some_span) ∙ c.if-span_at_begins_within.true))

pub returns-in-Some : goal.returns-in-Some
returns-in-Some c =
    let some = c.in-Some.ensures.0 in
    let before = c.in-Some.ensures.1 in
    c.span_at_begins_within-in-Some.ensures some_span
    ∙ sym (begun_by c.args.node c.args.self.now c.requires.inside c.args.count c.requires.counted some_span c.in-Some.place (omega (arith, some, before)) (sym (c.span_at_begins_within.ensures some_span) ∙ c.if-span_at_begins_within.false))

pub returns-in-None : goal.returns-in-None
returns-in-None c =
    sym (none_begun c.args.node c.args.self.now c.requires.inside c.args.count c.requires.counted some_span (sym (c.span_at_begins_within.ensures some_span) ∙ c.if-span_at_begins_within.false) (none_is c.args.count c.in-None.ensures))
