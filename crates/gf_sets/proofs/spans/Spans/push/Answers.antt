use Rattle.std.proofs.Common.{rules, ◌≡◌, ◌++◌, [], ◌∷◌, length, sym, subst, w64, to_z, of_z}
use Rattle.std.proofs.lemmas.Int.{to_z-of_z}
use Rattle.std.specs.Prelude.{is_ok}
use Rattle.spec_sets.specs.Spans.{AreSpansFrom, IsAfterAll, earliest}
use Rattle.gf_sets.proofs.Pushing.{added_apart, added_first, added_as_read, joined_are, joined_have, kept_are, last_fits, more_as_read, not_next, renamed, same_next}
use Rattle.gf_sets.proofs.spans.Spans.push.Goals.{else-count-gt0-via-then-count-gt0+else-index-first, else-count-gt0-via-else-count-gt0, in-Ok, in-Err}
use Rattle.gf_sets.proofs.spans.Spans.push.Goals as goal

pub overflow_add-index : goal.overflow_add-index
overflow_add-index c =
    let xs = c.self.inside.items.items in
    let n : c.len-count.result ≡ length xs = search rules in
    let fits = last_fits xs c.len-count.result c.index.result.now n c.if-count-gt0.true c.self.invariant c.index.ensures in
    rw (to_z-of_z w64 c.index.result.now.1 fits.0) fits.1

pub invariant_of-self : goal.invariant_of-self
invariant_of-self c =
    let xs = c.self.inside.items.items in
    let d = c.index.result.now in
    let n : c.len-count.result ≡ length xs = search rules in
    let fits = last_fits xs c.len-count.result d n c.if-count-gt0.true c.self.invariant c.index.ensures in
    let next = same_next d.1 c.args.first fits.0 fits.1 c.ranges.first c.if-index-first.true in
    joined_are xs c.len-count.result d n c.if-count-gt0.true c.self.invariant c.index.ensures c.index_mut.result.now
    c.index_mut.ensures.value c.args.first c.args.last next c.requires.ordered c.requires.late
    (to_z w64 (of_z w64 c.args.last)) (to_z-of_z w64 c.args.last c.ranges.last)

pub returns-then-index-first-clause-times : goal.returns-then-index-first-clause-times
returns-then-index-first-clause-times c =
    let xs = c.self.inside.items.items in
    let d = c.index.result.now in
    let n : c.len-count.result ≡ length xs = search rules in
    let fits = last_fits xs c.len-count.result d n c.if-count-gt0.true c.self.invariant c.index.ensures in
    let next = same_next d.1 c.args.first fits.0 fits.1 c.ranges.first c.if-index-first.true in
    renamed xs c.args.self.now _ c.args.first c.args.last c.self.view_is
    (joined_have xs c.len-count.result d n c.if-count-gt0.true c.self.invariant c.index.ensures c.index_mut.result.now
    c.index_mut.ensures.value c.args.first c.args.last next c.requires.ordered c.requires.late
    (to_z w64 (of_z w64 c.args.last)) (to_z-of_z w64 c.args.last c.ranges.last))

counted : (c : goal.Joined-push) → c.len-count.result ≡ length c.self.inside.items.items
counted c = search rules

after_all : (c : goal.Joined-push) → IsAfterAll c.self.inside.items.items c.args.first
after_all c = subst (λ (ys : _). IsAfterAll ys c.args.first) (sym c.self.view_is) c.requires.after

-- the span is apart from all before it
more_are : (c : goal.Joined-push) → AreSpansFrom earliest (c.self.inside.items.items ++ (c.args.first, c.args.last) ∷ [])
more_are c =
    let xs = c.self.inside.items.items in
    let count = c.len-count.result in
    elim c.else-count-gt0.branch [
      | else-count-gt0-via-then-count-gt0+else-index-first w ↦
          let d = w.index.result.now in
          let fits = last_fits xs count d (counted c) w.if-count-gt0.true c.self.invariant w.index.ensures in
          added_apart xs count d (counted c) w.if-count-gt0.true c.self.invariant w.index.ensures c.args.first c.args.last
          c.requires.early c.requires.ordered c.requires.late (after_all c)
          (not_next d.1 c.args.first fits.0 w.if-index-first.false)
      | else-count-gt0-via-else-count-gt0 w ↦
          added_first xs count (counted c) w.if-count-gt0.false c.args.first c.args.last c.requires.early c.requires.ordered
          c.requires.late
    ]

pub invariant_of-self-2 : goal.invariant_of-self-2
invariant_of-self-2 c =
    let first = to_z-of_z w64 c.args.first c.ranges.first in
    let last = to_z-of_z w64 c.args.last c.ranges.last in
    kept_are (is_ok c.push.result) c.self.inside.items.items c.push.new.self.items _ c.push.ensures.items c.self.invariant
    (more_as_read c.self.inside.items.items _ _ c.args.first c.args.last first last (more_are c))

pub returns-clause-times : goal.returns-clause-times
returns-clause-times c =
    let first = to_z-of_z w64 c.args.first c.ranges.first in
    let last = to_z-of_z w64 c.args.last c.ranges.last in
    elim c.match-push.branch [
      | in-Ok w ↦ rw w.result-is
          (added_as_read c.self.inside.items.items c.args.self.now c.push.new.self.items _ _ c.args.first c.args.last first last
          c.self.view_is w.in-Ok.ensures.items)
      | in-Err w ↦ rw w.result-is tt
    ]
