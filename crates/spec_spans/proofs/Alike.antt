-- Two trees whose rules agree within a span have the same leaves there, and so has a search over some of the blocks.
use Rattle.std.proofs.Common.{◌≡◌, ℕ, zero, suc, ◌≤◌, ◌++◌, Option, None, Some, ℤ, ◌≤ℤ◌, ◌<ℤ◌, refl, sym, ap, ◌∙◌, arith}
use Rattle.std.proofs.lemmas.Int.{ints}
use Rattle.spec_trees.specs.declared.tree.Mark.{Mark}
use Rattle.spec_trees.specs.declared.tree.Node.{Node}
use Rattle.spec_trees.specs.Tree.{IsSound, IsValid, Rules, leaves, mark_of, width}
use Rattle.spec_trees.specs.Windows.{windows}
use Rattle.spec_trees.proofs.Leaves.{leaves_settled, leaves_split, no_mark, parts_width, some_width}
use Rattle.spec_searches.specs.Search.{IsSearch, Search}
use Rattle.spec_searches.specs.Found.{IsSpan, leaves_of, root, rules, windows_of}
use Rattle.spec_searches.proofs.Parts.{root_is_valid, rules_are_sound}
use Rattle.spec_spans.specs.Searches.{AreBlocksUpTo, over_blocks}
use Rattle.spec_spans.proofs.Fewer.{ends_within, starts_later}
use Rattle.spec_spans.proofs.Readings.{same_parts, same_verdict}

module _ (t u : Rules) (sound : IsSound t) (other_sound : IsSound u) (first last : ℤ)
    (valid : (n : Node) → IsValid t n → IsValid u n)
    (same : (n : Node) → first ≤ℤ n.a → n.a <ℤ n.b → n.b ≤ℤ last → (t.verdict n ≡ u.verdict n) × (t.parts n ≡ u.parts n)) where
  by_mark : (k : ℕ) (n : Node) → IsValid t n → first ≤ℤ n.a → n.b ≤ℤ last → width n ≤ suc k → (m : Option Mark) → mark_of (t.verdict n) ≡ m
      → ((i : Node) → IsValid t i → first ≤ℤ i.a → i.b ≤ℤ last → width i ≤ k → leaves t i ≡ leaves u i) → leaves t n ≡ leaves u n
  by_mark k n v from upto w (Some m) e below =
      let both = same n from v.inside upto in
      leaves_settled t sound n v m e ∙ sym (leaves_settled u other_sound n (valid n v) m (ap mark_of (sym both.0) ∙ e))
  by_mark k n v from upto w None e below =
      let both = same n from v.inside upto in
      let split = no_mark (t.verdict n) e in
      let c = sound.cut n v split in
      let sum = parts_width t n c in
      let l = some_width t (t.parts n).0 c.left in
      let r = some_width t (t.parts n).1 c.right in
      let starts = c.cuts.from in
      let meets = c.cuts.meet in
      let stops = c.cuts.to in
      let left_inside = c.left.inside in
      let right_inside = c.right.inside in
      let left = below (t.parts n).0 c.left (omega (arith, ints, starts, from)) (omega (arith, ints, meets, right_inside, stops, upto)) (omega (arith, sum, w, r)) in
      let right = below (t.parts n).1 c.right (omega (arith, ints, starts, from, left_inside, meets)) (omega (arith, ints, stops, upto)) (omega (arith, sum, w, l)) in
      leaves_split t sound n v split
      ∙ (λ i. left i ++ right i)
      ∙ (λ i. leaves u (both.1 i).0 ++ leaves u (both.1 i).1)
      ∙ sym (leaves_split u other_sound n (valid n v) (sym both.0 ∙ split))

  by_width : (k : ℕ) (n : Node) → IsValid t n → first ≤ℤ n.a → n.b ≤ℤ last → width n ≤ k → leaves t n ≡ leaves u n
  by_width zero n v from upto w = absurd (omega (arith, some_width t n v, w))
  by_width (suc k) n v from upto w = by_mark k n v from upto w (mark_of (t.verdict n)) refl (by_width k)

  pub same_leaves : (n : Node) → IsValid t n → first ≤ℤ n.a → n.b ≤ℤ last → leaves t n ≡ leaves u n
  same_leaves n v from upto = by_width (width n) n v from upto (omega arith)

pub same_leaves_over_blocks : (s : Search) (skipped count : ℕ) → IsSearch s → IsSearch (over_blocks skipped count s) → (first last : ℤ)
    → AreBlocksUpTo s.view.ephemeris skipped count last → IsSpan (over_blocks skipped count s) first last → leaves_of (over_blocks skipped count s) first last ≡ leaves_of s first last
same_leaves_over_blocks s skipped count is of_part first last held span =
    let over : Search = over_blocks skipped count s in
    let later = starts_later s.view.ephemeris skipped count is.view.checked held.there in
    let within = ends_within s.view.ephemeris skipped count is.view.checked held.there in
    same_leaves (rules over) (rules s) (rules_are_sound over of_part.view) (rules_are_sound s is.view) over.view.ephemeris.start last
    (λ n v. let low = v.from in let high = v.to in record { from = omega (arith, ints, low, later); inside = v.inside; to = omega (arith, ints, high, within); depth = v.depth })
    (λ n from some upto. (same_verdict s is skipped count of_part held.there last held.next span.to n from some upto, same_parts s is skipped count of_part held.there last held.next span.to n from some upto))
    (root first last) (root_is_valid over of_part.view first last span) span.from (omega (arith, ints))

pub same_windows_over_blocks : (s : Search) (skipped count : ℕ) → IsSearch s → IsSearch (over_blocks skipped count s) → (first last : ℤ)
    → AreBlocksUpTo s.view.ephemeris skipped count last → IsSpan (over_blocks skipped count s) first last → windows_of (over_blocks skipped count s) first last ≡ windows_of s first last
same_windows_over_blocks s skipped count is of_part first last held span = ap windows (same_leaves_over_blocks s skipped count is of_part first last held span)
