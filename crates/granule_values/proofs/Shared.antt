-- Rows that are kept are those of each granule that they serve.
use Rattle.std.proofs.Common.{◌≡◌, ◌∙◌, ◌≤◌, ℕ, arith, sym, ℤ, unsigned_abs}
use Rattle.std.specs.Prelude.{[]}
use Rattle.std.proofs.lemmas.Bool.{both_ways}
use lib.Signed.{lt_z}
use Rattle.spec_intervals.specs.Enclosure.{middle}
use Rattle.spec_ephemeris.specs.declared.granule.Granule.{Granule}
use Rattle.spec_motions.specs.Enclosures.{arguments}
use Rattle.spec_bodies.specs.declared.quantity.Quantity.{Quantity}
use Rattle.granule_values.specs.declared.axis_entries.ColumnQuestion.{ColumnQuestion}
use Rattle.granule_values.specs.declared.granule_span.GranuleSpan.{GranuleSpan}
use Rattle.granule_values.specs.declared.bases.PlainRow.{PlainRow}
use Rattle.granule_values.specs.declared.bases.Rows.{Rows}
use Rattle.granule_values.specs.declared.bases.RowRoom.{RowRoom}
use Rattle.granule_values.specs.Bases.{ArePlain, AreAll, AreOver, AreKept, AreSeveral, IsServed, IsSingle, IsCentre, IsWhole}

-- ---- rows of n entries are rows of fewer
fewer_plain : (quantity : Quantity) (m n : ℕ) (row : PlainRow) → m ≤ n → ArePlain quantity n row → ArePlain quantity m row
fewer_plain quantity m n row few is = record { unit = is.unit; values = λ k below. is.values k (omega (arith, below, few)) }

pub fewer_all : (quantity : Quantity) (m n : ℕ) (rows : Rows) → m ≤ n → AreAll quantity n rows → AreAll quantity m rows
fewer_all quantity m n rows few is = record { plain = fewer_plain quantity m n rows.plain few is.plain; steps = λ k below. is.steps k (omega (arith, below, few)) }

-- ---- arguments are those of each granule with the same start and as long
same_over : (g h : Granule) (a b c d : ℤ) (row : PlainRow) → g.start ≡ h.start → g.seconds ≡ h.seconds → a ≡ c → b ≡ d → AreOver g a b row → AreOver h c d row
same_over g h a b c d row starts lengths firsts lasts is = λ axis.
    is axis ∙ λ i. arguments (record { start = starts i; duration = unsigned_abs (lengths i); coefficients = [] }) (firsts i) (lasts i)

-- ---- what is made for a span is kept
module _ (own : GranuleSpan) (q : ColumnQuestion) (room : RowRoom) (same : own.times.now ≡ q.times.now) (served : IsServed own.granule room) where
  module _ (s : GranuleSpan) (firsts : s.times.now.first ≡ q.times.now.first) (lasts : s.times.now.last ≡ q.times.now.last) (is : IsServed s.granule room) where
    first : own.times.now.first ≡ s.times.now.first
    first = (λ i. (same i).first) ∙ sym firsts

    last : own.times.now.last ≡ s.times.now.last
    last = (λ i. (same i).last) ∙ sym lasts

    centre_of : AreOver own.granule (middle own.times.now.first own.times.now.last) (middle own.times.now.first own.times.now.last) room.centre → ArePlain q.quantity room.entries room.centre → IsCentre s q.quantity room.centre
    centre_of over row =
        let middles : middle own.times.now.first own.times.now.last ≡ middle s.times.now.first s.times.now.last = λ i. middle (first i) (last i) in
        record {
          over = same_over own.granule s.granule _ _ _ _ room.centre (served.start ∙ sym is.start) (served.seconds ∙ sym is.seconds) middles middles over;
          row = fewer_plain q.quantity s.granule.n room.entries room.centre is.few row;
        }

    whole_of : AreOver own.granule own.times.now.first own.times.now.last room.whole.plain → AreAll q.quantity room.entries room.whole → IsWhole s q.quantity room.whole
    whole_of over rows = record {
      over = same_over own.granule s.granule _ _ _ _ room.whole.plain (served.start ∙ sym is.start) (served.seconds ∙ sym is.seconds) first last over;
      rows = fewer_all q.quantity s.granule.n room.entries room.whole is.few rows;
    }

    not_both : IsSingle own → AreSeveral s → ⊥
    not_both single several = both_ways (lt_z own.times.now.first own.times.now.last) single ((λ i. lt_z (first i) (last i)) ∙ several)

  pub kept_at : IsSingle own → AreOver own.granule (middle own.times.now.first own.times.now.last) (middle own.times.now.first own.times.now.last) room.centre → ArePlain q.quantity room.entries room.centre → AreKept q room
  kept_at single over row s firsts lasts is = record {
    centre = centre_of s firsts lasts is over row;
    whole = λ several. absurd (not_both s firsts lasts is single several);
  }

  pub kept_over : AreOver own.granule (middle own.times.now.first own.times.now.last) (middle own.times.now.first own.times.now.last) room.centre → ArePlain q.quantity room.entries room.centre
      → AreOver own.granule own.times.now.first own.times.now.last room.whole.plain → AreAll q.quantity room.entries room.whole → AreKept q room
  kept_over over row whole rows s firsts lasts is = record {
    centre = centre_of s firsts lasts is over row;
    whole = λ several. whole_of s firsts lasts is whole rows;
  }
