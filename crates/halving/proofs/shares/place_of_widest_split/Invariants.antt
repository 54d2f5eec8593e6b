use Rattle.std.proofs.Common.{◌≡◌, ℕ, ◌<◌, ◌≤◌, length, get_or}
use Rattle.halving.specs.declared.shares.Share.{Share}
use Rattle.halving.specs.Shares.{split_width}
use Rattle.halving.proofs.shares.place_of_widest_split.Given as goal

abbrev pub invariant-loop-k : goal.invariant-loop-k
invariant-loop-k l = record {
  inside : 0 < l.widest → l.place < length l.shares;
  widest_is : (d : Share) → 0 < l.widest → split_width (get_or l.shares l.place d) ≡ l.widest;
  widest : (j : ℕ) (d : Share) → j < l.k → split_width (get_or l.shares j d) ≤ l.widest;
  first : (j : ℕ) (d : Share) → 0 < l.widest → j < l.place → split_width (get_or l.shares j d) < l.widest;
}
