-- How many rounds a pool has made at its end: one for each node of the root's tree.
use Rattle.std.proofs.Common.{◌≡◌, ◌⊎◌, inl, inr, ℕ, suc, ◌+◌, ◌*◌, ◌<◌, ◌≤◌, ℤ, pos, ◌-ℤ◌, ◌≤ℤ◌, List, [], ◌∷◌, length, Some, None, slice_get, refl, sym, ap, ◌∙◌, arith}
use Rattle.std.proofs.lemmas.Int.{ints}
use Rattle.std.specs.List.{AllZip}
use Rattle.spec_trees.specs.declared.tree.Node.{Node}
use Rattle.spec_trees.specs.declared.tree.Leaf.{Leaf}
use Rattle.spec_trees.specs.Tree.{Covers, Rules, IsSound, IsValid, leaf_count, leaves}
use Rattle.spec_trees.proofs.Covering.{leaves_cover}
use Rattle.spec_pool.proofs.Weights.{weigh, sum_is_weigh}
use Rattle.span_ledger.specs.declared.desk.LedgerSeat.{LedgerSeat}
use Rattle.steal_pool.specs.Rounds.{Counts, tally}
use Rattle.steal_pool.specs.Seats.{IsLeft, Seat, account, entered_by}
use Rattle.steal_pool.specs.Pools.{AccountFor, AreCounted, KeepNone, counters, entered_in, rounds_of, taken_of}
use Rattle.steal_pool.specs.Closing.{Ended, HasUsedUp, Leaves}
use Rattle.steal_pool.proofs.Accounts.{entered_weigh, same_weights, taken_weight}
use Rattle.steal_pool.proofs.Counting.{ones, own_none, same_count, tallies}
use Rattle.steal_pool.proofs.Ending.{all_entered, entered_in_weigh, none_made, own_only, sum_used}
use Rattle.steal_pool.proofs.Listing.{all_get}
use Rattle.steal_pool.proofs.Together.{entered_sum, put_sum, taken_of_weigh}

-- ---- a root has at most 2^51 leaves
span_count : (ls : List Leaf) (a b : ℤ) → Covers a ls b → pos (length ls) ≤ℤ (b -ℤ a)
span_count [] a b c = omega (arith, ints, c)
span_count (l ∷ ls) a b c = omega (arith, ints, c.0, c.1, span_count ls l.node.b b c.2)

few_leaves : (t : Rules) (root : Node) → IsSound t → IsValid t root → leaf_count t root ≤ 2251799813685248
few_leaves t root sound valid =
    omega (arith, ints, span_count (leaves t root) root.a root.b (leaves_cover t sound root valid), sound.low, sound.high, valid.from, valid.to)

-- ---- counters that are not full show all rounds
all_shown : (ns shown : List ℕ) → AllZip (λ (n : ℕ) (r : ℕ). Counts n 0 r) ns shown → weigh (λ (n : ℕ). n) ns < 18446744073709551615 → weigh (λ (n : ℕ). n) shown ≡ weigh (λ (n : ℕ). n) ns
all_shown [] [] c few = refl
all_shown [] (r ∷ rs) c few = absurd c
all_shown (n ∷ ns) [] c few = absurd c
all_shown (n ∷ ns) (r ∷ rs) c few = by c.0.least (all_shown ns rs c.1 (omega (arith, few)))
  where
    by : (0 + n ≤ r) ⊎ (18446744073709551615 ≤ r) → weigh (λ (m : ℕ). m) rs ≡ weigh (λ (m : ℕ). m) ns → weigh (λ (m : ℕ). m) (r ∷ rs) ≡ weigh (λ (m : ℕ). m) (n ∷ ns)
    by (inl least) rest = omega (arith, least, c.0.most, rest)
    by (inr full) rest = absurd (omega (arith, full, c.0.most, few))

rest_tally : (xs : List Seat) → ((k : ℕ) (s : Seat) → slice_get xs k ≡ Some s → (s.worker.hand ≡ None) × (s.worker.kept ≡ [])) → tallies xs ≡ put_sum (λ (n : Node). 1) xs + 2 * entered_sum (λ (l : Leaf). 1) xs
rest_tally [] each = omega arith
rest_tally (x ∷ xs) each =
    let e = each 0 x refl in omega (
      arith,
      own_none (account x) e.0,
      ap length e.1,
      ones x.worker.own.view.put,
      ones (entered_by x.part),
      entered_weigh (λ (l : Leaf). 1) x.part,
      rest_tally xs (λ k s at. each (suc k) s at),
    )

pub rounds_at_end : (t : Rules) (ss qs : List Seat) (es : List LedgerSeat) → Ended t ss qs → AllZip Leaves qs es → KeepNone qs → (root : Node) → IsSound t → IsValid t root → AccountFor t root ss → AreCounted ss → rounds_of qs + 1 ≡ 2 * leaf_count t root
rounds_at_end t ss qs es d b free root sound valid account_for counted =
    let a = d.counted counted in
    let used = d.used free in
    let deque : (k : ℕ) (s : Seat) → slice_get qs k ≡ Some s → (h : Node → ℕ) → weigh h s.worker.own.view.put ≡ taken_weight h s.worker =
    λ k s at h. same_weights h s.worker.own.view.put s.worker.own.view.taken (all_get HasUsedUp qs k s used at (none_made t ss qs es d b k s at)) ∙ sym (own_only t ss qs es d b h k s at) in
    let all : weigh (λ (n : ℕ). n) a.rounds + 1 ≡ 2 * leaf_count t root = omega (
      arith,
      a.sum,
      sum_is_weigh (λ (n : ℕ). n) a.rounds,
      sum_is_weigh (λ (s : Seat). tally (account s)) qs,
      rest_tally qs (λ k s at. (all_get (IsLeft t) qs k s d.left at).empty (all_get (λ x. x.refusal ≡ None) qs k s free at)),
      sum_used qs deque (λ (n : Node). 1),
      taken_of_weigh (λ (n : Node). 1) qs,
      ones (taken_of qs),
      entered_in_weigh t ss qs es d b (λ (l : Leaf). 1),
      ones (entered_in es),
      same_count (entered_in es) (leaves t root) (all_entered t ss qs es d b free root account_for),
    ) in
    omega (arith, all, sum_is_weigh (λ (n : ℕ). n) (counters qs), all_shown a.rounds (counters qs) a.tell (omega (arith, all, few_leaves t root sound valid)))
