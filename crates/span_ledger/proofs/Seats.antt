-- Making seats, joining them, and the ledger at its two ends.
use Rattle.std.proofs.Common.{◌≡◌, ◌≢◌, ⊎_elim, inl, ℕ, zero, suc, ◌+◌, ◌-◌, ◌<◌, ◌≤◌, List, [], ◌∷◌, ◌++◌, length, map, Option, Some, refl, sym, ap, ◌∙◌, subst, slice_set, length-append, sum_by, arith}
use Rattle.std.proofs.lemmas.List.Sums.{sum_by-cons, sum_by_push}
use mathlib.Core.Option as M
use lib.ListN.{get_elem?}
use native.Mathlib.Decide.{ℕ_discrete}
use Rattle.atomic_table.specs.Table.{Final, Seen, Splits, Joins}
use Rattle.atomic_table.proofs.Lists.{at_set, at_snoc}
use Rattle.spec_trees.specs.declared.book.Booked.{Booked}
use Rattle.spec_pool.specs.declared.ledger.SeatHistory.{SeatHistory}
use Rattle.span_ledger.specs.declared.ledger.SeatView.{SeatView}
use Rattle.spec_pool.specs.declared.ledger.LedgerTerms.{LedgerTerms}
use Rattle.spec_pool.specs.History.{part_of, EachFits, Sound}
use Rattle.spec_pool.proofs.Weights.{total_set}
use Rattle.span_ledger.specs.Rule.{the_part, newcomer, maker_after, made, joined, spent, is_number, times, run_of, taken, size, Fits, home_of, Keeps, Kept}
use Rattle.span_ledger.proofs.Views.{two_le, all_set}
use Rattle.span_ledger.proofs.Moves.{one_number, no_number}

abbrev Slot : Type 0
Slot = Option (List Booked)

run_step : (k low high : ℕ) → low < high → run_of k low (high - low) ≡ is_number k low + run_of k (low + 1) (high - (low + 1))
run_step k low high h = let e : high - low ≡ suc (high - (low + 1)) = omega (arith, h) in ap (run_of k low) e

run_later : (k n c : ℕ) → k < n → run_of k n c ≡ 0
run_later k n zero h = refl
run_later k n (suc c) h = omega (arith, no_number k n (λ z. absurd (omega (arith, z, h))), run_later k (n + 1) c (omega (arith, h)))

run_by : (k n c : ℕ) → Dec (n ≡ k) → run_of k (n + 1) c ≤ 1 → run_of k n (suc c) ≤ 1
run_by k n c (yes same) h = let one : is_number k n ≡ 1 = subst (λ (j : ℕ). is_number k j ≡ 1) (sym same) (one_number k) in omega (arith, one, run_later k (n + 1) c (omega (arith, same)))
run_by k n c (no other) h = omega (arith, no_number k n other, h)

run_le : (k n c : ℕ) → run_of k n c ≤ 1
run_le k n zero = omega arith
run_le k n (suc c) = run_by k n c (ℕ_discrete n k) (run_le k (n + 1) c)

-- the views change, and the words and the slot stay
with_views : (t : LedgerTerms) (words : List ℕ) (homes : List (M.Option Slot)) (old new : List SeatView) (k : Keeps t words homes old) → sum_by (λ (v : SeatView). v.holds) new ≡ k.lock → ((j : ℕ) → sum_by (taken j) new ≤ 1) → sum_by size new ≤ t.seats
    → ((p : ℕ) (v : SeatView) → get_elem? new p ≡ M.some v → Fits t k.log v) → Keeps t words homes new
with_views t words homes old new k holders numbers counted fit = record {
  log = k.log;
  word = k.word;
  lock = k.lock;
  bit = k.bit;
  words_are = k.words_are;
  homes_are = k.homes_are;
  holders = holders;
  numbers = numbers;
  counted = counted;
  fit = fit;
  sound = k.sound;
}

pub splits : (t : LedgerTerms) (id : ℕ) (v : SeatView) → v.low < v.high → Splits (Kept t) id v (maker_after v) (made v)
splits t id v room s k at =
    let w : SeatView = maker_after v in
    let n : SeatView = made v in
    let old = k.fit id v at in
    with_views t s.words s.homes s.views (slice_set s.views id w ++ n ∷ []) k
    (omega (arith, k.holders, sum_by_push (λ (u : SeatView). u.holds) (slice_set s.views id w) n, total_set (λ (u : SeatView). u.holds) s.views id v w at))
    (λ j. omega (arith, k.numbers j, sum_by_push (taken j) (slice_set s.views id w) n, total_set (taken j) s.views id v w at, run_step j v.low v.high room))
    (omega (arith, k.counted, sum_by_push size (slice_set s.views id w) n, total_set size s.views id v w at, room))
    (λ i u g. ⊎_elim
    (λ (e : get_elem? (slice_set s.views id w) i ≡ M.some u). all_set (λ i u. Fits t k.log u) s.views id w (record {
      parts = old.parts;
      below = old.below;
      numbers = old.numbers;
      idle = old.idle;
      current = old.current;
      fresh = λ j le. old.fresh j (omega (arith, le, run_step j v.low v.high room));
    }) (λ i u other e. k.fit i u e) i u e)
    (λ (e : n ≡ u). subst (Fits t k.log) e (record {
      parts = (record { seen = (k.log, refl); mine = old.fresh v.low (omega (arith, run_step v.low v.low v.high room, one_number v.low)); again = tt }, tt);
      below = omega arith;
      numbers = λ j le. omega (arith, no_number j v.low (λ z. absurd (omega (arith, z, le, room, old.below))));
      idle = λ _. refl;
      current = λ z. absurd (omega (arith, z));
      fresh = λ j le. absurd (omega (arith, le));
    }))
    (at_snoc (slice_set s.views id w) n u i g))

times-append : (k : ℕ) (ps qs : List SeatHistory) → times k (ps ++ qs) ≡ times k ps + times k qs
times-append k [] qs = omega arith
times-append k (p ∷ ps) qs = omega (arith, times-append k ps qs)

each-append : (log : List Booked) (ps qs : List SeatHistory) → EachFits log ps → EachFits log qs → EachFits log (ps ++ qs)
each-append log [] qs f g = g
each-append log (p ∷ ps) qs f g = (f.0, each-append log ps qs f.1 g)

pub joins : (t : LedgerTerms) (id : ℕ) (v : SeatView) (other : ℕ) (w : SeatView) → v.holds ≡ 0 → w.holds ≡ 0 → Joins (Kept t) id v other w (joined v w) spent
joins t id v other w idle idle' s k at far there =
    let b : SeatView = joined v w in
    let mid : List SeatView = slice_set s.views id b in
    let old = k.fit id v at in
    let from : get_elem? s.views other ≡ M.some w = ⊎_elim (λ (z : (other ≡ id) × (b ≡ w)). absurd (far z.0)) (λ (z : (other ≢ id) × (get_elem? s.views other ≡ M.some w)). z.1) (at_set s.views id other b w there) in
    let new = k.fit other w from in
    with_views t s.words s.homes s.views (slice_set mid other spent) k
    (omega (arith, k.holders, total_set (λ (u : SeatView). u.holds) s.views id v b at, total_set (λ (u : SeatView). u.holds) mid other w spent there))
    (λ j. omega (arith, k.numbers j, times-append j v.parts w.parts, total_set (taken j) s.views id v b at, total_set (taken j) mid other w spent there))
    (omega (arith, k.counted, length-append v.parts w.parts, total_set size s.views id v b at, total_set size mid other w spent there))
    (all_set (λ i u. Fits t k.log u) mid other spent (record {
      parts = tt;
      below = omega arith;
      numbers = λ j le. refl;
      idle = λ _. refl;
      current = λ z. absurd (omega (arith, z));
      fresh = λ j le. absurd (omega (arith, le));
    }) (λ i u apart e. all_set (λ i u. Fits t k.log u) s.views id b (record {
      parts = each-append k.log v.parts w.parts old.parts new.parts;
      below = old.below;
      numbers = λ j le. omega (arith, times-append j v.parts w.parts, old.numbers j le, new.numbers j le);
      idle = λ _. omega (arith, idle, idle');
      current = λ z. absurd (omega (arith, z, idle, idle'));
      fresh = old.fresh;
    }) (λ i u other e. k.fit i u e) i u e))

one_view : (v u : SeatView) (i : ℕ) → get_elem? (v ∷ []) i ≡ M.some u → v ≡ u
one_view v u zero e = M.some-injective v u e
one_view v u (suc i) e = absurd (M.some-ne-none u (sym e))

none_there : {A : Type 0} (i : ℕ) (a : A) → get_elem? {A = A} [] i ≡ M.some a → ⊥
none_there i a e = absurd (M.some-ne-none a (sym e))

run_before : (k n c : ℕ) → n + c ≤ k → run_of k n c ≡ 0
run_before k n zero h = refl
run_before k n (suc c) h = omega (arith, no_number k n (λ z. absurd (omega (arith, z, h))), run_before k (n + 1) c (omega (arith, h)))

first_by : (j c : ℕ) → Dec (c ≡ j) → times j (part_of c [] [] [] ∷ []) + run_of j 0 c ≤ 1
first_by j c (yes z) = let r : run_of j 0 c ≡ 0 = run_before j 0 c (omega (arith, z)) in let one : is_number j c ≡ 1 = subst (λ (n : ℕ). is_number j n ≡ 1) (sym z) (one_number j) in omega (arith, r, one)
first_by j c (no z) = omega (arith, no_number j c z, run_le j 0 c)

first_numbers : (j c : ℕ) → times j (part_of c [] [] [] ∷ []) + run_of j 0 (c - 0) + 0 ≤ 1
first_numbers j c = let z : c - 0 ≡ c = omega arith in omega (arith, ap (run_of j 0) z, first_by j c (ℕ_discrete c j))

-- the ledger at its start
pub begins : (t : LedgerTerms) → 0 < t.seats → Keeps t (0 ∷ 0 ∷ []) (M.some (Some []) ∷ []) (newcomer t ∷ [])
begins t seats =
    record {
      log = [];
      word = 0;
      lock = 0;
      bit = inl (refl, λ z. absurd (omega (arith, z)));
      words_are = refl;
      homes_are = refl;
      holders = refl;
      numbers = λ j. omega (arith, first_numbers j (t.seats - 1));
      counted = omega (arith, seats);
      fit = λ i u e. subst (Fits t []) (one_view (newcomer t) u i e) (record {
        parts = (record { seen = ([], refl); mine = refl; again = tt }, tt);
        below = omega arith;
        numbers = λ j le. omega (arith, no_number j (t.seats - 1) (λ z. absurd (omega (arith, z, le, seats))));
        idle = λ _. refl;
        current = λ z. absurd (omega (arith, z));
        fresh = λ j le. refl;
      });
      sound = record { lies = λ i e g. absurd (none_there i e g); apart = λ i j e f g h same. absurd (none_there i e g); few = omega arith };
    }

-- where one seat has the parts of all, the lock is free
all_zero : (f : SeatView → ℕ) (views : List SeatView) → ((i : ℕ) (u : SeatView) → get_elem? views i ≡ M.some u → f u ≡ 0) → sum_by f views ≡ 0
all_zero f [] h = refl
all_zero f (x ∷ xs) h = omega (arith, h zero x refl, all_zero f xs (λ i u e. h (suc i) u e), sum_by-cons f x xs)

zero_by : (t : LedgerTerms) (id : ℕ) (v : SeatView) (views : List SeatView) (log : List Booked) (i : ℕ) (u : SeatView) → v.holds ≡ 0 → length v.parts ≡ t.seats → get_elem? views id ≡ M.some v → sum_by size views ≤ t.seats → Fits t log u → get_elem? views i ≡ M.some u → Dec (i ≡ id) → u.holds ≡ 0
zero_by t id v views log i u idle all at counted f e (yes same) = let is : v ≡ u = M.some-injective v u (sym at ∙ (ap (get_elem? views) (sym same) ∙ e)) in subst (λ (x : SeatView). x.holds ≡ 0) is idle
zero_by t id v views log i u idle all at counted f e (no other) = f.idle (omega (arith, all, counted, two_le size views i id u v other e at))

pub ends : (t : LedgerTerms) (id : ℕ) (v : SeatView) (ws : List ℕ) (xs : List Slot) → v.holds ≡ 0 → length v.parts ≡ t.seats → Final (Seen (Kept t) id v) ws xs
    → (log : List Booked) × (get_elem? xs 0 ≡ M.some (Some log)) × Sound t log × EachFits log v.parts
ends t id v ws xs idle all f =
    let s = f.0 in
    let k : Kept t s = f.1.0 in
    let at = f.1.1 in
    let none : sum_by (λ (u : SeatView). u.holds) s.views ≡ 0 = all_zero (λ (u : SeatView). u.holds) s.views (λ i u e. zero_by t id v s.views k.log i u idle all at k.counted (k.fit i u e) e (ℕ_discrete i id)) in
    let lock : k.lock ≡ 0 = sym k.holders ∙ none in
    let home : s.homes ≡ M.some (Some k.log) ∷ [] = k.homes_are ∙ ap (λ (l : ℕ). home_of l k.log ∷ []) lock in
    (k.log, f.4 0 (Some k.log) (ap (λ (h : List (M.Option Slot)). get_elem? h 0) home), k.sound, (k.fit id v at).parts)

pub single : (ps : List SeatHistory) → length ps ≡ 1 → ps ≡ the_part ps ∷ []
single [] e = absurd (omega (arith, e))
single (p ∷ []) e = refl
single (p ∷ q ∷ ps) e = absurd (omega (arith, e))

pub begins_from : (t : LedgerTerms) (xs : List Slot) → 0 < t.seats → xs ≡ Some [] ∷ [] → Keeps t (0 ∷ 0 ∷ []) (map M.some xs) (newcomer t ∷ [])
begins_from t xs seats e = subst (λ (l : List Slot). Keeps t (0 ∷ 0 ∷ []) (map M.some l) (newcomer t ∷ [])) (sym e) (begins t seats)
