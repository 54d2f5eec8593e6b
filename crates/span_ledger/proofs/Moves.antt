-- Each kind of step keeps the rule.
use Rattle.std.proofs.Common.{◌≡◌, ◌≢◌, ⊎_elim, inl, inr, ℕ, suc, ◌+◌, ◌-◌, ◌%◌, ◌^◌, ◌<◌, ◌≤◌, ◌==◌, List, [], ◌∷◌, ◌++◌, length, Option, Some, refl, sym, ap, ◌∙◌, subst, slice_set, slice_index, append_assoc, length-append, sum_by, arith, true, false, ◌≤ℤ◌}
use Rattle.std.proofs.lemmas.List.{append-nil}
use mathlib.Core.Option as M
use lib.ListN.{get_elem?}
use Rattle.std.proofs.lemmas.Bool.Decides.{nat_tests}
use native.Mathlib.Decide.{dec_le}
use Rattle.atomic_table.specs.Table.{State, Act, keeps, takes, gives, Valid, homes_after, carried_after, Allows}
use Rattle.atomic_table.proofs.Lists.{set_again, at_longer}
use Rattle.spec_trees.specs.declared.tree.Leaf.{Leaf}
use Rattle.spec_trees.specs.declared.book.Booked.{Booked}
use Rattle.spec_pool.specs.declared.ledger.SeatHistory.{SeatHistory}
use Rattle.span_ledger.specs.declared.ledger.SeatView.{SeatView}
use Rattle.spec_pool.specs.declared.ledger.LedgerTerms.{LedgerTerms}
use Rattle.spec_pool.specs.History.{StartsWith, by_seat, Fresh, Stands, saw, entered, repeated, AllStand, FitsPart, EachFits, Lies, Sound}
use Rattle.spec_pool.proofs.Weights.{total_set, total_le}
use Rattle.span_ledger.specs.Rule.{the_part, with_part, is_number, times, run_of, taken, size, Fits, home_of, Keeps, Kept, Sat, Stp, Locks, Adds, Frees}
use Rattle.span_ledger.proofs.Views.{two_le, all_set, by_seat-append, by_own, by_other}
use Rattle.span_ledger.proofs.Indexing.{at_end}

abbrev Slot : Type 0
Slot = Option (List Booked)

abbrev Homes : Type 0
Homes = List (M.Option Slot)

to : (P : List ℕ → Homes → Type 0) (ws ws' : List ℕ) (hs hs' : Homes) → ws ≡ ws' → hs ≡ hs' → P ws' hs' → P ws hs
to P ws ws' hs hs' e f x = subst (λ (w : List ℕ). P w hs) (sym e) (subst (P ws') (sym f) x)

-- what a step owes
abbrev Goal : LedgerTerms → ℕ → Sat → ℕ → (ℕ → ℕ) → (ℕ → Sat → Type 0) → List SeatView → List ℕ → Homes → Type 0
Goal t id me i f then views ws hs =
    (w : SeatView) × (a : Act Slot) × Valid hs me.1 a × Keeps t (slice_set ws i (f (slice_index ws i))) (homes_after hs me.1 a) (slice_set views id w) × then (slice_index ws i) (w, carried_after me.1 a)

-- a view with one part of the same number weighs the same
same_taken : (v : SeatView) (p q : SeatHistory) (h k : ℕ) → v.parts ≡ p ∷ [] → q.number ≡ p.number → taken k (with_part v h q) ≡ taken k v
same_taken v p q h k one same =
    let a : times k v.parts ≡ times k (p ∷ []) = ap (times k) one in
    let b : is_number k q.number ≡ is_number k p.number = ap (is_number k) same in
    omega (arith, a, b)

same_size : (v : SeatView) (p q : SeatHistory) (h : ℕ) → v.parts ≡ p ∷ [] → size (with_part v h q) ≡ size v
same_size v p q h one = let a : length v.parts ≡ 1 = ap length one in omega (arith, a)

same_times : (v : SeatView) (p q : SeatHistory) (h k : ℕ) → v.parts ≡ p ∷ [] → q.number ≡ p.number → times k v.parts ≡ 0 → times k (with_part v h q).parts ≡ 0
same_times v p q h k one same z =
    let a : times k v.parts ≡ times k (p ∷ []) = ap (times k) one in
    let b : is_number k q.number ≡ is_number k p.number = ap (is_number k) same in
    omega (arith, a, b, z)

-- the parts of the rule that a step with one seat leaves alike
numbers_set : (views : List SeatView) (id : ℕ) (v : SeatView) (p q : SeatHistory) (h k : ℕ) → get_elem? views id ≡ M.some v → v.parts ≡ p ∷ [] → q.number ≡ p.number → sum_by (taken k) views ≤ 1 → sum_by (taken k) (slice_set views id (with_part v h q)) ≤ 1
numbers_set views id v p q h k at one same le = omega (arith, total_set (taken k) views id v (with_part v h q) at, same_taken v p q h k one same, le)

size_set : (t : LedgerTerms) (views : List SeatView) (id : ℕ) (v : SeatView) (p q : SeatHistory) (h : ℕ) → get_elem? views id ≡ M.some v → v.parts ≡ p ∷ [] → sum_by size views ≤ t.seats → sum_by size (slice_set views id (with_part v h q)) ≤ t.seats
size_set t views id v p q h at one le = omega (arith, total_set size views id v (with_part v h q) at, same_size v p q h one, le)

pub first_fits : (log : List Booked) (v : SeatView) (p : SeatHistory) → v.parts ≡ p ∷ [] → EachFits log v.parts → FitsPart log p
first_fits log v p one f = (subst (EachFits log) one f).0

-- the lock is taken, and the book with it
lock_taken : (t : LedgerTerms) (log : List Booked) (views : List SeatView) → sum_by (λ (u : SeatView). u.holds) views ≡ 1
    → ((j : ℕ) → sum_by (taken j) views ≤ 1) → sum_by size views ≤ t.seats
    → ((i : ℕ) (u : SeatView) → get_elem? views i ≡ M.some u → Fits t log u) → Sound t log
    → Keeps t (1 ∷ length log ∷ []) (M.none ∷ []) views
lock_taken t log views holders numbers counted fit sound = record {
  log = log;
  word = 1;
  lock = 1;
  bit = inr (refl, refl);
  words_are = refl;
  homes_are = refl;
  holders = holders;
  numbers = numbers;
  counted = counted;
  fit = fit;
  sound = sound;
}

locks_free : (t : LedgerTerms) (st : Stp) (id : ℕ) (v : SeatView) (p : SeatHistory) (s : State Slot SeatView) (k : Kept t s) → v.holds ≡ 0 → v.parts ≡ p ∷ [] → get_elem? s.views id ≡ M.some v → k.lock ≡ 0 → k.word ≢ 1
    → Goal t id (v, []) 0 (λ n. 1) (Locks st (v, [])) s.views (k.word ∷ length k.log ∷ []) (M.some (Some k.log) ∷ [])
locks_free t st id v p s k idle one at z free =
    let q = saw p k.log in
    let w : SeatView = with_part v 1 q in
    let old = k.fit id v at in
    let f = first_fits k.log v p one old.parts in
    let first : the_part v.parts ≡ p = ap the_part one in
    let told = subst (λ (x : SeatHistory). StartsWith k.log x.seen × (by_seat x.number k.log ≡ x.mine) × ◌≡◌ {A = Sat} (w, (0, Some k.log) ∷ []) (with_part v 1 (saw x k.log), (0, Some k.log) ∷ [])) (sym first) (f.seen, f.mine, refl) in (
      w,
      takes 0 (Some k.log),
      refl,
      lock_taken t k.log (slice_set s.views id w)
          (omega (arith, k.holders, z, total_set (λ (u : SeatView). u.holds) s.views id v w at))
          (λ j. numbers_set s.views id v p q 1 j at one refl (k.numbers j))
          (size_set t s.views id v p q 1 at one k.counted)
          (all_set (λ i u. Fits t k.log u) s.views id w (record {
            parts = (record { seen = ([], sym (append-nil k.log)); mine = f.mine; again = f.again }, tt);
            below = old.below;
            numbers = λ j le. same_times v p q 1 j one refl (old.numbers j le);
            idle = λ no. absurd (omega (arith, no));
            current = λ _. refl;
            fresh = old.fresh;
          }) (λ i u other e. k.fit i u e))
          k.sound,
      ((λ found. absurd (free found)), λ _. (k.log, told.0, told.1, told.2)),
    )

locks_taken : (t : LedgerTerms) (st : Stp) (id : ℕ) (v : SeatView) (s : State Slot SeatView) (k : Kept t s) → get_elem? s.views id ≡ M.some v → k.lock ≡ 1 → k.word ≡ 1
    → Goal t id (v, []) 0 (λ n. 1) (Locks st (v, [])) s.views (k.word ∷ length k.log ∷ []) (M.none ∷ [])
locks_taken t st id v s k at z one = (
  v,
  keeps,
  tt,
  subst (Keeps t (1 ∷ length k.log ∷ []) (M.none ∷ [])) (sym (set_again s.views id v at))
      (lock_taken t k.log s.views (k.holders ∙ z) k.numbers k.counted k.fit k.sound),
  ((λ _. refl), λ other. absurd (other one)),
)

pub locks : (t : LedgerTerms) (st : Stp) (id : ℕ) (v : SeatView) (p : SeatHistory) → v.holds ≡ 0 → v.parts ≡ p ∷ [] → Allows (Kept t) 1 id (v, []) 0 (λ n. 1) (Locks st (v, []))
locks t st id v p idle one s k len at small =
    let P = Goal t id (v, []) 0 (λ n. 1) (Locks st (v, [])) s.views in
    ⊎_elim
    (λ (z : (k.lock ≡ 0) × (k.word ≢ 1)). to P s.words (k.word ∷ length k.log ∷ []) s.homes (M.some (Some k.log) ∷ []) k.words_are (k.homes_are ∙ ap (λ (l : ℕ). home_of l k.log ∷ []) z.0) (locks_free t st id v p s k idle one at z.0 z.1))
    (λ (z : (k.lock ≡ 1) × (k.word ≡ 1)). to P s.words (k.word ∷ length k.log ∷ []) s.homes (M.none ∷ []) k.words_are (k.homes_are ∙ ap (λ (l : ℕ). home_of l k.log ∷ []) z.0) (locks_taken t st id v s k at z.0 z.1))
    k.bit

-- the lock is taken where a seat holds it
held : (t : LedgerTerms) (s : State Slot SeatView) (k : Kept t s) (id : ℕ) (v : SeatView) → get_elem? s.views id ≡ M.some v → v.holds ≡ 1 → k.lock ≡ 1
held t s k id v at h = let le = total_le (λ (u : SeatView). u.holds) s.views id v at in ⊎_elim (λ (z : (k.lock ≡ 0) × (k.word ≢ 1)). absurd (omega (arith, k.holders, z.0, le, h))) (λ (z : (k.lock ≡ 1) × (k.word ≡ 1)). z.0) k.bit

pub one_number : (k : ℕ) → is_number k k ≡ 1
one_number k = let e : (k == k) ≡ true = grind (arith, nat_tests) in rw e refl

pub no_number : (k n : ℕ) → n ≢ k → is_number k n ≡ 0
no_number k n other = let e : (n == k) ≡ false = grind (arith, nat_tests) in rw e refl

pub not_number : (k n : ℕ) → is_number k n ≡ 0 → n ≢ k
not_number k n z same = let one : is_number k n ≡ 1 = subst (λ (j : ℕ). is_number k j ≡ 1) (sym same) (one_number k) in absurd (omega (arith, one, z))

stand_grow : (log : List Booked) (e : Booked) (ls : List Leaf) → AllStand log ls → AllStand (log ++ e ∷ []) ls
stand_grow log e [] x = tt
stand_grow log e (l ∷ ls) x = ((x.0.0, (x.0.1.0, at_longer log (e ∷ []) x.0.0 x.0.1.0 x.0.1.1, x.0.1.2)), stand_grow log e ls x.1)

stand_more : (log : List Booked) (ls : List Leaf) (l : Leaf) (i : ℕ) → AllStand log ls → Stands l log i → AllStand log (ls ++ l ∷ [])
stand_more log [] l i x h = ((i, h), tt)
stand_more log (m ∷ ls) l i x h = (x.0, stand_more log ls l i x.1 h)

grow_part : (log : List Booked) (e : Booked) (p : SeatHistory) → p.number ≢ e.seat → FitsPart log p → FitsPart (log ++ e ∷ []) p
grow_part log e p other f = record {
  seen = (f.seen.0 ++ e ∷ [], ap (λ (l : List Booked). l ++ e ∷ []) f.seen.1 ∙ append_assoc p.seen f.seen.0 (e ∷ []));
  mine = by_seat-append p.number log (e ∷ []) ∙ (ap (λ (l : List Booked). by_seat p.number log ++ l) (by_other p.number e (λ z. other (sym z))) ∙ (append-nil (by_seat p.number log) ∙ f.mine));
  again = stand_grow log e p.again f.again;
}

grow_each : (log : List Booked) (e : Booked) (ps : List SeatHistory) → times e.seat ps ≡ 0 → EachFits log ps → EachFits (log ++ e ∷ []) ps
grow_each log e [] z f = tt
grow_each log e (p ∷ ps) z f = (grow_part log e p (not_number e.seat p.number (omega (arith, z))) f.0, grow_each log e ps (omega (arith, z)) f.1)

lt_by : (a b : ℕ) → Dec (b ≤ a) → (b ≤ a → ⊥) → a < b
lt_by a b (yes le) n = absurd (n le)
lt_by a b (no le) n = omega (arith, le)

pub by_contradiction_lt : (a b : ℕ) → (b ≤ a → ⊥) → a < b
by_contradiction_lt a b n = lt_by a b (dec_le b a) n

-- an entry of a number that the view has not, nor may make
grow_fresh : (log : List Booked) (e : Booked) (v : SeatView) → run_of e.seat v.low (v.high - v.low) ≡ 0 → ((k : ℕ) → 1 ≤ run_of k v.low (v.high - v.low) → by_seat k log ≡ [])
    → (k : ℕ) → 1 ≤ run_of k v.low (v.high - v.low) → by_seat k (log ++ e ∷ []) ≡ []
grow_fresh log e v z f k le =
    let other : e.seat ≢ k = λ same. let n : run_of k v.low (v.high - v.low) ≡ 0 = subst (λ (j : ℕ). run_of j v.low (v.high - v.low) ≡ 0) same z in absurd (omega (arith, n, le)) in
    by_seat-append k log (e ∷ []) ∙ (ap (λ (l : List Booked). by_seat k log ++ l) (by_other k e other) ∙ (append-nil (by_seat k log) ∙ f k le))

grow_sound : (t : LedgerTerms) (log : List Booked) (e : Booked) → Sound t log → Fresh e.leaf log → Lies t e → length log < t.limit → Sound t (log ++ e ∷ [])
grow_sound t log e s fresh lies room = record {
  lies = λ i f g. ⊎_elim (λ (old : get_elem? log i ≡ M.some f). s.lies i f old) (λ (last : (i ≡ length log) × (e ≡ f)). subst (Lies t) last.1 lies) (at_end log e f i g);
  apart = λ i j f g at_f at_g same. ⊎_elim
      (λ (a : get_elem? log i ≡ M.some f). ⊎_elim
      (λ (b : get_elem? log j ≡ M.some g). s.apart i j f g a b same)
      (λ (b : (j ≡ length log) × (e ≡ g)). absurd (fresh i f a (same ∙ ap (λ (x : Booked). x.leaf) (sym b.1))))
      (at_end log e g j at_g))
      (λ (a : (i ≡ length log) × (e ≡ f)). ⊎_elim
      (λ (b : get_elem? log j ≡ M.some g). absurd (fresh j g b (sym same ∙ ap (λ (x : Booked). x.leaf) (sym a.1))))
      (λ (b : (j ≡ length log) × (e ≡ g)). a.0 ∙ sym b.0)
      (at_end log e g j at_g))
      (at_end log e f i at_f);
  few = omega (arith, length-append log (e ∷ []), room);
}

adds_at : (t : LedgerTerms) (st : Stp) (id : ℕ) (v : SeatView) (p : SeatHistory) (e : Booked) (s : State Slot SeatView) (k : Kept t s) → v.holds ≡ 1 → v.parts ≡ p ∷ [] → e.seat ≡ p.number → p.seen ≡ k.log → Fresh e.leaf k.log
    → t.root.a ≤ℤ e.leaf.node.a → e.leaf.node.b ≤ℤ t.root.b → length k.log < t.limit → length k.log < 2 ^ 32 → get_elem? s.views id ≡ M.some v → k.lock ≡ 1 → k.word ≡ 1
    → Goal t id (v, (0, Some (p.seen ++ e ∷ [])) ∷ []) 1 (λ n. (n + 1) % 2 ^ 64) (Adds st (v, (0, Some (p.seen ++ e ∷ [])) ∷ [])) s.views (k.word ∷ length k.log ∷ []) (M.none ∷ [])
adds_at t st id v p e s k holds one own seen fresh from until below room at lock word =
    let q = entered p e in
    let w : SeatView = with_part v v.holds q in
    let old = k.fit id v at in
    let f = first_fits k.log v p one old.parts in
    let first : the_part v.parts ≡ p = ap the_part one in
    let mine_one : times e.seat v.parts ≡ 1 = ap (times e.seat) one ∙ (let n : is_number e.seat p.number ≡ 1 = subst (λ (j : ℕ). is_number e.seat j ≡ 1) own (one_number e.seat) in omega (arith, n)) in
    let number : e.seat < t.seats = by_contradiction_lt e.seat t.seats (λ ge. let z = old.numbers e.seat ge in absurd (omega (arith, z, mine_one))) in
    let own_run : run_of e.seat v.low (v.high - v.low) ≡ 0 = omega (arith, mine_one, k.numbers e.seat, total_le (taken e.seat) s.views id v at) in
    let count : (length k.log + 1) % 2 ^ 64 ≡ length (k.log ++ e ∷ []) = omega (arith, length-append k.log (e ∷ []), room) in
    let lies : Lies t e = record { from = from; to = until; seat = number } in
    let told = subst (λ (x : SeatHistory). ◌≡◌ {A = List (ℕ × Slot)} ((0, Some (p.seen ++ e ∷ [])) ∷ []) ((0, Some (x.seen ++ e ∷ [])) ∷ []) × ◌≡◌ {A = Sat} (w, (0, Some (p.seen ++ e ∷ [])) ∷ []) (with_part v v.holds (entered x e), (0, Some (p.seen ++ e ∷ [])) ∷ [])) (sym first) (refl, refl) in (
      w,
      keeps,
      tt,
      record {
        log = k.log ++ e ∷ [];
        word = 1;
        lock = 1;
        bit = inr (refl, refl);
        words_are = λ i. word i ∷ count i ∷ [];
        homes_are = refl;
        holders = omega (arith, k.holders, lock, holds, total_set (λ (u : SeatView). u.holds) s.views id v w at);
        numbers = λ j. numbers_set s.views id v p q v.holds j at one refl (k.numbers j);
        counted = size_set t s.views id v p q v.holds at one k.counted;
        fit = all_set (λ i u. Fits t (k.log ++ e ∷ []) u) s.views id w (record {
          parts = (
            record {
              seen = ([], ap (λ (l : List Booked). l ++ e ∷ []) (sym seen) ∙ sym (append-nil (p.seen ++ e ∷ [])));
              mine = by_seat-append p.number k.log (e ∷ []) ∙ (ap (λ (l : List Booked). l ++ by_seat p.number (e ∷ [])) f.mine ∙ ap (λ (l : List Booked). p.mine ++ l) (by_own p.number e own));
              again = stand_grow k.log e p.again f.again;
            },
            tt,
          );
          below = old.below;
          numbers = λ j le. same_times v p q v.holds j one refl (old.numbers j le);
          idle = λ no. absurd (omega (arith, no));
          current = λ _. ap (λ (l : List Booked). l ++ e ∷ []) seen;
          fresh = grow_fresh k.log e v own_run old.fresh;
        }) (λ i u other g.
            let x = k.fit i u g in
            let two = two_le (taken e.seat) s.views i id u v other g at in
            let hold = two_le (λ (y : SeatView). y.holds) s.views i id u v other g at in
            let none : taken e.seat u ≡ 0 = omega (arith, two, k.numbers e.seat, mine_one) in
            record {
              parts = grow_each k.log e u.parts (omega (arith, none)) x.parts;
              below = x.below;
              numbers = x.numbers;
              idle = x.idle;
              current = λ z. absurd (omega (arith, z, hold, holds, k.holders, lock));
              fresh = grow_fresh k.log e u (omega (arith, none)) x.fresh;
            });
        sound = grow_sound t k.log e k.sound fresh lies below;
      },
      (e, told.0, told.1),
    )

pub adds : (t : LedgerTerms) (st : Stp) (id : ℕ) (v : SeatView) (p : SeatHistory) (e : Booked) → v.holds ≡ 1 → v.parts ≡ p ∷ [] → e.seat ≡ p.number → Fresh e.leaf p.seen
    → t.root.a ≤ℤ e.leaf.node.a → e.leaf.node.b ≤ℤ t.root.b → length p.seen < t.limit → length p.seen < 2 ^ 32
    → Allows (Kept t) 1 id (v, (0, Some (p.seen ++ e ∷ [])) ∷ []) 1 (λ n. (n + 1) % 2 ^ 64) (Adds st (v, (0, Some (p.seen ++ e ∷ [])) ∷ []))
adds t st id v p e holds one own fresh from until below room s k len at small =
    let lock = held t s k id v at holds in
    let word : k.word ≡ 1 = ⊎_elim (λ (z : (k.lock ≡ 0) × (k.word ≢ 1)). absurd (omega (arith, z.0, lock))) (λ (z : (k.lock ≡ 1) × (k.word ≡ 1)). z.1) k.bit in
    let seen : p.seen ≡ k.log = ap (λ (x : List SeatHistory). (the_part x).seen) (sym one) ∙ (k.fit id v at).current holds in
    let P = Goal t id (v, (0, Some (p.seen ++ e ∷ [])) ∷ []) 1 (λ n. (n + 1) % 2 ^ 64) (Adds st (v, (0, Some (p.seen ++ e ∷ [])) ∷ [])) s.views in
    to P s.words (k.word ∷ length k.log ∷ []) s.homes (M.none ∷ []) k.words_are (k.homes_are ∙ ap (λ (l : ℕ). home_of l k.log ∷ []) lock)
    (adds_at t st id v p e s k holds one own seen (subst (Fresh e.leaf) seen fresh) from until (subst (λ (l : List Booked). length l < t.limit) seen below) (subst (λ (l : List Booked). length l < 2 ^ 32) seen room) at lock word)

-- the lock is given back, and the seat's part becomes q
freed : (t : LedgerTerms) (id n : ℕ) (v : SeatView) (p q : SeatHistory) (s : State Slot SeatView) (k : Kept t s) → n ≢ 1 → v.holds ≡ 1 → v.parts ≡ p ∷ [] → q.number ≡ p.number → FitsPart k.log q → p.seen ≡ k.log → get_elem? s.views id ≡ M.some v → k.lock ≡ 1
    → Keeps t (n ∷ length k.log ∷ []) (M.some (Some p.seen) ∷ []) (slice_set s.views id (with_part v 0 q))
freed t id n v p q s k free holds one same f seen at lock =
    let w : SeatView = with_part v 0 q in
    let old = k.fit id v at in
    record {
      log = k.log;
      word = n;
      lock = 0;
      bit = inl (refl, free);
      words_are = refl;
      homes_are = ap (λ (l : List Booked). M.some (Some l) ∷ []) seen;
      holders = omega (arith, k.holders, lock, holds, total_set (λ (u : SeatView). u.holds) s.views id v w at);
      numbers = λ j. numbers_set s.views id v p q 0 j at one same (k.numbers j);
      counted = size_set t s.views id v p q 0 at one k.counted;
      fit = all_set (λ i u. Fits t k.log u) s.views id w (record {
        parts = (f, tt);
        below = old.below;
        numbers = λ j le. same_times v p q 0 j one same (old.numbers j le);
        idle = λ no. refl;
        current = λ z. absurd (omega (arith, z));
        fresh = old.fresh;
      }) (λ i u other e. k.fit i u e);
      sound = k.sound;
    }

free_goal : (t : LedgerTerms) (id n : ℕ) (v : SeatView) (p : SeatHistory) (then : ℕ → Sat → Type 0) (s : State Slot SeatView) (k : Kept t s) → k.lock ≡ 1 → Goal t id (v, (0, Some p.seen) ∷ []) 0 (λ _. n) then s.views (k.word ∷ length k.log ∷ []) (M.none ∷ [])
    → Goal t id (v, (0, Some p.seen) ∷ []) 0 (λ _. n) then s.views s.words s.homes
free_goal t id n v p then s k lock x = to (Goal t id (v, (0, Some p.seen) ∷ []) 0 (λ _. n) then s.views) s.words (k.word ∷ length k.log ∷ []) s.homes (M.none ∷ []) k.words_are (k.homes_are ∙ ap (λ (l : ℕ). home_of l k.log ∷ []) lock) x

pub frees : (t : LedgerTerms) (st : Stp) (id : ℕ) (v : SeatView) (p : SeatHistory) → v.holds ≡ 1 → v.parts ≡ p ∷ [] → Allows (Kept t) 1 id (v, (0, Some p.seen) ∷ []) 0 (λ n. 0) (λ _. Frees st (v, (0, Some p.seen) ∷ []) 0)
frees t st id v p holds one s k len at small =
    let lock = held t s k id v at holds in
    let seen : p.seen ≡ k.log = ap (λ (x : List SeatHistory). (the_part x).seen) (sym one) ∙ (k.fit id v at).current holds in
    let f = first_fits k.log v p one (k.fit id v at).parts in
    let first : the_part v.parts ≡ p = ap the_part one in
    free_goal t id 0 v p (λ _. Frees st (v, (0, Some p.seen) ∷ []) 0) s k lock (with_part v 0 p, gives, tt, freed t id 0 v p p s k (λ z. absurd (omega (arith, z))) holds one refl f seen at lock, ap (λ (x : SeatHistory). (with_part v 0 x, [])) (sym first))

pub frees_again : (t : LedgerTerms) (st : Stp) (id : ℕ) (v : SeatView) (p : SeatHistory) (i : ℕ) (e : Booked) → v.holds ≡ 1 → v.parts ≡ p ∷ [] → get_elem? p.seen i ≡ M.some e
    → Allows (Kept t) 1 id (v, (0, Some p.seen) ∷ []) 0 (λ n. suc (suc i)) (λ _. Frees st (v, (0, Some p.seen) ∷ []) (suc (suc i)))
frees_again t st id v p i e holds one there s k len at small =
    let lock = held t s k id v at holds in
    let seen : p.seen ≡ k.log = ap (λ (x : List SeatHistory). (the_part x).seen) (sym one) ∙ (k.fit id v at).current holds in
    let f = first_fits k.log v p one (k.fit id v at).parts in
    let first : the_part v.parts ≡ p = ap the_part one in
    let q = repeated p e.leaf in
    let stands : Stands e.leaf k.log i = (e, subst (λ (l : List Booked). get_elem? l i ≡ M.some e) seen there, refl) in
    let g : FitsPart k.log q = record { seen = f.seen; mine = f.mine; again = stand_more k.log p.again e.leaf i f.again stands } in
    free_goal t id (suc (suc i)) v p (λ _. Frees st (v, (0, Some p.seen) ∷ []) (suc (suc i))) s k lock (
      with_part v 0 q,
      gives,
      tt,
      freed t id (suc (suc i)) v p q s k (λ z. absurd (omega (arith, z))) holds one refl g seen at lock,
      (e, subst (λ (x : SeatHistory). get_elem? x.seen i ≡ M.some e) (sym first) there, ap (λ (x : SeatHistory). (with_part v 0 (repeated x e.leaf), [])) (sym first)),
    )

-- the same, where the seat's view and slots have other names
pub locks_from : (t : LedgerTerms) (st : Stp) (slots id : ℕ) (m : Sat) (p : SeatHistory) → slots ≡ 1 → m.0.holds ≡ 0 → m.1 ≡ [] → m.0.parts ≡ p ∷ [] → Allows (Kept t) slots id m 0 (λ n. 1) (Locks st m)
locks_from t st slots id m p one idle none part =
    subst (λ (k : ℕ). Allows (Kept t) k id m 0 (λ n. 1) (Locks st m)) (sym one)
    (subst (λ (c : List (ℕ × Slot)). Allows (Kept t) 1 id (m.0, c) 0 (λ n. 1) (Locks st (m.0, c))) (sym none) (locks t st id m.0 p idle part))

pub adds_from : (t : LedgerTerms) (st : Stp) (slots id : ℕ) (m : Sat) (v : SeatView) (p : SeatHistory) (e : Booked) → slots ≡ 1 → m ≡ (v, (0, Some (p.seen ++ e ∷ [])) ∷ []) → v.holds ≡ 1 → v.parts ≡ p ∷ [] → e.seat ≡ p.number → Fresh e.leaf p.seen
    → t.root.a ≤ℤ e.leaf.node.a → e.leaf.node.b ≤ℤ t.root.b → length p.seen < t.limit → length p.seen < 2 ^ 32 → Allows (Kept t) slots id m 1 (λ n. (n + 1) % 2 ^ 64) (Adds st m)
adds_from t st slots id m v p e one is holds part own fresh from until below room =
    subst (λ (k : ℕ). Allows (Kept t) k id m 1 (λ n. (n + 1) % 2 ^ 64) (Adds st m)) (sym one)
    (subst (λ (x : Sat). Allows (Kept t) 1 id x 1 (λ n. (n + 1) % 2 ^ 64) (Adds st x)) (sym is) (adds t st id v p e holds part own fresh from until below room))

pub frees_from : (t : LedgerTerms) (st : Stp) (slots id : ℕ) (m : Sat) (p : SeatHistory) → slots ≡ 1 → m.0.holds ≡ 1 → m.0.parts ≡ p ∷ [] → m.1 ≡ (0, Some p.seen) ∷ [] → Allows (Kept t) slots id m 0 (λ n. 0) (λ _. Frees st m 0)
frees_from t st slots id m p one holds part is =
    subst (λ (k : ℕ). Allows (Kept t) k id m 0 (λ n. 0) (λ _. Frees st m 0)) (sym one)
    (subst (λ (c : List (ℕ × Slot)). Allows (Kept t) 1 id (m.0, c) 0 (λ n. 0) (λ _. Frees st (m.0, c) 0)) (sym is) (frees t st id m.0 p holds part))

pub again_from : (t : LedgerTerms) (st : Stp) (slots id : ℕ) (m : Sat) (p : SeatHistory) (i n : ℕ) (e : Booked) → n ≡ suc (suc i) → slots ≡ 1 → m.0.holds ≡ 1 → m.0.parts ≡ p ∷ [] → m.1 ≡ (0, Some p.seen) ∷ [] → get_elem? p.seen i ≡ M.some e
    → Allows (Kept t) slots id m 0 (λ _. n) (λ _. Frees st m n)
again_from t st slots id m p i n e stored one holds part is there =
    subst (λ (j : ℕ). Allows (Kept t) slots id m 0 (λ _. j) (λ _. Frees st m j)) (sym stored)
    (subst (λ (k : ℕ). Allows (Kept t) k id m 0 (λ _. suc (suc i)) (λ _. Frees st m (suc (suc i)))) (sym one)
    (subst (λ (c : List (ℕ × Slot)). Allows (Kept t) 1 id (m.0, c) 0 (λ _. suc (suc i)) (λ _. Frees st (m.0, c) (suc (suc i)))) (sym is) (frees_again t st id m.0 p i e holds part there)))
