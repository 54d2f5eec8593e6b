-- What the end of a pool's work comes to, by the worst of why its seats stopped.
use Rattle.std.proofs.Common.{◌≡◌, ◌+◌, ◌*◌, List, Option, Some, None, Result, Ok, Err, IfOk, IfErr, IsPermutation, sym, subst, ◌∙◌}
use Rattle.std.specs.List.{AllZip}
use Rattle.spec_trees.specs.declared.tree.Node.{Node}
use Rattle.spec_trees.specs.declared.tree.Leaf.{Leaf}
use Rattle.spec_trees.specs.Tree.{IsSound, IsValid, Rules, leaf_count, leaves}
use Rattle.span_ledger.specs.declared.desk.LedgerSeat.{LedgerSeat}
use Rattle.steal_pool.specs.declared.finishing.FinishError.{FinishError}
use Rattle.steal_pool.specs.declared.finishing.FinishError.TheVariants.{TooMany, Memory}
use Rattle.steal_pool.specs.declared.seat.Stop.{Stop}
use Rattle.steal_pool.specs.declared.seat.Stop.TheVariants.{Full, Memory as OutOfMemory}
use Rattle.steal_pool.specs.Seats.{Seat}
use Rattle.steal_pool.specs.Pools.{AccountFor, AreCounted, ComeBack, IfTooMany, IsLeftOver, IsRefused, KeepNone, LeavesOver, NoneIsOutOfMemory, SomeIsOutOfMemory, entered_in, rounds_of}
use Rattle.steal_pool.specs.Closing.{Ended, Leaves, SomeIsFull, worst_stop}
use Rattle.steal_pool.proofs.Ending.{all_entered, come_back, leaves_over, some_left_over, some_refused, worst_is_full}
use Rattle.steal_pool.proofs.RoundsEnd.{rounds_at_end}
use Rattle.steal_pool.proofs.Stopping.{memory_stopped, none_stopped}

pub if_ok : {A E : Type 0} (r : Result A E) (P Q : A → Type 0) → IfOk r P → ((x : A) → P x → Q x) → IfOk r Q
if_ok (Ok x) P Q p f = f x p
if_ok (Err e) P Q p f = tt

pub if_too_many : {A : Type 0} (r : Result A FinishError) (P Q : List LedgerSeat → Leaf → Type 0) → IfErr r (λ e. IfTooMany e P) → ((es : List LedgerSeat) (leaf : Leaf) → P es leaf → Q es leaf) → IfErr r (λ e. IfTooMany e Q)
if_too_many (Ok x) P Q p f = tt
if_too_many (Err (TooMany es leaf)) P Q p f = f es.items leaf p
if_too_many (Err Memory) P Q p f = tt

module _ (t : Rules) (ss qs : List Seat) (es : List LedgerSeat) (worst : Option Stop) (d : Ended t ss qs) (b : AllZip Leaves qs es) (w : worst ≡ worst_stop qs) where
  pub back : (vs : List LedgerSeat) → vs ≡ es → ComeBack ss vs
  back vs is = subst (λ (xs : List LedgerSeat). ComeBack ss xs) (sym is) (come_back t ss qs es d b)

  none : worst ≡ None → KeepNone qs
  none e = none_stopped qs (sym w ∙ e)

  pub free : worst ≡ None → KeepNone ss
  free e = d.free (none e)

  pub all_back : (vs : List LedgerSeat) → vs ≡ es → worst ≡ None → (root : Node) → AccountFor t root ss → IsPermutation (entered_in vs) (leaves t root)
  all_back vs is e root a = subst (λ (xs : List LedgerSeat). IsPermutation (entered_in xs) (leaves t root)) (sym is) (all_entered t ss qs es d b (none e) root a)

  pub rounds : worst ≡ None → (root : Node) → IsSound t → IsValid t root → AccountFor t root ss → AreCounted ss → (ended : List Seat) × Ended t ss ended × KeepNone ended × (rounds_of ended + 1 ≡ 2 * leaf_count t root)
  rounds e root sound valid account counted = (qs, d, none e, rounds_at_end t ss qs es d b (none e) root sound valid account counted)

  pub out_of_memory : worst ≡ Some OutOfMemory → (ended : List Seat) × Ended t ss ended × SomeIsOutOfMemory ended × ((root : Node) → AccountFor t root ss → LeavesOver t root ended)
  out_of_memory e = (qs, d, memory_stopped qs (sym w ∙ e), (λ root a. leaves_over t ss qs es d b root a))

  full : (leaf : Leaf) → worst ≡ Some (Full leaf) → NoneIsOutOfMemory qs × SomeIsFull t leaf qs
  full leaf e = worst_is_full t qs leaf d.left (sym w ∙ e)

  pub memory : (leaf : Leaf) → worst ≡ Some (Full leaf) → NoneIsOutOfMemory ss
  memory leaf e = d.memory (full leaf e).0

  pub worst_is : (leaf : Leaf) → worst ≡ Some (Full leaf) → (ended : List Seat) × Ended t ss ended × NoneIsOutOfMemory ended × SomeIsFull t leaf ended
  worst_is leaf e = (qs, d, (full leaf e).0, (full leaf e).1)

  pub refused : (vs : List LedgerSeat) (leaf : Leaf) → vs ≡ es → worst ≡ Some (Full leaf) → IsRefused ss vs leaf
  refused vs leaf is e = subst (λ (xs : List LedgerSeat). IsRefused ss xs leaf) (sym is) (some_refused t ss qs es leaf d b (full leaf e).1)

  pub left_over : (vs : List LedgerSeat) (leaf : Leaf) → vs ≡ es → worst ≡ Some (Full leaf) → (root : Node) → AccountFor t root ss → IsLeftOver t root vs leaf
  left_over vs leaf is e root a = subst (λ (xs : List LedgerSeat). IsLeftOver t root xs leaf) (sym is) (some_left_over t ss qs es leaf d b (full leaf e).1 root a)
