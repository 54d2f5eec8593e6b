-- Seats' acts make the accounts that interleaved events ask for.
use Rattle.std.proofs.Common.{◌≡◌, ◌<◌, ◌≤◌, ℕ, zero, suc, ◌==◌, Bool, true, false, if◌then◌else◌, List, [], ◌∷◌, ◌++◌, length, map, flat_map, Some, None, slice_get, IsPermutation, append_assoc, refl, sym, ap, ◌∙◌, subst, arith}
use Rattle.std.proofs.lemmas.List.{append-nil}
use Rattle.std.proofs.lemmas.Bool.Decides.{nat_tests}
use Rattle.std.proofs.lemmas.Grind.{flat_map-append}
use Rattle.std.proofs.lemmas.Option.{slice_get_within}
use Rattle.spec_trees.specs.declared.tree.Node.{Node}
use Rattle.spec_trees.specs.declared.tree.Leaf.{Leaf}
use Rattle.spec_trees.specs.Tree.{Rules}
use Rattle.spec_pool.specs.Accounts.{Account}
use Rattle.spec_pool.specs.Acts.{Act, Put, Keep, Take, TakeTop, Enter, Does, History, puts, enters}
use Rattle.span_ledger.specs.declared.desk.SpanLedger.{SpanLedger}
use Rattle.pool_core.specs.States.{Holding, State, Runs, opening}
use Rattle.pool_core.specs.Interleaved.{Event, Interleaves, Shows, act_of, acts_of, entered_in, first_account, first_hand, put_on, step_of}
use Rattle.pool_core.proofs.Interleaved as I
use Rattle.std.proofs.Common.{All}
use Rattle.pool_core.specs.Interleaved.{IsNamed}
use Rattle.steal_pool.specs.Seats.{IsLike, Seat, account, entered_by}
use Rattle.steal_pool.specs.Pools.{AllBegin, Begins}
use Rattle.steal_pool.specs.Pools as P
use Rattle.pool_runs.specs.Seated.{AreInterleaved, ShowsSeat}

get_one : {A : Type 0} (xs : List A) (w : ℕ) → w < length xs → (x : A) × (slice_get xs w ≡ Some x)
get_one [] w p = absurd (omega arith)
get_one (x ∷ xs) zero p = (x, refl)
get_one (x ∷ xs) (suc w) p = get_one xs w (omega arith)

-- a list of what there is for each number below n
Listed : {A : Type 0} → (ℕ → A → Type 0) → ℕ → Type 0
Listed {A = A} P n = (xs : List A) × (length xs ≡ n) × ((k : ℕ) (a : A) → slice_get xs k ≡ Some a → P k a)

listed : {A : Type 0} (P : ℕ → A → Type 0) (n : ℕ) → ((k : ℕ) → k < n → (a : A) × P k a) → Listed P n
unfolding Listed
listed P zero f = ([], refl, λ k a at. absurd cc)
listed {A = A} P (suc n) f =
    let one = f 0 (omega arith) in
    let rest = listed (λ (k : ℕ) (a : A). P (suc k) a) n (λ k below. f (suc k) (omega (arith, below))) in
    (one.0 ∷ rest.0, ap suc rest.1, by one.0 one.1 rest.0 rest.2)
  where
    by : (x : A) → P 0 x → (xs : List A) → ((k : ℕ) (a : A) → slice_get xs k ≡ Some a → P (suc k) a) → (k : ℕ) (a : A) → slice_get (x ∷ xs) k ≡ Some a → P k a
    by x p xs each zero a at = let same : x ≡ a = cc in subst (P 0) same p
    by x p xs each (suc k) a at = each k a at

-- ---- what a history adds to an account
put_one : (t : Rules) (x : Act) (a b : Account) → Does t x a b → b.put ≡ a.put ++ puts x
put_one t (Put right) a b d = ap (λ (c : Account). c.put) d.after
put_one t Keep a b d = ap (λ (c : Account). c.put) d.after ∙ sym (append-nil a.put)
put_one t (Take from node) a b d = ap (λ (c : Account). c.put) d.after ∙ sym (append-nil a.put)
put_one t TakeTop a b d = ap (λ (c : Account). c.put) d.after ∙ sym (append-nil a.put)
put_one t (Enter leaf) a b d = ap (λ (c : Account). c.put) d.0.after ∙ sym (append-nil a.put)

entered_one : (t : Rules) (x : Act) (a b : Account) → Does t x a b → b.entered ≡ a.entered ++ enters x
entered_one t (Put right) a b d = ap (λ (c : Account). c.entered) d.after ∙ sym (append-nil a.entered)
entered_one t Keep a b d = ap (λ (c : Account). c.entered) d.after ∙ sym (append-nil a.entered)
entered_one t (Take from node) a b d = ap (λ (c : Account). c.entered) d.after ∙ sym (append-nil a.entered)
entered_one t TakeTop a b d = ap (λ (c : Account). c.entered) d.after ∙ sym (append-nil a.entered)
entered_one t (Enter leaf) a b d = d.1

put_all : (t : Rules) (acts : List Act) (a b : Account) → History t a acts b → b.put ≡ a.put ++ flat_map puts acts
put_all t [] a b h = ap (λ (c : Account). c.put) h ∙ sym (append-nil a.put)
put_all t (x ∷ acts) a b h =
    put_all t acts h.0 b h.2 ∙ (ap (λ (l : List Node). l ++ flat_map puts acts) (put_one t x a h.0 h.1) ∙ append_assoc a.put (puts x) (flat_map puts acts))

entered_all : (t : Rules) (acts : List Act) (a b : Account) → History t a acts b → b.entered ≡ a.entered ++ flat_map enters acts
entered_all t [] a b h = ap (λ (c : Account). c.entered) h ∙ sym (append-nil a.entered)
entered_all t (x ∷ acts) a b h =
    entered_all t acts h.0 b h.2 ∙ (ap (λ (l : List Leaf). l ++ flat_map enters acts) (entered_one t x a h.0 h.1) ∙ append_assoc a.entered (enters x) (flat_map enters acts))

puts_of : (k : ℕ) (es : List Event) → flat_map puts (acts_of k es) ≡ put_on k es
puts_of k [] = refl
puts_of k (e ∷ es) = flat_map-append puts (act_of k e) (acts_of k es) ∙ (λ i. one (e.worker == k) i ++ puts_of k es i) where
  one : (b : Bool) → flat_map puts (if b then e.act ∷ [] else []) ≡ (if b then puts e.act else [])
  one true = append-nil (puts e.act)
  one false = refl

-- ---- seats that begin
first : (root : Node) (k : ℕ) → P.first_hand root k ≡ first_hand root k
first root zero = refl
first root (suc k) = let not : (suc k == 0) ≡ false = grind (arith, nat_tests) in ap (λ (b : Bool). if b then Some root else None) not

begins : (ledger : SpanLedger) (root : Node) (k : ℕ) (s : Seat) → Begins ledger k (P.first_hand root k) s → account s ≡ first_account root k
begins ledger root k s b =
    λ i. record { hand = (b.hand ∙ first root k) i; kept = b.kept i; put = b.put i; taken = b.taken i; entered = ap entered_by b.part i }

module _ (t : Rules) (ledger : SpanLedger) (root : Node) (ss qs : List Seat) (events : List Event) (some : 1 ≤ length ss) (begin : AllBegin ledger root ss) (are : AreInterleaved t ss qs events) where
  Comes : ℕ → Account → Type 0
  Comes k a = History t (first_account root k) (acts_of k events) a × ((q : Seat) → slice_get qs k ≡ Some q → IsLike a (account q))

  come : (k : ℕ) → k < length qs → (a : Account) × Comes k a
  unfolding Comes
  come k below =
      let q = get_one qs k below in
      let s = get_one ss k (omega (arith, below, are.count)) in
      let acted = are.acts k s.0 q.0 s.1 q.1 in
      let a = acted.0.0 in (
        a,
        (
          subst (λ (z : Account). History t z (acts_of k events) a) (begins ledger root k s.0 (begin k s.0 s.1)) acted.0.1,
          (λ r at. let same : q.0 ≡ r = cc (q.1, at) in subst (λ (z : Seat). IsLike a (account z)) same acted.0.2),
        ),
      )

  abbrev IsRun : Type 0
  IsRun = (s : State) × Runs t (opening root (length qs)) (map step_of events) s × (s.entered ≡ entered_in events) × ((k : ℕ) (q : Seat) (x : Holding) → slice_get qs k ≡ Some q → slice_get s.workers k ≡ Some x → ShowsSeat k events q x)

  by_accounts : (accounts : List Account) → length accounts ≡ length qs → ((k : ℕ) (a : Account) → slice_get accounts k ≡ Some a → Comes k a) → IsRun
  unfolding Comes
  by_accounts accounts count each =
      let inter : Interleaves t root events accounts = record {
        some = omega (arith, count, some, are.count);
        named = subst (λ (n : ℕ). All (IsNamed n) events) (sym count) are.named;
        histories = λ w a at. (each w a at).0;
        rules = λ k below. are.rules k (omega (arith, below, count));
      } in
      let run = I.is_run t root events accounts inter in (
        run.0,
        subst (λ (n : ℕ). Runs t (opening root n) (map step_of events) run.0) count run.1,
        run.2.entered,
        (λ k q x atq atx. one run.0 run.2 k q x atq atx),
      )
    where
      one : (s : State) → Shows events accounts s → (k : ℕ) (q : Seat) (x : Holding) → slice_get qs k ≡ Some q → slice_get s.workers k ≡ Some x → ShowsSeat k events q x
      one s shows k q x atq atx =
          let a = get_one accounts k (omega (arith, count, slice_get_within qs k q atq)) in
          let comes = each k a.0 a.1 in
          let like : IsLike a.0 (account q) = comes.1 q atq in
          let shown = shows.workers k a.0 x a.1 atx in
          record {
            hand = shown.hand ∙ sym like.hand;
            kept = shown.kept ∙ sym like.kept;
            deque = like.put ∙ (put_all t (acts_of k events) (first_account root k) a.0 comes.0 ∙ (puts_of k events ∙ shown.deque));
            entered = subst (λ (l : List Leaf). IsPermutation l (entered_by q.part)) (entered_all t (acts_of k events) (first_account root k) a.0 comes.0) like.entered;
          }

  pub is_run : IsRun
  unfolding Listed
  is_run = let l = listed Comes (length qs) come in by_accounts l.0 l.1 l.2
