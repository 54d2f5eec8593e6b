-- What interleaved events come to, from the opening state on.
use Rattle.std.proofs.Common.{◌≡◌, ◌<◌, ℕ, zero, suc, ◌+◌, ◌-◌, ◌*◌, List, [], ◌∷◌, length, map, Some, None, replicate, slice_get, refl, sym, ap, ◌∙◌, subst, arith}
use Rattle.std.proofs.lemmas.List.{append-nil, append_cancel_left, length-replicate}
use Rattle.std.proofs.lemmas.Option.{slice_get_within}
use Rattle.std.proofs.lemmas.List.Elements.{All-from_recursion, recursion_from_All}
use Rattle.std.specs.List.{AllByRecursion}
use Rattle.spec_trees.specs.declared.tree.Node.{Node}
use Rattle.spec_trees.specs.Tree.{Rules, IsSound, IsValid, leaf_count, leaves}
use Rattle.spec_trees.specs.Order.{in_order}
use Rattle.spec_pool.specs.Accounts.{Account}
use Rattle.spec_pool.proofs.Weights.{weigh}
use Rattle.pool_core.specs.States.{Holding, holding, nothing, State, Runs, opening}
use Rattle.pool_core.specs.Tiling.{Conserves, IsDone, todo}
use Rattle.pool_core.specs.Interleaved.{Event, first_account, taken_from, entered_in, step_of, IsNamed, Interleaves, IsAtRest, Shows, ShowsWorker}
use Rattle.pool_core.proofs.Interleaving.{Stands, Stage, get_one, runs}
use Rattle.pool_core.proofs.Beginning.{idle, opening_conserves}
use Rattle.pool_core.proofs.Keeping.{run_conserves}
use Rattle.pool_core.proofs.Falling.{left_for, run_falls, todo_is}
use Rattle.pool_core.proofs.Ending.{done_in_order, done_is_zero}

-- ---- the opening state
module _ (t : Rules) (root : Node) (events : List Event) (accounts : List Account) (p : Interleaves t root events accounts) where
  first : (w : ℕ) (x : Holding) → x.hand ≡ (first_account root w).hand → x.kept ≡ [] → x.deque ≡ [] → w < length accounts → Stands t accounts w [] events x
  first w x hand kept deque below =
      let a = get_one accounts w below in record {
        account = first_account root w;
        hand = hand;
        kept = kept;
        deque = sym deque;
        end = a.0;
        ends = a.1;
        history = p.histories w a.0 a.1;
      }

  firsts : (w : ℕ) (x : Holding) → slice_get (opening root (length accounts)).workers w ≡ Some x → w < length accounts → Stands t accounts w [] events x
  firsts zero x at below =
      let is : x ≡ holding (Some root) [] [] = cc in
      first zero x (ap (λ (h : Holding). h.hand) is) (ap (λ (h : Holding). h.kept) is) (ap (λ (h : Holding). h.deque) is) below
  firsts (suc w) x at below =
      let is : x ≡ nothing = idle (length accounts - 1) w x at in
      first (suc w) x (ap (λ (h : Holding). h.hand) is) (ap (λ (h : Holding). h.kept) is) (ap (λ (h : Holding). h.deque) is) below

  opens : Stage t accounts [] events (opening root (length accounts))
  opens =
      let count : length (opening root (length accounts)).workers ≡ length accounts = omega (arith, p.some, length-replicate (length accounts - 1) nothing) in record {
        count = count;
        workers = λ w x at. firsts w x at (omega (arith, count, slice_get_within (opening root (length accounts)).workers w x at));
        entered = refl;
      }

  -- ---- what the accounts and the deques show in the end
  abbrev pub IsRun : Type 0
  IsRun = (s : State) × Runs t (opening root (length accounts)) (map step_of events) s × Shows events accounts s

  shows : (s : State) → Stage t accounts events [] s → Shows events accounts s
  shows s stage = record { count = stage.count; workers = by; entered = stage.entered } where
    by : (w : ℕ) (a : Account) (x : Holding) → slice_get accounts w ≡ Some a → slice_get s.workers w ≡ Some x → ShowsWorker w events a x
    by w a x here at =
        let stands = stage.workers w x at in
        let end : stands.end ≡ a = cc (stands.ends, here) in
        let same : stands.account ≡ a = sym stands.history ∙ end in
        record { hand = stands.hand ∙ ap (λ (b : Account). b.hand) same; kept = stands.kept ∙ ap (λ (b : Account). b.kept) same; deque = stands.deque }

  pub is_run : IsRun
  is_run =
      let r = runs t accounts events events [] (opening root (length accounts)) refl (recursion_from_All (IsNamed (length accounts)) events p.named) p.rules opens in
      (r.0, r.1, shows r.0 r.2)

  -- ---- the model's laws
  idle_falls : (m : ℕ) → weigh (left_for t) (replicate m nothing) ≡ 0
  idle_falls zero = refl
  idle_falls (suc m) = omega (arith, idle_falls m)

  opening_todo : todo t (opening root (length accounts)) ≡ 3 * leaf_count t root - 2
  opening_todo = omega (arith, todo_is t (opening root (length accounts)), idle_falls (length accounts - 1))

  steps : (es : List Event) → length (map step_of es) ≡ length es
  steps [] = refl
  steps (e ∷ es) = ap suc (steps es)

  abbrev pub KeepsLaws : Type 0
  KeepsLaws = (s : State) × Shows events accounts s × Conserves t root s × (todo t s + length events ≡ 3 * leaf_count t root - 2)

  pub keeps_laws : IsSound t → IsValid t root → KeepsLaws
  keeps_laws sound valid =
      let r = is_run in
      let start = opening_conserves t root (length accounts) valid in (
        r.0,
        r.2,
        run_conserves t sound root (map step_of events) (opening root (length accounts)) r.0 r.1 start,
        omega (arith, run_falls t sound root (map step_of events) (opening root (length accounts)) r.0 r.1 start, opening_todo, steps events),
      )

  -- ---- at rest
  each_nothing : (xs : List Holding) → ((w : ℕ) (x : Holding) → slice_get xs w ≡ Some x → x ≡ nothing) → AllByRecursion (λ (x : Holding). x ≡ nothing) xs
  each_nothing [] each = tt
  each_nothing (x ∷ xs) each = (each 0 x refl, each_nothing xs (λ w y at. each (suc w) y at))

  each_of : (P : Account → Type 0) (xs : List Account) (w : ℕ) (a : Account) → AllByRecursion P xs → slice_get xs w ≡ Some a → P a
  each_of P [] w a all at = absurd cc
  each_of P (b ∷ xs) zero a all at = let same : b ≡ a = cc in subst P same all.0
  each_of P (b ∷ xs) (suc w) a all at = each_of P xs w a all.1 at

  rests : IsAtRest events accounts → (s : State) → Shows events accounts s → IsDone s
  rests rest s shown = All-from_recursion (λ (x : Holding). x ≡ nothing) s.workers (each_nothing s.workers one) where
    one : (w : ℕ) (x : Holding) → slice_get s.workers w ≡ Some x → x ≡ nothing
    one w x at =
        let below : w < length accounts = omega (arith, shown.count, slice_get_within s.workers w x at) in
        let a = get_one accounts w below in
        let shows = shown.workers w a.0 x a.1 at in
        let none = each_of (λ (a : Account). (a.hand ≡ None) × (a.kept ≡ [])) accounts w a.0 (recursion_from_All (λ (a : Account). (a.hand ≡ None) × (a.kept ≡ [])) accounts rest.hands) a.1 in
        let deque : x.deque ≡ [] = append_cancel_left (taken_from w events) x.deque [] (sym shows.deque ∙ (rest.deques w below ∙ sym (append-nil (taken_from w events)))) in
        λ i. record { hand = (shows.hand ∙ none.0) i; deque = deque i; kept = (shows.kept ∙ none.1) i }

  pub all_entered : IsSound t → IsValid t root → IsAtRest events accounts → (in_order (entered_in events) ≡ leaves t root) × (length events ≡ 3 * leaf_count t root - 2)
  all_entered sound valid rest =
      let k = keeps_laws sound valid in
      let done = rests rest k.0 k.1 in (
        ap in_order (sym k.1.entered) ∙ done_in_order t sound root valid k.0 k.2 done,
        omega (arith, k.3, done_is_zero t k.0 done),
      )
