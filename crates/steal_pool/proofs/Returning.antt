-- What the seats of a run are, from their making to their coming back, and what a run answers.
use Rattle.std.proofs.Common.{◌≡◌, ℕ, zero, suc, ◌+◌, ◌<◌, ◌++◌, List, [], ◌∷◌, map, flat_map, length, Option, Some, None, Result, Ok, Err, Vec, IfOk, IfErr, IsOk, slice_get, IsPermutation, refl, sym, ap, ◌∙◌, subst, arith}
use Rattle.std.proofs.lemmas.List.Elements.{recursion_from_All}
use Rattle.std.specs.List.{AllByRecursion, AllZip}
use mathlib.Core.Option as M
use lib.ListN.{get_elem?}
use Rattle.spec_trees.specs.declared.book.Book.{Book}
use Rattle.spec_trees.specs.declared.book.Booked.{Booked}
use Rattle.spec_trees.specs.declared.tree.Leaf.{Leaf}
use Rattle.spec_trees.specs.declared.tree.Node.{Node}
use Rattle.spec_trees.specs.declared.tree.Mark.{Mark}
use Rattle.spec_trees.specs.Tree.{Covers, Rules, IsSound, IsValid, leaf_count, leaves, leaves_within, mark_of, width}
use Rattle.spec_trees.specs.Order.{CoverRoot, ordered_leaves}
use Rattle.spec_trees.proofs.Covering.{leaves_cover}
use Rattle.spec_pool.specs.declared.ledger.SeatHistory.{SeatHistory}
use Rattle.spec_pool.specs.declared.ledger.LedgerTerms.{LedgerTerms}
use Rattle.spec_pool.specs.History.{FitsPart, Lies, Sound}
use Rattle.span_ledger.specs.declared.desk.LedgerSeat.{LedgerSeat}
use Rattle.span_ledger.specs.declared.desk.SpanLedger.{SpanLedger}
use Rattle.span_ledger.specs.Seats.{AllFit, part, seat_table, terms}
use Rattle.steal_pool.specs.Seats.{SameSeat, Seat, entered_by, rules_within}
use Rattle.std.specs.Global.{Global}
use Rattle.steal_pool.specs.declared.finishing.FinishError.{FinishError}
use Rattle.steal_pool.specs.declared.finishing.FinishError.TheVariants.{TooMany, Memory}
use Rattle.steal_pool.specs.declared.seat.PoolError.{PoolError}
use Rattle.steal_pool.specs.declared.seat.PoolError.TheVariants.{TooMany as TooManyLeaves, Memory as OutOfMemory}
use Rattle.steal_pool.specs.Pools.{AllBegin, Begins, ComeBack, IfTooMany, IsLeftOver, IsRefused, entered_in}
use Rattle.steal_pool.specs.Runs.{AreAll, AreFree, AreSeatsOf, EnteredOnce, HaveEntered, IsOverfull, IsSeatAt}
use Rattle.steal_pool.specs.Histories.{IsTooMany}
use Rattle.steal_pool.proofs.Listing.{all_each, zip_get}
use Rattle.steal_pool.proofs.Booking.{Fit, Numbered, book_in_order, book_once, more_than, parts_entered}

-- ---- the beginning
pub begin_hand : (ledger : SpanLedger) (root : Node) (ss : List Seat) → AllBegin ledger root ss → (s : Seat) → slice_get ss 0 ≡ Some s → s.worker.hand ≡ Some root
begin_hand ledger root ss b s at = (b 0 s at).hand

pub begin_free : (ledger : SpanLedger) (root : Node) (ss : List Seat) → AllBegin ledger root ss → AreFree ss
begin_free ledger root ss b = all_each (λ (s : Seat). s.refusal ≡ None) ss (λ k s at. (b k s at).refusal)

seat_at : (ledger : SpanLedger) (k : ℕ) (hand : Option Node) (s q : Seat) → Begins ledger k hand s → SameSeat s q → IsSeatAt ledger k q
seat_at ledger k hand s q b same = (same.table ∙ b.table, same.terms ∙ b.terms, same.number ∙ ap (λ (p : SeatHistory). p.number) b.part)

pub same_seats : (ledger : SpanLedger) (root : Node) (ss qs : List Seat) → AllBegin ledger root ss → AllZip SameSeat ss qs → AreSeatsOf ledger qs
same_seats ledger root ss qs b z k q at =
    let r = zip_get SameSeat ss qs k q z at in seat_at ledger k _ r.0 q (b k r.0 r.1) r.2

-- ---- coming back
same_head : {A : Type 0} (x y : A) (xs ys : List A) → x ∷ xs ≡ y ∷ ys → (x ≡ y) × (xs ≡ ys)
same_head x y xs ys e = (cc, cc)

back_at : {A B C : Type 0} (f : A → C) (g : B → C) (xs : List A) (ys : List B) → map f xs ≡ map g ys → (k : ℕ) (x : A) → slice_get xs k ≡ Some x → (y : B) × (slice_get ys k ≡ Some y) × (f x ≡ g y)
back_at f g [] ys e k x at = absurd cc
back_at f g (z ∷ xs) [] e k x at = absurd cc
back_at f g (z ∷ xs) (y ∷ ys) e zero x at =
    let same : z ≡ x = cc in (y, refl, ap f (sym same) ∙ (same_head (f z) (g y) (map f xs) (map g ys) e).0)
back_at f g (z ∷ xs) (y ∷ ys) e (suc k) x at = back_at f g xs ys (same_head (f z) (g y) (map f xs) (map g ys) e).1 k x at

back_length : {A B C : Type 0} (f : A → C) (g : B → C) (xs : List A) (ys : List B) → map f xs ≡ map g ys → length xs ≡ length ys
back_length f g [] [] e = refl
back_length f g [] (y ∷ ys) e = absurd cc
back_length f g (x ∷ xs) [] e = absurd cc
back_length f g (x ∷ xs) (y ∷ ys) e = omega (arith, back_length f g xs ys (same_head (f x) (g y) (map f xs) (map g ys) e).1)

module _ (ledger : SpanLedger) (ss : List Seat) (seats : AreSeatsOf ledger ss) (count : length ss ≡ (terms ledger).seats) where
  pub come_back : (es : List LedgerSeat) → ComeBack ss es → AreAll ledger es
  come_back es b = record {
    count = back_length (λ (e : LedgerSeat). (seat_table e, (part e).number)) (λ (s : Seat). (s.table, s.part.number)) es ss b ∙ count;
    each = λ k e at.
        let r = back_at (λ (e : LedgerSeat). (seat_table e, (part e).number)) (λ (s : Seat). (s.table, s.part.number)) es ss b k e at in
        let s = seats k r.0 r.1 in
        (ap (λ y. y.0) r.2 ∙ s.0, ap (λ y. y.1) r.2 ∙ s.2);
  }

-- ---- the parts
flat_map-map : {A B C : Type 0} (g : A → B) (f : B → List C) (xs : List A) → flat_map f (map g xs) ≡ flat_map (λ (x : A). f (g x)) xs
flat_map-map g f [] = refl
flat_map-map g f (x ∷ xs) = ap (λ l. f (g x) ++ l) (flat_map-map g f xs)

abbrev parts : List LedgerSeat → List SeatHistory
parts es = map part es

map_length : {A B : Type 0} (f : A → B) (xs : List A) → length (map f xs) ≡ length xs
map_length f [] = refl
map_length f (x ∷ xs) = omega (arith, map_length f xs)

numbered_from : (k : ℕ) (es : List LedgerSeat) → ((i j : ℕ) (e : LedgerSeat) → j ≡ i + k → slice_get es i ≡ Some e → (part e).number ≡ j) → Numbered k (parts es)
numbered_from k [] f = tt
numbered_from k (e ∷ es) f = (f 0 k e (omega arith) refl, numbered_from (suc k) es (λ i j x at here. f (suc i) j x (omega arith) here))

fit_parts : (log : List Booked) (es : List LedgerSeat) → AllByRecursion (λ e. FitsPart log (part e)) es → Fit log (parts es)
fit_parts log [] f = tt
fit_parts log (e ∷ es) f = (f.0, fit_parts log es f.1)

seat_below : (t : LedgerTerms) (log : List Booked) → ((i : ℕ) (e : Booked) → get_elem? log i ≡ M.some e → Lies t e) → AllByRecursion (λ e. e.seat < t.seats) log
seat_below t [] f = tt
seat_below t (e ∷ es) f = ((f 0 e refl).seat, seat_below t es (λ i x at. f (suc i) x at))

module _ (ledger : SpanLedger) (log : List Booked) (es : List LedgerSeat) (all : AreAll ledger es) (sound : Sound (terms ledger) log) (fit : AllFit log es) where
  numbers : Numbered 0 (parts es)
  numbers = numbered_from 0 es (λ i j e at here. let same : i ≡ j = omega (arith, at) in (all.each i e here).1 ∙ same)

  fits : Fit log (parts es)
  fits = fit_parts log es (recursion_from_All (λ e. FitsPart log (part e)) es fit)

  below : AllByRecursion (λ e. e.seat < length (parts es)) log
  below = subst (λ (n : ℕ). AllByRecursion (λ e. e.seat < n) log) (sym (map_length part es ∙ all.count)) (seat_below (terms ledger) log sound.lies)

  entered_parts : entered_in es ≡ parts_entered (parts es)
  entered_parts = sym (flat_map-map part entered_by es)

  pub closed_in_order : (t : Rules) → IsSound t → (root : Node) → IsValid t root → HaveEntered t root es → ordered_leaves log ≡ leaves t root
  closed_in_order t s root v h =
      book_in_order t s root v log (parts es) numbers fits below (subst (λ ls. IsPermutation ls (leaves t root)) entered_parts h)

  pub closed_once : (t : Rules) → IsSound t → (root : Node) → IsValid t root → HaveEntered t root es → EnteredOnce es
  closed_once t s root v h =
      sym (flat_map-map part (λ (p : SeatHistory). p.again) es)
      ∙ book_once t s root v log (parts es) numbers fits below (subst (λ ls. IsPermutation ls (leaves t root)) entered_parts h)

  seen_parts : (k : ℕ) (e : LedgerSeat) → slice_get es k ≡ Some e → FitsPart log (part e)
  seen_parts k e at = fit_at es (recursion_from_All (λ e. FitsPart log (part e)) es fit) k e at
    where
      fit_at : (xs : List LedgerSeat) → AllByRecursion (λ e. FitsPart log (part e)) xs → (k : ℕ) (e : LedgerSeat) → slice_get xs k ≡ Some e → FitsPart log (part e)
      fit_at [] f k e at = absurd cc
      fit_at (x ∷ xs) f zero e at = let same : x ≡ e = cc in subst (λ (y : LedgerSeat). FitsPart log (part y)) same f.0
      fit_at (x ∷ xs) f (suc k) e at = fit_at xs f.1 k e at

  pub closed_too_many : (t : Rules) (root : Node) (leaf : Leaf) → IsOverfull t root (terms ledger).limit es leaf → (terms ledger).limit < leaf_count t root
  closed_too_many t root leaf o =
      let over = o.0 in
      let seen = o.1 in
      let more = more_than log (parts es) numbers fits below (leaves t root) over.0 leaf (part seen.1).seen (seen_parts seen.0 seen.1 seen.2).seen
      (subst (λ ls. IsPermutation (ls ++ leaf ∷ over.0) (leaves t root)) entered_parts over.1) in
      omega (arith, more, seen.3)

-- ---- rules within the root have the same leaves
module _ (r : Rules) (root : Node) where
  within_by : (k : ℕ) (n : Node) (m : Option Mark) → mark_of (r.verdict n) ≡ m
      → ((i : Node) → leaves_within (rules_within r root) k i ≡ leaves_within r k i)
      → leaves_within (rules_within r root) (suc k) n ≡ leaves_within r (suc k) n
  unfolding leaves_within
  within_by k n (Some m) e below = rw (e, leaves_within) refl
  within_by k n None e below =
      rw (e, leaves_within) (λ i. below (r.parts n).0 i ++ below (r.parts n).1 i)

  within_same : (k : ℕ) (n : Node) → leaves_within (rules_within r root) k n ≡ leaves_within r k n
  unfolding leaves_within
  within_same zero n = refl
  within_same (suc k) n = within_by k n (mark_of (r.verdict n)) refl (within_same k)

  leaves_same : (n : Node) → leaves (rules_within r root) n ≡ leaves r n
  unfolding leaves
  leaves_same n = within_same (width n) n

pub leaves_named : (t r : Rules) (root : Node) → t ≡ rules_within r root → leaves t root ≡ leaves r root
leaves_named t r root e = ap (λ (x : Rules). leaves x root) e ∙ leaves_same r root root

-- ---- by what was answered
pub ok_of : {A E : Type 0} (P : A → Type 0) (r : Result A E) (x : A) → r ≡ Ok x → IfOk r P → P x
ok_of {A = A} {E = E} P r x e p = subst (λ (y : Result A E). IfOk y P) e p

pub ok_with : {A E : Type 0} (P : A → Type 0) (r : Result A E) (x : A) → r ≡ Ok x → P x → IfOk r P
ok_with {A = A} {E = E} P r x e p = subst (λ (y : Result A E). IfOk y P) (sym e) p

pub full_of : (P : List LedgerSeat → Leaf → Type 0) (r : Result (Vec LedgerSeat Global) FinishError) (es : Vec LedgerSeat Global) (leaf : Leaf) → r ≡ Err (TooMany es leaf) → IfErr r (λ e. IfTooMany e P) → P es.items leaf
full_of P r es leaf e p = subst (λ (y : Result (Vec LedgerSeat Global) FinishError). IfErr y (λ x. IfTooMany x P)) e p

module _ (t : Rules) (root : Node) (ledger : SpanLedger) (ss : List Seat) (seats : AreSeatsOf ledger ss) (count : length ss ≡ (terms ledger).seats) where
  pub ended_ok : (r : Result (Vec LedgerSeat Global) FinishError) → IfOk r (λ v. ComeBack ss v.items) → IfOk r (λ v. IsPermutation (entered_in v.items) (leaves t root)) → IfOk r (λ v. AreAll ledger v.items × HaveEntered t root v.items)
  ended_ok (Ok v) b p = (come_back ledger ss seats count v.items b, p)
  ended_ok (Err e) b p = tt

  pub ended_full : (r : Result (Vec LedgerSeat Global) FinishError) → IfErr r (λ e. IfTooMany e (λ es leaf. ComeBack ss es)) → IfErr r (λ e. IfTooMany e (IsRefused ss)) → IfErr r (λ e. IfTooMany e (IsLeftOver t root))
      → IfErr r (λ e. IfTooMany e (λ es leaf. AreAll ledger es × IsOverfull t root (terms ledger).limit es leaf))
  ended_full (Ok v) b f o = tt
  ended_full (Err Memory) b f o = tt
  ended_full (Err (TooMany es leaf)) b f o =
      let of = seats f.0 f.1 f.3 in
      (come_back ledger ss seats count es.items b, (o, (f.0, f.2, f.4, omega (arith, ap (λ (x : LedgerTerms). x.limit) of.1, f.5))))

-- ---- the answer
pub leaves_ok : (t r : Rules) (root : Node) → t ≡ rules_within r root → (x : Result Book PoolError) → IfOk x (λ b. ordered_leaves b.entries.items ≡ leaves t root) → IfOk x (λ b. ordered_leaves b.entries.items ≡ leaves r root)
leaves_ok t r root e (Ok b) is = is ∙ leaves_named t r root e
leaves_ok t r root e (Err x) is = tt

pub count_named : (t r : Rules) (root : Node) (terms : LedgerTerms) (limit : ℕ) → t ≡ rules_within r root → terms.limit ≡ limit → terms.limit < leaf_count t root → limit < leaf_count r root
count_named t r root terms limit e is more = omega (arith, is, more, ap length (leaves_named t r root e))

pub cover_ok : (r : Rules) (root : Node) → IsSound r → IsValid r root → (x : Result Book PoolError) → IfOk x (λ b. ordered_leaves b.entries.items ≡ leaves r root) → IfOk x (λ b. CoverRoot root b.entries.items)
cover_ok r root s v (Ok b) is = subst (λ (ls : List Leaf). Covers root.a ls root.b) (sym is) (leaves_cover r s root v)
cover_ok r root s v (Err x) is = tt

-- ---- what the history of a run is, by its answer
pub when_ended : (P : Type 0) (x : Result Book PoolError) (r : Result (Vec LedgerSeat Global) FinishError) → IfOk x (λ b. IsOk r) → IfOk r (λ v. P) → IfOk x (λ b. P)
when_ended P (Ok b) (Ok v) o p = p
when_ended P (Ok b) (Err e) o p = absurd cc
when_ended P (Err y) r o p = tt

pub when_full : (P : Type 0) (r : Result (Vec LedgerSeat Global) FinishError) → IsTooMany r → IfErr r (λ e. IfTooMany e (λ es leaf. P)) → P
when_full P (Ok v) o p = absurd o
when_full P (Err (TooMany es leaf)) o p = p
when_full P (Err Memory) o p = absurd o

pub not_too_many : (P : Type 0) (x : Result Book PoolError) → x ≡ Err OutOfMemory → x ≡ Err TooManyLeaves → P
not_too_many P x memory full = absurd (cc)
