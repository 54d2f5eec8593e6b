-- Passes that are made and joined keep the seats linked.
use Rattle.std.proofs.Common.{◌≡◌, ◌≢◌, inl, inr, ℕ, ◌+◌, ◌-◌, ◌<◌, ◌==◌, List, [], ◌∷◌, ◌++◌, Some, slice_get, slice_set, sum_by, if◌then◌else◌, refl, sym, ap, ◌∙◌, subst, arith}
use Rattle.std.proofs.lemmas.Bool.{cases_eq}
use Rattle.std.proofs.lemmas.Bool.Decides.{nat_tests}
use Rattle.std.specs.List.{AllByRecursion}
use Rattle.spec_pool.proofs.Weights.{weigh, weigh-append, weigh-set, sum_is_weigh}
use Rattle.steal_pool.specs.Rule.{DequeId}
use Rattle.steal_pool.specs.Seats.{SeatLinks}
use Rattle.steal_pool.specs.Pools.{IsOwned, Linked, stealers_on}
use Rattle.steal_pool.proofs.Listing.{get_same, get_other, keep_each, all_get, all_set, all_more, all_push, all_left, all_right, one_some}

abbrev pub total : ℕ → List SeatLinks → ℕ
total k ws = sum_by (stealers_on k) ws

abbrev pub is_on : ℕ → ℕ × DequeId → ℕ
is_on k stealer = if stealer.0 == k then 1 else 0

total_set : (k : ℕ) (ws : List SeatLinks) (i : ℕ) (w v : SeatLinks) → slice_get ws i ≡ Some w → total k (slice_set ws i v) + stealers_on k w ≡ total k ws + stealers_on k v
total_set k ws i w v at = omega (arith, sum_is_weigh (stealers_on k) ws, sum_is_weigh (stealers_on k) (slice_set ws i v), weigh-set (stealers_on k) ws i w v at)

-- a stealer more
stealers_push : (k : ℕ) (w v : SeatLinks) (stealer : ℕ × DequeId) → v.others ≡ w.others ++ stealer ∷ [] → stealers_on k v ≡ stealers_on k w + is_on k stealer
stealers_push k w v stealer e = omega (
  arith,
  sum_is_weigh (is_on k) w.others,
  sum_is_weigh (is_on k) v.others,
  ap (weigh (is_on k)) e,
  weigh-append (is_on k) w.others (stealer ∷ []),
)

stealers_same : (k : ℕ) (w v : SeatLinks) → v.others ≡ w.others → stealers_on k v ≡ stealers_on k w
stealers_same k w v e = ap (sum_by (is_on k)) e

on_own : (k : ℕ) (stealer : ℕ × DequeId) → stealer.0 ≡ k → is_on k stealer ≡ 1
on_own k stealer e = grind (arith, nat_tests, e)

on_other : (k : ℕ) (stealer : ℕ × DequeId) → stealer.0 ≢ k → is_on k stealer ≡ 0
on_other k stealer n = grind (arith, nat_tests, n)

-- a stealer stays its owner's where one worker changes but for its own deque
owned_set : (ws : List SeatLinks) (i : ℕ) (w v : SeatLinks) → slice_get ws i ≡ Some w → v.own ≡ w.own → (stealer : ℕ × DequeId) → IsOwned ws stealer → IsOwned (slice_set ws i v) stealer
owned_set ws i w v at own stealer (u, here, is) = elim (cases_eq stealer.0 i) [
  | inl same ↦ (
    v,
    ap (slice_get (slice_set ws i v)) same ∙ get_same ws i w v at,
    own ∙ ap (λ (x : SeatLinks). x.own) (one_some (slice_get ws i) w u at (ap (slice_get ws) (sym same) ∙ here)) ∙ is,
  )
  | inr apart ↦ (u, get_other ws i stealer.0 v apart ∙ here, is)
]

Owned : List SeatLinks → List SeatLinks → Type 0
Owned ws vs = AllByRecursion (λ w. AllByRecursion (IsOwned ws) w.others) vs

owned_all : (ws us vs : List SeatLinks) → ((stealer : ℕ × DequeId) → IsOwned ws stealer → IsOwned us stealer) → Owned ws vs → Owned us vs
unfolding Owned
owned_all ws us vs step all = all_more (λ w. AllByRecursion (IsOwned ws) w.others) (λ w. AllByRecursion (IsOwned us) w.others) vs (λ w a. all_more (IsOwned ws) (IsOwned us) w.others step a) all

-- one worker changes, and its stealers are such
owned_one : (ws : List SeatLinks) (i : ℕ) (w v : SeatLinks) → slice_get ws i ≡ Some w → v.own ≡ w.own → AllByRecursion (IsOwned ws) v.others → Owned ws ws → Owned (slice_set ws i v) (slice_set ws i v)
unfolding Owned
owned_one ws i w v at own others all =
    owned_all ws (slice_set ws i v) (slice_set ws i v) (owned_set ws i w v at own)
    (all_set (λ u. AllByRecursion (IsOwned ws) u.others) ws i v others all)

-- ---- a stealer is made on the deque of worker j, for worker i
module _ (ws : List SeatLinks) (i j : ℕ) (r r' s s' : SeatLinks) (lender : slice_get ws j ≡ Some r) (r_own : r'.own ≡ r.own) (r_made : r'.made ≡ r.made + 1) (r_others : r'.others ≡ r.others)
    (taker : slice_get (slice_set ws j r') i ≡ Some s) (s_own : s'.own ≡ s.own) (s_made : s'.made ≡ s.made) (s_others : s'.others ≡ s.others ++ r.own ∷ []) (number : r.own.0 ≡ j) where
  abbrev mid : List SeatLinks
  mid = slice_set ws j r'

  abbrev end : List SeatLinks
  end = slice_set mid i s'

  end_total : (k : ℕ) → total k end ≡ total k ws + is_on k r.own
  end_total k = omega (
    arith,
    total_set k ws j r r' lender,
    stealers_same k r r' r_others,
    total_set k mid i s s' taker,
    stealers_push k s s' r.own s_others,
  )

  pub linked_more : Linked ws → Linked end
  unfolding Owned
  linked_more l = record {
    owned =
        let one : Owned mid mid = owned_one ws j r r' lender r_own (subst (AllByRecursion (IsOwned ws)) (sym r_others) (all_get (λ w. AllByRecursion (IsOwned ws) w.others) ws j r l.owned lender)) l.owned in
        let new : IsOwned mid r.own = (r', ap (slice_get mid) number ∙ get_same ws j r r' lender, r_own) in
        owned_one mid i s s' taker s_own (subst (AllByRecursion (IsOwned mid)) (sym s_others) (all_push (IsOwned mid) s.others r.own (all_get (λ w. AllByRecursion (IsOwned mid) w.others) mid i s one taker) new)) one;
    counted = λ k w e.
        let at_mid : (m : ℕ) (u : SeatLinks) → slice_get mid m ≡ Some u → u.made ≡ total m ws + is_on m r.own = λ m u f. elim (cases_eq m j) [
          | inl same ↦
              let is : r' ≡ u = one_some (slice_get mid j) r' u (get_same ws j r r' lender) (ap (slice_get mid) (sym same) ∙ f) in
              subst (λ (n : ℕ). u.made ≡ total n ws + is_on n r.own) (sym same) (omega (arith, ap (λ (x : SeatLinks). x.made) is, r_made, l.counted j r lender, on_own j r.own number))
          | inr apart ↦ omega (arith, l.counted m u (sym (get_other ws j m r' apart) ∙ f), on_other m r.own (λ z. apart (sym z ∙ number)))
        ] in
        keep_each (λ m u. u.made ≡ total m ws + is_on m r.own) mid i s s' taker (λ z. s_made ∙ z) at_mid k w e ∙ sym (end_total k);
  }

-- ---- the last stealer of worker i is joined by its owner
module _ (ws : List SeatLinks) (i : ℕ) (s s' r r' : SeatLinks) (stealer : ℕ × DequeId) (giver : slice_get ws i ≡ Some s) (s_own : s'.own ≡ s.own) (s_made : s'.made ≡ s.made) (s_others : s.others ≡ s'.others ++ stealer ∷ [])
    (l : Linked ws) where
  abbrev given : List SeatLinks
  given = slice_set ws i s'

  given_total : (k : ℕ) → total k ws ≡ total k given + is_on k stealer
  given_total k = omega (arith, total_set k ws i s s' giver, stealers_push k s' s stealer s_others)

  was_owned : AllByRecursion (IsOwned ws) (s'.others ++ stealer ∷ [])
  was_owned = subst (AllByRecursion (IsOwned ws)) s_others (all_get (λ w. AllByRecursion (IsOwned ws) w.others) ws i s l.owned giver)

  given_counted : (k : ℕ) (w : SeatLinks) → slice_get given k ≡ Some w → w.made ≡ total k ws
  given_counted = keep_each (λ k w. w.made ≡ total k ws) ws i s s' giver (λ z. s_made ∙ z) l.counted

  pub owner_is : (w : SeatLinks) × (slice_get given stealer.0 ≡ Some w) × (w.own ≡ stealer)
  owner_is = owned_set ws i s s' giver s_own stealer (all_right (IsOwned ws) s'.others (stealer ∷ []) was_owned).0

  pub owner_has : slice_get given stealer.0 ≡ Some r → (r.own ≡ stealer) × (0 < r.made)
  owner_has at = (
    ap (λ (x : SeatLinks). x.own) (one_some (slice_get given stealer.0) r owner_is.0 at owner_is.1) ∙ owner_is.2,
    omega (arith, given_counted stealer.0 r at, given_total stealer.0, on_own stealer.0 stealer refl),
  )

  pub linked_less : slice_get given stealer.0 ≡ Some r → r'.own ≡ r.own → r'.made ≡ r.made - 1 → r'.others ≡ r.others → Linked (slice_set given stealer.0 r')
  unfolding Owned
  linked_less at r_own r_made r_others = record {
    owned =
        let one : Owned given given = owned_one ws i s s' giver s_own (all_left (IsOwned ws) s'.others (stealer ∷ []) was_owned) l.owned in
        owned_one given stealer.0 r r' at r_own (subst (AllByRecursion (IsOwned given)) (sym r_others) (all_get (λ w. AllByRecursion (IsOwned given) w.others) given stealer.0 r one at)) one;
    counted = λ k w e.
        let end_total : total k (slice_set given stealer.0 r') ≡ total k given = omega (arith, total_set k given stealer.0 r r' at, stealers_same k r r' r_others) in elim (cases_eq k stealer.0) [
          | inl same ↦
              let is : r' ≡ w = one_some (slice_get (slice_set given stealer.0 r') stealer.0) r' w (get_same given stealer.0 r r' at) (ap (slice_get (slice_set given stealer.0 r')) (sym same) ∙ e) in
              let made : r.made ≡ total k ws = given_counted stealer.0 r at ∙ ap (λ (n : ℕ). total n ws) (sym same) in
              omega (arith, ap (λ (x : SeatLinks). x.made) is, r_made, made, end_total, given_total k, on_own k stealer (sym same))
          | inr apart ↦ omega (arith, given_counted k w (sym (get_other given stealer.0 k r' apart) ∙ e), end_total, given_total k, on_other k stealer (λ z. apart (sym z)))
        ];
  }
