-- Passes that are joined.
use Rattle.std.proofs.Common.{◌≡◌, ℕ, ◌+◌, ◌<◌, List, [], ◌∷◌, ◌++◌, map, length, Some, slice_get, slice_set, get_or, refl, sym, ap, ◌∙◌, subst, arith}
use Rattle.std.proofs.lemmas.Option.{slice_get-get_or}
use Rattle.std.proofs.lemmas.List.Sorted.{IsPermutation-refl, IsPermutation-trans}
use Rattle.spec_trees.specs.declared.tree.Node.{Node}
use Rattle.spec_pool.proofs.Finding.{nodes_permuted}
use Rattle.spec_pool.proofs.Weights.{weigh, weigh-append, weigh-set}
use Rattle.steal_pool.specs.Rule.{DequeId, End}
use Rattle.steal_pool.specs.Workers.{Holder}
use Rattle.steal_pool.specs.Seats.{Seat, SeatLinks, place_of, ways, with_worker}
use Rattle.steal_pool.specs.Pools.{AreLinked, Linked, taken_of, ways_of_all}
use Rattle.steal_pool.specs.Stealers.{GivesStealer, HasNoStealer, HasNoStealerAt, Joined, JoinsLast, NoStealerBefore, joined, lasting, lasting_of}
use Rattle.steal_pool.proofs.Accounts.{taken_weight}
use Rattle.steal_pool.proofs.Together.{taken_of_weigh, taken_sum}
use Rattle.steal_pool.proofs.Linking.{linked_less, owner_has, owner_is}
use Rattle.steal_pool.proofs.Listing.{keep_each, map_at, map_from, map_keep, map_length, map_push, map_set, one_some, set_same, length_push, within}

abbrev seen : Seat → SeatLinks
seen s = ways s.worker

pub joined_self : (ss : List Seat) → Joined ss ss
joined_self ss = record { lasting = refl; taken = IsPermutation-refl (taken_of ss) }

pub joined_more : (ss qs us : List Seat) → Joined ss qs → Joined qs us → Joined ss us
joined_more ss qs us a b = record { lasting = b.lasting ∙ a.lasting; taken = IsPermutation-trans (taken_of ss) (taken_of qs) (taken_of us) a.taken b.taken }

pub joined_length : (ss qs : List Seat) → Joined ss qs → length qs ≡ length ss
joined_length ss qs j = map_length lasting ss qs j.lasting

-- ---- seat i gave its last stealer away
module _ (ss : List Seat) (i : ℕ) (s s' : Seat) (e : End) (at : slice_get ss i ≡ Some s) (g : GivesStealer e s s') (linked : AreLinked ss) where
  abbrev mid : List Seat
  mid = slice_set ss i s'

  abbrev given : List SeatLinks
  given = slice_set (ways_of_all ss) i (seen s')

  mid_ways : ways_of_all mid ≡ given
  mid_ways = map_set seen ss i s'

  giver : slice_get (ways_of_all ss) i ≡ Some (seen s)
  giver = map_at seen ss i s at

  s_own : (seen s').own ≡ (seen s).own
  s_own = ap (λ (w : Holder). place_of w.own) g.0.1

  s_made : (seen s').made ≡ (seen s).made
  s_made = ap (λ (w : Holder). w.own.view.made) g.0.1

  s_others : (seen s).others ≡ (seen s').others ++ place_of e ∷ []
  s_others = ap (map place_of) g.0.0 ∙ map_push place_of s'.worker.stealers e

  pub owner_within : e.worker < length mid
  owner_within =
      let o = owner_is (ways_of_all ss) i (seen s) (seen s') (seen s) (seen s) (place_of e) giver s_own s_made s_others linked in
      let f = map_from seen mid e.worker o.0 (ap (λ (ws : List SeatLinks). slice_get ws e.worker) mid_ways ∙ o.1) in
      within mid e.worker f.0 f.1

  module _ (r : Seat) (owner : slice_get mid e.worker ≡ Some r) where
    owner_at : slice_get given (place_of e).0 ≡ Some (seen r)
    owner_at = ap (λ (ws : List SeatLinks). slice_get ws e.worker) (sym mid_ways) ∙ map_at seen mid e.worker r owner

    pub owner_fits : (e.deque ≡ r.worker.own.deque) × (0 < r.worker.own.view.made)
    owner_fits =
        let h = owner_has (ways_of_all ss) i (seen s) (seen s') (seen r) (seen r) (place_of e) giver s_own s_made s_others linked owner_at in
        (sym (ap (λ (p : ℕ × DequeId). p.1) h.0), h.1)

    pub less_linked : AreLinked (slice_set mid e.worker (joined r e))
    less_linked =
        let all : ways_of_all (slice_set mid e.worker (joined r e)) ≡ slice_set given e.worker (seen (joined r e)) = map_set seen mid e.worker (joined r e) ∙ ap (λ (ws : List SeatLinks). slice_set ws e.worker (seen (joined r e))) mid_ways in
        subst Linked (sym all) (linked_less (ways_of_all ss) i (seen s) (seen s') (seen r) (seen (joined r e)) (place_of e) giver s_own s_made s_others linked owner_at refl refl refl)

-- ---- in the words of the code: seat i was read as the default d or another, its stealer named seat j
module _ (ss : List Seat) (i : ℕ) (d s' : Seat) (e : End) (j : ℕ) (inside : i < length ss) (g : GivesStealer e (get_or ss i d) s') (linked : AreLinked ss) (je : j ≡ e.worker) where
  read : slice_get ss i ≡ Some (get_or ss i d)
  read = slice_get-get_or ss i d inside

  pub read_within : j < length (slice_set ss i s')
  read_within = omega (arith, je, owner_within ss i (get_or ss i d) s' e read g linked)

  read_owner : (x : Seat) → slice_get (slice_set ss i s') e.worker ≡ Some (get_or (slice_set ss i s') j x)
  read_owner x = ap (slice_get (slice_set ss i s')) (sym je) ∙ slice_get-get_or (slice_set ss i s') j x read_within

  pub read_fits : (x : Seat) → (e.deque ≡ (get_or (slice_set ss i s') j x).worker.own.deque) × (0 < (get_or (slice_set ss i s') j x).worker.own.view.made)
  read_fits x = owner_fits ss i (get_or ss i d) s' e read g linked (get_or (slice_set ss i s') j x) (read_owner x)

  pub read_joins : (x r' : Seat) → r' ≡ joined (get_or (slice_set ss i s') j x) e → JoinsLast i ss (slice_set (slice_set ss i s') j r')
  read_joins x r' is = (
    get_or ss i d,
    s',
    get_or (slice_set ss i s') j x,
    e,
    read,
    g,
    read_owner x,
    (λ k. slice_set (slice_set ss i s') (je k) (is k)),
  )

pub read_none : (ss : List Seat) (i : ℕ) (d s' : Seat) → i < length ss → ((get_or ss i d).worker.stealers ≡ []) × (s' ≡ get_or ss i d) → HasNoStealerAt i ss × (slice_set ss i s' ≡ ss)
read_none ss i d s' inside n = (
  (λ s at. let same : get_or ss i d ≡ s = one_some (slice_get ss i) (get_or ss i d) s (slice_get-get_or ss i d inside) at in subst HasNoStealer same n.0),
  ap (slice_set ss i) n.1 ∙ set_same ss i (get_or ss i d) (slice_get-get_or ss i d inside),
)

-- ---- the last stealer of seat i is joined
module _ (i : ℕ) (ss qs : List Seat) (x : JoinsLast i ss qs) where
  pub joins_linked : AreLinked ss → AreLinked qs
  joins_linked linked = subst AreLinked (sym x.7) (less_linked ss i x.0 x.1 x.3 x.4 x.5 linked x.2 x.6)

  abbrev between : List Seat
  between = slice_set ss i x.1

  gave_lasting : lasting x.1 ≡ lasting x.0
  gave_lasting = ap lasting x.5.1 ∙ ap (λ (w : Holder). with_worker x.0 (lasting_of w)) x.5.0.1

  same_lasting : map lasting qs ≡ map lasting ss
  same_lasting = ap (map lasting) x.7 ∙ map_keep lasting between x.3.worker x.2 (joined x.2 x.3) x.6 refl ∙ map_keep lasting ss i x.0 x.1 x.4 gave_lasting

  gave_weight : (h : Node → ℕ) → taken_weight h x.0.worker ≡ taken_weight h x.1.worker + weigh h x.3.view.taken
  gave_weight h = omega (
    arith,
    ap (λ (w : Holder). weigh h w.own.view.taken) x.5.0.1,
    ap (weigh (λ (e : End). weigh h e.view.taken)) x.5.0.0,
    weigh-append (λ (e : End). weigh h e.view.taken) x.1.worker.stealers (x.3 ∷ []),
  )

  same_taken : (h : Node → ℕ) → taken_sum h qs ≡ taken_sum h ss
  same_taken h = omega (
    arith,
    ap (taken_sum h) x.7,
    weigh-set (λ (s : Seat). taken_weight h s.worker) ss i x.0 x.1 x.4,
    weigh-set (λ (s : Seat). taken_weight h s.worker) between x.3.worker x.2 (joined x.2 x.3) x.6,
    gave_weight h,
    weigh-append h x.2.worker.own.view.taken x.3.view.taken,
  )

  pub joins_joined : Joined ss qs
  joins_joined = record {
    lasting = same_lasting;
    taken = nodes_permuted (taken_of ss) (taken_of qs) (λ h. omega (arith, same_taken h, taken_of_weigh h ss, taken_of_weigh h qs));
  }

  pub joins_fewer : weigh (λ (s : Seat). length s.worker.stealers) qs + 1 ≡ weigh (λ (s : Seat). length s.worker.stealers) ss
  joins_fewer = omega (
    arith,
    ap (weigh (λ (s : Seat). length s.worker.stealers)) x.7,
    weigh-set (λ (s : Seat). length s.worker.stealers) ss i x.0 x.1 x.4,
    weigh-set (λ (s : Seat). length s.worker.stealers) between x.3.worker x.2 (joined x.2 x.3) x.6,
    ap length x.5.0.0,
    length_push x.1.worker.stealers x.3,
  )

  pub joins_length : length qs ≡ length ss
  joins_length = joined_length ss qs joins_joined

  pub joins_before : NoStealerBefore i ss → NoStealerBefore i qs
  joins_before none = subst (NoStealerBefore i) (sym x.7) (
      keep_each (λ k s. k < i → HasNoStealer s) between x.3.worker x.2 (joined x.2 x.3) x.6 (λ p. p)
      (keep_each (λ k s. k < i → HasNoStealer s) ss i x.0 x.1 x.4 (λ p b. absurd (omega (arith, b))) none)
      )
