-- Seats that work are the same seats afterwards, one by one and all together.
use Rattle.std.proofs.Common.{◌≡◌, ℕ, suc, ◌<◌, List, [], ◌∷◌, length, slice_set, get_or, refl, sym, ap, subst, arith}
use Rattle.std.specs.List.{AllByRecursion, AllZip}
use Rattle.span_ledger.specs.declared.desk.LedgerSeat.{LedgerSeat}
use Rattle.steal_pool.specs.Seats.{IsLeft, SameSeat, Seat, Works, ways, with_room}
use Rattle.spec_trees.specs.Tree.{Rules}
use Rattle.steal_pool.specs.Pools.{AreLinked, HasRoom, Linked}
use Rattle.steal_pool.specs.Closing.{IsRoomless, Leaves}
use Rattle.steal_pool.specs.Runs.{HasWorked, IsLater}
use Rattle.steal_pool.proofs.Entering.{same_more, seat_idle, seat_more}
use Rattle.steal_pool.proofs.Listing.{zip_length, zip_map, zip_self}

-- ---- one seat
pub same_self : (s : Seat) → SameSeat s s
same_self s = record { ways = refl; table = refl; terms = refl; number = refl; room = refl }

pub is_idle : (t : Rules) (s : Seat) → IsLater t s s
is_idle t s = record { works = seat_idle t s; same = same_self s }

pub goes_on : (t : Rules) (a b c : Seat) → IsLater t a b → SameSeat b c → Works t b c → IsLater t a c
goes_on t a b c x same works = record { works = seat_more t a b c x.works works; same = same_more a b c x.same same }

-- ---- all seats
pub idle_all : (t : Rules) (ss : List Seat) → AllZip (IsLater t) ss ss
idle_all t ss = zip_self (IsLater t) ss (is_idle t)

pub later_first : (t : Rules) (ss : List Seat) (d s' : Seat) → 0 < length ss → IsLater t (get_or ss 0 d) s' → AllZip (IsLater t) ss (slice_set ss 0 s')
later_first t [] d s' some e = absurd (omega arith)
later_first t (x ∷ xs) d s' some e = (e, idle_all t xs)

pub later_more : (t : Rules) (a b c : List Seat) → AllZip (IsLater t) a b → AllZip (HasWorked t) b c → AllZip (IsLater t) a c
later_more t [] [] [] p q = tt
later_more t [] [] (z ∷ zs) p q = absurd q
later_more t [] (y ∷ ys) c p q = absurd p
later_more t (x ∷ xs) [] c p q = absurd p
later_more t (x ∷ xs) (y ∷ ys) [] p q = absurd q
later_more t (x ∷ xs) (y ∷ ys) (z ∷ zs) p q =
    (goes_on t x y z p.0 q.0.later.same q.0.later.works, later_more t xs ys zs p.1 q.1)

pub left_all : (t : Rules) (ss ss' : List Seat) → AllZip (HasWorked t) ss ss' → AllByRecursion (IsLeft t) ss'
left_all t [] [] z = tt
left_all t [] (y ∷ ys) z = absurd z
left_all t (x ∷ xs) [] z = absurd z
left_all t (x ∷ xs) (y ∷ ys) z = (z.0.left, left_all t xs ys z.1)

pub zip_of : {A : Type 0} (R : A → A → Type 0) (xs ys : List A) → length ys ≡ length xs → ((k : ℕ) (d : A) → k < length xs → R (get_or xs k d) (get_or ys k d)) → AllZip R xs ys
zip_of R [] [] e f = tt
zip_of R [] (y ∷ ys) e f = absurd (omega (arith, e))
zip_of R (x ∷ xs) [] e f = absurd (omega (arith, e))
zip_of R (x ∷ xs) (y ∷ ys) e f = (f 0 x (omega arith), zip_of R xs ys (omega (arith, e)) (λ k d h. f (suc k) d (omega (arith, h))))

-- ---- what stays of all
pub later_same : (t : Rules) (ss qs : List Seat) → AllZip (IsLater t) ss qs → AllZip SameSeat ss qs
later_same t [] [] b = tt
later_same t [] (q ∷ qs) b = absurd b
later_same t (s ∷ ss) [] b = absurd b
later_same t (s ∷ ss) (q ∷ qs) b = (b.0.same, later_same t ss qs b.1)

pub same_room : (ss qs : List Seat) → AllZip SameSeat ss qs → HasRoom ss → HasRoom qs
same_room [] [] b r = r
same_room [] (q ∷ qs) b r = absurd b
same_room (s ∷ ss) [] b r = absurd b
same_room (s ∷ ss) (q ∷ qs) b r = λ x at.
    let is : q ≡ x = cc in
    let same : q.room ≡ x.room = ap (λ (y : Seat). y.room) is in
    omega (arith, r s refl, b.0.room, same, zip_length SameSeat ss qs b.1)

pub same_linked : (ss qs : List Seat) → AllZip SameSeat ss qs → AreLinked ss → AreLinked qs
same_linked ss qs b l =
    subst Linked (sym (zip_map SameSeat (λ (s : Seat). ways s.worker) (λ (s : Seat). ways s.worker) ss qs (λ s q c. c.ways) b)) l

-- ---- the room of the first
pub all_roomless : (ss : List Seat) → AllZip IsRoomless ss ss
all_roomless ss = zip_self IsRoomless ss (λ s. refl)

pub first_roomless : (ss : List Seat) (d s' : Seat) → s' ≡ with_room (get_or ss 0 d) s'.room → AllZip IsRoomless ss (slice_set ss 0 s')
first_roomless [] d s' e = tt
first_roomless (x ∷ xs) d s' e = (e, all_roomless xs)

leaves_as : (s q : Seat) (e : LedgerSeat) → IsRoomless s q → Leaves q e → Leaves s e
leaves_as s q e is l = let m : Leaves (with_room s q.room) e = subst (λ (x : Seat). Leaves x e) is l in record { part = m.part; table = m.table; left = m.left }

pub leave_as : (ss qs : List Seat) (es : List LedgerSeat) → AllZip IsRoomless ss qs → AllZip Leaves qs es → AllZip Leaves ss es
leave_as [] [] es z b = b
leave_as [] (q ∷ qs) es z b = absurd z
leave_as (s ∷ ss) [] es z b = absurd z
leave_as (s ∷ ss) (q ∷ qs) [] z b = absurd b
leave_as (s ∷ ss) (q ∷ qs) (e ∷ es) z b = (leaves_as s q e z.0 b.0, leave_as ss qs es z.1 b.1)
