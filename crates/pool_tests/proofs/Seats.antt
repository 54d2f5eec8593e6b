-- Seats of which the first changes, seats that all work, and seats that are taken out of the list of all and put back.
use Rattle.std.proofs.Common.{◌≡◌, ◌<◌, List, [], ◌∷◌, ◌++◌, length, None, slice_set, get_or, sym, subst, arith}
use Rattle.std.proofs.lemmas.Option.{slice_get-get_or}
use Rattle.std.specs.Prelude.{All}
use Rattle.std.specs.List.{AllZip}
use Rattle.spec_trees.specs.Tree.{Rules}
use Rattle.span_ledger.specs.declared.desk.LedgerSeat.{LedgerSeat}
use Rattle.span_ledger.specs.declared.desk.SpanLedger.{SpanLedger}
use Rattle.span_ledger.specs.Seats.{IsSeatOf}
use Rattle.steal_pool.specs.Seats.{SameSeat, Seat}
use Rattle.steal_pool.specs.Runs.{AreAll, AreFree, HasWorked}
use Rattle.steal_pool.proofs.Listing.{all_left, all_right, zip_push, zip_self}
use Rattle.steal_pool.proofs.Pooling.{same_self}

pub same_all : (ss : List Seat) → AllZip SameSeat ss ss
same_all ss = zip_self SameSeat ss same_self

-- ---- the first changes
pub same_first : (ss : List Seat) (d s : Seat) → 0 < length ss → SameSeat (get_or ss 0 d) s → AllZip SameSeat ss (slice_set ss 0 s)
same_first [] d s some same = absurd (omega (arith, some))
same_first (r ∷ ss) d s some same = (same, same_all ss)

-- ---- all of them work
pub worked_same : (t : Rules) (ss qs : List Seat) → AllZip (HasWorked t) ss qs → AllZip SameSeat ss qs
worked_same t [] [] z = tt
worked_same t [] (q ∷ qs) z = absurd z
worked_same t (s ∷ ss) [] z = absurd z
worked_same t (s ∷ ss) (q ∷ qs) z = (z.0.later.same, worked_same t ss qs z.1)

-- ---- they are taken out one by one, from the end, and put back
pub free_last : (ss front : List Seat) (s : Seat) → AreFree ss → ss ≡ front ++ s ∷ [] → AreFree front × (s.refusal ≡ None)
free_last ss front s all e =
    let split : AreFree (front ++ s ∷ []) = subst AreFree e all in
    (all_left (λ (x : Seat). x.refusal ≡ None) front (s ∷ []) split, (all_right (λ (x : Seat). x.refusal ≡ None) front (s ∷ []) split).0)

pub same_last : (ss qs front back : List Seat) (s q : Seat) → AllZip SameSeat front back → SameSeat s q → ss ≡ front ++ s ∷ [] → qs ≡ back ++ q ∷ [] → AllZip SameSeat ss qs
same_last ss qs front back s q b same e f =
    subst (λ (xs : List Seat). AllZip SameSeat xs qs) (sym e) (subst (AllZip SameSeat (front ++ s ∷ [])) (sym f) (zip_push SameSeat front back s q b same))

-- ---- the seats of a ledger, once they have come back
pub all_ours : (ledger : SpanLedger) (es : List LedgerSeat) → AreAll ledger es → All (IsSeatOf ledger) es
all_ours ledger es all = λ k d few. (all.each k (get_or es k d) (slice_get-get_or es k d few)).0
