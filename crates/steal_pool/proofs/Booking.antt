-- The book that is closed after a run holds the root's leaves, each once.
use Rattle.std.proofs.Common.{◌≡◌, ℕ, zero, suc, ◌+◌, ◌<◌, ◌≤◌, ◌==◌, ◌++◌, Bool, true, false, if◌then◌else◌, nat_lt, ℤ, ◌-ℤ◌, ◌<ℤ◌, List, [], ◌∷◌, flat_map, length, IsPermutation, refl, sym, ap, ◌∙◌, subst, arith}
use Rattle.std.proofs.lemmas.Int.{ints}
use Rattle.std.proofs.lemmas.Bool.Decides.{nat_tests}
use Rattle.std.specs.Int.RustNames.{unsigned_abs}
use Rattle.std.specs.List.{AllByRecursion}
use mathlib.Core.Option as M
use lib.ListN.{get_elem?}
use Rattle.spec_trees.specs.declared.book.Booked.{Booked}
use Rattle.spec_trees.specs.declared.tree.Leaf.{Leaf}
use Rattle.spec_trees.specs.declared.tree.Node.{Node}
use Rattle.spec_trees.specs.Tree.{Covers, Rules, IsSound, IsValid, leaves}
use Rattle.spec_trees.specs.Order.{booked_leaves, ordered_leaves}
use Rattle.spec_trees.proofs.Covering.{leaves_cover}
use Rattle.spec_trees.proofs.Rearranged.{rearranged_in_order}
use Rattle.spec_pool.specs.declared.ledger.SeatHistory.{SeatHistory}
use Rattle.spec_pool.specs.History.{AllStand, FitsPart, StartsWith, by_seat}
use Rattle.spec_pool.proofs.Finding.{leaves_permuted}
use Rattle.spec_pool.proofs.Weights.{weigh, weigh-append, weigh-flat, weigh-map, weigh-same}
use Rattle.steal_pool.specs.Seats.{entered_by}
use Rattle.steal_pool.proofs.Accounts.{entered_weigh, entered_weight, same_weights}

-- ---- the entries of seats from k on
abbrev late : ℕ → (Booked → ℕ) → Booked → ℕ
late k g e = if nat_lt e.seat k then 0 else g e

one_weigh : (g : Booked → ℕ) (e : Booked) (b : Bool) → weigh g (if b then e ∷ [] else []) ≡ (if b then g e else 0)
one_weigh g e true = omega arith
one_weigh g e false = refl

late_step : (k s n : ℕ) → (if nat_lt s k then 0 else n) ≡ (if s == k then n else 0) + (if nat_lt s (suc k) then 0 else n)
late_step k s n = grind (arith, nat_tests)

late_more : (k : ℕ) (g : Booked → ℕ) (log : List Booked) → weigh (late k g) log ≡ weigh g (by_seat k log) + weigh (late (suc k) g) log
late_more k g [] = refl
late_more k g (e ∷ es) = omega (
  arith,
  late_more k g es,
  late_step k e.seat (g e),
  one_weigh g e (e.seat == k),
  weigh-append g (if e.seat == k then e ∷ [] else []) (by_seat k es),
)

none_late : (k : ℕ) (g : Booked → ℕ) (log : List Booked) → AllByRecursion (λ e. e.seat < k) log → weigh (late k g) log ≡ 0
none_late k g [] a = refl
none_late k g (e ∷ es) a = omega (arith, zero_at e.seat (g e) a.0, none_late k g es a.1)
  where
    zero_at : (s n : ℕ) → s < k → (if nat_lt s k then 0 else n) ≡ 0
    zero_at s n h = grind (arith, nat_tests)

-- parts with the numbers from k on
abbrev pub Numbered : ℕ → List SeatHistory → Type 0
Numbered k [] = Unit {0}
Numbered k (p ∷ ps) = (p.number ≡ k) × Numbered (suc k) ps

abbrev pub Fit : List Booked → List SeatHistory → Type 0
Fit log ps = AllByRecursion (FitsPart log) ps

mine_late : (k : ℕ) (g : Booked → ℕ) (log : List Booked) (ps : List SeatHistory) → Numbered k ps → Fit log ps → AllByRecursion (λ e. e.seat < k + length ps) log → weigh (late k g) log ≡ weigh (λ (p : SeatHistory). weigh g p.mine) ps
mine_late k g log [] n f a = none_late k g log (subst (λ (m : ℕ). AllByRecursion (λ e. e.seat < m) log) (omega arith) a)
mine_late k g log (p ∷ ps) n f a =
    let mine : weigh g (by_seat k log) ≡ weigh g p.mine = ap (weigh g) (ap (λ (m : ℕ). by_seat m log) (sym n.0) ∙ f.0.mine) in
    omega (arith, late_more k g log, mine, mine_late (suc k) g log ps n.1 f.1 (subst (λ (m : ℕ). AllByRecursion (λ e. e.seat < m) log) (omega arith) a))

all_late : (g : Booked → ℕ) (log : List Booked) → weigh (late 0 g) log ≡ weigh g log
all_late g log = weigh-same (late 0 g) g log (λ e. at e.seat (g e))
  where
    at : (s n : ℕ) → (if nat_lt s 0 then 0 else n) ≡ n
    at s n = grind (arith, nat_tests)

-- each entry is one seat's
mine_weigh : (g : Booked → ℕ) (log : List Booked) (ps : List SeatHistory) → Numbered 0 ps → Fit log ps → AllByRecursion (λ e. e.seat < length ps) log → weigh g log ≡ weigh (λ (p : SeatHistory). weigh g p.mine) ps
mine_weigh g log ps n f a =
    sym (all_late g log) ∙ mine_late 0 g log ps n f (subst (λ (m : ℕ). AllByRecursion (λ e. e.seat < m) log) (omega arith) a)

-- ---- what the seats entered is the book, with what stood already
abbrev pub parts_entered : List SeatHistory → List Leaf
parts_entered ps = flat_map entered_by ps

abbrev pub agains : List SeatHistory → List Leaf
agains ps = flat_map (λ (p : SeatHistory). p.again) ps

two_weigh : (f g : SeatHistory → ℕ) (ps : List SeatHistory) → weigh (λ (p : SeatHistory). f p + g p) ps ≡ weigh f ps + weigh g ps
two_weigh f g [] = refl
two_weigh f g (p ∷ ps) = omega (arith, two_weigh f g ps)

module _ (log : List Booked) (ps : List SeatHistory) (n : Numbered 0 ps) (f : Fit log ps) (a : AllByRecursion (λ e. e.seat < length ps) log) where
  pub entered_is : (h : Leaf → ℕ) → weigh h (parts_entered ps) ≡ weigh h (booked_leaves log) + weigh h (agains ps)
  entered_is h = omega (
    arith,
    weigh-flat entered_by h ps,
    weigh-same (λ (p : SeatHistory). weigh h (entered_by p)) (entered_weight h) ps (entered_weigh h),
    two_weigh (λ (p : SeatHistory). weigh (λ (e : Booked). h e.leaf) p.mine) (λ (p : SeatHistory). weigh h p.again) ps,
    weigh-flat (λ (p : SeatHistory). p.again) h ps,
    weigh-map (λ (e : Booked). e.leaf) h log,
    mine_weigh (λ (e : Booked). h e.leaf) log ps n f a,
  )

-- ---- at most one leaf of a cover begins at a time
abbrev one_if : Bool → ℕ
one_if d = if d then 1 else 0

abbrev begins : ℤ → Leaf → ℕ
begins x l = one_if (unsigned_abs (x -ℤ l.node.a) == 0)

begins_apart : (x a : ℤ) → x <ℤ a → one_if (unsigned_abs (x -ℤ a) == 0) ≡ 0
begins_apart x a h = let d : 0 < unsigned_abs (x -ℤ a) = omega (arith, ints) in grind (arith, nat_tests)

begins_here : (l : Leaf) → begins l.node.a l ≡ 1
begins_here l = let d : unsigned_abs (l.node.a -ℤ l.node.a) ≡ 0 = omega (arith, ints) in grind (arith, nat_tests)

none_before : (x a b : ℤ) (ls : List Leaf) → Covers a ls b → x <ℤ a → weigh (begins x) ls ≡ 0
none_before x a b [] c h = refl
none_before x a b (l ∷ ls) c h = omega (
  arith,
  begins_apart x l.node.a (omega (arith, ints, c.0, h)),
  none_before x l.node.b b ls c.2 (omega (arith, ints, c.0, c.1, h)),
)

at_most_one : (d : Bool) → one_if d ≤ 1
at_most_one true = omega arith
at_most_one false = omega arith

once_more : (x a b : ℤ) (l : Leaf) (ls : List Leaf) → Covers a (l ∷ ls) b → weigh (begins x) ls ≤ 1 → (d : Bool) → (unsigned_abs (x -ℤ l.node.a) == 0) ≡ d → weigh (begins x) (l ∷ ls) ≤ 1
once_more x a b l ls c rest true e =
    let z : unsigned_abs (x -ℤ l.node.a) ≡ 0 = grind (arith, nat_tests) in
    omega (arith, at_most_one (unsigned_abs (x -ℤ l.node.a) == 0), none_before x l.node.b b ls c.2 (omega (arith, ints, c.1, z)))
once_more x a b l ls c rest false e =
    let z : begins x l ≡ 0 = ap one_if e in
    omega (arith, z, rest)

once : (x a b : ℤ) (ls : List Leaf) → Covers a ls b → weigh (begins x) ls ≤ 1
once x a b [] c = omega arith
once x a b (l ∷ ls) c = once_more x a b l ls c (once x l.node.b b ls c.2) (unsigned_abs (x -ℤ l.node.a) == 0) refl

-- ---- none stood already
stands_weigh : (h : Leaf → ℕ) (log : List Booked) (i : ℕ) (e : Booked) → get_elem? log i ≡ M.some e → h e.leaf ≤ weigh (λ (b : Booked). h b.leaf) log
stands_weigh h [] i e at = absurd (M.some-ne-none e (sym at))
stands_weigh h (x ∷ xs) zero e at = let is : x ≡ e = cc in let same : h x.leaf ≡ h e.leaf = ap (λ (b : Booked). h b.leaf) is in omega (arith, same)
stands_weigh h (x ∷ xs) (suc i) e at = omega (arith, stands_weigh h xs i e at)

stand_append : (log : List Booked) (xs ys : List Leaf) → AllStand log xs → AllStand log ys → AllStand log (xs ++ ys)
stand_append log [] ys a b = b
stand_append log (x ∷ xs) ys a b = (a.0, stand_append log xs ys a.1 b)

agains_stand : (log : List Booked) (ps : List SeatHistory) → Fit log ps → AllStand log (agains ps)
agains_stand log [] f = tt
agains_stand log (p ∷ ps) f = stand_append log p.again (agains ps) f.0.again (agains_stand log ps f.1)

no_agains : (log : List Booked) (all again : List Leaf) (a b : ℤ) → Covers a all b → ((h : Leaf → ℕ) → weigh h all ≡ weigh h (booked_leaves log) + weigh h again) → AllStand log again → again ≡ []
no_agains log all [] a b c e s = refl
no_agains log all (l ∷ ls) a b c e s =
    let place = s.0.0 in
    let entry = s.0.1.0 in
    let at = s.0.1.1 in
    let is : entry.leaf ≡ l = s.0.1.2 in
    let h : Leaf → ℕ = begins l.node.a in
    absurd (omega (
      arith,
      e h,
      once l.node.a a b all c,
      begins_here l,
      ap h is,
      stands_weigh h log place entry at,
      weigh-map (λ (b : Booked). b.leaf) h log,
    ))

-- ---- the book
module _ (t : Rules) (sound : IsSound t) (root : Node) (valid : IsValid t root) (log : List Booked) (ps : List SeatHistory) (n : Numbered 0 ps) (f : Fit log ps) (a : AllByRecursion (λ e. e.seat < length ps) log) where
  all_weigh : IsPermutation (parts_entered ps) (leaves t root) → (h : Leaf → ℕ) → weigh h (leaves t root) ≡ weigh h (booked_leaves log) + weigh h (agains ps)
  all_weigh p h = sym (same_weights h (parts_entered ps) (leaves t root) p) ∙ entered_is log ps n f a h

  pub book_once : IsPermutation (parts_entered ps) (leaves t root) → agains ps ≡ []
  book_once p = no_agains log (leaves t root) (agains ps) root.a root.b (leaves_cover t sound root valid) (all_weigh p) (agains_stand log ps f)

  pub book_in_order : IsPermutation (parts_entered ps) (leaves t root) → ordered_leaves log ≡ leaves t root
  book_in_order p =
      rearranged_in_order root.a root.b (booked_leaves log) (leaves t root)
      (leaves_permuted (booked_leaves log) (leaves t root) (λ h. omega (arith, all_weigh p h, ap (weigh h) (book_once p))))
      (leaves_cover t sound root valid)

-- ---- too many leaves
length_weigh : {A : Type 0} (xs : List A) → weigh (λ _. 1) xs ≡ length xs
length_weigh [] = refl
length_weigh (x ∷ xs) = omega (arith, length_weigh xs)

starts_length : (log seen : List Booked) → StartsWith log seen → length seen ≤ length log
starts_length log seen (rest, e) = omega (
  arith,
  ap (weigh (λ _. 1)) e,
  weigh-append (λ _. 1) seen rest,
  length_weigh log,
  length_weigh seen,
)

module _ (log : List Booked) (ps : List SeatHistory) (n : Numbered 0 ps) (f : Fit log ps) (a : AllByRecursion (λ e. e.seat < length ps) log) where
  pub more_than : (all others : List Leaf) (leaf : Leaf) (seen : List Booked) → StartsWith log seen → IsPermutation (parts_entered ps ++ leaf ∷ others) all → length seen < length all
  more_than all others leaf seen starts p = omega (
    arith,
    starts_length log seen starts,
    length_weigh log,
    length_weigh all,
    weigh-map (λ (e : Booked). e.leaf) (λ _. 1) log,
    entered_is log ps n f a (λ _. 1),
    same_weights (λ _. 1) (parts_entered ps ++ leaf ∷ others) all p,
    weigh-append (λ _. 1) (parts_entered ps) (leaf ∷ others),
  )
