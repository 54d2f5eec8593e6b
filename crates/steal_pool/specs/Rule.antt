-- The rule of one deque. Its owner and each stealer on it know what they put and what they took; put together, the nodes
-- that anybody took and those that it holds are those that its owner put on it, in this order: first in, first out.
use Rattle.std.specs.Prelude.{◌≡◌, ℕ, ◌+◌, ◌-◌, ◌≤◌, pos, List, [], ◌∷◌, ◌++◌, sum_by, IsPermutation}
use Rattle.std.specs.List.{AllByRecursion}
use Rattle.std.specs.Global.{Global}
use Rattle.spec_trees.specs.declared.tree.Node.{Node}
use Rattle.spec_trees.specs.declared.tree.Verdict.TheVariants.{Clear}
use Rattle.spec_trees.specs.Tree.{Rules, IsValid}
use Rattle.steal_pool.specs.declared.view.DequeView.{DequeView}

-- rules by which no node is split, for a name that no call has picked yet
abbrev pub no_rules : Rules
no_rules = record { first = pos 0; last = pos 0; deepest = 0; verdict = λ n. Clear; parts = λ n. (n, n) }

abbrev pub AreValid : Rules → List Node → Type 0
AreValid t ns = AllByRecursion (IsValid t) ns

-- ---- what an end of a deque knows
abbrev pub view_of : ℕ → ℕ → ℕ → List Node → List Node → DequeView
view_of owner made out put taken = record { owner = owner; made = made; out = out; put = put; taken = taken }

-- the owner's view of a new deque, that of a new stealer, and that of a stealer that was joined
abbrev pub opening : DequeView
opening = view_of 1 0 0 [] []

abbrev pub stealer_out : DequeView
stealer_out = view_of 0 0 1 [] []

abbrev pub spent : DequeView
spent = view_of 0 0 0 [] []

-- ---- what each kind of step does to a view
abbrev pub with_put : DequeView → List Node → DequeView
with_put v xs = view_of v.owner v.made v.out (v.put ++ xs) v.taken

abbrev pub with_taken : DequeView → List Node → DequeView
with_taken v xs = view_of v.owner v.made v.out v.put (v.taken ++ xs)

abbrev pub made_one : DequeView → DequeView
made_one v = view_of v.owner (v.made + 1) v.out v.put v.taken

abbrev pub joined_one : DequeView → DequeView → DequeView
joined_one v w = view_of v.owner (v.made - 1) v.out v.put (v.taken ++ w.taken)

-- the nodes xs, which are valid, were taken
abbrev pub HasTaken : Rules → DequeView → List Node → DequeView → Type 0
HasTaken t v xs w = (w ≡ with_taken v xs) × AreValid t xs

-- where no stealer is out, the nodes that the owner put are those that it took
abbrev pub IsUsedUp : DequeView → Type 0
IsUsedUp v = v.made ≡ 0 → IsPermutation v.put v.taken

-- the nodes that the owner put are, in order, some that are those that it took, as multisets, and then these: what was
-- put first was taken first
abbrev pub AreLeft : DequeView → List Node → Type 0
AreLeft v left = (gone : List Node) × (v.put ≡ gone ++ left) × IsPermutation gone v.taken

-- where no stealer is out, some nodes are left
abbrev pub HasLeft : DequeView → Type 0
HasLeft v = v.made ≡ 0 → (left : List Node) × AreLeft v left

-- the nodes that the owner put are, in order, some and then these and later ones; it took none but the first of them, and
-- where no stealer is out, it took all of those, as multisets
abbrev pub AreOldest : DequeView → List Node → Type 0
AreOldest v xs =
    (gone later : List Node) × (v.put ≡ gone ++ (xs ++ later)) × ((h : Node → ℕ) → sum_by h v.taken ≤ sum_by h gone)
    × (v.made ≡ 0 → IsPermutation gone v.taken)

abbrev pub IsOldest : DequeView → Node → Type 0
IsOldest v n = AreOldest v (n ∷ [])

-- the owner took these nodes, the first of those that were left
abbrev pub OwnerTakes : Rules → DequeView → List Node → DequeView → Type 0
OwnerTakes t v xs w = HasTaken t v xs w × AreOldest v xs

-- ---- the rule
-- only the owner's view has put nodes and has made stealers, and a view that is neither the owner's nor out is empty
pub record Fits (v : DequeView) : Type 0 where
  pub put : v.owner ≡ 0 → v.put ≡ []
  pub made : v.owner ≡ 0 → v.made ≡ 0
  pub taken : v.owner + v.out ≡ 0 → v.taken ≡ []

-- the nodes that the owner put are, in order, those that are gone and those that the deque holds; by any weight of nodes,
-- those that are gone weigh what those that were taken do; what the deque holds is valid; there is one owner, and as many
-- stealers are out as it has made and not joined
pub record Balanced (t : Rules) (items : List Node) (views : List DequeView) : Type 0 where
  pub gone : List Node
  pub order : AllByRecursion (λ v. v.owner ≡ 1 → v.put ≡ gone ++ items) views
  pub balance : (h : Node → ℕ) → sum_by h gone ≡ sum_by (λ v. sum_by h v.taken) views
  pub valid : AreValid t items
  pub one_owner : sum_by (λ v. v.owner) views ≡ 1
  pub counted : sum_by (λ v. v.out) views ≡ sum_by (λ v. v.made) views
  pub fit : AllByRecursion Fits views

-- ---- how contracts see an end of a deque
abbrev pub DequeId : Type 0
DequeId = (ℕ × ℕ) × Global

-- the number of the worker whose deque it is, which deque that is, and what the end knows
pub record End : Type 0 where
  pub worker : ℕ
  pub deque : DequeId
  pub view : DequeView

abbrev pub end_of : ℕ → DequeId → DequeView → End
end_of worker deque view = record { worker = worker; deque = deque; view = view }

abbrev pub with_view : End → DequeView → End
with_view e v = end_of e.worker e.deque v

abbrev pub takes_one : End → Node → End
takes_one e n = with_view e (with_taken e.view (n ∷ []))
