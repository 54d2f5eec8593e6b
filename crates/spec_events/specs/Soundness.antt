-- When findings at a node are true, and how enclosures give such findings.
use Rattle.std.specs.Prelude.{◌≡◌, Bool, true, false, List, All, map, ℤ, pos, ◌+ℤ◌, ◌≤ℤ◌, ◌<ℤ◌}
use Rattle.std.specs.List.{list_all, list_any}
use Rattle.spec_intervals.specs.declared.signs.Sign.{Sign}
use Rattle.spec_intervals.specs.declared.signs.Sign.TheVariants.{Yes, No}
use Rattle.spec_intervals.specs.Interval.{Interval}
use Rattle.spec_intervals.specs.Fraction.{Fraction, IsFraction, Holds}
use Rattle.spec_intervals.specs.Enclosure.{Enclosure, IsEnclosure, AllFractions}
use Rattle.spec_intervals.specs.Signs.{sign_of}
use Rattle.spec_trees.specs.declared.tree.Node.{Node}
use Rattle.spec_events.specs.Functions.{Guard}
use Rattle.spec_events.specs.Verdict.{Findings, GuardFinding, rises, falls, is_readable, is_certified, is_refuted}

-- a fact is so where the sign is Yes, and is not where it is No
pub record Tells (sign : Sign) (fact : Type 0) : Type 0 where
  pub yes : sign ≡ Yes → fact
  pub no : sign ≡ No → fact → ⊥

-- once P is so, it stays so up to b
abbrev pub Lasts : (ℤ → Type 0) → ℤ → ℤ → Type 0
Lasts P a b = (t : ℤ) → a ≤ℤ t → t <ℤ b → P t → P (t +ℤ pos 1)

abbrev pub IsNot : (ℤ → Type 0) → ℤ → Type 0
IsNot P t = P t → ⊥

-- the findings at a node are true of a condition and of the guards of its turns
pub record AreSound (P G : ℤ → Type 0) (n : Node) (f : Findings) : Type 0 where
  pub ordered : n.a <ℤ n.b
  pub first : Tells f.at_first (P n.a)
  pub last : Tells f.at_last (P n.b)
  pub over : f.crosses ≡ false → (t : ℤ) → n.a ≤ℤ t → t ≤ℤ n.b → Tells f.over (P t)
  pub rising : f.crosses ≡ false → rises f.step ≡ true → Lasts P n.a n.b
  pub falling : f.crosses ≡ false → falls f.step ≡ true → Lasts (IsNot P) n.a n.b
  pub certified : is_readable n f.crosses ≡ true → list_all is_certified f.guards ≡ true → (t : ℤ) → n.a <ℤ t → t ≤ℤ n.b → G t
  pub refuted : is_readable n f.crosses ≡ true → list_any is_refuted f.guards ≡ true → (t : ℤ) → n.a <ℤ t → t ≤ℤ n.b → G t → ⊥

-- ---- findings from enclosures
pub record GuardEvidence : Type 0 where
  pub guard : Guard
  pub interval : Interval

-- the enclosures of a function at a, at b and over the whole node, and an interval for each guard
pub record Evidence : Type 0 where
  pub crosses : Bool
  pub first : Enclosure
  pub last : Enclosure
  pub whole : Enclosure
  pub guards : List GuardEvidence

abbrev pub finding_of : GuardEvidence → GuardFinding
finding_of g = record { at_least = g.guard.at_least; sign = sign_of g.interval }

abbrev pub findings_of : Evidence → Findings
findings_of e = record {
  crosses = e.crosses;
  at_first = sign_of e.first.range;
  at_last = sign_of e.last.range;
  over = sign_of e.whole.range;
  step = e.whole.step;
  guards = map finding_of e.guards;
}

abbrev pub guard_of : GuardEvidence → Guard
guard_of g = g.guard

abbrev pub guards_of : Evidence → List Guard
guards_of e = map guard_of e.guards

-- the interval holds the guard's value at each time that the node stands for
abbrev pub IsGuardHeld : Node → GuardEvidence → Type 0
IsGuardHeld n g = (t : ℤ) → n.a <ℤ t → t ≤ℤ n.b → IsFraction (g.guard.exact t) × Holds g.interval (g.guard.exact t)

-- the enclosures are those of a function, where they are looked at: over the whole node where no border lies in it, and
-- of the guards where the node is readable
pub record IsEvidence (exact : ℤ → Fraction) (n : Node) (e : Evidence) : Type 0 where
  pub ordered : n.a <ℤ n.b
  pub numbers : AllFractions exact n.a n.b
  pub first : IsEnclosure exact n.a n.a e.first
  pub last : IsEnclosure exact n.b n.b e.last
  pub whole : e.crosses ≡ false → IsEnclosure exact n.a n.b e.whole
  pub guards : is_readable n e.crosses ≡ true → All (IsGuardHeld n) e.guards
