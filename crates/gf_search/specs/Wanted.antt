-- What is wanted of a search: its leaves, or leaves that have the windows of its leaves, or that tell the signs that these tell.
use Rattle.std.specs.Prelude.{◌≡◌, ◌⊎◌, ◌<◌, ◌≤◌, ℕ, ℤ, ◌≤ℤ◌, true, List, Ok}
use Rattle.spec_ephemeris.specs.Ephemeris.{Ephemeris}
use Rattle.spec_trees.specs.declared.tree.Leaf.{Leaf}
use Rattle.spec_trees.specs.declared.tree.Node.{Node}
use Rattle.spec_trees.specs.Tree.{Covers, leaf_count, leaves}
use Rattle.spec_trees.specs.Windows.{windows}
use Rattle.spec_searches.specs.Found.{rules}
use Rattle.spec_searches.specs.Search.{Search}
use Rattle.spec_stills.specs.ServedTree.{TellTheSame}
use Rattle.spec_outcomes.specs.declared.query.Query.{Query}
use Rattle.spec_outcomes.specs.declared.query.Span.{Span}
use Rattle.spec_outcomes.specs.declared.refusal.Refusal.{Refusal}
use Rattle.spec_outcomes.specs.declared.refusal.Refusal.TheVariants.{Memory, TooManyLeaves}
use Rattle.spec_outcomes.specs.Outcomes.{IsFound, found}
use Rattle.spec_outcomes.specs.Queries.{AreFound, is_within, leaves_in, search, windows_in}
use Rattle.spec_outcomes.specs.Sets.{signs_by, signs_in}
use Rattle.gf_search.specs.declared.wanted.Wanted.{Wanted}
use Rattle.gf_search.specs.declared.wanted.Wanted.TheVariants.{Leaves, Signs, Windows}

-- ---- of a node of a search
-- the leaves of its tree, no more than so many
pub record AreLeaves (most : ℕ) (s : Search) (n : Node) (ls : List Leaf) : Type 0 where
  pub same : ls ≡ leaves (rules s) n
  pub few : leaf_count (rules s) n ≤ most

-- leaves that follow one another over it, with the windows of its tree, which has no more leaves than so many
pub record HaveWindows (most : ℕ) (s : Search) (n : Node) (ls : List Leaf) : Type 0 where
  pub windows : windows ls ≡ windows (leaves (rules s) n)
  pub follow : Covers n.a ls n.b
  pub few : leaf_count (rules s) n ≤ most

-- leaves that follow one another over it, and tell the signs that those of its tree tell, which has no more than so many
pub record HaveSigns (most : ℕ) (s : Search) (n : Node) (ls : List Leaf) : Type 0 where
  pub signs : TellTheSame s n.a ls (leaves (rules s) n) n.b
  pub follow : Covers n.a ls n.b
  pub few : leaf_count (rules s) n ≤ most

abbrev pub AreWanted : Wanted → ℕ → Search → Node → List Leaf → Type 0
AreWanted Leaves = AreLeaves
AreWanted Windows = HaveWindows
AreWanted Signs = HaveSigns

-- memory ran out, or it has so many leaves, more than there may be
abbrev pub StopsAt : ℕ → ℕ → Refusal → Type 0
StopsAt most count refusal = (refusal ≡ Memory) ⊎ ((refusal ≡ TooManyLeaves most) × (most < count))

-- ---- of a query over a span of an ephemeris
-- leaves that follow one another over the span, and have the windows of what a search of at most so many leaves finds: those
-- of the query's events
pub record HasWindows (most : ℕ) (q : Query) (e : Ephemeris) (span : Span) (ls : List Leaf) : Type 0 where
  pub within : is_within span e ≡ true
  pub outcome : found most q e span ≡ Ok (leaves_in (search q e) span)
  pub windows : windows ls ≡ windows_in (search q e) span
  pub follow : Covers span.from ls span.upto
  pub events : AreFound (search q e) span (leaves_in (search q e) span)

-- leaves that follow one another over the span, and tell the signs that the leaves tell which a search of at most so many finds
pub record HasSigns (most : ℕ) (q : Query) (e : Ephemeris) (span : Span) (ls : List Leaf) : Type 0 where
  pub within : is_within span e ≡ true
  pub outcome : found most q e span ≡ Ok (leaves_in (search q e) span)
  pub signs : (t : ℤ) → t ≤ℤ span.upto → signs_by (search q e) span ls t ≡ signs_in (search q e) span t
  pub follow : Covers span.from ls span.upto

abbrev pub IsWanted : Wanted → ℕ → Query → Ephemeris → Span → List Leaf → Type 0
IsWanted Leaves = IsFound
IsWanted Windows = HasWindows
IsWanted Signs = HasSigns
