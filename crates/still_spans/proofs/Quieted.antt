-- Granules over which a bound has one sign are still.
use Rattle.std.proofs.Common.{◌≡◌, ℕ, true, ℤ, ◌≤ℤ◌, ◌<ℤ◌, ap, ◌∙◌}
use Rattle.spec_intervals.specs.declared.signs.Sign.{Sign}
use Rattle.spec_trees.specs.declared.tree.Node.{Node}
use Rattle.spec_trees.specs.declared.tree.Verdict.TheVariants.{Clear}
use Rattle.spec_trees.specs.Tree.{IsValid}
use Rattle.spec_events.specs.Verdict.{is_known}
use Rattle.spec_bodies.specs.Views.{Fits}
use Rattle.spec_searches.specs.Found.{rules}
use Rattle.spec_searches.specs.Search.{IsSearch, Search, verdict_of}
use Rattle.spec_bounds.specs.Quiet.{IsQuiet, sign_over}
use Rattle.spec_bounds.specs.Steady.{sign_at}
use Rattle.spec_stills.specs.Still.{IsStill}
use Rattle.still_spans.specs.Found.{still}

-- the laws of quiet spans
abbrev pub Times : Type 0
Times = (s : Search) (a b t : ℤ) → IsSearch s → IsQuiet s a b → a ≤ℤ t → t ≤ℤ b → sign_at s t ≡ sign_over s a b

abbrev pub Nodes : Type 0
Nodes = (s : Search) (a b : ℤ) (n : Node) → IsSearch s → IsQuiet s a b → IsValid (rules s) n → a ≤ℤ n.a → n.b ≤ℤ b → verdict_of s n ≡ Clear

module _ (s : Search) (a b : ℤ) (is : IsSearch s) (fits : Fits s.view a b) (several : a <ℤ b) (sign : Sign) (here : sign_over s a b ≡ sign) (known : is_known sign ≡ true) where
  quiet : IsQuiet s a b
  quiet = record { fits = fits; several = several; known = ap is_known here ∙ known }

  pub still_whole : Times → Nodes → (w : ℕ) → IsStill s (still a b w 0 sign)
  still_whole times nodes w = record {
    no_border = λ wider. fits.no_border;
    clear = λ n valid from upto narrow. nodes s a b n is quiet valid from upto;
    signs = λ t from upto. times s a b t is quiet from upto ∙ here;
  }
