-- The leaves of a search fit into the lines of a certificate.
use Rattle.std.proofs.Common.{◌≡◌, ◌+◌, ◌*◌, ◌^◌, ◌<◌, ◌≤◌, ℕ, List, [], ◌∷◌, All, length, Ok, ℤ, pos, negsuc, ◌+ℤ◌, ◌*ℤ◌, ◌≤ℤ◌, arith}
use Rattle.std.specs.Prelude.{unsigned_abs}
use Rattle.std.proofs.lemmas.Int.{ints}
use Rattle.std.proofs.lemmas.List.Elements.{All-head, All-tail}
use Rattle.std.proofs.lemmas.Nat.{mul-le}
use Rattle.spec_text.specs.Printed.{IsLine}
use Rattle.spec_ephemeris.specs.declared.limits.TheConstants.{FIRST_TICK, LAST_TICK, LONGEST_TICKS, MAX_BLOCKS}
use Rattle.spec_ephemeris.specs.Ephemeris.{Ephemeris, IsEphemeris, end_of}
use Rattle.spec_trees.specs.declared.tree.Leaf.{Leaf}
use Rattle.spec_trees.specs.declared.tree.Node.{Node}
use Rattle.spec_trees.specs.Tree.{IsLeaf, IsValid, leaf_count, leaves}
use Rattle.spec_trees.proofs.Covering.{leaves_are}
use Rattle.spec_searches.specs.Found.{rules}
use Rattle.spec_searches.specs.Search.{IsSearch, Search}
use Rattle.spec_searches.proofs.Parts.{parts_are, rules_are_sound, split_may}
use Rattle.spec_certificates.specs.Checks.{checked}
use Rattle.spec_certificates.specs.Places.{IsCutting}
use Rattle.spec_certificates.specs.Shapes.{AllFit, FitsLine}
use Rattle.spec_certificates.specs.Texts.{certificate}
use Rattle.spec_certificates.proofs.Written.{short, written}
use Rattle.gf_cert.specs.Search.{cutting}

-- ---- times of an ephemeris have at most 15 digits
times_small : (start t : ℤ) (blocks : ℕ) (length : ℤ) → FIRST_TICK ≤ℤ start → start ≤ℤ LAST_TICK → blocks ≤ MAX_BLOCKS
    → pos 1 ≤ℤ length → length ≤ℤ LONGEST_TICKS → start ≤ℤ t → t ≤ℤ (start +ℤ (pos blocks *ℤ length))
    → unsigned_abs t < 10 ^ 15
times_small start t blocks (pos length) first last few some long from to =
    let all : blocks * length ≤ 16384 * 5529600000 = mul-le blocks length 16384 5529600000 few (omega (arith, ints, long)) in
    omega (arith, ints, first, last, from, to, all)
times_small start t blocks (negsuc length) first last few some long from to = absurd (omega (arith, ints, some))

time_fits : (e : Ephemeris) → IsEphemeris e → (t : ℤ) → e.start ≤ℤ t → t ≤ℤ end_of e → unsigned_abs t < 10 ^ 15
time_fits e is t from to =
    times_small e.start t e.blocks e.header.block_seconds is.start.0 is.start.1 is.few is.header.shortest is.header.longest from to

module _ (s : Search) (is : IsSearch s) where
  pub is_cutting_of : IsCutting (cutting s)
  is_cutting_of = record {
    sound = rules_are_sound s is.view;
    split = split_may s;
    cut =
        λ n valid may. let are =
        parts_are s is.view n valid may in record { cuts = are.0; left = are.1; right = are.2 };
  }

  module _ (few : s.depth ≤ 40) where
    leaf_fits : (l : Leaf) → IsLeaf (rules s) l → FitsLine l
    leaf_fits l leaf =
        let inside = leaf.valid.inside in
        let from = leaf.valid.from in
        let to = leaf.valid.to in
        record {
          a = time_fits s.view.ephemeris is.view.checked l.node.a from (omega (arith, ints, inside, to));
          b = time_fits s.view.ephemeris is.view.checked l.node.b (omega (arith, ints, inside, from)) to;
          depth = omega (arith, leaf.valid.depth, few);
        }

    all_fit : (ls : List Leaf) → All (IsLeaf (rules s)) ls → AllFit ls
    all_fit [] are = tt
    all_fit (l ∷ ls) are =
        (leaf_fits l (All-head (IsLeaf (rules s)) l ls are), all_fit ls (All-tail (IsLeaf (rules s)) l ls are))

    module _ (root : Node) (valid : IsValid (rules s) root) where
      leaves_fit : AllFit (leaves (rules s) root)
      leaves_fit = all_fit (leaves (rules s) root) (leaves_are (rules s) (rules_are_sound s is.view) root valid)

      module _ (request : List ℕ) (fewer : leaf_count (rules s) root ≤ 4194304) where
        pub accepted : IsLine request
            → checked (cutting s) root request (certificate request (leaves (rules s) root)) ≡ Ok (leaves (rules s) root)
        accepted line = written (cutting s) is_cutting_of root valid request line leaves_fit (omega (arith, fewer))

        pub is_short : length request ≤ 4096 → length (certificate request (leaves (rules s) root)) ≤ 268435456
        is_short line = short request (leaves (rules s) root) line leaves_fit fewer
