use Rattle.std.proofs.Common.{◌≡◌, ◌<◌, ℕ, zero, suc, Some, refl, arith}
use Rattle.std.specs.Fmt.{digits}
use Rattle.spec_ephemeris.specs.declared.body.Body.TheVariants as body
use Rattle.spec_bodies.specs.declared.frame.Frame.TheVariants as frame
use Rattle.spec_events.specs.declared.dir.Dir.TheVariants as dir
use Rattle.spec_trees.specs.declared.cuts.CutRule.TheVariants as cut
use Rattle.spec_kinds.specs.declared.kind.Kind.TheVariants as kind
use Rattle.spec_requests.specs.declared.request.Named.TheVariants as opt
use Rattle.spec_requests.specs.declared.request.Relation.TheVariants as relation
use Rattle.spec_requests.specs.declared.tables.CommandName.TheVariants as command
use Rattle.spec_requests.specs.Names.{axis_name, axis_of, command_of, cut_of, dir_of, frame_of, kind_of, layout_of, observer_of, option_of, relation_of, tick_of_word}
use Rattle.spec_requests.proofs.laws.names_are_read_back.Goals as goal

-- ---- each name of each table is looked up

axes_read : (x : ℕ) → x < 3 → axis_of (axis_name x) ≡ Some x
unfolding axis_of
axes_read zero below = refl
axes_read (suc zero) below = refl
axes_read (suc (suc zero)) below = refl
axes_read (suc (suc (suc x))) below = absurd (omega arith)

pub returns : goal.returns
unfolding command_of option_of kind_of observer_of frame_of dir_of relation_of cut_of layout_of tick_of_word digits
returns c = record {
  commands = elim [ command.Find ↦ refl | _ ↦ refl ];
  options = elim [ opt.Kind ↦ refl | _ ↦ refl ];
  kinds = elim [ kind.Coord ↦ refl | _ ↦ refl ];
  bodies = elim [ body.Mercury ↦ refl | _ ↦ refl ];
  frames = elim [ frame.Eq ↦ refl | frame.Ecl ↦ refl ];
  axes = axes_read;
  dirs = elim [ dir.Any ↦ refl | _ ↦ refl ];
  relations = elim [ relation.Less ↦ refl | _ ↦ refl ];
  cuts = elim [ cut.Half ↦ refl | cut.Third ↦ refl ];
  layouts = refl;
  seconds = refl;
  milliseconds = refl;
}
