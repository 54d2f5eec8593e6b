use Rattle.std.proofs.Common.{refl}
use Rattle.std.specs.Fmt.{decimal, digits}
use Rattle.spec_requests.specs.Names.{axes, axis_name, axis_of, bodies, body_name, command_name, command_of, commands, cut_name, cut_of, cuts, dir_name, dir_of, dirs, frame_name, frame_of, frames, layout_of, layouts, observer_of, option_name, option_of, options, relation_name, relation_of, relations, tick_of_word, ticks}
use Rattle.spec_requests.proofs.NameLemmas.{kind_words, read_by_name}
use Rattle.spec_requests.proofs.laws.words_stand_for_one_thing.Goals as goal

pub returns : goal.returns
unfolding command_of option_of observer_of frame_of axis_of dir_of relation_of cut_of layout_of tick_of_word digits
returns c = record {
  commands = λ word x read. read_by_name command_name commands word x refl read;
  options = λ word x read. read_by_name option_name options word x refl read;
  kinds = kind_words;
  bodies = λ word x read. read_by_name body_name bodies word x refl read;
  frames = λ word x read. read_by_name frame_name frames word x refl read;
  axes = λ word x read. read_by_name axis_name axes word x refl read;
  dirs = λ word x read. read_by_name dir_name dirs word x refl read;
  relations = λ word x read. read_by_name relation_name relations word x refl read;
  cuts = λ word x read. read_by_name cut_name cuts word x refl read;
  layouts = λ word x read. read_by_name decimal layouts word x refl read;
  ticks = λ word x read. read_by_name decimal ticks word x refl read;
}
