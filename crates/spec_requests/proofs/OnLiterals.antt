-- What a proof unfolds to compute requests at words that are written out.
use Rattle.std.specs.Prelude.{⊤}
use Rattle.clap.proofs.OnLiterals.{clap_on_literals}
use Rattle.spec_times.specs.Ticks.{tick_of}
use Rattle.spec_requests.specs.Names.{command_of, kind_of, observer_of, frame_of, axis_of, dir_of, relation_of, cut_of, layout_of, tick_of_word}
use Rattle.spec_requests.specs.Options.{number_of, decimal_of, instant_of, bad_option, signed_of, at_comma, quad_of, bad_in_set, bad_in_scalar}
use Rattle.spec_requests.specs.Commands.{command_rules, is_refused, values_in, files_in}
use Rattle.spec_requests.specs.Requests.{ask_of, values_text, search_of, search_by, set_search_by, search_of_set, set_of, plan_of, scalar_of, scalar_by, bad_word, text_of, text_by, request_of}

unfoldable pub requests_on_literals : ⊤
unfolding clap_on_literals tick_of command_of kind_of observer_of frame_of axis_of dir_of relation_of cut_of layout_of tick_of_word number_of decimal_of instant_of bad_option signed_of at_comma quad_of bad_in_set bad_in_scalar command_rules is_refused values_in files_in ask_of values_text search_of search_by set_search_by search_of_set set_of plan_of scalar_of scalar_by bad_word text_of text_by request_of
requests_on_literals = tt
