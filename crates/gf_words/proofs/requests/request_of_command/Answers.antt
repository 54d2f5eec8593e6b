use Rattle.std.proofs.Common.{map, string_bytes}
use Rattle.spec_requests.specs.Commands.{command_rules}
use Rattle.gf_words.proofs.Answering.{words_answer, words_refused}
use Rattle.gf_words.proofs.requests.request_of_command.Goals as goal

pub returns-in-Ok : goal.returns-in-Ok
returns-in-Ok c =
    words_answer (command_rules c.args.name) c.args.name (map string_bytes c.args.words.now)
    c.in-Ok.matches c.request_of_matches.result c.in-Ok.ensures.read c.request_of_matches.ensures

pub returns-in-Err : goal.returns-in-Err
returns-in-Err c =
    words_refused (command_rules c.args.name) c.args.name (map string_bytes c.args.words.now)
    c.in-Err.fault c.in-Err.ensures.refused
