use Rattle.std.proofs.Common.{◌∙◌, ap, map, string_bytes}
use Rattle.clap.specs.Faults.{is_simple_and_free}
use Rattle.gf_words.proofs.Answering.{is_simple, read_by, refused_by}
use Rattle.gf_words.proofs.requests.matches_of_words.Goals as goal

pub read_words-requires : goal.read_words-requires
read_words-requires c = ap is_simple_and_free c.in-Ok.ensures ∙ is_simple c.args.name

pub returns-in-Ok-clause-read : goal.returns-in-Ok-clause-read
returns-in-Ok-clause-read c = read_by _ _ (map string_bytes c.args.words.now) c.read_words.result c.in-Ok.ensures c.read_words.ensures.read

pub returns-in-Ok-clause-refused : goal.returns-in-Ok-clause-refused
returns-in-Ok-clause-refused c = refused_by _ _ (map string_bytes c.args.words.now) c.read_words.result c.in-Ok.ensures c.read_words.ensures.refused
