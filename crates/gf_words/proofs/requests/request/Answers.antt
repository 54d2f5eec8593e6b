use Rattle.std.proofs.Common.{◌∙◌, ap, inr}
use Rattle.spec_requests.specs.Names.{command_of}
use Rattle.gf_words.proofs.Asking.{asked_if, command_asks, no_words, refused_if}
use Rattle.gf_words.proofs.requests.request.Goals as goal

pub returns-in-empty-clause-refused : goal.returns-in-empty-clause-refused
returns-in-empty-clause-refused c = inr (no_words c.args.words.now c.in-empty.len_below)

pub returns-in-Some : goal.returns-in-Some
returns-in-Some c =
    let known = command_asks c.args.words.now c.first-item.result _ c.in-len1-up.len_at_least c.first-item.is
    (c.in-Some.ensures ∙ ap command_of c.deref.ensures) in
    record {
      asked = asked_if _ _ c.request_of_command.result known c.request_of_command.ensures;
      refused = refused_if _ _ c.request_of_command.result known c.request_of_command.ensures;
    }

pub returns-in-None-clause-refused : goal.returns-in-None-clause-refused
returns-in-None-clause-refused c =
    inr (command_asks c.args.words.now c.first-item.result _ c.in-len1-up.len_at_least c.first-item.is
    (c.in-None.ensures ∙ ap command_of c.deref.ensures))
