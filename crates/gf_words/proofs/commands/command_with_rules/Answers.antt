use Rattle.std.proofs.Common.{[], ◌++◌, List, ◌∙◌, ap, map, sym}
use Rattle.std.proofs.lemmas.List.{map-append}
use Rattle.clap.specs.Walk.{Rule}
use Rattle.clap.specs.Simple.{app_of}
use Rattle.spec_requests.specs.declared.request.Named.{Named}
use Rattle.spec_requests.specs.Names.{Text}
use Rattle.spec_requests.specs.Commands.{command_rules, command_with, option_rule, options_of, places_of}
use Rattle.gf_words.specs.Commands.{with_rules}
use Rattle.gf_words.proofs.Rules.{made_along, more_rules}
use Rattle.gf_words.proofs.commands.command_with_rules.Goals as goal

pub returns : goal.returns
unfolding command_rules
returns c =
    let firsts = c.options_but_certificate.result.now in
    let lasts = c.certificate_options.result.now in
    let bare = app_of c.bare_command-command.result in
    made_along app_of c.with_arguments.result _ _
    (ap (with_rules (places_of c.args.name))
    (c.in_ok-command-2.ensures
    ∙ ap (with_rules (map option_rule lasts)) c.in_ok-command.ensures
    ∙ more_rules (map option_rule firsts) (map option_rule lasts) bare
    ∙ ap (λ (rules : List Rule). with_rules rules bare) (sym (map-append option_rule firsts lasts))
    ∙ ap (λ (options : List Named). with_rules (map option_rule options) bare) (ap (λ (options : List Named). firsts ++ options) c.certificate_options.ensures ∙ sym c.options_but_certificate.ensures)
    ∙ ap (with_rules (map option_rule (options_of c.args.name)))
    (c.bare_command-command.ensures ∙ ap (λ (name : Text). command_with name []) c.command_name-text.ensures)))
    c.with_arguments.ensures
