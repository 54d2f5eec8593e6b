use Rattle.std.proofs.Common.{◌∙◌, Ok, ap, inr, sym}
use Rattle.spec_requests.specs.declared.request.Request.{Request}
use Rattle.spec_requests.specs.Requests.{of_search, set_of}
use Rattle.option_values.specs.Readings.{values_of}
use Rattle.gf_words.specs.Readings.{file_names_of}
use Rattle.gf_words.proofs.Filling.{set_bad, set_found}
use Rattle.gf_words.proofs.sets.set_of_target.Goals as goal

pub set_of_options-requires-clause-search : goal.set_of_options-requires-clause-search
set_of_options-requires-clause-search c =
    (set_found (values_of c.args.matches.now) (file_names_of c.args.matches.now) c.args.kind c.args.target c.read_references.result
    c.in-Ok.search c.in-Ok.references (record { kind_is = c.requires.kind; target_is = c.requires.target }) c.read_references.ensures
    c.in-Ok.ensures).0.0

pub set_of_options-requires-clause-references : goal.set_of_options-requires-clause-references
set_of_options-requires-clause-references c =
    (set_found (values_of c.args.matches.now) (file_names_of c.args.matches.now) c.args.kind c.args.target c.read_references.result
    c.in-Ok.search c.in-Ok.references (record { kind_is = c.requires.kind; target_is = c.requires.target }) c.read_references.ensures
    c.in-Ok.ensures).0.1

pub returns-in-Ok-set_of_options : goal.returns-in-Ok-set_of_options
returns-in-Ok-set_of_options c =
    let values = values_of c.args.matches.now in
    ap (of_search (λ find. Ok (set_of values find))) (set_found values (file_names_of c.args.matches.now) c.args.kind c.args.target
    c.read_references.result c.in-Ok.search c.in-Ok.references (record { kind_is = c.requires.kind; target_is = c.requires.target })
    c.read_references.ensures c.in-Ok.ensures).1
    ∙ ap (λ (r : Request). Ok r) (sym c.in-Ok-set_of_options.ensures)

pub returns-in-Err : goal.returns-in-Err
returns-in-Err c =
    let values = values_of c.args.matches.now in
    inr (ap (of_search (λ find. Ok (set_of values find))) (set_bad values (file_names_of c.args.matches.now) c.args.kind c.args.target
    c.read_references.result c.in-Err.option (record { kind_is = c.requires.kind; target_is = c.requires.target })
    c.read_references.ensures c.in-Err.ensures))
