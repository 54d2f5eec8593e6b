use Rattle.std.proofs.Common.{rules, List, ℕ, string_bytes, sym, subst}
use Rattle.finder_c.specs.Layout.{BeginWithText}
use Rattle.finder_c.proofs.Reading.{all_read, is_none, is_some, no_parts, one_more, text_once}
use Rattle.finder_c.proofs.layout.words_of_bytes.Goals as goal

pub returns-clause-words : goal.returns-clause-words
returns-clause-words c =
    all_read BeginWithText string_bytes c.args.bytes.now c.loop-rest.words.items c.loop-rest.rest.now (is_none c.loop-rest.rest.now (search rules)) c.loop-rest.invariant

pub returns-in-None-clause-none : goal.returns-in-None-clause-none
returns-in-None-clause-none c =
    no_parts BeginWithText string_bytes c.args.bytes.now c.loop-rest.words.items c.loop-rest.rest.now
    (is_some c.loop-rest.rest.now (search rules)) c.in-None.ensures.none c.loop-rest.invariant

pub loop-rest-preserved : goal.loop-rest-preserved
loop-rest-preserved c =
    let begin = subst (λ (text : List ℕ). BeginWithText c.loop-rest.rest.now text c.in-Some.later.now) (sym c.in_ok-from_str-in-Some.ensures.ok) c.in-Some.ensures.cut in
    rw (c.in_ok-push-in-Some.ensures.items)
    (one_more BeginWithText string_bytes c.args.bytes.now c.loop-rest.words.items c.loop-rest.rest.now c.in_ok-from_str-in-Some.field-0 c.in-Some.later.now
    (text_once c.loop-rest.rest.now) (is_some c.loop-rest.rest.now (search rules)) begin c.loop-rest.invariant)
