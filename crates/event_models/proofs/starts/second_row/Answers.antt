use Rattle.std.proofs.Common.{◌∙◌, ◌^◌, ◌-◌, ◌∷◌, pos, replicate, arith}
use Rattle.spec_numbers.specs.Numbers.{floor_div}
use Rattle.event_models.specs.Rows.{terms}
use Rattle.event_models.proofs.RowStarts.{second_t_made, second_u_made}
use Rattle.event_models.proofs.Steps.{kept58, kept60}
use Rattle.event_models.proofs.starts.second_row.Goals as goal

pub returns-in-First-clause-second : goal.returns-in-First-clause-second
returns-in-First-clause-second c =
    let l = c.args.line.now in
    let s = c.floor_shift.ensures.small in
    let t = c.floor_shift-in-First.ensures.small in
    let first = kept58 c.floor_shift.result (omega (arith, s)) ∙ c.floor_shift.ensures.equals ∙ (λ i. floor_div (kept60 l.middle c.requires.line.middle i) (2 ^ 18)) in
    let second = kept58 c.floor_shift-in-First.result (omega (arith, t)) ∙ c.floor_shift-in-First.ensures.equals ∙ (λ i. floor_div (kept60 l.slope c.requires.line.slope i) (2 ^ 18)) in
    rw c.in-First.is (second_t_made l c.linear_row.result (c.linear_row.ensures.numbers ∙ (λ i. first i ∷ second i ∷ replicate (terms - 2) (pos 0))) c.linear_row.ensures.error)

pub returns-in-Second-clause-second : goal.returns-in-Second-clause-second
returns-in-Second-clause-second c =
    let l = c.args.line.now in
    let s = c.floor_shift-in-Second.ensures.small in
    let t = c.floor_shift-in-Second-2.ensures.small in
    let first = kept58 c.floor_shift-in-Second.result (omega (arith, s)) ∙ c.floor_shift-in-Second.ensures.equals ∙ (λ i. floor_div (kept60 l.middle c.requires.line.middle i) (2 ^ 17)) in
    let second = kept58 c.floor_shift-in-Second-2.result (omega (arith, t)) ∙ c.floor_shift-in-Second-2.ensures.equals ∙ (λ i. floor_div (kept60 l.slope c.requires.line.slope i) (2 ^ 17)) in
    rw c.in-Second.is (second_u_made l c.linear_row-in-Second.result (c.linear_row-in-Second.ensures.numbers ∙ (λ i. first i ∷ second i ∷ replicate (terms - 2) (pos 0))) c.linear_row-in-Second.ensures.error)
