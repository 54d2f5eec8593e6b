use Rattle.std.proofs.Common.{◌≡◌, ◌∙◌, to_z, of_z, w64}
use Rattle.std.proofs.lemmas.Int.{to_z-of_z}
use Rattle.std.specs.Int.{int_div_euclid}
use Rattle.spec_times.specs.Ticks.{second_of}
use Rattle.spec_times.proofs.Ticks.{second_within}
use Rattle.window_text.proofs.printing.second_of_time.Goals as goal

pub returns-clause-time : goal.returns-clause-time
returns-clause-time c =
    let result : to_z w64 (of_z w64 c.div_euclid.result) ≡ c.div_euclid.result = to_z-of_z w64 _ (record { sfits = c.div_euclid.type_inv }) in
    let time : to_z w64 (of_z w64 c.args.time) ≡ c.args.time = to_z-of_z w64 c.args.time c.ranges.time in
    let ticks : to_z w64 (of_z w64 c.from.result) ≡ c.from.result = to_z-of_z w64 _ (record { sfits = c.from.type_inv }) in
    let same : to_z w64 (of_z w64 c.div_euclid.result) ≡ second_of c.args.tick c.args.time =
    result ∙ c.div_euclid.ensures ∙ (λ i. int_div_euclid (time i) ((ticks ∙ c.from.ensures) i)) in
    rw same (second_within c.args.tick c.args.time c.requires.tick c.requires.time)
