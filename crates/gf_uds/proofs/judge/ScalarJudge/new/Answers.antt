use Rattle.std.proofs.Common.{◌<◌, arith}
use Rattle.std.proofs.lemmas.Int.{ints}
use Rattle.gf_uds.proofs.Rules.{is_sound}
use Rattle.gf_uds.proofs.judge.ScalarJudge.new.Goals as goal

pub invariant_of-result : goal.invariant_of-result
invariant_of-result g c =
    let s = c.args.scalar in
    let some : 0 < c.unsigned_abs.result = omega (arith, ints, c.requires, c.unsigned_abs.ensures) in
    record {
      some_width = some;
      sound = is_sound (g.L.Law.scalar s.law) s.first s.last (record { dir = c.args.want; width = c.unsigned_abs.result; depth = c.args.depth; cut = c.args.cut })
          c.law_holds.ensures s.from s.to s.low s.high some;
    }
