use Rattle.std.proofs.Common.{◌∙◌}
use Rattle.still_judge.specs.Manners.{rules_in}
use Rattle.still_judge.proofs.Cutting.{given_out}
use Rattle.still_judge.proofs.Manners.{may_in, parts_in, valid_in}
use Rattle.still_judge.proofs.judging.StillJudgeJudge.cut.Goals as goal

pub parts-requires : goal.parts-requires
parts-requires g c =
    let j = c.args.self.now in
    record {
      valid = valid_in j.manner j.search.now j.stills.now c.args.node c.requires.valid;
      may = may_in j.manner j.search.now j.stills.now c.args.node c.is_search.ensures c.requires.valid c.requires.split;
    }

pub returns : goal.returns
returns g c =
    let j = c.args.self.now in
    let same = c.parts.ensures ∙ parts_in j.manner j.search.now j.stills.now c.args.node in
    let cut = given_out (rules_in j.manner j.search.now j.stills.now) c.args.node c.parts.result j.sound c.requires.valid c.requires.split same in
    record { parts = cut.parts; cuts = cut.cuts; left = cut.left; right = cut.right }
