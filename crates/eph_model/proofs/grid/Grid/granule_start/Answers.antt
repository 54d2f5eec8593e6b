use Rattle.eph_model.proofs.GridTimes.{passed_fits, passed_narrow, time_fits, time_kept}
use Rattle.eph_model.proofs.grid.Grid.granule_start.Goals as goal

pub overflow_mul-result : goal.overflow_mul-result
overflow_mul-result c = let g = c.args.self in passed_fits g.start c.args.index g.seconds g.count g.early g.late g.within c.requires

pub overflow_cast-result : goal.overflow_cast-result
overflow_cast-result c = let g = c.args.self in passed_narrow g.start c.args.index g.seconds g.count g.early g.late g.within c.requires

pub overflow_add-result : goal.overflow_add-result
overflow_add-result c = let g = c.args.self in time_fits g.start c.args.index g.seconds g.count g.early g.late g.within c.requires

pub returns : goal.returns
returns c = let g = c.args.self in time_kept g.start c.args.index g.seconds g.count g.early g.late g.within c.requires
