use Rattle.steal_pool.proofs.Beginning.{links_ok, read_links}
use Rattle.steal_pool.proofs.making.link_pair.Goals as goal

pub returns : goal.returns
returns g c = record {
  links = links_ok c.keep_stealer.result _ _ c.keep_stealer.ensures
      (read_links c.args.seats.now c.args.i c.args.j c.index-seats-j.result c.index-seats-i.result c.lend_stealer.new.self c.keep_stealer.new.self c.in_ok-stealer.stealer c.requires.inside.0 c.requires.inside.1 c.in_ok-stealer.ensures.made c.in_ok-stealer.ensures.stealer);
}
