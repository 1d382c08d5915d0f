use Rattle.std.proofs.Common.{◌++◌, flat_map, length-append, arith}
use Rattle.std.proofs.lemmas.Grind.{common_steps}
use Rattle.cip_constitution.specs.Pairs.{pair_with}
use Rattle.cip_constitution.proofs.lemmas.followed.Pairs.{first_room}
use Rattle.cip_constitution.proofs.pairs.pair_with_each.Goals as goal

pub pair_with-requires : goal.pair_with-requires
pair_with-requires c =
    let old = c.args.pairs.now.items in
    let all = flat_map (pair_with c.args.a) c.args.ligands.now in
    let sum = length-append old all in
    let room = c.requires.room in
    let wide = c.loop-rest.invariant.room in
    record {
      room = first_room (pair_with c.args.a) c.loop-rest.rest.now c.loop-rest.pairs.items (old ++ all) _ _
          c.in-len1-up.len_at_least c.loop-rest.invariant.so_far (omega (arith, sum, room, wide));
    }

pub loop-rest-preserved : goal.loop-rest-preserved
loop-rest-preserved c = grind (arith, common_steps)

pub returns-clause-pairs : goal.returns-clause-pairs
returns-clause-pairs c = grind (arith, common_steps)
