use Rattle.std.proofs.Common.{◌≤◌, ◌+◌, ◌-◌, take, drop, length, vec_capacity, subst, arith}
use Rattle.cip_mol.specs.declared.site.Ligand.{Ligand}
use Rattle.std.proofs.lemmas.Grind.{common_steps}
use Rattle.cip_constitution.specs.Pairs.{pairs_at, pairs_of}
use Rattle.cip_constitution.proofs.lemmas.followed.Pairs.{pairs_room}
use Rattle.cip_constitution.proofs.pairs.ligand_pairs.Goals as goal

pub pair_with_each-requires : goal.pair_with_each-requires
pair_with_each-requires c =
    let room = c.requires.room in
    let wide = c.loop-rest.invariant.room in
    record {
      room = subst (λ (one : Ligand). length c.loop-rest.pairs.items + length (pairs_at (take (length c.loop-rest.rest.now - 1) (drop 1 c.loop-rest.rest.now)) one)
          ≤ vec_capacity c.loop-rest.pairs) c.in-Vertex.is
          (pairs_room c.loop-rest.rest.now c.loop-rest.pairs.items (pairs_of c.args.ligands.now) _ _
          c.in-len1-up.len_at_least c.loop-rest.invariant.so_far (omega (arith, room, wide)));
    }

pub loop-rest-preserved : goal.loop-rest-preserved
loop-rest-preserved c = grind (arith, common_steps)

pub returns-clause-pairs : goal.returns-clause-pairs
returns-clause-pairs c = grind (arith, common_steps)

pub loop-rest-preserved-in-Vertex : goal.loop-rest-preserved-in-Vertex
loop-rest-preserved-in-Vertex c = grind (arith, common_steps)
