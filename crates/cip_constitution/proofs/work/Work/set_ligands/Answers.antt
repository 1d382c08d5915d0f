use Rattle.std.proofs.Common.{◌∙◌, List, length, ap, arith}
use Rattle.cip_mol.specs.declared.site.Ligand.{Ligand}
use Rattle.cip_constitution.specs.Pairs.{pairs_of}
use Rattle.cip_constitution.specs.declared.pairs.VertexPair.{VertexPair}
use Rattle.cip_constitution.proofs.lemmas.followed.Pairs.{few_pairs}
use Rattle.cip_constitution.proofs.work.Work.set_ligands.Goals as goal

pub ligand_pairs-requires : goal.ligand_pairs-requires
ligand_pairs-requires c =
    let few = few_pairs c.args.ligands.now c.as_slice.ensures.few in
    let are = ap (λ (xs : List Ligand). length (pairs_of xs)) c.as_slice.ensures.value in
    let room = c.self.invariant.pairs in
    record { room = omega (arith, few, room, are) }

pub invariant_of-self : goal.invariant_of-self
invariant_of-self c =
    let are = ap (λ (ps : List VertexPair). length ps) c.ligand_pairs.ensures.pairs
    ∙ ap (λ (xs : List Ligand). length (pairs_of xs)) c.as_slice.ensures.value in
    let few = few_pairs c.args.ligands.now c.as_slice.ensures.few in
    let room = c.self.invariant.pairs in
    let wide = c.ligand_pairs.ensures.room in
    record {
      branches = c.self.invariant.branches;
      tops = c.self.invariant.tops;
      pairs = omega (arith, room, wide);
      few = omega (arith, are, few);
      noted = c.self.invariant.noted;
      saved = c.self.invariant.saved;
      under = c.self.invariant.under;
    }
