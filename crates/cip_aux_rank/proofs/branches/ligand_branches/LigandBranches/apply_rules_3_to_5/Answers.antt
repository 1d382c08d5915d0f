use Rattle.std.proofs.Common.{◌≡◌, ◌∷◌, [], true, length, sym, ap, subst, arith}
use Rattle.cip_branches.specs.Deciding.{AreFollowed, Branched}
use Rattle.cip_partition.specs.Keys.{AreKeyed}
use Rattle.cip_branches.specs.Standing.{node_in}
use Rattle.cip_digraph.specs.digraph.Telling.{node_at}
use Rattle.cip_digraph.specs.rules.Orders.{rule_2}
use Rattle.cip_mol.specs.declared.labels.outcome.Rule.TheVariants.{R1a, R1b, R2}
use Rattle.cip_rules.specs.Deciding.{AreDecidedBy}
use Rattle.cip_rules.specs.DescriptorMap.{AreDescriptorsOf}
use Rattle.cip_aux_rank.specs.LigandBranches.{LigandBranches, described_by, seen_at}
use Rattle.cip_aux_rank.proofs.lemmas.Configured.{ordered_by}
use Rattle.cip_rules.specs.Taking.{AreSame}
use Rattle.cip_aux_rank.proofs.branches.ligand_branches.LigandBranches.apply_rules_3_to_5.Goals as goal

pub returns-clause-decided : goal.returns-clause-decided
returns-clause-decided g c = λ sight node begin descriptor within is undone descriptors.
    let now_is : c.self.inside.branches ≡ c.args.self.now.now = ap (λ (ligand_branches : LigandBranches). ligand_branches.now) c.self.view_is in
    let old = c.args.self.now.now in
    let count = length c.args.self.now.tops in
    let seen = seen_at sight node descriptor in
    let named = node_at sight.nodes in
    ordered_by sight node c.args.self.now.tops begin within old is.placed descriptor c.decide_configuration.new.pairs
    c.decide_configuration.new.turned
    (c.decide_configuration.ensures.decided seen named (node_in named old) count begin within
    (subst (λ (b : Branched). AreDecidedBy seen true named (node_in named old) count begin (R1a ∷ R1b ∷ R2 ∷ [])
    (rule_2 seen seen.height) b c.args.requested.now) (sym now_is) ((is.decided descriptor).stands undone))
    (subst (AreDescriptorsOf named (described_by descriptor) (g.M.DescriptorMap.descriptors c.args.descriptors.now)) (sym now_is) descriptors))

pub decide_configuration-requires-clause-followed : goal.decide_configuration-requires-clause-followed
decide_configuration-requires-clause-followed g c =
    subst AreFollowed (sym (ap (λ (ligand_branches : LigandBranches). ligand_branches.now) c.self.view_is)) c.requires.followed

pub decide_configuration-requires-clause-keyed : goal.decide_configuration-requires-clause-keyed
decide_configuration-requires-clause-keyed g c =
    subst (λ (b : Branched). AreKeyed (length (g.M.DescriptorMap.descriptors c.args.descriptors.now)) b.layers.place_tree)
    (sym (ap (λ (ligand_branches : LigandBranches). ligand_branches.now) c.self.view_is)) c.requires.keyed

pub decide_configuration-requires-clause-room : goal.decide_configuration-requires-clause-room
decide_configuration-requires-clause-room g c =
    let place_parents = ap (λ (ligand_branches : LigandBranches). length ligand_branches.now.layers.place_tree.place_parents) c.self.view_is in
    let bound = ap (λ (ligand_branches : LigandBranches). ligand_branches.bound) c.self.view_is in
    let readings = c.self.invariant.readings in
    let room = c.requires.room in
    omega (arith, place_parents, bound, readings, room)

pub returns-clause-tops : goal.returns-clause-tops
returns-clause-tops g c = ap (λ (ligand_branches : LigandBranches). ligand_branches.tops) c.self.view_is

pub returns-clause-bound : goal.returns-clause-bound
returns-clause-bound g c = ap (λ (ligand_branches : LigandBranches). ligand_branches.bound) c.self.view_is

pub returns-clause-same : goal.returns-clause-same
returns-clause-same g c =
    subst (λ (ligand_branches : LigandBranches). AreSame ligand_branches.now c.decide_configuration.new.branches) c.self.view_is
    c.decide_configuration.ensures.same

pub decide_configuration-requires-clause-len : goal.decide_configuration-requires-clause-len
decide_configuration-requires-clause-len g c = c.requires.len
