-- Branches over which Rules 1b and 2 were taken are the same ones.
use Rattle.std.proofs.Common.{List, [], ◌∙◌}
use Rattle.cip_rank.specs.declared.rules.Rules.{Rules}
use Rattle.cip_mol.specs.declared.labels.outcome.Rule.TheVariants.{R1b, R2}
use Rattle.cip_branches.specs.Deciding.{Branched}
use Rattle.cip_branches.proofs.lemmas.taken.Kept.{kept_on}
use Rattle.cip_digraph.specs.declared.nodes.NodeData.{NodeData}
use Rattle.cip_rules.specs.Taking.{AreSame}
use Rattle.cip_rules.proofs.lemmas.TakenSteps.{same_branches}
use Rattle.cip_constitution.specs.Alike.{TakesBoth}

pub same_both : (begin : Branched) (rules : Rules) (all : List NodeData) (now : Branched) → TakesBoth begin rules all now
    → AreSame begin now
same_both begin rules all now takes =
    let one = same_branches begin _ R1b [] takes.mid [] takes.distances.takes in
    let two = same_branches takes.mid _ R2 [] now [] takes.masses.takes in
    record {
      kept = kept_on begin.layers takes.mid.layers now.layers one.kept two.kept;
      front = two.front ∙ one.front;
      end = two.end ∙ one.end;
      count = two.count ∙ one.count;
    }
