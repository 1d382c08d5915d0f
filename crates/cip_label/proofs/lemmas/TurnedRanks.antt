-- What is decided with the last rule turned.
use Rattle.std.proofs.Common.{◌≡◌, ◌∙◌, true, false, cond, List, sym, ap}
use Rattle.std.specs.List.{list_any}
use Rattle.std.specs.declared.option.Option.{Option}
use Rattle.cip_digraph.specs.declared.decisions.decision.Decision.{Decision}
use Rattle.cip_mol.specs.declared.site.Ligand.{Ligand}
use Rattle.cip_label.specs.Pairwise.{decided_each, is_by_rule_5, turned_each}
use Rattle.cip_label.specs.BranchComparison.{Stands}

-- it is asked about anew where that rule decides between two
pub turned_anew : (standing : Stands) (ligands : List Ligand) (decided : List (Option Decision))
    → decided ≡ decided_each standing true ligands → list_any is_by_rule_5 decided ≡ true
    → turned_each standing ligands ≡ decided_each standing false ligands
turned_anew standing ligands decided are is =
    ap (λ b. cond b (decided_each standing false ligands) (decided_each standing true ligands))
    (ap (list_any is_by_rule_5) (sym are) ∙ is)
