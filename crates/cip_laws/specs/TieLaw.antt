-- Ties on whole digraphs: what no rule distinguishes is the same tree. IUPAC 2013, P-92.1; that a lone pair ties with
-- nothing is P-93.2.
use Rattle.std.specs.Prelude.{◌≡◌, ◌≢◌, ◌<◌, ◌↔◌, ℕ, Bool, [], ◌∷◌, length, None}
use Rattle.std.specs.declared.option.Option.{Option}
use Rattle.cip_rank.specs.declared.rules.Rules.{Rules}
use Rattle.cip_mol.specs.Bonds as bonds
use Rattle.cip_mol.specs.Drawing.{Drawing}
use Rattle.cip_digraph.specs.declared.decisions.decision.Decision.{Decision}
use Rattle.cip_digraph.specs.digraph.Digraph.{Node, real_node}
use Rattle.cip_digraph.specs.digraph.SameBranch.{SameBranch}
use Rattle.cip_digraph.specs.graph.DrawnGraph.{graph_of}
use Rattle.cip_digraph.specs.rules.Decisions.{order}
use Rattle.cip_digraph.specs.units.Ranked.{ligand_order}
use Rattle.cip_laws.specs.DrawnOutcomes.{digraph_in}
use Rattle.cip_symmetry.specs.Images.{Among}

-- two ligands of a root tie, with the last rule as it is and turned, exactly where their branches are the same
abbrev pub TiesAreSameTrees : Type 0
TiesAreSameTrees = (rules : Rules) (drawing : Drawing) (root : ℕ) (r_first : Bool) (one other : Node) →
    bonds.IsSound (length drawing.atoms) drawing.bonds → root < length (graph_of drawing).vertices →
    Among one ((digraph_in rules drawing root).children (real_node root [])) →
    Among other ((digraph_in rules drawing root).children (real_node root [])) →
    (order (digraph_in rules drawing root) r_first one other ≡ None)
    ↔ SameBranch (digraph_in rules drawing root) one other

-- whatever the order of branches
abbrev pub LonePairsTieWithNothing : Type 0
LonePairsTieWithNothing = (by : Node → Node → Option Decision) (ligand : Node) →
    (ligand_order by [] (ligand ∷ []) ≢ None) × (ligand_order by (ligand ∷ []) [] ≢ None)
