-- Ligands of a root tie exactly where their branches are the same tree, and a lone pair ties with nothing.
use Rattle.std.proofs.Common.{◌≡◌, ℕ, Bool, true, false, cond, ◌↔◌, refl, sym, ap, ◌∙◌, arith}
use Rattle.std.specs.Prelude.{None, Some}
use Rattle.std.specs.declared.option.Option.{Option}
use Rattle.cip_digraph.specs.declared.decisions.decision.Decision.{Decision}
use Rattle.cip_digraph.specs.digraph.Digraph.{Node}
use Rattle.cip_digraph.specs.graph.DrawnGraph.{graph_of}
use Rattle.cip_digraph.specs.rings.Positions.{positions_of}
use Rattle.cip_digraph.specs.rules.Decisions.{order}
use Rattle.cip_digraph.specs.rules.Orders.{Seen}
use Rattle.cip_digraph.specs.units.Ranked.{is_tie}
use Rattle.cip_digraph.proofs.lemmas.tree.Branches.{ligands_end}
use Rattle.cip_digraph.proofs.lemmas.bonds.Sound.{drawn_sound}
use Rattle.cip_digraph.proofs.lemmas.ties.SameFromTie.{same_from_tie}
use Rattle.cip_digraph.proofs.lemmas.ties.TieFromSame.{tie_from_same}
use Rattle.cip_digraph.proofs.lemmas.ties.Turned.{tie_turned}
use Rattle.cip_laws.specs.DrawnOutcomes.{descriptor_in}
use Rattle.cip_laws.specs.TieLaw.{TiesAreSameTrees, LonePairsTieWithNothing}
use Rattle.cip_symmetry.proofs.lemmas.lists.Among.{among_all}

none_by : (one other : Option Decision) → is_tie one ≡ is_tie other → one ≡ None → other ≡ None
none_by one None e none = refl
none_by one (Some decision) e none =
    let bad : true ≡ false = sym (ap is_tie none) ∙ e in
    let worse : ◌≡◌ {A = ℕ} 1 0 = ap (λ b. cond b 1 0) bad in absurd (omega (arith, worse))

-- the last rule turned has the same ties
as_turned : (seen : Seen Node) (r_first : Bool) (a b : Node)
    → (order seen true a b ≡ None) ↔ (order seen r_first a b ≡ None)
as_turned seen true a b = (λ e. e, λ e. e)
as_turned seen false a b = (
  none_by (order seen true a b) (order seen false a b) (tie_turned seen a b),
  none_by (order seen false a b) (order seen true a b) (sym (tie_turned seen a b)),
)

pub ties_are_same_trees : TiesAreSameTrees
ties_are_same_trees rules drawing root r_first one other sound lt among_one among_other =
    let ends =
    ligands_end (graph_of drawing) (positions_of (graph_of drawing)) root (drawn_sound drawing sound) lt rules
    (descriptor_in rules drawing) in
    let turned = as_turned _ r_first one other in (
      λ e. same_from_tie _ one other (turned.1 e),
      λ same. turned.0
          (tie_from_same _ one other (among_all _ one _ ends among_one) (among_all _ other _ ends among_other) same),
    )

pub lone_pairs_tie_with_nothing : LonePairsTieWithNothing
lone_pairs_tie_with_nothing by ligand =
    (λ e. let bad : false ≡ true = ap is_tie e in cc, λ e. let bad : false ≡ true = ap is_tie e in cc)
