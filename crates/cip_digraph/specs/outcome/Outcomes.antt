-- What is found of a unit, within a bound on the nodes of each of its digraphs. IUPAC 2013, P-91 to P-93 for the label;
-- the bound and its place before ties are own.
use Rattle.std.specs.Prelude.{ℕ, Bool, true, false, ◌&&◌, List, [], ◌∷◌, map, flat_map, length, nat_lt}
use Rattle.std.specs.List.{list_any}
use Rattle.cip_rank.specs.declared.rules.Rules.{Rules}
use Rattle.cip_mol.specs.declared.labels.descriptor.Sense.{Sense}
use Rattle.cip_mol.specs.declared.labels.outcome.Label as labels
use Rattle.cip_mol.specs.declared.labels.outcome.Outcome.{Outcome}
use Rattle.cip_mol.specs.declared.labels.outcome.Outcome.TheVariants.{Label, Tie, Over, NoGeometry}
use Rattle.cip_mol.specs.declared.site.Geometry.{Geometry}
use Rattle.cip_mol.specs.declared.site.Geometry.TheVariants.{Known, Unknown}
use Rattle.cip_mol.specs.declared.site.Site.{Site}
use Rattle.cip_mol.specs.declared.site.Unit as units
use Rattle.cip_digraph.specs.rings.Alternating.{is_in}
use Rattle.cip_digraph.specs.rules.Auxiliary.{root_at, auxiliary}
use Rattle.cip_digraph.specs.outcome.Deciding.{deciding_sphere}
use Rattle.cip_digraph.specs.units.Descriptors.{letter, reason_needed, all_ranks}
use Rattle.cip_digraph.specs.digraph.Digraph.{Node, is_real, digraph, real_node}
use Rattle.cip_digraph.specs.units.Ends.{End, ends_of, atoms_of}
use Rattle.cip_digraph.specs.graph.Graph.{Graph}
use Rattle.cip_digraph.specs.units.Ranked.{Root, has_tie}
use Rattle.cip_digraph.specs.digraph.View.{seen_from}

module _ (rules : Rules) (graph : Graph) (positions : List (List ℕ)) (all : List units.Unit) where
  -- a real node of an atom of some unit, whatever is known of its geometry
  abbrev pub is_in_unit : Node → Bool
  is_in_unit node = is_real node.kind && is_in node.vertex (flat_map (λ unit. atoms_of unit.site) all)

  -- an end in its own digraph, with the descriptors that are there
  abbrev pub end_root : End → Root Node
  end_root end = root_at rules graph positions (auxiliary rules graph positions all) (end.at ∷ []) end.ligands

  -- descriptors play no part in where an end is settled
  abbrev pub settled_in : End → ℕ
  settled_in end =
      deciding_sphere (seen_from rules graph positions (end.at ∷ []) (auxiliary rules graph positions all))
      (real_node end.at [])
      (end_root end).ligands is_in_unit

  -- the nodes up to the sphere in which it is settled, the root among them
  abbrev pub cost : End → ℕ
  cost end = length (digraph graph positions end.at (settled_in end))

  abbrev pub label_of : Site → Sense → List (Root Node) → labels.Label
  label_of site sense roots = record {
    letter = letter site sense roots;
    rule = (reason_needed roots).rule;
    sphere = (reason_needed roots).sphere;
    order = all_ranks roots;
  }

  abbrev pub known_outcome : ℕ → Site → Sense → Outcome
  known_outcome bound site sense =
      let roots = map end_root (ends_of site) in
      let labelled = Label (label_of site sense roots) in
      let within = elim (list_any has_tie roots) as (λ _. Outcome) [ true ↦ Tie | false ↦ labelled ] in
      elim (list_any (λ end. nat_lt bound (cost end)) (ends_of site)) as (λ _. Outcome) [ true ↦ Over | false ↦ within ]

  -- unknown geometry goes before the bound, and the bound before a tie
  unfoldable pub outcome_of : ℕ → units.Unit → Outcome
  outcome_of bound unit = by_geometry unit.geometry
    where
      by_geometry : Geometry → Outcome
      by_geometry (Unknown cause) = NoGeometry cause
      by_geometry (Known sense) = known_outcome bound unit.site sense
