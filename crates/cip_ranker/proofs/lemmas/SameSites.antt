-- What settles a root doesn't rest on the senses of units: units at the same sites settle it alike.
use Rattle.std.proofs.Common.{◌≡◌, ◌<◌, ℕ, List, [], ◌∷◌, ◌++◌, ◌&&◌, map, length, flat_map, refl, sym, ap, ◌∙◌, subst}
use Rattle.cip_rank.specs.declared.rules.Rules.{Rules}
use Rattle.cip_mol.specs.declared.site.Ligand.{Ligand}
use Rattle.cip_mol.specs.declared.site.Unit as units
use Rattle.cip_arena.specs.Growth.{Growth}
use Rattle.cip_digraph.specs.digraph.Digraph.{digraph, is_real, real_node}
use Rattle.cip_digraph.specs.digraph.View.{seen_from}
use Rattle.cip_digraph.specs.graph.Graph.{Graph}
use Rattle.cip_digraph.specs.outcome.Deciding.{are_alike, deciding_sphere}
use Rattle.cip_digraph.specs.outcome.Outcomes.{end_root, is_in_unit, settled_in}
use Rattle.cip_digraph.specs.rings.Alternating.{is_in}
use Rattle.cip_digraph.specs.rules.Auxiliary.{auxiliary}
use Rattle.cip_digraph.specs.rules.EarlyOrder.{are_alike_within, differ_within, seen_at}
use Rattle.cip_digraph.specs.rules.Orders.{rule_1a, rule_1b, rule_2}
use Rattle.cip_digraph.specs.units.Ends.{End, atoms_of, end_at}
use Rattle.cip_digraph.specs.units.Ranked.{some_pair}
use Rattle.cip_constitution.specs.Settling.{SettledAs}
use Rattle.cip_constitution.specs.declared.steps.settling.Settled.{Settled}
use Rattle.cip_constitution.specs.declared.steps.settling.Settled.TheVariants.{Ordered, Tied, Whole, Over}
use Rattle.cip_label.specs.Settings.{setting_of}
use Rattle.cip_ranker.specs.Desks.{settled_by}

atoms_by_sites : (all : List units.Unit) → flat_map (λ (unit : units.Unit). atoms_of unit.site) all
    ≡ flat_map atoms_of (map (λ (unit : units.Unit). unit.site) all)
atoms_by_sites [] = refl
atoms_by_sites (unit ∷ others) = ap (λ atoms. atoms_of unit.site ++ atoms) (atoms_by_sites others)

module _ (rules : Rules) (graph : Graph) (positions : List (List ℕ)) (all others : List units.Unit)
    (same : map (λ (unit : units.Unit). unit.site) others ≡ map (λ (unit : units.Unit). unit.site) all) where
  atoms_stay : flat_map (λ (unit : units.Unit). atoms_of unit.site) others
      ≡ flat_map (λ (unit : units.Unit). atoms_of unit.site) all
  atoms_stay = atoms_by_sites others ∙ ap (flat_map atoms_of) same ∙ sym (atoms_by_sites all)

  unit_stays : is_in_unit rules graph positions others ≡ is_in_unit rules graph positions all
  unit_stays = λ i node. is_real node.kind && is_in node.vertex (atoms_stay i)

  sphere_stays : (end : End) → settled_in rules graph positions others end ≡ settled_in rules graph positions all end
  unfolding rule_1a rule_1b rule_2
  sphere_stays end =
      ap (deciding_sphere (seen_from rules graph positions (end.at ∷ []) (auxiliary rules graph positions all))
      (real_node end.at [])
      (end_root rules graph positions all end).ligands) unit_stays

  differ_stays : (end : End) (sphere : ℕ)
      → differ_within rules graph positions others end sphere ≡ differ_within rules graph positions all end sphere
  unfolding rule_1a
  differ_stays end sphere = refl

  alike_stays : (end : End) (sphere : ℕ)
      → some_pair (are_alike_within rules graph positions others end sphere)
      (end_root rules graph positions others end).ligands
      ≡ some_pair (are_alike_within rules graph positions all end sphere)
      (end_root rules graph positions all end).ligands
  unfolding rule_1a rule_1b rule_2
  alike_stays end sphere =
      ap (λ in_unit. some_pair (are_alike (seen_at rules graph positions all end.at) (real_node end.at [])
      (end_root rules graph positions all end).ligands in_unit sphere) (end_root rules graph positions all end).ligands)
      unit_stays

  pub settled_alike : (ligands : List Ligand) (a : Growth) (settled : Settled)
      → SettledAs (settled_by (setting_of rules graph positions all) ligands) a settled
      → SettledAs (settled_by (setting_of rules graph positions others) ligands) a settled
  settled_alike ligands a Ordered is =
      let end = end_at a.root ligands in
      (is.0, is.1 ∙ sym (sphere_stays end), differ_stays end a.sphere ∙ is.2)
  settled_alike ligands a Tied is =
      let end = end_at a.root ligands in (
        is.0,
        is.1 ∙ sym (sphere_stays end),
        differ_stays end a.sphere ∙ is.2,
        alike_stays end a.sphere ∙ is.3,
      )
  settled_alike ligands a Whole is =
      let end = end_at a.root ligands in (
        is.0 ∙ sym (sphere_stays end),
        is.1,
        λ some. (differ_stays end a.sphere ∙ (is.2 some).0, alike_stays end a.sphere ∙ (is.2 some).1),
      )
  settled_alike ligands a Over larger =
      subst (λ sphere. a.bound < length (digraph graph positions a.root sphere))
      (sym (sphere_stays (end_at a.root ligands))) larger
