-- What is found of a centre depends on what is shown of the other units alone, but for its sense.
use Rattle.std.proofs.Common.{◌≡◌, ℕ, List, [], ◌∷◌, ◌++◌, length, flat_map, refl, ap, ◌∙◌, Bool, true, false, ◌&&◌, nat_lt, ◌||◌}
use Rattle.cip_rank.specs.declared.rules.Rules.{Rules}
use Rattle.cip_mol.specs.declared.labels.descriptor.Sense.{Sense}
use Rattle.cip_mol.specs.declared.labels.outcome.Label as labels
use Rattle.cip_mol.specs.declared.labels.outcome.Outcome.{Outcome}
use Rattle.cip_mol.specs.declared.labels.outcome.Outcome.TheVariants.{Label, Tie, Over}
use Rattle.cip_mol.specs.declared.site.Geometry.{Geometry}
use Rattle.cip_mol.specs.declared.site.Geometry.TheVariants.{Known, Unknown}
use Rattle.cip_mol.specs.declared.site.Ligand.{Ligand}
use Rattle.cip_mol.specs.declared.site.Site.TheVariants.{Centre}
use Rattle.cip_mol.specs.declared.site.Unit as units
use Rattle.cip_digraph.specs.digraph.Digraph.{Node, is_real, real_node, digraph}
use Rattle.cip_digraph.specs.digraph.View.{seen_from}
use Rattle.cip_digraph.specs.graph.Graph.{Graph}
use Rattle.cip_digraph.specs.outcome.Deciding.{deciding_sphere}
use Rattle.cip_digraph.specs.outcome.Outcomes.{is_in_unit, end_root, settled_in, cost, label_of, known_outcome, outcome_of}
use Rattle.cip_digraph.specs.rings.Alternating.{is_in}
use Rattle.cip_digraph.specs.rules.Auxiliary.{auxiliary}
use Rattle.cip_digraph.specs.rules.Orders.{rule_1a, rule_1b, rule_2}
use Rattle.cip_digraph.specs.units.Descriptors.{letter, reason_needed, all_ranks}
use Rattle.cip_digraph.specs.units.Ends.{End, end_at, atoms_of}
use Rattle.cip_digraph.specs.units.Ranked.{Root, last_reason}
use Rattle.cip_edit.specs.UnitsBeside.{AreSameBeside}
use Rattle.cip_edit.proofs.lemmas.DescriptorsBeside.{root_alike, auxiliary_same}
use Rattle.cip_edit.proofs.lemmas.RootsAlike.{AreAlike, letters_alike}

module _ (rules : Rules) (graph : Graph) (positions : List (List ℕ)) (at : ℕ) (all others : List units.Unit)
    (same : AreSameBeside at all others) where
  abbrev end : List Ligand → End
  end ligands = end_at at ligands

  atoms_stay : (some theirs : List units.Unit) → AreSameBeside at some theirs
      → flat_map (λ unit. atoms_of unit.site) theirs ≡ flat_map (λ unit. atoms_of unit.site) some
  atoms_stay [] [] s = refl
  atoms_stay [] (other ∷ theirs) s = absurd s
  atoms_stay (one ∷ some) [] s = absurd s
  atoms_stay (one ∷ some) (other ∷ theirs) s =
      ap (λ site. atoms_of site ++ flat_map (λ unit. atoms_of unit.site) theirs) s.0.site
      ∙ ap (λ atoms. atoms_of one.site ++ atoms) (atoms_stay some theirs s.1)

  unit_stays : is_in_unit rules graph positions others ≡ is_in_unit rules graph positions all
  unit_stays = λ i node. is_real node.kind && is_in node.vertex (atoms_stay all others same i)

  -- whichever end, and wherever its ligands
  settled_stays : (some : End) → settled_in rules graph positions others some
      ≡ settled_in rules graph positions all some
  unfolding rule_1a rule_1b rule_2
  settled_stays some =
      ap (deciding_sphere (seen_from rules graph positions (some.at ∷ []) (auxiliary rules graph positions all))
      (real_node some.at [])
      (end_root rules graph positions all some).ligands) unit_stays

  pub cost_stays : (some : End) → cost rules graph positions others some ≡ cost rules graph positions all some
  cost_stays some = ap (λ number. length (digraph graph positions some.at number)) (settled_stays some)

  pub end_alike : (ligands : List Ligand)
      → AreAlike (end_root rules graph positions all (end ligands))
      (end_root rules graph positions others (end ligands))
  end_alike ligands =
      root_alike rules graph positions at (auxiliary rules graph positions all)
      (auxiliary rules graph positions others) (auxiliary_same rules graph positions at all others same) (at ∷ []) refl
      ligands

  abbrev label_by : Bool → Bool → labels.Label → Outcome
  label_by over tie label =
      elim over as (λ _. Outcome) [
        | true ↦ Over
        | false ↦ elim tie as (λ _. Outcome) [ true ↦ Tie | false ↦ Label label ]
      ]

  abbrev label_with : Sense → List Ligand → List (Root Node) → labels.Label
  label_with sense ligands roots = label_of rules graph positions all (Centre at ligands) sense roots

  -- its parts
  label_same : (sense : Sense) (ligands : List Ligand)
      → label_with sense ligands (end_root rules graph positions others (end ligands) ∷ [])
      ≡ label_with sense ligands (end_root rules graph positions all (end ligands) ∷ [])
  label_same sense ligands =
      let one = end_root rules graph positions all (end ligands) in
      let other = end_root rules graph positions others (end ligands) in
      let alike : AreAlike one other = end_alike ligands in
      let letters : letter (Centre at ligands) sense (other ∷ []) ≡ letter (Centre at ligands) sense (one ∷ []) =
      letters_alike (Centre at ligands) sense (one ∷ []) (other ∷ []) (alike, tt) in
      let reasons : reason_needed (other ∷ []) ≡ reason_needed (one ∷ []) =
      ap (λ found. last_reason (found ++ [])) alike.decisions in
      let places : all_ranks (other ∷ []) ≡ all_ranks (one ∷ []) = ap (λ found. found ++ []) alike.ranks in
      λ i. record {
        letter = letters i;
        rule = (reasons i).rule;
        sphere = (reasons i).sphere;
        order = places i;
      }

  known_same : (bound : ℕ) (ligands : List Ligand) (sense : Sense)
      → known_outcome rules graph positions others bound (Centre at ligands) sense
      ≡ known_outcome rules graph positions all bound (Centre at ligands) sense
  known_same bound ligands sense =
      let costs = cost_stays (end ligands) in
      let ties = (end_alike ligands).ties in
      let label = label_same sense ligands in
      λ i. label_by (nat_lt bound (costs i) || false) (ties i || false) (label i)

  -- whatever is shown of it
  pub outcome_same : (bound : ℕ) (ligands : List Ligand) (geometry : Geometry)
      → outcome_of rules graph positions others bound (record { site = Centre at ligands; geometry = geometry })
      ≡ outcome_of rules graph positions all bound (record { site = Centre at ligands; geometry = geometry })
  unfolding outcome_of
  outcome_same bound ligands (Unknown cause) = refl
  outcome_same bound ligands (Known sense) = known_same bound ligands sense
