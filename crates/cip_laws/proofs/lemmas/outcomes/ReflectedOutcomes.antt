-- With all units reflected, each has the mirror image of its outcome, and the same costs.
use Rattle.std.proofs.Common.{◌≡◌, ℕ, List, [], ◌∷◌, ◌&&◌, map, length, refl, ap, ◌∙◌, Bool, true, false, nat_lt}
use Rattle.std.specs.List.{list_any}
use Rattle.cip_rank.specs.declared.rules.Rules.{Rules}
use Rattle.cip_mol.specs.declared.labels.outcome.Label as labels
use Rattle.cip_mol.specs.declared.labels.outcome.Outcome.{Outcome}
use Rattle.cip_mol.specs.declared.labels.outcome.Outcome.TheVariants.{Label, Tie, Over}
use Rattle.cip_mol.specs.declared.site.Geometry.{Geometry}
use Rattle.cip_mol.specs.declared.site.Geometry.TheVariants.{Known, Unknown}
use Rattle.cip_mol.specs.declared.site.Site.{Site}
use Rattle.cip_mol.specs.declared.site.Unit as units
use Rattle.cip_digraph.specs.digraph.Digraph.{Node, is_real, real_node, digraph}
use Rattle.cip_digraph.specs.digraph.View.{seen_from}
use Rattle.cip_digraph.specs.graph.Graph.{Graph}
use Rattle.cip_digraph.specs.Laws.{IsReflectedOutcome}
use Rattle.cip_digraph.specs.outcome.Deciding.{deciding_sphere}
use Rattle.cip_digraph.specs.outcome.Outcomes.{end_root, settled_in, cost, label_of, outcome_of}
use Rattle.cip_digraph.specs.rings.Alternating.{is_in}
use Rattle.cip_digraph.specs.rules.Auxiliary.{root_at, auxiliary}
use Rattle.cip_digraph.specs.rules.Exchange.{reflected_sense, reflected_unit}
use Rattle.cip_digraph.specs.rules.Orders.{rule_1a, rule_1b, rule_2}
use Rattle.cip_digraph.specs.units.Descriptors.{reason_needed}
use Rattle.cip_digraph.specs.units.Ends.{End, ends_of}
use Rattle.cip_digraph.specs.units.Ranked.{Root, has_tie}
use Rattle.cip_digraph.proofs.lemmas.reflected.Letters.{swapped, root_exchanged}
use Rattle.cip_digraph.proofs.lemmas.reflected.Units.{auxiliary_exchanged, outcome_exchanged, atoms_stay}
use Rattle.cip_laws.specs.ReflectionLaw.{IsMirrorOutcome, ReflectionMirrorsOutcomes}
use Rattle.cip_symmetry.proofs.lemmas.outcomes.ReflectedReasons.{reason_swapped, ends_ranked}

abbrev found_by : Bool → Bool → labels.Label → Outcome
found_by over tie label =
    elim over as (λ _. Outcome) [
      | true ↦ Over
      | false ↦ elim tie as (λ _. Outcome) [ true ↦ Tie | false ↦ Label label ]
    ]

-- of the same kind, with the exchanged descriptor, rule and sphere being kept
mirrored_by : (over tie others_over others_tie : Bool) (one other : labels.Label) → other.rule ≡ one.rule
    → other.sphere ≡ one.sphere
    → IsReflectedOutcome (found_by over tie one) (found_by others_over others_tie other)
    → IsMirrorOutcome (found_by over tie one) (found_by others_over others_tie other)
mirrored_by true tie true others_tie one other e f h = tt
mirrored_by true tie false true one other e f h = absurd h
mirrored_by true tie false false one other e f h = absurd h
mirrored_by false true true others_tie one other e f h = absurd h
mirrored_by false true false true one other e f h = tt
mirrored_by false true false false one other e f h = absurd h
mirrored_by false false true others_tie one other e f h = absurd h
mirrored_by false false false true one other e f h = absurd h
mirrored_by false false false false one other e f h = record { letter = h; rule = e; sphere = f }

module _ (rules : Rules) (graph : Graph) (positions : List (List ℕ)) (all : List units.Unit) where
  abbrev mirrored : List units.Unit
  mirrored = map reflected_unit all

  ends_swapped : (ends : List End) → map (end_root rules graph positions mirrored) ends
      ≡ map swapped (map (end_root rules graph positions all) ends)
  ends_swapped [] = refl
  ends_swapped (end ∷ ends) =
      ap {B = List (Root Node)} (λ root. root ∷ map (end_root rules graph positions mirrored) ends)
      (ap (λ descriptor. root_at rules graph positions descriptor (end.at ∷ []) end.ligands)
      (λ i path. auxiliary_exchanged rules graph positions all path i)
      ∙ root_exchanged rules graph positions (auxiliary rules graph positions all) (end.at ∷ []) end.ligands)
      ∙ ap {B = List (Root Node)} (λ roots. swapped (end_root rules graph positions all end) ∷ roots)
      (ends_swapped ends)

  reasons_stay : (ends : List End) → reason_needed (map (end_root rules graph positions mirrored) ends)
      ≡ reason_needed (map (end_root rules graph positions all) ends)
  reasons_stay ends =
      ap reason_needed (ends_swapped ends)
      ∙ reason_swapped (map (end_root rules graph positions all) ends) (ends_ranked rules graph positions all ends)

  mirrored_outcome : (bound : ℕ) (site : Site) (geometry : Geometry) →
      let one : units.Unit = record { site = site; geometry = geometry } in
      IsReflectedOutcome (outcome_of rules graph positions all bound one)
      (outcome_of rules graph positions mirrored bound (reflected_unit one)) →
      IsMirrorOutcome (outcome_of rules graph positions all bound one)
      (outcome_of rules graph positions mirrored bound (reflected_unit one))
  unfolding outcome_of
  mirrored_outcome bound site (Unknown cause) h = h
  mirrored_outcome bound site (Known sense) h =
      let ends = ends_of site in
      let roots = map (end_root rules graph positions all) ends in
      let others = map (end_root rules graph positions mirrored) ends in
      mirrored_by (list_any (λ end. nat_lt bound (cost rules graph positions all end)) ends) (list_any has_tie roots)
      (list_any (λ end. nat_lt bound (cost rules graph positions mirrored end)) ends) (list_any has_tie others)
      (label_of rules graph positions all site sense roots)
      (label_of rules graph positions mirrored site (reflected_sense site sense) others)
      (ap (λ reason. reason.rule) (reasons_stay ends)) (ap (λ reason. reason.sphere) (reasons_stay ends)) h

  -- descriptors and senses play no part in where an end is settled
  settled_stays : (end : End) → settled_in rules graph positions mirrored end ≡ settled_in rules graph positions all end
  unfolding rule_1a rule_1b rule_2
  settled_stays end =
      ap (deciding_sphere (seen_from rules graph positions (end.at ∷ []) (auxiliary rules graph positions all))
      (real_node end.at []) (end_root rules graph positions all end).ligands)
      (λ i node. is_real node.kind && is_in node.vertex (atoms_stay all i))

  pub costs_stay : (ends : List End)
      → map (cost rules graph positions mirrored) ends ≡ map (cost rules graph positions all) ends
  costs_stay ends =
      ap (λ (settled : End → ℕ). map (λ end. length (digraph graph positions end.at (settled end))) ends)
      (λ i end. settled_stays end i)

pub reflection_mirrors_outcomes : ReflectionMirrorsOutcomes
reflection_mirrors_outcomes rules graph positions all bound unit =
    mirrored_outcome rules graph positions all bound unit.site unit.geometry
    (outcome_exchanged rules graph positions all bound unit)
