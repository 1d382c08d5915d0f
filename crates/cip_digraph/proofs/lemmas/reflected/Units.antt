-- Reflection exchanges the descriptors in every digraph, and what is found of every unit.
use Rattle.std.proofs.Common.{◌≡◌, ℕ, zero, suc, List, [], ◌∷◌, map, length, refl, ap, ◌∙◌, Bool, true, false, sym}
use Rattle.std.proofs.Common.{subst, None, Some, ◌&&◌, ◌++◌, nat_lt, nat_le, flat_map, Option}
use Rattle.std.specs.List.{AllByRecursion, list_any}
use Rattle.cip_rank.specs.declared.rules.Rules.{Rules}
use Rattle.cip_mol.specs.declared.labels.descriptor.Descriptor.{Descriptor}
use Rattle.cip_mol.specs.declared.labels.descriptor.Sense.{Sense}
use Rattle.cip_mol.specs.declared.labels.outcome.Label as labels
use Rattle.cip_mol.specs.declared.labels.outcome.Outcome.{Outcome}
use Rattle.cip_mol.specs.declared.labels.outcome.Outcome.TheVariants.{Label, Tie, Over}
use Rattle.cip_mol.specs.declared.site.Geometry.{Geometry}
use Rattle.cip_mol.specs.declared.site.Geometry.TheVariants.{Known, Unknown}
use Rattle.cip_mol.specs.declared.site.Site.{Site}
use Rattle.cip_mol.specs.declared.site.Unit as units
use Rattle.cip_digraph.specs.rings.Alternating.{is_in}
use Rattle.cip_digraph.specs.rules.Auxiliary.{nearer_first, root_at, roots_at, unit_letter, first_letter}
use Rattle.cip_digraph.specs.rules.Auxiliary.{node_letter, inside, descriptors_within, auxiliary}
use Rattle.cip_digraph.specs.outcome.Deciding.{deciding_sphere}
use Rattle.cip_digraph.specs.units.Descriptors.{letter}
use Rattle.cip_digraph.specs.digraph.Digraph.{real_node, is_real, digraph}
use Rattle.cip_mol.specs.Ends.{between_of}
use Rattle.cip_digraph.specs.units.Ends.{End, ends_of, atoms_of}
use Rattle.cip_digraph.specs.rules.Exchange.{exchanged, exchanged_descriptor, reflected_sense, reflected_unit}
use Rattle.cip_digraph.specs.graph.Graph.{Graph}
use Rattle.cip_digraph.specs.rules.Orders.{rule_1a, rule_1b, rule_2}
use Rattle.cip_digraph.specs.outcome.Outcomes.{is_in_unit, end_root, settled_in, cost, label_of, known_outcome}
use Rattle.cip_digraph.specs.outcome.Outcomes.{outcome_of}
use Rattle.cip_digraph.specs.units.Ranked.{has_tie}
use Rattle.cip_digraph.specs.digraph.View.{is_end_of, seen_from}
use Rattle.cip_digraph.specs.Laws.{IsReflectedOutcome}
use Rattle.cip_digraph.proofs.lemmas.reflected.Letters.{swapped, TieAlike, exchanged_descriptors, root_exchanged, root_alike}
use Rattle.cip_digraph.proofs.lemmas.reflected.Letters.{roots_exchanged, roots_alike, letter_exchanged, letter_at_exchanged}
use Rattle.cip_digraph.proofs.lemmas.reflected.Letters.{ties_swapped}

module _ (rules : Rules) (graph : Graph) (positions : List (List ℕ)) where
  geometry_exchanged : (site : Site) (geometry : Geometry) (vertex : ℕ) (up : List ℕ)
      (descriptor : List ℕ → Option Descriptor)
      → unit_letter rules graph positions (reflected_unit (record { site = site; geometry = geometry })) vertex up
      (exchanged_descriptors descriptor)
      ≡ exchanged_descriptor (unit_letter rules graph positions (record { site = site; geometry = geometry }) vertex up descriptor)
  geometry_exchanged site (Unknown cause) vertex up descriptor = refl
  geometry_exchanged site (Known sense) vertex up descriptor =
      let path = vertex ∷ up in
      let ends = nearer_first vertex (ends_of site) in
      rw (roots_exchanged rules graph positions descriptor path (between_of site) ends)
      (letter_at_exchanged rules graph positions descriptor site sense
      (roots_at rules graph positions descriptor path (between_of site) ends)
      (roots_alike rules graph positions descriptor path (between_of site) ends))

  abbrev first_of : Option Descriptor → Option Descriptor → Option Descriptor
  first_of found later = elim found as (λ _. Option Descriptor) [ None ↦ later | Some descriptor ↦ Some descriptor ]

  first_of_exchanged : (found later : Option Descriptor)
      → first_of (exchanged_descriptor found) (exchanged_descriptor later) ≡ exchanged_descriptor (first_of found later)
  first_of_exchanged None later = refl
  first_of_exchanged (Some descriptor) later = refl

  first_exchanged : (all : List units.Unit) (vertex : ℕ) (up : List ℕ) (descriptor : List ℕ → Option Descriptor)
      → first_letter rules graph positions (map reflected_unit all) vertex up (exchanged_descriptors descriptor)
      ≡ exchanged_descriptor (first_letter rules graph positions all vertex up descriptor)
  first_exchanged [] vertex up descriptor = refl
  first_exchanged (unit ∷ others) vertex up descriptor =
      ap (λ found.
      first_of found
      (first_letter rules graph positions (map reflected_unit others) vertex up (exchanged_descriptors descriptor)))
      (geometry_exchanged unit.site unit.geometry vertex up descriptor)
      ∙ ap (first_of (exchanged_descriptor (unit_letter rules graph positions unit vertex up descriptor)))
      (first_exchanged others vertex up descriptor)
      ∙ first_of_exchanged (unit_letter rules graph positions unit vertex up descriptor)
      (first_letter rules graph positions others vertex up descriptor)

  abbrev when : Bool → Option Descriptor → Option Descriptor
  when b found = elim b as (λ _. Option Descriptor) [ true ↦ found | false ↦ None ]

  when_exchanged : (b : Bool) (found : Option Descriptor)
      → when b (exchanged_descriptor found) ≡ exchanged_descriptor (when b found)
  when_exchanged true found = refl
  when_exchanged false found = refl

  node_exchanged : (all : List units.Unit) (path : List ℕ) (descriptor : List ℕ → Option Descriptor)
      → node_letter rules graph positions (map reflected_unit all) path (exchanged_descriptors descriptor)
      ≡ exchanged_descriptor (node_letter rules graph positions all path descriptor)
  node_exchanged all [] descriptor = refl
  node_exchanged all (root ∷ []) descriptor = refl
  node_exchanged all (vertex ∷ next ∷ up) descriptor =
      let low = nat_le (length (vertex ∷ next ∷ up)) (length graph.vertices) in
      ap (when low) (first_exchanged all vertex (next ∷ up) descriptor)
      ∙ when_exchanged low (first_letter rules graph positions all vertex (next ∷ up) descriptor)

  descriptors_exchanged : (all : List units.Unit) (more : ℕ) (path : List ℕ)
      → descriptors_within (node_letter rules graph positions (map reflected_unit all)) more path
      ≡ exchanged_descriptor (descriptors_within (node_letter rules graph positions all) more path)
  unfolding descriptors_within
  descriptors_exchanged all zero path = refl
  descriptors_exchanged all (suc more) path =
      let descriptor = descriptors_within (node_letter rules graph positions all) more in
      ap (node_letter rules graph positions (map reflected_unit all) path)
      (λ i inner.
      (ap (when (is_end_of path inner && nat_lt (length path) (length inner))) (descriptors_exchanged all more inner)
      ∙ when_exchanged (is_end_of path inner && nat_lt (length path) (length inner)) (descriptor inner)) i)
      ∙ node_exchanged all path (inside descriptor path)

  pub auxiliary_exchanged : (all : List units.Unit) (path : List ℕ)
      → auxiliary rules graph positions (map reflected_unit all) path
      ≡ exchanged_descriptor (auxiliary rules graph positions all path)
  auxiliary_exchanged all path = descriptors_exchanged all (length graph.vertices) path

pub atoms_stay : (some : List units.Unit)
    → flat_map (λ unit. atoms_of unit.site) (map reflected_unit some) ≡ flat_map (λ unit. atoms_of unit.site) some
atoms_stay [] = refl
atoms_stay (unit ∷ others) = ap (λ atoms. atoms_of unit.site ++ atoms) (atoms_stay others)

module _ (rules : Rules) (graph : Graph) (positions : List (List ℕ)) (all : List units.Unit) where
  end_exchanged : (end : End)
      → end_root rules graph positions (map reflected_unit all) end ≡ swapped (end_root rules graph positions all end)
  end_exchanged end =
      ap (λ descriptor. root_at rules graph positions descriptor (end.at ∷ []) end.ligands)
      (λ i path. auxiliary_exchanged rules graph positions all path i)
      ∙ root_exchanged rules graph positions (auxiliary rules graph positions all) (end.at ∷ []) end.ligands

  ends_exchanged : (ends : List End)
      → map (end_root rules graph positions (map reflected_unit all)) ends
      ≡ map swapped (map (end_root rules graph positions all) ends)
  ends_exchanged [] = refl
  ends_exchanged (end ∷ ends) =
      rw (end_exchanged end, ends_exchanged ends) refl

  ends_alike : (ends : List End) → AllByRecursion TieAlike (map (end_root rules graph positions all) ends)
  ends_alike [] = tt
  ends_alike (end ∷ ends) = (
    root_alike rules graph positions (auxiliary rules graph positions all) (end.at ∷ []) end.ligands,
    ends_alike ends,
  )

  unit_stays : is_in_unit rules graph positions (map reflected_unit all) ≡ is_in_unit rules graph positions all
  unit_stays = λ i node. is_real node.kind && is_in node.vertex (atoms_stay all i)

  -- where an end is settled depends neither on descriptors nor on senses
  settled_stays : (end : End)
      → settled_in rules graph positions (map reflected_unit all) end ≡ settled_in rules graph positions all end
  unfolding rule_1a rule_1b rule_2
  settled_stays end =
      ap (deciding_sphere (seen_from rules graph positions (end.at ∷ []) (auxiliary rules graph positions all))
      (real_node end.at [])
      (end_root rules graph positions all end).ligands) unit_stays

  cost_stays : (end : End)
      → cost rules graph positions (map reflected_unit all) end ≡ cost rules graph positions all end
  cost_stays end = ap (λ number. length (digraph graph positions end.at number)) (settled_stays end)

  over_stays : (bound : ℕ) (ends : List End)
      → list_any (λ end. nat_lt bound (cost rules graph positions (map reflected_unit all) end)) ends
      ≡ list_any (λ end. nat_lt bound (cost rules graph positions all end)) ends
  over_stays bound ends = ap (λ test. list_any test ends) (λ i end. nat_lt bound (cost_stays end i))

  abbrev found_by : Bool → Bool → labels.Label → Outcome
  found_by over tie label =
      elim over as (λ _. Outcome) [
        | true ↦ Over
        | false ↦ elim tie as (λ _. Outcome) [ true ↦ Tie | false ↦ Label label ]
      ]

  found_exchanged : (over tie : Bool) (one other : labels.Label) → other.letter ≡ exchanged one.letter
      → IsReflectedOutcome (found_by over tie one) (found_by over tie other)
  found_exchanged true tie one other e = tt
  found_exchanged false true one other e = tt
  found_exchanged false false one other e = e

  known_exchanged : (bound : ℕ) (site : Site) (sense : Sense)
      → IsReflectedOutcome (known_outcome rules graph positions all bound site sense)
      (known_outcome rules graph positions (map reflected_unit all) bound site (reflected_sense site sense))
  known_exchanged bound site sense =
      let ends = ends_of site in
      let roots = map (end_root rules graph positions all) ends in
      let others = map (end_root rules graph positions (map reflected_unit all)) ends in
      let one = label_of rules graph positions all site sense roots in
      let other = label_of rules graph positions (map reflected_unit all) site (reflected_sense site sense) others in
      let over = list_any (λ end. nat_lt bound (cost rules graph positions all end)) ends in
      let ties : list_any has_tie others ≡ list_any has_tie roots = rw (ends_exchanged ends)
      (ties_swapped roots (ends_alike ends)) in
      let letters : other.letter ≡ exchanged one.letter =
      ap (letter site (reflected_sense site sense)) (ends_exchanged ends) ∙ letter_exchanged site sense roots in
      subst (λ b. IsReflectedOutcome (found_by over (list_any has_tie roots) one)
      (found_by b (list_any has_tie others) other)) (sym (over_stays bound ends))
      (subst (λ b. IsReflectedOutcome (found_by over (list_any has_tie roots) one) (found_by over b other)) (sym ties)
      (found_exchanged over (list_any has_tie roots) one other letters))

  exchanged_by : (bound : ℕ) (site : Site) (geometry : Geometry)
      → IsReflectedOutcome (outcome_of rules graph positions all bound (record { site = site; geometry = geometry }))
      (outcome_of rules graph positions (map reflected_unit all) bound
      (reflected_unit (record { site = site; geometry = geometry })))
  unfolding outcome_of
  exchanged_by bound site (Unknown cause) = refl
  exchanged_by bound site (Known sense) = known_exchanged bound site sense

  pub outcome_exchanged : (bound : ℕ) (unit : units.Unit)
      → IsReflectedOutcome (outcome_of rules graph positions all bound unit)
      (outcome_of rules graph positions (map reflected_unit all) bound (reflected_unit unit))
  outcome_exchanged bound unit = exchanged_by bound unit.site unit.geometry
