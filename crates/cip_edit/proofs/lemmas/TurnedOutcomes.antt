-- With the other sense a centre has the other letter of its kind, by the same rule in the same sphere, or none alike.
use Rattle.std.proofs.Common.{◌≡◌, ℕ, List, map, refl, ap, ◌∙◌, Bool, true, false, nat_lt}
use Rattle.std.specs.List.{list_any}
use Rattle.cip_rank.specs.declared.rules.Rules.{Rules}
use Rattle.cip_mol.specs.declared.labels.descriptor.Sense.{Sense}
use Rattle.cip_mol.specs.declared.labels.descriptor.Sense.TheVariants.{Plus, Minus}
use Rattle.cip_mol.specs.declared.labels.outcome.Label as labels
use Rattle.cip_mol.specs.declared.labels.outcome.Outcome.{Outcome}
use Rattle.cip_mol.specs.declared.labels.outcome.Outcome.TheVariants.{Label, Tie, Over}
use Rattle.cip_mol.specs.declared.site.Geometry.TheVariants.{Known}
use Rattle.cip_mol.specs.declared.site.Ligand.{Ligand}
use Rattle.cip_mol.specs.declared.site.Site.TheVariants.{Centre}
use Rattle.cip_mol.specs.declared.site.Unit as units
use Rattle.cip_digraph.specs.graph.Graph.{Graph}
use Rattle.cip_digraph.specs.outcome.Outcomes.{end_root, cost, label_of, known_outcome, outcome_of}
use Rattle.cip_digraph.specs.units.Descriptors.{opposite, sense_in_rank, letter_by, letter}
use Rattle.cip_digraph.specs.units.Ends.{ends_of}
use Rattle.cip_digraph.specs.units.Ranked.{Root, ranks, turned_ranks, has_tie}
use Rattle.cip_digraph.proofs.lemmas.reflected.Letters.{opposite_in_rank}
use Rattle.cip_edit.specs.TurnedLetters.{turned_letter, turned_outcome}

other_letter : (at : ℕ) (ligands : List Ligand) (sense turned : Sense)
    → letter_by (Centre at ligands) (opposite sense) (opposite turned)
    ≡ turned_letter (letter_by (Centre at ligands) sense turned)
other_letter at ligands Plus Plus = refl
other_letter at ligands Plus Minus = refl
other_letter at ligands Minus Plus = refl
other_letter at ligands Minus Minus = refl

letter_turned : {N : Type 0} (at : ℕ) (ligands : List Ligand) (sense : Sense) (roots : List (Root N))
    → letter (Centre at ligands) (opposite sense) roots ≡ turned_letter (letter (Centre at ligands) sense roots)
letter_turned at ligands sense roots =
    let one = opposite_in_rank sense (map ranks roots) in
    let two = opposite_in_rank sense (map turned_ranks roots) in
    (λ i. letter_by (Centre at ligands) (one i) (two i))
    ∙ other_letter at ligands (sense_in_rank sense (map ranks roots)) (sense_in_rank sense (map turned_ranks roots))

module _ (rules : Rules) (graph : Graph) (positions : List (List ℕ)) (all : List units.Unit) where
  abbrev found_by : Bool → Bool → labels.Label → Outcome
  found_by over tie label =
      elim over as (λ _. Outcome) [
        | true ↦ Over
        | false ↦ elim tie as (λ _. Outcome) [ true ↦ Tie | false ↦ Label label ]
      ]

  found_turned : (over tie : Bool) (label : labels.Label)
      → found_by over tie (record label { letter = turned_letter label.letter })
      ≡ turned_outcome (found_by over tie label)
  found_turned true tie label = refl
  found_turned false true label = refl
  found_turned false false label = refl

  known_turned : (bound at : ℕ) (ligands : List Ligand) (sense : Sense)
      → known_outcome rules graph positions all bound (Centre at ligands) (opposite sense)
      ≡ turned_outcome (known_outcome rules graph positions all bound (Centre at ligands) sense)
  known_turned bound at ligands sense =
      let ends = ends_of (Centre at ligands) in
      let roots = map (end_root rules graph positions all) ends in
      let over = list_any (λ end. nat_lt bound (cost rules graph positions all end)) ends in
      let label = label_of rules graph positions all (Centre at ligands) sense roots in
      ap (λ l. found_by over (list_any has_tie roots) (record label { letter = l }))
      (letter_turned at ligands sense roots)
      ∙ found_turned over (list_any has_tie roots) label

  pub outcome_turned : (bound at : ℕ) (ligands : List Ligand) (sense : Sense)
      → outcome_of rules graph positions all bound
      (record { site = Centre at ligands; geometry = Known (opposite sense) })
      ≡ turned_outcome
      (outcome_of rules graph positions all bound (record { site = Centre at ligands; geometry = Known sense }))
  unfolding outcome_of
  outcome_turned bound at ligands sense = known_turned bound at ligands sense
