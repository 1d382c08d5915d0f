-- The turns of a unit's roots at a node.
use Rattle.std.proofs.Common.{◌≡◌, ◌≤◌, arith, length, ℕ, Bool, true, false, List, [], ◌∷◌, ◌++◌, ap, None, not}
use Rattle.std.specs.List.{list_all}
use Rattle.std.specs.declared.option.Option.{Option}
use Rattle.cip_rank.specs.declared.rules.Rules.{Rules}
use Rattle.cip_mol.specs.declared.labels.descriptor.Descriptor.{Descriptor}
use Rattle.cip_mol.specs.declared.labels.descriptor.Sense.{Sense}
use Rattle.cip_mol.specs.declared.site.Site.{Site}
use Rattle.cip_digraph.specs.rings.Alternating.{is_in}
use Rattle.cip_digraph.specs.rules.Auxiliary.{root_at, roots_at, letter_at}
use Rattle.cip_digraph.specs.digraph.Digraph.{Node}
use Rattle.cip_digraph.specs.units.Ends.{End}
use Rattle.cip_digraph.specs.graph.Graph.{Graph}
use Rattle.cip_digraph.specs.units.Ranked.{Root}
use Rattle.cip_digraph.specs.Lettered.{turned_letter}
use Rattle.cip_digraph.specs.TurnsOf.{both_turns, root_turns, roots_turns}
use Rattle.cip_digraph.proofs.lemmas.LettersTurn.{letter_is}

few_roots : (rules : Rules) (graph : Graph) (positions : List (List ℕ)) (descriptor : List ℕ → Option Descriptor)
    (path between : List ℕ) (ends : List End)
    → length (roots_at rules graph positions descriptor path between ends) ≤ 2
few_roots rules graph positions descriptor path between [] = omega arith
few_roots rules graph positions descriptor path between (nearer ∷ []) = omega arith
few_roots rules graph positions descriptor path between (nearer ∷ far ∷ ends) =
    by (list_all (λ vertex. not (is_in vertex path)) (far.at ∷ between))
  where
    both : List (Root Node)
    both =
        root_at rules graph positions descriptor path nearer.ligands
        ∷ root_at rules graph positions descriptor (far.at ∷ between ++ path) far.ligands ∷ []

    by : (b : Bool) → length (elim b as (λ _. List (Root Node)) [ true ↦ both | false ↦ [] ]) ≤ 2
    by true = omega arith
    by false = omega arith

pub unit_letter_is : (rules : Rules) (graph : Graph) (positions : List (List ℕ)) (descriptor : List ℕ → Option Descriptor)
    (path between : List ℕ) (ends : List End) (site : Site) (sense : Sense)
    → letter_at rules graph positions site sense (roots_at rules graph positions descriptor path between ends)
    ≡ turned_letter site sense (roots_turns (roots_at rules graph positions descriptor path between ends))
unit_letter_is rules graph positions descriptor path between ends site sense =
    letter_is rules graph positions site sense (roots_at rules graph positions descriptor path between ends)
    (few_roots rules graph positions descriptor path between ends)

module _ (rules : Rules) (graph : Graph) (positions : List (List ℕ)) (descriptor : List ℕ → Option Descriptor)
    (path between : List ℕ) (nearer far : End) where
  -- where the rest of the unit is new to the path, both ends count
  pub both_are : list_all (λ vertex. not (is_in vertex path)) (far.at ∷ between) ≡ true
      → roots_turns (roots_at rules graph positions descriptor path between (nearer ∷ far ∷ []))
      ≡ both_turns (root_turns (root_at rules graph positions descriptor path nearer.ligands))
      (root_turns (root_at rules graph positions descriptor (far.at ∷ between ++ path) far.ligands))
  both_are e =
      ap (λ b. roots_turns (elim b as (λ _. List (Root Node)) [
        | true ↦ root_at rules graph positions descriptor path nearer.ligands
            ∷ root_at rules graph positions descriptor (far.at ∷ between ++ path) far.ligands ∷ []
        | false ↦ []
      ])) e

  pub none_are : list_all (λ vertex. not (is_in vertex path)) (far.at ∷ between) ≡ false
      → roots_turns (roots_at rules graph positions descriptor path between (nearer ∷ far ∷ [])) ≡ None
  none_are e =
      ap (λ b. roots_turns (elim b as (λ _. List (Root Node)) [
        | true ↦ root_at rules graph positions descriptor path nearer.ligands
            ∷ root_at rules graph positions descriptor (far.at ∷ between ++ path) far.ligands ∷ []
        | false ↦ []
      ])) e
