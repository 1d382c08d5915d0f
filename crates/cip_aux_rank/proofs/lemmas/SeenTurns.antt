-- What is decided between branches says how a node's ligands stand.
use Rattle.std.proofs.Common.{◌≡◌, ◌<◌, ◌∷◌, ℕ, Bool, true, false, List, [], map, length, refl, sym, ap, ◌∙◌, subst, All, Contains, IfSome}
use Rattle.std.specs.List.{AllByRecursion, list_all}
use Rattle.std.specs.declared.option.Option.{Option}
use Rattle.cip_branches.specs.Deciding.{Branched}
use Rattle.cip_mol.specs.declared.labels.descriptor.Descriptor.{Descriptor}
use Rattle.cip_mol.specs.declared.labels.outcome.Rule.TheVariants.{R1a, R1b, R2, R3, R4a, R4b, R4c, R5}
use Rattle.cip_digraph.specs.digraph.NodeList.{parents_of}
use Rattle.cip_digraph.specs.digraph.Telling.{node_at}
use Rattle.cip_digraph.specs.rules.Decisions.{order}
use Rattle.cip_digraph.specs.declared.decisions.branch_pair.BranchPair.{BranchPair}
use Rattle.cip_digraph.specs.Asking.{is_decided, with_found}
use Rattle.cip_rules.specs.Orders.{decided_in_turn}
use Rattle.cip_rules.proofs.lemmas.RulesGoOn.{order_told}
use Rattle.cip_aux.specs.InnerContext.{InnerContext, AgreesInside}
use Rattle.cip_aux.specs.DescriptorsInside.{AreSeenTurns}
use Rattle.cip_aux.specs.Neighbours.{neighbours_of}
use Rattle.cip_digraph.specs.Sides.{pair_sides}
use Rattle.cip_digraph.specs.TurnsOf.{turns_of}
use Rattle.cip_aux.specs.Views.{DigraphView, seen_sides}
use Rattle.cip_aux.specs.Turning.{found_by, side_at}
use Rattle.cip_aux_rank.specs.Asking.{asked_pairs}
use Rattle.cip_aux_rank.specs.Narrowing.{SidesAreTold}
use Rattle.cip_aux_rank.specs.LigandBranches.{AreConstituted, AreOrdered, asked_tops, seen_at, top_node}
use Rattle.cip_aux_rank.proofs.lemmas.AskedSides.{pairs_found, pairs_lone, pairs_within, tops_of}

module _ (inner : InnerContext) (node : ℕ) (ligands : List (Option ℕ))
    (next : All (λ ligand. IfSome ligand (Contains (neighbours_of (parents_of inner.sight.node_data) node))) ligands)
    (tops : List ℕ) (are : tops ≡ asked_tops (parents_of inner.sight.node_data) ligands node) where
  abbrev sight : DigraphView
  sight = inner.sight

  all_tops : AllByRecursion (λ ligand. IfSome ligand (Contains tops)) ligands
  all_tops = subst (λ (ns : List ℕ). AllByRecursion (λ ligand. IfSome ligand (Contains ns)) ligands) (sym are)
      (tops_of (parents_of inner.sight.node_data) node ligands next)

  -- the order of branches
  sides_are : (descriptor : List ℕ → Option Descriptor) (r_first : Bool) (pairs : List BranchPair)
      → pairs ≡ map (with_found (λ a b. order (seen_at sight node descriptor) r_first (top_node sight tops a)
      (top_node sight tops b))) (asked_pairs tops ligands)
      → map side_at pairs ≡ pair_sides (seen_sides sight node descriptor r_first) ligands
  sides_are descriptor r_first pairs found =
      ap (map side_at) found
      ∙ pairs_found tops (node_at sight.nodes) (seen_at sight node descriptor) r_first ligands all_tops

  -- of lone pairs alone, whichever descriptors there are
  pub lone_seen : (pairs : List BranchPair) → length tops ≡ 0 → pairs ≡ asked_pairs tops ligands
      → AreSeenTurns inner node ligands (found_by true pairs pairs)
  lone_seen pairs none is = record { each = λ descriptor any i. turns_of (lone descriptor true i) (lone descriptor false i) }
    where
      lone : (descriptor : List ℕ → Option Descriptor) (r_first : Bool)
          → map side_at pairs ≡ pair_sides (seen_sides sight node descriptor r_first) ligands
      lone descriptor r_first =
          ap (map side_at) is ∙ pairs_lone tops none (seen_sides sight node descriptor r_first) ligands all_tops

  -- where constitution decides all, whichever descriptors there are
  pub decided_seen : (now : Branched) (pairs : List BranchPair) → 0 < length tops
      → AreConstituted sight node tops now (asked_pairs tops ligands) pairs → list_all is_decided pairs ≡ true
      → AreSeenTurns inner node ligands (found_by true pairs pairs)
  decided_seen now pairs some is done =
      record {
        each = λ descriptor any i. turns_of (sides_are descriptor true pairs (all_told descriptor true (is.noted descriptor)) i)
            (sides_are descriptor false pairs (all_told descriptor false (is.noted descriptor)) i);
      }
    where
      all_told : (descriptor : List ℕ → Option Descriptor) (r_first : Bool)
          → pairs ≡ map (with_found (decided_in_turn (seen_at sight node descriptor) r_first (R1a ∷ R1b ∷ R2 ∷ [])
          (top_node sight tops))) (asked_pairs tops ligands)
          → pairs ≡ map (with_found (λ a b. order (seen_at sight node descriptor) r_first (top_node sight tops a)
          (top_node sight tops b))) (asked_pairs tops ligands)
      all_told descriptor r_first noted =
          order_told (seen_at sight node descriptor) r_first (node_at sight.nodes) (top_node sight tops) (length tops)
          (asked_pairs tops ligands) (pairs_within tops some ligands) (R1a ∷ R1b ∷ R2 ∷ [])
          (R3 ∷ R4a ∷ R4b ∷ R4c ∷ R5 ∷ []) refl pairs noted done

-- where all rules decide them
pub ordered_seen : (inner : InnerContext) (node : ℕ) (tops : List ℕ) (requested : List BranchPair) (ligands : List (Option ℕ))
    → SidesAreTold inner.sight node tops requested ligands → (pairs turned : List BranchPair)
    → ((descriptor : List ℕ → Option Descriptor) → AgreesInside inner descriptor
    → AreOrdered inner.sight node descriptor tops requested pairs turned)
    → AreSeenTurns inner node ligands (found_by false pairs turned)
ordered_seen inner node tops requested ligands tell pairs turned are_ordered = record {
  each = λ descriptor agrees i. turns_of ((ap (map side_at) (are_ordered descriptor agrees).natural ∙ tell.each descriptor true) i)
      ((ap (map side_at) (are_ordered descriptor agrees).other ∙ tell.each descriptor false) i);
}
