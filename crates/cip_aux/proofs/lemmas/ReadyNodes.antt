-- What is known where a node is ready to be looked from.
use Rattle.std.proofs.Common.{◌<◌, ℕ, List, [], ◌∷◌, map, length, refl, ◌∙◌, All, Contains, IfSome}
use Rattle.std.specs.List.{AllByRecursion}
use Rattle.std.specs.declared.option.Option.{Option}
use Rattle.std.proofs.lemmas.List.Elements.{All-from_recursion}
use Rattle.cip_mol.specs.declared.site.Ligand.{Ligand}
use Rattle.cip_mol.specs.declared.site.Ligand.TheVariants.{Vertex, LonePair}
use Rattle.cip_digraph.specs.digraph.NodeList.{parents_of}
use Rattle.cip_digraph.specs.rules.Auxiliary.{stands_for}
use Rattle.cip_aux.specs.InnerContext.{InnerContext, Ready}
use Rattle.cip_aux.specs.DescriptorsInside.{AreRootTurns, AreSeenTurns}
use Rattle.cip_aux.specs.Neighbours.{ligand_number, neighbours_of, shape_at}
use Rattle.cip_aux.specs.Views.{seen_sides}
use Rattle.cip_aux.specs.declared.ligand_ranker.FoundParity.{FoundParity}
use Rattle.cip_aux.proofs.lemmas.FoundFirst.{first_among}
use Rattle.cip_aux.proofs.lemmas.Paths.{within_told}
use Rattle.cip_aux.proofs.lemmas.RootTurns.{root_is}

module _ (inner : InnerContext) (node : ℕ) (r : Ready inner node) where
  abbrev pub numbers_of : List Ligand → List (Option ℕ)
  numbers_of ligands = map (ligand_number (shape_at inner.sight.node_data) (parents_of inner.sight.node_data) node) ligands

  pub ready_within : node < length inner.sight.node_data
  ready_within = within_told inner.sight r.shows node r.real.within

  -- they are next to the node
  pub ready_neighbours : (ligands : List Ligand)
      → All (λ number. IfSome number (Contains (neighbours_of (parents_of inner.sight.node_data) node))) (numbers_of ligands)
  ready_neighbours ligands =
      let next = neighbours_of (parents_of inner.sight.node_data) node in
      All-from_recursion (λ number. IfSome number (Contains next)) (numbers_of ligands) (each ligands)
    where
      each : (ligands : List Ligand)
          → AllByRecursion (λ number. IfSome number (Contains (neighbours_of (parents_of inner.sight.node_data) node)))
          (numbers_of ligands)
      each [] = tt
      each (LonePair ∷ ligands) = (tt, each ligands)
      each (Vertex vertex ∷ ligands) = (
        first_among (λ number. stands_for vertex (shape_at inner.sight.node_data number))
            (neighbours_of (parents_of inner.sight.node_data) node),
        each ligands,
      )

  pub ready_turns : (ligands : List Ligand) (found : FoundParity) → AreSeenTurns inner node (numbers_of ligands) found
      → AreRootTurns inner node found.by_constitution ligands found.parities
  ready_turns ligands found seen = record {
    each = λ descriptor counts. seen.each descriptor counts
        ∙ root_is inner.sight r.shows descriptor (seen_sides inner.sight node descriptor) node r.real
        (record { each = λ r_first a b la lb. refl }) ligands;
  }
