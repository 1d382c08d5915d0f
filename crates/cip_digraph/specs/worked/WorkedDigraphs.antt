-- Spheres and keys of digraphs of small molecules, found by hand. Own.
use Rattle.std.specs.Prelude.{◌≡◌, ℕ, List, [], ◌∷◌, map}
use Rattle.cip_rank.specs.declared.rules.Rules.TheVariants.{Wording2013, Wording2018}
use Rattle.cip_mol.specs.Drawing.{Drawing}
use Rattle.cip_digraph.specs.digraph.Digraph.{Closure, Multiple, Node, real_node, duplicate, children}
use Rattle.cip_digraph.specs.graph.DrawnGraph.{graph_of}
use Rattle.cip_digraph.specs.rules.Keys.{atomic_key, distance_key, mass_key, sphere_in_digraph}
use Rattle.cip_digraph.specs.rings.Positions.{positions_at, positions_of, mean_key}
use Rattle.cip_digraph.specs.worked.Molecules.{glyceraldehyde, methylcyclopropane, isotopic_chloromethane, phenyl_pyridinyl_methanol, oxirane_carbaldehyde_anion, tetrahedrane}
use Rattle.cip_digraph.specs.worked.Trying.{sizes}

-- the atomic keys of a node's children, in the order of its neighbours
abbrev pub keys_below : Drawing → Node → List ℕ
keys_below drawing node =
    let graph = graph_of drawing in
    let positions = positions_of graph in
    map (atomic_key graph positions) (children graph positions node)

pub record AreCounted : Type 0 where
  pub glyceraldehyde : sizes glyceraldehyde 0 (0 ∷ 1 ∷ 2 ∷ []) ≡ 1 ∷ 4 ∷ 7 ∷ []
  pub methylcyclopropane : sizes methylcyclopropane 0 (0 ∷ 1 ∷ 2 ∷ 3 ∷ 4 ∷ []) ≡ 1 ∷ 4 ∷ 9 ∷ 6 ∷ 0 ∷ []
  pub oxirane : sizes oxirane_carbaldehyde_anion 0 (0 ∷ 1 ∷ 2 ∷ 3 ∷ 4 ∷ []) ≡ 1 ∷ 4 ∷ 7 ∷ 5 ∷ 0 ∷ []
  pub tetrahedrane : sizes tetrahedrane 0 (0 ∷ 1 ∷ 2 ∷ 3 ∷ 4 ∷ 5 ∷ []) ≡ 1 ∷ 4 ∷ 9 ∷ 18 ∷ 18 ∷ 0 ∷ []

pub record HaveKeys : Type 0 where
  -- {O, O, H} below the aldehyde's carbon, {O, H, H} below that of the hydroxymethyl group
  pub aldehyde : keys_below glyceraldehyde (real_node 1 (0 ∷ [])) ≡ 48 ∷ 48 ∷ 6 ∷ []
  pub hydroxymethyl : keys_below glyceraldehyde (real_node 4 (0 ∷ [])) ≡ 48 ∷ 6 ∷ 6 ∷ []
  -- a carbon beside the nitrogen of pyridine is doubly bonded to carbon or to nitrogen: six times six and a half
  pub pyridine_positions : positions_at (graph_of phenyl_pyridinyl_methanol) 3 ≡ 2 ∷ 4 ∷ []
  pub pyridine_mean : mean_key (graph_of phenyl_pyridinyl_methanol)
      (positions_of (graph_of phenyl_pyridinyl_methanol)) 3 ≡ 39
  pub pyridine : keys_below phenyl_pyridinyl_methanol (real_node 3 (2 ∷ 0 ∷ [])) ≡ 39 ∷ 42 ∷ 6 ∷ []
  pub phenyl : keys_below phenyl_pyridinyl_methanol (real_node 9 (8 ∷ 0 ∷ [])) ≡ 36 ∷ 36 ∷ 6 ∷ []
  -- a closure of the root; duplicates of the aldehyde's carbon and oxygen
  pub closure : distance_key Wording2013 sphere_in_digraph (duplicate Closure 0 (1 ∷ 2 ∷ 0 ∷ [])) ≡ 0
  pub carbon_as_printed : distance_key Wording2013 sphere_in_digraph (duplicate Multiple 4 (5 ∷ 4 ∷ 0 ∷ [])) ≡ 1
  pub carbon_as_corrected : distance_key Wording2018 sphere_in_digraph (duplicate Multiple 4 (5 ∷ 4 ∷ 0 ∷ [])) ≡ 2
  pub oxygen_as_printed : distance_key Wording2013 sphere_in_digraph (duplicate Multiple 5 (4 ∷ 0 ∷ [])) ≡ 2
  pub oxygen_as_corrected : distance_key Wording2018 sphere_in_digraph (duplicate Multiple 5 (4 ∷ 0 ∷ [])) ≡ 1
  -- tritium, deuterium and hydrogen in half units, and no mass at a duplicate
  pub tritium : mass_key (graph_of isotopic_chloromethane) (real_node 2 (0 ∷ [])) ≡ 6
  pub deuterium : mass_key (graph_of isotopic_chloromethane) (real_node 3 (0 ∷ [])) ≡ 4
  pub hydrogen : mass_key (graph_of isotopic_chloromethane) (real_node 4 (0 ∷ [])) ≡ 3
  pub duplicate_has_none : mass_key (graph_of isotopic_chloromethane) (duplicate Closure 2 (0 ∷ [])) ≡ 0
