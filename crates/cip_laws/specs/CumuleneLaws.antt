-- Which chains of double bonds are listed as cumulenes. Own, after IUPAC 2013, P-93.
use Rattle.std.specs.Prelude.{◌≡◌, ◌≢◌, ◌<◌, ◌≤◌, ⊤, ℕ, List, [], ◌∷◌, true, false, filter, flat_map, map, length}
use Rattle.std.specs.List.{AllPairs, range_with_len}
use Rattle.cip_mol.specs.Drawing.{Drawing}
use Rattle.cip_digraph.specs.graph.Graph.{Graph}
use Rattle.cip_digraph.specs.graph.SoundGraphs.{IsSound}
use Rattle.cip_digraph.specs.units.Allenes.{doubles, is_allene_middle, is_axis_end}
use Rattle.cip_symmetry.specs.Images.{Among}
use Rattle.cip_axis.specs.Cumulenes.{any_bond, last_atom, chains, is_cumulene}
use Rattle.cip_axis.specs.Further.{cumulene_unit, cumulenes_of}
use Rattle.cip_axis.specs.declared.site.FurtherUnit.{FurtherUnit}
use Rattle.cip_ring.specs.AnyRings.{is_in_ring}

-- an inner atom of a chain, as the middle of an allene: its two bonds are double, one to the atom before it and the
-- other to the one after it
pub record IsInner (graph : Graph) (before at behind : ℕ) : Type 0 where
  pub middle : is_allene_middle graph at ≡ true
  pub back : Among before (doubles graph at)
  pub on : Among behind (doubles graph at)
  pub differ : before ≢ behind

-- of the atoms after the first of a chain each is an inner one but the last
abbrev pub AreInner : Graph → ℕ → ℕ → List ℕ → Type 0
AreInner graph before at [] = ⊤
AreInner graph before at (behind ∷ more) = IsInner graph before at behind × AreInner graph at behind more

-- a chain of at least three double bonds, none of them in a ring, with such ends, by the end of the lower number
pub record IsCumulene (graph : Graph) (chain : List ℕ) : Type 0 where
  pub a : ℕ
  pub next : ℕ
  pub more : List ℕ
  pub atoms : chain ≡ a ∷ next ∷ more
  pub joined : Among next (doubles graph a)
  pub inner : AreInner graph a next more
  pub long : 4 ≤ length chain
  pub drawn : a < graph.drawn
  pub lower : a < last_atom chain
  pub first : is_axis_end graph chain a ≡ true
  pub last : is_axis_end graph chain (last_atom chain) ≡ true
  pub free : any_bond (is_in_ring graph) chain ≡ false

-- the chains that are tried at all atoms and pass, and their units
abbrev pub chains_in : Graph → List (List ℕ)
chains_in graph = flat_map (λ a. filter (is_cumulene graph) (chains graph a)) (range_with_len 0 graph.drawn)

abbrev pub cumulenes_in : Drawing → Graph → List FurtherUnit
cumulenes_in drawing graph = flat_map (cumulenes_of drawing graph) (range_with_len 0 graph.drawn)

-- the cumulenes that are listed are those of these chains; each such chain is among them once, and nothing else is; none
-- meets an atom twice
pub record AreTheCumulenes (drawing : Drawing) (graph : Graph) : Type 0 where
  pub units : cumulenes_in drawing graph ≡ map (cumulene_unit drawing graph) (chains_in graph)
  pub each : (chain : List ℕ) → IsCumulene graph chain → Among chain (chains_in graph)
  pub only : (chain : List ℕ) → Among chain (chains_in graph) → IsCumulene graph chain
  pub once : AllPairs ◌≢◌ (chains_in graph)
  pub different : (chain : List ℕ) → IsCumulene graph chain → AllPairs ◌≢◌ chain

abbrev pub ChainsAreListed : Type 0
ChainsAreListed = (drawing : Drawing) (graph : Graph) → IsSound graph → AreTheCumulenes drawing graph
