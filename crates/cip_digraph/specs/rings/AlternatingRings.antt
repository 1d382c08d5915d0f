-- Alternating rings as such, apart from how they are searched for. IUPAC 2013, P-92.1.4; that they have at most 24
-- atoms is own.
use Rattle.std.specs.Prelude.{◌≡◌, ◌≢◌, ◌≤◌, ℕ, true, List, [], ◌∷◌, All, length}
use Rattle.std.specs.List.{AllPairs}
use Rattle.cip_digraph.specs.rings.Alternating.{is_in, is_alternating, partner, singles}
use Rattle.cip_digraph.specs.graph.Graph.{Graph}

-- a way by turns over a single bond, to each atom of a list, and over the double bond after it
abbrev pub Alternates : Graph → ℕ → List ℕ → ℕ → Type 0
Alternates graph at [] target = at ≡ target
Alternates graph at (next ∷ others) target =
    (is_in next (singles graph at) ≡ true) × Alternates graph (partner graph next) others target

-- the atoms that it meets
abbrev pub met : Graph → List ℕ → List ℕ
met graph [] = []
met graph (next ∷ others) = next ∷ partner graph next ∷ met graph others

abbrev pub ring_of : Graph → ℕ → List ℕ → List ℕ
ring_of graph vertex nexts = vertex ∷ partner graph vertex ∷ met graph nexts

-- A ring through the single bond between two atoms: over the double bond of the one, and then by turns to the other.
pub record IsAlternatingRing (graph : Graph) (vertex other : ℕ) (nexts : List ℕ) : Type 0 where
  pub single : is_in other (singles graph vertex) ≡ true
  pub way : Alternates graph (partner graph vertex) nexts other
  pub alternating : All (λ atom. is_alternating graph atom ≡ true) (ring_of graph vertex nexts)
  pub different : AllPairs ◌≢◌ (ring_of graph vertex nexts)
  pub some : 4 ≤ length (ring_of graph vertex nexts)
  pub few : length (ring_of graph vertex nexts) ≤ 24
