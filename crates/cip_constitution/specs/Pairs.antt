-- Each two ligands of a root, by their vertices. Own.
use Rattle.std.specs.Prelude.{ℕ, ◌==◌, cond, List, [], ◌∷◌, ◌++◌, flat_map}
use Rattle.cip_mol.specs.declared.site.Ligand.{Ligand}
use Rattle.cip_mol.specs.declared.site.Ligand.TheVariants.{Vertex, LonePair}
use Rattle.cip_constitution.specs.declared.pairs.VertexPair.{VertexPair}

abbrev pub pair : ℕ → ℕ → VertexPair
pair a b = record { a = a; b = b }

-- a vertex with each other vertex of ligands
abbrev pub pair_with : ℕ → Ligand → List VertexPair
pair_with a LonePair = []
pair_with a (Vertex b) = cond (a == b) [] (pair a b ∷ [])

abbrev pub pairs_at : List Ligand → Ligand → List VertexPair
pairs_at ligands LonePair = []
pairs_at ligands (Vertex a) = flat_map (pair_with a) ligands

-- each two different vertices of ligands, the earlier one first
abbrev pub pairs_of : List Ligand → List VertexPair
pairs_of [] = []
pairs_of (ligand ∷ ligands) = pairs_at ligands ligand ++ pairs_of ligands
