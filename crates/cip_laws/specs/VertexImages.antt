-- Where the vertices of a drawing go that has its atoms and bonds at other places. Own: an implicit hydrogen goes with
-- the atom that carries it.
use Rattle.std.specs.Prelude.{ℕ, ◌-◌, List, [], ◌∷◌, length, cond, nat_lt}
use Rattle.std.specs.List.{range_with_len}
use Rattle.cip_mol.specs.Bonds.{IsSound}
use Rattle.cip_mol.specs.Drawing.{Drawing}
use Rattle.cip_mol.specs.Permutations.{ArePlaces}
use Rattle.cip_mol.specs.RenumberedDrawing.{place_of, renumbered}
use Rattle.cip_digraph.specs.graph.Hydrogens.{hydrogens_of}
use Rattle.cip_digraph.specs.graph.Renumbering.{hydrogen_number, IsRenumbering}

-- A vertex that stands for an implicit hydrogen goes to one of the image of the atom that carries it. n hydrogens
-- are left to be passed from these atoms on.
abbrev pub hydrogen_image : Drawing → Drawing → List ℕ → List ℕ → ℕ → ℕ
hydrogen_image drawing other places [] left = left
hydrogen_image drawing other places (atom ∷ atoms) left =
    cond (nat_lt left (hydrogens_of drawing atom)) (hydrogen_number other (place_of places atom) left)
    (hydrogen_image drawing other places atoms (left - hydrogens_of drawing atom))

-- where each vertex of a drawing goes in another one that has its atoms at these places
abbrev pub vertex_image : Drawing → Drawing → List ℕ → ℕ → ℕ
vertex_image drawing other places vertex =
    let passed : ℕ = vertex - length drawing.atoms in
    cond (nat_lt vertex (length drawing.atoms)) (place_of places vertex)
    (hydrogen_image drawing other places (range_with_len 0 (length drawing.atoms)) passed)

-- for any permutations of the numbers of atoms and of bonds
abbrev pub RenumberedDrawingsAreRenumberings : Type 0
RenumberedDrawingsAreRenumberings = (drawing : Drawing) (atoms bonds : List ℕ) →
    IsSound (length drawing.atoms) drawing.bonds → ArePlaces (length drawing.atoms) atoms →
    ArePlaces (length drawing.bonds) bonds →
    IsRenumbering drawing (renumbered atoms bonds drawing)
    (vertex_image drawing (renumbered atoms bonds drawing) atoms)
