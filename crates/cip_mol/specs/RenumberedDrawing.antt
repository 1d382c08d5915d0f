-- A drawing with its atoms and bonds at other places. Own.
use Rattle.std.specs.Prelude.{ℕ, ◌+◌, ◌==◌, List, [], ◌∷◌, map, length, cond, slice_index_or}
use Rattle.std.specs.List.{range_with_len}
use Rattle.cip_mol.specs.Drawing.{Drawing}
use Rattle.cip_mol.specs.Points.{no_atom}
use Rattle.cip_mol.specs.declared.graph.molecule.Bond.{Bond}
use Rattle.cip_mol.specs.declared.graph.molecule.Mark.TheVariants.{Plain}

abbrev pub no_bond : Bond
no_bond = record { a = 0; b = 0; order = 0; mark = Plain }

-- the place of a number's first occurrence in a list, counted from 0, and the length of the list if it isn't there
abbrev pub index_of : ℕ → List ℕ → ℕ
index_of n [] = 0
index_of n (m ∷ ms) = cond (m == n) 0 (index_of n ms + 1)

-- each item at its place
abbrev pub placed : {X : Type 0} → X → List ℕ → List X → List X
placed none places items =
    map (λ place. slice_index_or items (index_of place places) none) (range_with_len 0 (length items))

-- where a number goes, and itself where no place is given for it
abbrev pub place_of : List ℕ → ℕ → ℕ
place_of places n = slice_index_or places n n

abbrev pub renamed : (ℕ → ℕ) → Bond → Bond
renamed image bond = record bond { a = image bond.a; b = image bond.b }

-- Atom i goes to place i of the one list, bond i to place i of the other one, its ends renamed in their order.
abbrev pub renumbered : List ℕ → List ℕ → Drawing → Drawing
renumbered atoms bonds drawing = record {
  atoms = placed no_atom atoms drawing.atoms;
  bonds = placed no_bond bonds (map (renamed (place_of atoms)) drawing.bonds);
}
