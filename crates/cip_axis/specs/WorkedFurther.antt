-- Further units of worked molecules, with what their drawings show, worked by hand. Own.
use Rattle.std.specs.Prelude.{◌≡◌, ℤ, pos, negsuc, List, [], ◌∷◌}
use Rattle.cip_mol.specs.Drawing.{Drawing}
use Rattle.cip_mol.specs.declared.graph.molecule.Atom.{Atom}
use Rattle.cip_mol.specs.declared.graph.molecule.Bond.{Bond}
use Rattle.cip_mol.specs.declared.graph.molecule.Mark.{Mark}
use Rattle.cip_mol.specs.declared.graph.molecule.Mark.TheVariants as marks
use Rattle.cip_mol.specs.declared.labels.descriptor.Sense.TheVariants.{Plus, Minus}
use Rattle.cip_mol.specs.declared.site.Cause.TheVariants.{Either, NoMark}
use Rattle.cip_mol.specs.declared.site.Geometry.TheVariants.{Known, Unknown}
use Rattle.cip_mol.specs.declared.site.Ligand.TheVariants.{Vertex}
use Rattle.cip_digraph.specs.worked.Molecules.{carbon, fluorine, chlorine, bromine, single, double}
use Rattle.cip_axis.specs.Further.{further_in}
use Rattle.cip_axis.specs.declared.site.FurtherSite.TheVariants.{Cumulene, Biaryl}

abbrev pub at : ℤ → ℤ → Atom → Atom
at x y atom = record atom { at = record { x = x; y = y; z = pos 0 } }

abbrev pub marked : Mark → Bond → Bond
marked mark bond = record bond { mark = mark }

-- 0 and 5 the methyl groups, on one side; the middle double bond may be marked as undecided
abbrev pub hexatriene : Mark → Drawing
hexatriene middle = record {
  atoms = at (negsuc 19999) (pos 8660) carbon ∷ at (negsuc 14999) (pos 0) carbon ∷ at (negsuc 4999) (pos 0) carbon ∷
      at (pos 5000) (pos 0) carbon ∷ at (pos 15000) (pos 0) carbon ∷ at (pos 20000) (pos 8660) carbon ∷ [];
  bonds = single 0 1 ∷ double 1 2 ∷ marked middle (double 2 3) ∷ double 3 4 ∷ single 4 5 ∷ [];
}

-- two rings, 0 to 5 and 6 to 11, with 12 to 15 beside the axis; the bond from 0 to 5 and the axis may be marked
abbrev pub biphenyl : Mark → Mark → Drawing
biphenyl beside axis = record {
  atoms = at (pos 0) (pos 0) carbon ∷ at (negsuc 4999) (pos 8660) carbon ∷ at (negsuc 14999) (pos 8660) carbon ∷
      at (negsuc 19999) (pos 0) carbon ∷ at (negsuc 14999) (negsuc 8659) carbon ∷
      at (negsuc 4999) (negsuc 8659) carbon ∷ at (pos 10000) (pos 0) carbon ∷ at (pos 15000) (pos 8660) carbon ∷
      at (pos 25000) (pos 8660) carbon ∷ at (pos 30000) (pos 0) carbon ∷ at (pos 25000) (negsuc 8659) carbon ∷
      at (pos 15000) (negsuc 8659) carbon ∷ at (pos 0) (pos 17320) chlorine ∷ at (pos 0) (negsuc 17319) fluorine ∷
      at (pos 10000) (pos 17320) bromine ∷ at (pos 10000) (negsuc 17319) fluorine ∷ [];
  bonds = double 0 1 ∷ single 1 2 ∷ double 2 3 ∷ single 3 4 ∷ double 4 5 ∷ marked beside (single 0 5) ∷
      marked axis (single 0 6) ∷ double 6 7 ∷ single 7 8 ∷ double 8 9 ∷ single 9 10 ∷ double 10 11 ∷ single 6 11 ∷
      single 1 12 ∷ single 5 13 ∷ single 7 14 ∷ single 11 15 ∷ [];
}

pub record AreFound : Type 0 where
  pub chain : further_in (hexatriene marks.Plain)
      ≡ record {
        site = Cumulene 1 4 3 (Vertex 0 ∷ Vertex 9 ∷ []) (Vertex 5 ∷ Vertex 10 ∷ []);
        geometry = Known Plus;
      } ∷ []
  pub undecided_chain : further_in (hexatriene marks.Either)
      ≡ record {
        site = Cumulene 1 4 3 (Vertex 0 ∷ Vertex 9 ∷ []) (Vertex 5 ∷ Vertex 10 ∷ []);
        geometry = Unknown Either;
      } ∷ []
  pub rings : further_in (biphenyl marks.Up marks.Plain)
      ≡ record {
        site = Biaryl 0 6 (Vertex 1 ∷ Vertex 5 ∷ []) (Vertex 7 ∷ Vertex 11 ∷ []);
        geometry = Known Plus;
      } ∷ []
  -- a mark on the axis itself counts at neither end
  pub marked_axis : further_in (biphenyl marks.Up marks.Up)
      ≡ record {
        site = Biaryl 0 6 (Vertex 1 ∷ Vertex 5 ∷ []) (Vertex 7 ∷ Vertex 11 ∷ []);
        geometry = Known Plus;
      } ∷ []
  pub only_axis_marked : further_in (biphenyl marks.Plain marks.Down)
      ≡ record {
        site = Biaryl 0 6 (Vertex 1 ∷ Vertex 5 ∷ []) (Vertex 7 ∷ Vertex 11 ∷ []);
        geometry = Unknown NoMark;
      } ∷ []
  pub undecided_axis : further_in (biphenyl marks.Up marks.Either)
      ≡ record {
        site = Biaryl 0 6 (Vertex 1 ∷ Vertex 5 ∷ []) (Vertex 7 ∷ Vertex 11 ∷ []);
        geometry = Unknown Either;
      } ∷ []
