-- Marks that are asked for, worked by hand: bromochlorofluoromethane as a cross and with its ligands on one side.
use Rattle.std.specs.Prelude.{◌≡◌, ℕ, ℤ, pos, negsuc, false, true, [], ◌∷◌, Ok, Err}
use Rattle.std.specs.declared.result.Result.{Result}
use Rattle.cip_rank.specs.declared.rules.Rules.TheVariants.{Wording2013}
use Rattle.cip_mol.specs.Drawing.{Drawing}
use Rattle.cip_mol.specs.declared.graph.molecule.Atom.{Atom}
use Rattle.cip_mol.specs.declared.graph.molecule.Bond.{Bond}
use Rattle.cip_mol.specs.declared.graph.molecule.Mark.{Mark}
use Rattle.cip_mol.specs.declared.graph.molecule.Mark.TheVariants.{Up, Down}
use Rattle.cip_digraph.specs.worked.Molecules.{any_atom, carbon, oxygen, fluorine, chlorine, bromine, single, double}
use Rattle.cip_edit.specs.SetLetters.{mark_for_letter}
use Rattle.cip_mol.specs.declared.labels.centre_letter.CentreLetter.{CentreLetter}
use Rattle.cip_mol.specs.declared.labels.centre_letter.CentreLetter.TheVariants.{R, S, SmallR}
use Rattle.cip_edit.specs.declared.request.CentreRefusal.{CentreRefusal}
use Rattle.cip_edit.specs.declared.request.CentreRefusal.TheVariants as refusals
use Rattle.cip_edit.specs.declared.request.MarkedCentre.{MarkedCentre}

abbrev pub at : ℤ → ℤ → Atom → Atom
at x y atom = record atom { at = record { x = x; y = y; z = pos 0 } }

abbrev pub up : ℕ → ℕ → Bond
up a b = record (single a b) { mark = Up }

-- 0 the carbon, 1 the fluorine above, 2 the chlorine to the right, 3 the bromine below, 4 the hydrogen to the left
abbrev pub cross : Bond → Drawing
cross bond = record {
  atoms = at (pos 0) (pos 0) carbon ∷ at (pos 0) (pos 10000) fluorine ∷ at (pos 10000) (pos 0) chlorine ∷
      at (pos 0) (negsuc 9999) bromine ∷ at (negsuc 9999) (pos 0) (any_atom 1 0 (pos 0)) ∷ [];
  bonds = bond ∷ single 0 2 ∷ up 0 3 ∷ single 0 4 ∷ [];
}

-- 1 the chlorine, between 2 the fluorine and 3 the bromine
abbrev pub on_one_side : Drawing
on_one_side = record {
  atoms = at (pos 0) (pos 0) carbon ∷ at (pos 0) (pos 10000) chlorine ∷ at (pos 10000) (pos 10000) fluorine ∷
      at (negsuc 9999) (pos 10000) bromine ∷ [];
  bonds = up 0 1 ∷ single 0 2 ∷ single 0 3 ∷ [];
}

-- two hydrogens
abbrev pub tied : Drawing
tied = record {
  atoms = at (pos 0) (pos 0) carbon ∷ at (pos 0) (pos 10000) fluorine ∷ at (pos 10000) (pos 0) chlorine ∷
      at (pos 0) (negsuc 9999) (any_atom 1 0 (pos 0)) ∷ at (negsuc 9999) (pos 0) (any_atom 1 0 (pos 0)) ∷ [];
  bonds = single 0 1 ∷ single 0 2 ∷ single 0 3 ∷ single 0 4 ∷ [];
}

-- two ligands at one place
abbrev pub folded : Drawing
folded = record {
  atoms = at (pos 0) (pos 0) carbon ∷ at (pos 0) (pos 10000) fluorine ∷ at (pos 0) (pos 20000) chlorine ∷
      at (pos 0) (negsuc 9999) bromine ∷ [];
  bonds = single 0 1 ∷ single 0 2 ∷ single 0 3 ∷ [];
}

-- a meso 2,3,4-trihydroxyglutaric acid: 0 to 4 the chain, 5 to 7 the hydroxyl groups
abbrev pub meso : Drawing
meso = record {
  atoms = at (negsuc 17319) (pos 5000) carbon ∷ at (negsuc 8659) (pos 0) carbon ∷ at (pos 0) (pos 5000) carbon ∷
      at (pos 8660) (pos 0) carbon ∷ at (pos 17320) (pos 5000) carbon ∷
      at (negsuc 8659) (negsuc 9999) oxygen ∷ at (pos 0) (pos 15000) oxygen ∷
      at (pos 8660) (negsuc 9999) oxygen ∷ at (negsuc 17319) (pos 15000) oxygen ∷
      at (negsuc 25979) (pos 0) oxygen ∷ at (pos 17320) (pos 15000) oxygen ∷ at (pos 25980) (pos 0) oxygen ∷
      [];
  bonds = single 0 1 ∷ single 1 2 ∷ single 2 3 ∷ single 3 4 ∷ up 1 5 ∷ up 2 6 ∷ up 3 7 ∷ double 0 8 ∷
      single 0 9 ∷ double 4 10 ∷ single 4 11 ∷ [];
}

abbrev pub requested : Drawing → ℕ → CentreLetter → Result MarkedCentre CentreRefusal
requested drawing atom letter = mark_for_letter Wording2013 100 drawing atom letter

abbrev pub marks : ℕ → Mark → Result MarkedCentre CentreRefusal
marks neighbour mark = Ok (record { neighbour = neighbour; mark = mark })

pub record AreAnswered : Type 0 where
  pub first : requested (cross (single 0 1)) 0 R ≡ marks 1 Down
  pub other : requested (cross (single 0 1)) 0 S ≡ marks 1 Up
  pub turned : requested (cross (single 1 0)) 0 R ≡ marks 1 Down
  -- the mark at the fluorine stays, and the chlorine's bond is marked
  pub stays : requested (cross (up 1 0)) 0 R ≡ marks 2 Up
  -- no mark at the chlorine, between the two others
  pub between : requested on_one_side 0 R ≡ marks 2 Up
  pub no_centre : requested (cross (single 0 1)) 1 R ≡ Err refusals.NoCentre
  pub no_atom : requested (cross (single 0 1)) 5 R ≡ Err refusals.NoCentre
  pub small : requested (cross (single 0 1)) 0 SmallR ≡ Err (refusals.OtherKind false)
  pub large : mark_for_letter Wording2013 1000 meso 2 R ≡ Err (refusals.OtherKind true)
  pub small_other : mark_for_letter Wording2013 1000 meso 2 SmallR ≡ marks 1 Down
  pub tie : requested tied 0 R ≡ Err refusals.Tie
  pub over : mark_for_letter Wording2013 4 (cross (single 0 1)) 0 R ≡ Err refusals.Over
  pub coincident : requested folded 0 R ≡ Err refusals.Coincident
