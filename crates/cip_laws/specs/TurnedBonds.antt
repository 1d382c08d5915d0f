-- A centre that is given a mark keeps its ligands in rank order, the rule and the sphere, also where the bond that is
-- marked was drawn towards it, so that it is turned. Own.
use Rattle.std.specs.Prelude.{◌≡◌, ℕ, length, true}
use Rattle.cip_rank.specs.declared.rules.Rules.{Rules}
use Rattle.cip_mol.specs.Bonds as bonds
use Rattle.cip_mol.specs.Drawing.{Drawing}
use Rattle.cip_mol.specs.declared.labels.descriptor.Sense.{Sense}
use Rattle.cip_mol.specs.declared.graph.molecule.Mark.{Mark}
use Rattle.cip_mol.specs.declared.labels.outcome.Outcome.{Outcome}
use Rattle.cip_mol.specs.declared.site.Geometry.TheVariants.{Known}
use Rattle.cip_digraph.specs.graph.DrawnGraph.{graph_of}
use Rattle.cip_digraph.specs.units.Units.{centre_site}
use Rattle.cip_symmetry.specs.Images.{IsImageOutcome}
use Rattle.cip_edit.specs.FoundCentres.{found_at, shown_at}
use Rattle.cip_edit.specs.Marking.{has_centre, with_mark}
use Rattle.cip_label.specs.Settings.{setting_in}
use Rattle.cip_undefined.specs.Laws.{AreAlikeButLetters}
use Rattle.cip_undefined.specs.UndefinedUnits.{open_outcome}

-- what is found of a centre with its mark is, but for the letter, an outcome that goes along with that of the open
-- centre: it ties or is over where that does, and has else the same rule and sphere and the same ligands in rank order
pub record KeepsLigands (rules : Rules) (nodes : ℕ) (drawing marked : Drawing) (atom : ℕ) : Type 0 where
  pub as_open : Outcome
  pub letters : AreAlikeButLetters (found_at rules nodes marked atom) as_open
  pub ligands : IsImageOutcome (λ vertex. vertex) (centre_site (graph_of drawing) atom)
      (centre_site (graph_of marked) atom)
      (open_outcome (setting_in rules drawing) nodes (centre_site (graph_of drawing) atom)) as_open

-- with the one mark that a centre is given, at whichever bond
abbrev pub GivenMarksKeepLigands : Type 0
GivenMarksKeepLigands =
    (rules : Rules) (nodes : ℕ) (drawing : Drawing) (atom neighbour : ℕ) (mark : Mark) (sense : Sense) →
    bonds.IsSound (length drawing.atoms) drawing.bonds → has_centre drawing atom ≡ true →
    shown_at (with_mark drawing atom neighbour mark) atom ≡ Known sense →
    KeepsLigands rules nodes drawing (with_mark drawing atom neighbour mark) atom
