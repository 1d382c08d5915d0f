-- A centre that gets a mark has the order, the rule and the sphere that it had as an open one. Own.
use Rattle.std.specs.Prelude.{◌≡◌, ℕ, List, All, true}
use Rattle.cip_rank.specs.declared.rules.Rules.{Rules}
use Rattle.cip_mol.specs.Drawing.{Drawing}
use Rattle.cip_mol.specs.declared.labels.descriptor.Sense.{Sense}
use Rattle.cip_mol.specs.Marks.{joins}
use Rattle.cip_mol.specs.declared.graph.molecule.Bond.{Bond}
use Rattle.cip_mol.specs.declared.graph.molecule.Mark.{Mark}
use Rattle.cip_mol.specs.declared.site.Geometry.TheVariants.{Known}
use Rattle.cip_digraph.specs.graph.DrawnGraph.{graph_of}
use Rattle.cip_digraph.specs.units.Centres.{is_centre}
use Rattle.cip_digraph.specs.units.Units.{centre_site}
use Rattle.cip_edit.specs.FoundCentres.{found_at, shown_at}
use Rattle.cip_edit.specs.MarkLaw.{with_bonds}
use Rattle.cip_edit.specs.Marking.{has_centre, with_mark}
use Rattle.cip_edit.specs.Remarked.{AreRemarked}
use Rattle.cip_label.specs.Settings.{setting_in}
use Rattle.cip_undefined.specs.Laws.{AreAlikeButLetters}
use Rattle.cip_undefined.specs.UndefinedUnits.{open_outcome}

-- with other marks that have their narrow end at a centre, where they show a sense of it
abbrev pub MarksKeepOrders : Type 0
MarksKeepOrders =
    (rules : Rules) (nodes : ℕ) (drawing : Drawing) (others : List Bond) (atom : ℕ) (sense : Sense) →
    is_centre (graph_of drawing) atom ≡ true → AreRemarked atom drawing.bonds others →
    shown_at (with_bonds drawing others) atom ≡ Known sense →
    AreAlikeButLetters (found_at rules nodes (with_bonds drawing others) atom)
    (open_outcome (setting_in rules drawing) nodes (centre_site (graph_of drawing) atom))

-- a bond between an atom and a neighbour has its narrow end at the atom
abbrev pub IsDrawnFrom : ℕ → ℕ → Bond → Type 0
IsDrawnFrom atom neighbour bond = joins atom neighbour bond ≡ true → bond.a ≡ atom

-- with the one mark that a centre is given, at a bond that is drawn from it
abbrev pub GivenMarksKeepOrders : Type 0
GivenMarksKeepOrders =
    (rules : Rules) (nodes : ℕ) (drawing : Drawing) (atom neighbour : ℕ) (mark : Mark) (sense : Sense) →
    has_centre drawing atom ≡ true → All (IsDrawnFrom atom neighbour) drawing.bonds →
    shown_at (with_mark drawing atom neighbour mark) atom ≡ Known sense →
    AreAlikeButLetters (found_at rules nodes (with_mark drawing atom neighbour mark) atom)
    (open_outcome (setting_in rules drawing) nodes (centre_site (graph_of drawing) atom))
