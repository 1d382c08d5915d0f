-- What a drawing shows of a centre at which no mark has its narrow end: that two ligands coincide, or no more.
use Rattle.std.proofs.Common.{◌≡◌, ℕ, List, [], ◌∷◌, map, refl, ap, ◌∙◌, Bool, true, false, not, ◌||◌, ◌&&◌}
use Rattle.std.specs.Prelude.{if◌then◌else◌}
use Rattle.std.specs.List.{AllByRecursion}
use Rattle.cip_num.specs.declared.plane.Sign.TheVariants.{Minus, Plus}
use Rattle.cip_num.specs.Around.{has_coincident, places}
use Rattle.cip_mol.specs.Drawing.{Drawing}
use Rattle.cip_mol.specs.FlatCentres.{turned, votes, has_plus, has_minus, is_reentrant, inversions, by_votes, in_plane}
use Rattle.cip_mol.specs.Geometry.{geometry_of}
use Rattle.cip_mol.specs.Marks.{is_narrow_at, is_either, has_either, mark_to}
use Rattle.cip_mol.specs.Points.{point, is_spatial}
use Rattle.cip_mol.specs.Senses.{sense_of}
use Rattle.cip_mol.specs.SpatialCentres.{in_space}
use Rattle.cip_mol.specs.declared.graph.molecule.Bond.{Bond}
use Rattle.cip_mol.specs.declared.site.Cause.TheVariants.{Either, Coincident, Contradictory, Reentrant, NoMark}
use Rattle.cip_mol.specs.declared.site.Geometry.TheVariants.{Known, Unknown}
use Rattle.cip_digraph.specs.graph.DrawnGraph.{graph_of}
use Rattle.cip_digraph.specs.units.Units.{centre_site}
use Rattle.cip_edit.specs.Marking.{bare_bonds, bare, drawn_ligands, directions, shows_coincident}
use Rattle.cip_edit.proofs.lemmas.LoneMarks.{IsBare, all_bare}

no_either : (atom : ℕ) (bonds : List Bond) → AllByRecursion (IsBare atom) bonds → has_either atom bonds ≡ false
no_either atom [] all = refl
no_either atom (bond ∷ bonds) all =
    ap (λ c. c || has_either atom bonds) (here (is_narrow_at atom bond) refl) ∙ no_either atom bonds all.1
  where
    here : (b : Bool) → is_narrow_at atom bond ≡ b → (b && is_either bond.mark) ≡ false
    here true is = ap is_either (all.0 is)
    here false is = refl

apart : (plus minus reentrant : Bool) (times : ℕ)
    → shows_coincident
    (if plus && minus then Unknown Contradictory
    else if reentrant then Unknown Reentrant
    else if not (plus || minus) then Unknown NoMark
    else Known (sense_of (turned times (if plus then Plus else Minus))))
    ≡ false
apart true true reentrant times = refl
apart true false true times = refl
apart true false false times = refl
apart false true true times = refl
apart false true false times = refl
apart false false true times = refl
apart false false false times = refl

pub bare_coincident : (drawing : Drawing) (atom : ℕ) → is_spatial drawing.atoms ≡ false
    → shows_coincident (geometry_of (bare drawing atom) (centre_site (graph_of drawing) atom))
    ≡ has_coincident (directions drawing atom)
bare_coincident drawing atom flat =
    let bonds = bare_bonds atom drawing.bonds in
    let numbers = drawn_ligands drawing atom in
    let marks = map (mark_to atom bonds) numbers in
    let ds = directions drawing atom in
    ap
    (λ c. shows_coincident
    (if c then Unknown Either
    else if is_spatial drawing.atoms then in_space (point drawing.atoms atom) (map (point drawing.atoms) numbers)
    else in_plane ds marks)) (no_either atom bonds (all_bare atom drawing.bonds))
    ∙ ap
    (λ c. shows_coincident
    (if c then in_space (point drawing.atoms atom) (map (point drawing.atoms) numbers) else in_plane ds marks)) flat
    ∙ by (has_coincident ds)
  where
    by : (clash : Bool)
        → shows_coincident
        (if clash then Unknown Coincident
        else by_votes (is_reentrant (directions drawing atom)
        (map (mark_to atom (bare_bonds atom drawing.bonds)) (drawn_ligands drawing atom)))
        (places (directions drawing atom))
        (votes (places (directions drawing atom))
        (map (mark_to atom (bare_bonds atom drawing.bonds)) (drawn_ligands drawing atom))))
        ≡ clash
    by true = refl
    by false =
        let vs =
        votes (places (directions drawing atom))
        (map (mark_to atom (bare_bonds atom drawing.bonds)) (drawn_ligands drawing atom)) in
        apart (has_plus vs) (has_minus vs)
        (is_reentrant (directions drawing atom)
        (map (mark_to atom (bare_bonds atom drawing.bonds)) (drawn_ligands drawing atom)))
        (inversions (places (directions drawing atom)))
