-- What is ranked is fit: undefined units, those that tie, and each two ligands of theirs.
use Rattle.std.proofs.Common.{◌≡◌, ◌≢◌, ℕ, suc, Bool, true, false, cond, List, [], ◌∷◌, ◌++◌, map, lit≤, subst, sym, arith, All, AllPairs}
use Rattle.std.specs.List.{flat_map}
use Rattle.std.proofs.lemmas.List.Elements.{All-append, All-cons, All-head, All-nil, All-tail}
use Rattle.std.proofs.lemmas.List.Kept.{AllPairs-cons}
use Rattle.cip_mol.specs.declared.site.Ligand.{Ligand}
use Rattle.cip_mol.specs.declared.site.Site.{Site}
use Rattle.cip_mol.specs.declared.site.Unit as units
use Rattle.cip_digraph.specs.graph.Graph.{Graph}
use Rattle.cip_digraph.specs.units.Ends.{End, ends_of}
use Rattle.cip_label.specs.Fitting.{AreFit, IsFit, IsFitSite, IsNeighbour}
use Rattle.cip_label.specs.Settings.{IsProper, LabelContext}
use Rattle.cip_label.proofs.lemmas.FitUnits.{units_fit}
use Rattle.cip_digraph.specs.Sides.{each_two}
use Rattle.cip_undefined.specs.Pairs.{end_of, pair, pairs_at, pairs_of}
use Rattle.cip_undefined.specs.Ties.{tied_sites, ties}
use Rattle.cip_undefined.specs.UndefinedUnits.{found_among, found_at, found_unit, is_undefined}
use Rattle.cip_undefined.specs.declared.pairs.Pair.{Pair}
use Rattle.cip_undefined.specs.declared.unit.UndefinedUnit.{UndefinedUnit}

flat_keeps : {X Y : Type 0} (P : X → Type 0) (Q : Y → Type 0) (f : X → List Y) → ((x : X) → P x → All Q (f x))
    → (xs : List X) → All P xs → All Q (flat_map f xs)
flat_keeps P Q f each [] h = All-nil Q
flat_keeps P Q f each (x ∷ xs) h =
    All-append Q (f x) (flat_map f xs) (each x (All-head P x xs h)) (flat_keeps P Q f each xs (All-tail P x xs h))

one_if : {Y : Type 0} (Q : Y → Type 0) (b : Bool) (y : Y) → Q y → All Q (cond b (y ∷ []) [])
one_if Q true y h = All-cons Q y [] h (All-nil Q)
one_if Q false y h = All-nil Q

module _ (graph : Graph) where
  abbrev pub IsFitPair : Pair → Type 0
  IsFitPair two = IsFit graph two.at (two.one ∷ two.other ∷ [])

  abbrev pub IsFitUnit : UndefinedUnit → Type 0
  IsFitUnit unit = IsFitSite graph unit.site

  fit_pair : (at : ℕ) (x y : Ligand) → IsNeighbour graph at x → IsNeighbour graph at y → x ≢ y
      → IsFitPair (pair at x y)
  fit_pair at x y one other apart = record {
    two = lit≤ tt;
    few = lit≤ tt;
    beside = All-cons (IsNeighbour graph at) x (y ∷ []) one
        (All-cons (IsNeighbour graph at) y [] other (All-nil (IsNeighbour graph at)));
    different = AllPairs-cons ◌≢◌ x (y ∷ []) (All-cons (λ z. x ≢ z) y [] apart (All-nil (λ z. x ≢ z)))
        (AllPairs-cons ◌≢◌ y [] (All-nil (λ z. y ≢ z)) (λ i j d lt within. absurd (omega (arith, within))));
  }

  with_each : (at : ℕ) (x : Ligand) (ys : List Ligand) → IsNeighbour graph at x → All (IsNeighbour graph at) ys
      → All (λ y. x ≢ y) ys → All IsFitPair (map (pair at x) ys)
  with_each at x [] one others apart = All-nil IsFitPair
  with_each at x (y ∷ ys) one others apart =
      All-cons IsFitPair (pair at x y) (map (pair at x) ys)
      (fit_pair at x y one (All-head (IsNeighbour graph at) y ys others) (All-head (λ z. x ≢ z) y ys apart))
      (with_each at x ys one (All-tail (IsNeighbour graph at) y ys others) (All-tail (λ z. x ≢ z) y ys apart))

  two_fit : (at : ℕ) (ligands : List Ligand) → All (IsNeighbour graph at) ligands → AllPairs ◌≢◌ ligands
      → All IsFitPair (each_two (pair at) ligands)
  two_fit at [] beside different = All-nil IsFitPair
  two_fit at (x ∷ xs) beside different =
      All-append IsFitPair (map (pair at x) xs) (each_two (pair at) xs)
      (with_each at x xs (All-head (IsNeighbour graph at) x xs beside) (All-tail (IsNeighbour graph at) x xs beside)
      (λ j d lt. different 0 (suc j) d (omega arith) (omega (arith, lt))))
      (two_fit at xs (All-tail (IsNeighbour graph at) x xs beside)
      (λ i j d lt within. different (suc i) (suc j) d (omega (arith, lt)) (omega (arith, within))))

  pub pairs_fit : (site : Site) → IsFitSite graph site → All IsFitPair (pairs_of site)
  pairs_fit site fit =
      flat_keeps (λ (end : End). IsFit graph end.at end.ligands) IsFitPair pairs_at
      (λ end h. two_fit end.at end.ligands h.beside h.different) (ends_of site) fit.ends

  pub tied_fit : (found : List UndefinedUnit) → All IsFitUnit found → All (IsFitSite graph) (tied_sites found)
  tied_fit found fit =
      flat_keeps IsFitUnit (IsFitSite graph) (λ unit. cond (ties unit.state) (unit.site ∷ []) [])
      (λ unit h. one_if (IsFitSite graph) (ties unit.state) unit.site h) found fit

-- the units of a setting, and the undefined ones among them
pub listed_fit : (setting : LabelContext) → IsProper setting → (all : List units.Unit) → all ≡ setting.units
    → AreFit setting.graph all
listed_fit setting proper all e =
    subst (AreFit setting.graph) (sym e)
    (units_fit setting.graph proper.sound setting.positions setting.units proper.sites)

pub found_fit : (setting : LabelContext) (nodes : ℕ) (all : List units.Unit) → AreFit setting.graph all
    → All (IsFitUnit setting.graph) (found_among setting nodes all)
found_fit setting nodes all fit =
    flat_keeps (λ (unit : units.Unit). IsFitSite setting.graph unit.site) (IsFitUnit setting.graph)
    (found_at setting nodes)
    (λ unit h. one_if (IsFitUnit setting.graph) (is_undefined unit.geometry) (found_unit setting nodes unit.site) h)
    all fit
