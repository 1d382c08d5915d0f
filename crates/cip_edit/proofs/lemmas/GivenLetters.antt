-- Where a mark is answered, the drawing with it has the asked letter.
use Rattle.std.proofs.Common.{◌≡◌, ℕ, List, [], ◌∷◌, length, refl, sym, ap, subst, ◌∙◌, Bool, true, false, cond, not, map}
use Rattle.std.specs.Prelude.{if◌then◌else◌, IfOk, Ok, Err, Some, None, nat_lt}
use Rattle.std.specs.List.{list_any}
use Rattle.std.specs.declared.option.Option.{Option}
use Rattle.std.specs.declared.result.Result.{Result}
use Rattle.cip_num.specs.Around.{has_coincident}
use Rattle.cip_rank.specs.declared.rules.Rules.{Rules}
use Rattle.cip_mol.specs.Bonds as bonds
use Rattle.cip_mol.specs.Drawing.{Drawing}
use Rattle.cip_mol.specs.Points.{is_spatial}
use Rattle.cip_mol.specs.declared.labels.descriptor.Descriptor.{Descriptor}
use Rattle.cip_mol.specs.declared.labels.descriptor.Descriptor.TheVariants.{R, S, SmallR, SmallS, M, P, SmallM, SmallP, Z, E, SeqCis, SeqTrans}
use Rattle.cip_mol.specs.declared.labels.descriptor.Sense.{Sense}
use Rattle.cip_mol.specs.declared.labels.descriptor.Sense.TheVariants.{Plus, Minus}
use Rattle.cip_mol.specs.declared.graph.molecule.Mark.TheVariants.{Up, Down}
use Rattle.cip_mol.specs.declared.labels.outcome.Label as labels
use Rattle.cip_mol.specs.declared.labels.outcome.Outcome.{Outcome}
use Rattle.cip_mol.specs.declared.labels.outcome.Outcome.TheVariants.{Label, Tie, Over, NoGeometry}
use Rattle.cip_mol.specs.declared.site.Geometry.{Geometry}
use Rattle.cip_mol.specs.declared.site.Geometry.TheVariants.{Known, Unknown}
use Rattle.cip_mol.specs.declared.site.Ligand.{Ligand}
use Rattle.cip_mol.specs.declared.site.Site.TheVariants.{Centre}
use Rattle.cip_digraph.specs.graph.DrawnGraph.{graph_of}
use Rattle.cip_digraph.specs.outcome.Outcomes.{end_root, cost, label_of, outcome_of}
use Rattle.cip_digraph.specs.rings.Positions.{positions_of}
use Rattle.cip_digraph.specs.units.Centres.{centre_ligands}
use Rattle.cip_digraph.specs.units.Descriptors.{sense_in_rank, letter_by}
use Rattle.cip_digraph.specs.units.Ends.{end_at}
use Rattle.cip_digraph.specs.units.Ranked.{ranks, turned_ranks, has_tie}
use Rattle.cip_mol.specs.declared.labels.centre_letter.CentreLetter.{CentreLetter}
use Rattle.cip_mol.specs.declared.labels.centre_letter.CentreLetter.TheVariants as asked_letters
use Rattle.cip_edit.specs.declared.request.CentreRefusal.{CentreRefusal}
use Rattle.cip_edit.specs.declared.request.CentreRefusal.TheVariants as refusals
use Rattle.cip_edit.specs.declared.request.MarkedCentre.{MarkedCentre}
use Rattle.cip_digraph.specs.units.DrawnUnits.{units_in}
use Rattle.cip_edit.specs.FoundCentres.{outcome_as, shown_at, found_at}
use Rattle.cip_edit.specs.Marking.{with_mark, directions, chosen, has_centre}
use Rattle.cip_mol.specs.CentreLetters.{descriptor_of, asks_small}
use Rattle.cip_edit.specs.SetLetters.{is_small, is_r, asks_r, same, mark_for, by_outcome, by_chosen, mark_for_letter, HasLetter, IsGiven}
use Rattle.cip_edit.specs.TurnedLetters.{turned_letter, turned_outcome}
use Rattle.cip_edit.proofs.lemmas.SetMarks.{centre_stays, down_found}

-- the descriptors that a centre can have
is_centre_letter : Descriptor → Bool
is_centre_letter R = true
is_centre_letter S = true
is_centre_letter SmallR = true
is_centre_letter SmallS = true
is_centre_letter _ = false

-- by whether it is small, and whether it is R or r
abbrev of_kind : Bool → Bool → Descriptor
of_kind small r = cond small (cond r SmallR SmallS) (cond r R S)

by_kind : (d : Descriptor) → is_centre_letter d ≡ true → d ≡ of_kind (is_small d) (is_r d)
unfolding is_centre_letter
by_kind R e = refl
by_kind S e = refl
by_kind SmallR e = refl
by_kind SmallS e = refl
by_kind M e = let bad : false ≡ true = e in cc
by_kind P e = let bad : false ≡ true = e in cc
by_kind SmallM e = let bad : false ≡ true = e in cc
by_kind SmallP e = let bad : false ≡ true = e in cc
by_kind Z e = let bad : false ≡ true = e in cc
by_kind E e = let bad : false ≡ true = e in cc
by_kind SeqCis e = let bad : false ≡ true = e in cc
by_kind SeqTrans e = let bad : false ≡ true = e in cc

asked_kind : (requested : CentreLetter) → of_kind (asks_small requested) (asks_r requested) ≡ descriptor_of requested
asked_kind asked_letters.R = refl
asked_kind asked_letters.S = refl
asked_kind asked_letters.SmallR = refl
asked_kind asked_letters.SmallS = refl

kind_turned : (small r : Bool) → turned_letter (of_kind small r) ≡ of_kind small (not r)
kind_turned true true = refl
kind_turned true false = refl
kind_turned false true = refl
kind_turned false false = refl

are_same : (a b : Bool) → same a b ≡ true → a ≡ b
are_same true b e = sym e
are_same false true e = let bad : false ≡ true = e in cc
are_same false false e = refl

are_opposite : (a b : Bool) → same a b ≡ false → not a ≡ b
are_opposite true b e = sym e
are_opposite false true e = refl
are_opposite false false e = let bad : true ≡ false = e in cc

asked_found : (d : Descriptor) (requested : CentreLetter) → is_centre_letter d ≡ true
    → same (is_small d) (asks_small requested) ≡ true → same (is_r d) (asks_r requested) ≡ true → d ≡ descriptor_of requested
asked_found d requested c e f =
    let small = are_same (is_small d) (asks_small requested) e in
    let r = are_same (is_r d) (asks_r requested) f in
    by_kind d c ∙ (λ i. of_kind (small i) (r i)) ∙ asked_kind requested

asked_turned : (d : Descriptor) (requested : CentreLetter) → is_centre_letter d ≡ true
    → same (is_small d) (asks_small requested) ≡ true → same (is_r d) (asks_r requested) ≡ false
    → turned_letter d ≡ descriptor_of requested
asked_turned d requested c e f =
    let small = are_same (is_small d) (asks_small requested) e in
    let r = are_opposite (is_r d) (asks_r requested) f in
    ap turned_letter (by_kind d c) ∙ kind_turned (is_small d) (is_r d) ∙ (λ i. of_kind (small i) (r i))
    ∙ asked_kind requested

-- a centre's label has such a descriptor
letter_kind : (at : ℕ) (ligands : List Ligand) (sense turned : Sense)
    → is_centre_letter (letter_by (Centre at ligands) sense turned) ≡ true
unfolding is_centre_letter
letter_kind at ligands Plus Plus = refl
letter_kind at ligands Plus Minus = refl
letter_kind at ligands Minus Plus = refl
letter_kind at ligands Minus Minus = refl

abbrev letter_found : Outcome → Descriptor
letter_found (Label label) = label.letter
letter_found Tie = R
letter_found Over = R
letter_found (NoGeometry cause) = R

abbrev found_by : Bool → Bool → labels.Label → Outcome
found_by over tie label =
    elim over as (λ _. Outcome) [
      | true ↦ Over
      | false ↦ elim tie as (λ _. Outcome) [ true ↦ Tie | false ↦ Label label ]
    ]

found_kind : (over tie : Bool) (one label : labels.Label) → is_centre_letter one.letter ≡ true
    → found_by over tie one ≡ Label label → is_centre_letter label.letter ≡ true
found_kind true tie one label e f = let bad : ◌≡◌ {A = Outcome} Over (Label label) = f in cc
found_kind false true one label e f = let bad : ◌≡◌ {A = Outcome} Tie (Label label) = f in cc
found_kind false false one label e f = ap is_centre_letter (sym (ap letter_found f)) ∙ e

label_kind : (rules : Rules) (bound : ℕ) (drawing : Drawing) (atom : ℕ) (geometry : Geometry) (label : labels.Label)
    → outcome_as rules bound drawing atom geometry ≡ Label label → is_centre_letter label.letter ≡ true
unfolding outcome_of
label_kind rules bound drawing atom (Unknown cause) label e =
    let bad : ◌≡◌ {A = Outcome} (NoGeometry cause) (Label label) = e in cc
label_kind rules bound drawing atom (Known sense) label e =
    let graph = graph_of drawing in
    let positions = positions_of graph in
    let ligands = centre_ligands graph atom in
    let ends = end_at atom ligands ∷ [] in
    let roots = map (end_root rules graph positions (units_in drawing)) ends in
    found_kind (list_any (λ end. nat_lt bound (cost rules graph positions (units_in drawing) end)) ends)
    (list_any has_tie roots) (label_of rules graph positions (units_in drawing)
    (Centre atom ligands) sense roots) label
    (letter_kind atom ligands (sense_in_rank sense (map ranks roots)) (sense_in_rank sense (map turned_ranks roots))) e

has_letter : (letter : Descriptor) (outcome : Outcome) (label : labels.Label) → outcome ≡ Label label
    → label.letter ≡ letter → HasLetter letter outcome
has_letter letter outcome label e f = subst (HasLetter letter) (sym e) f

abbrev Answer : Type 0
Answer = Result MarkedCentre CentreRefusal

module _ (rules : Rules) (nodes : ℕ) (drawing : Drawing) (atom : ℕ) (requested : CentreLetter)
    (sound : bonds.IsSound (length drawing.atoms) drawing.bonds) (marked : MarkedCentre) where
  module _ (centre : has_centre drawing atom ≡ true) (flat : is_spatial drawing.atoms ≡ false)
      (clear : has_coincident (directions drawing atom) ≡ false) (neighbour : ℕ)
      (first : chosen drawing atom ≡ Some neighbour) where
    by_side : (label : labels.Label)
        → found_at rules nodes (with_mark drawing atom neighbour Up) atom ≡ Label label
        → same (is_small label.letter) (asks_small requested) ≡ true
        → (b : Bool) → same (is_r label.letter) (asks_r requested) ≡ b
        → IsGiven rules nodes drawing atom requested
        (record { neighbour = neighbour; mark = if b then Up else Down })
    by_side label e small true f = record {
      centre = centre_stays drawing atom neighbour Up ∙ centre;
      letter =
          has_letter (descriptor_of requested) (found_at rules nodes (with_mark drawing atom neighbour Up) atom) label e
          (asked_found label.letter requested
          (label_kind rules nodes (with_mark drawing atom neighbour Up) atom
          (shown_at (with_mark drawing atom neighbour Up) atom) label e) small f);
    }
    by_side label e small false f = record {
      centre = centre_stays drawing atom neighbour Down ∙ centre;
      letter =
          has_letter (descriptor_of requested) (found_at rules nodes (with_mark drawing atom neighbour Down) atom)
          (record label { letter = turned_letter label.letter })
          (down_found drawing atom neighbour sound centre flat clear first rules nodes ∙ ap turned_outcome e)
          (asked_turned label.letter requested
          (label_kind rules nodes (with_mark drawing atom neighbour Up) atom
          (shown_at (with_mark drawing atom neighbour Up) atom) label e) small f);
    }

    by_kind_found : (label : labels.Label)
        → found_at rules nodes (with_mark drawing atom neighbour Up) atom ≡ Label label
        → (b : Bool) → same (is_small label.letter) (asks_small requested) ≡ b
        → ◌≡◌ {A = Answer} (if b then Ok (record { neighbour = neighbour; mark = mark_for requested label.letter })
        else Err (refusals.OtherKind (is_small label.letter))) (Ok marked)
        → IsGiven rules nodes drawing atom requested marked
    by_kind_found label e true f h =
        subst (IsGiven rules nodes drawing atom requested) (inside _ _ h)
        (by_side label e f (same (is_r label.letter) (asks_r requested)) refl)
      where
        inside : (a b : MarkedCentre) → ◌≡◌ {A = Answer} (Ok a) (Ok b) → a ≡ b
        inside a b h = cc
    by_kind_found label e false f h =
        let bad : ◌≡◌ {A = Answer} (Err (refusals.OtherKind (is_small label.letter))) (Ok marked) = h in cc

    by_found : (outcome : Outcome) → found_at rules nodes (with_mark drawing atom neighbour Up) atom ≡ outcome
        → by_outcome requested neighbour outcome ≡ Ok marked → IsGiven rules nodes drawing atom requested marked
    by_found (Label label) e h =
        by_kind_found label e (same (is_small label.letter) (asks_small requested)) refl h
    by_found Tie e h = let bad : ◌≡◌ {A = Answer} (Err refusals.Tie) (Ok marked) = h in cc
    by_found Over e h = let bad : ◌≡◌ {A = Answer} (Err refusals.Over) (Ok marked) = h in cc
    by_found (NoGeometry cause) e h = let bad : ◌≡◌ {A = Answer} (Err refusals.NoBond) (Ok marked) = h in cc

  module _ (centre : has_centre drawing atom ≡ true) (flat : is_spatial drawing.atoms ≡ false)
      (clear : has_coincident (directions drawing atom) ≡ false) where
    by_first : (first : Option ℕ) → chosen drawing atom ≡ first
        → by_chosen rules nodes drawing atom requested first ≡ Ok marked → IsGiven rules nodes drawing atom requested marked
    by_first None e h = let bad : ◌≡◌ {A = Answer} (Err refusals.NoBond) (Ok marked) = h in cc
    by_first (Some neighbour) e h =
        by_found centre flat clear neighbour e (found_at rules nodes (with_mark drawing atom neighbour Up) atom) refl h

  abbrev rest : Answer
  rest = by_chosen rules nodes drawing atom requested (chosen drawing atom)

  by_tests : (b c d : Bool) → has_centre drawing atom ≡ b → is_spatial drawing.atoms ≡ c
      → has_coincident (directions drawing atom) ≡ d
      → ◌≡◌ {A = Answer} (if not b then Err refusals.NoCentre
      else if c then Err refusals.ThreeD else if d then Err refusals.Coincident else rest) (Ok marked)
      → IsGiven rules nodes drawing atom requested marked
  by_tests true false false e f g h = by_first e f g (chosen drawing atom) refl h
  by_tests false c d e f g h = let bad : ◌≡◌ {A = Answer} (Err refusals.NoCentre) (Ok marked) = h in cc
  by_tests true true d e f g h = let bad : ◌≡◌ {A = Answer} (Err refusals.ThreeD) (Ok marked) = h in cc
  by_tests true false true e f g h = let bad : ◌≡◌ {A = Answer} (Err refusals.Coincident) (Ok marked) = h in cc

  given : mark_for_letter rules nodes drawing atom requested ≡ Ok marked → IsGiven rules nodes drawing atom requested marked
  unfolding mark_for_letter
  given h =
      by_tests (has_centre drawing atom) (is_spatial drawing.atoms)
      (has_coincident (directions drawing atom)) refl refl refl
      h

pub letters_given : (rules : Rules) (nodes : ℕ) (drawing : Drawing) (atom : ℕ) (requested : CentreLetter)
    → bonds.IsSound (length drawing.atoms) drawing.bonds → (marked : MarkedCentre)
    → mark_for_letter rules nodes drawing atom requested ≡ Ok marked → IsGiven rules nodes drawing atom requested marked
letters_given rules nodes drawing atom requested sound marked h = given rules nodes drawing atom requested sound marked h

pub answers_given : (rules : Rules) (nodes : ℕ) (drawing : Drawing) (atom : ℕ) (requested : CentreLetter)
    → bonds.IsSound (length drawing.atoms) drawing.bonds → (answer : Answer)
    → answer ≡ mark_for_letter rules nodes drawing atom requested → IfOk answer (IsGiven rules nodes drawing atom requested)
answers_given rules nodes drawing atom requested sound (Ok marked) is =
    letters_given rules nodes drawing atom requested sound marked (sym is)
answers_given rules nodes drawing atom requested sound (Err refusal) is = tt
