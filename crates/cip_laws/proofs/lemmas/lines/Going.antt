-- Answers go along with another numbering, and with a mirror.
use Rattle.std.proofs.Common.{◌≡◌, ℕ, List, [], ◌∷◌, length, map, refl, sym, ap, subst}
use Rattle.cip_text.specs.Bodies.{body_contents}
use Rattle.cip_rank.specs.Matching.{InPairs}
use Rattle.cip_rank.specs.declared.rules.Rules.{Rules}
use Rattle.cip_mol.specs.Bonds.{IsSound}
use Rattle.cip_mol.specs.Drawing.{Drawing}
use Rattle.cip_mol.specs.Reflection.{reflected}
use Rattle.cip_mol.specs.declared.site.Unit as units
use Rattle.cip_item.specs.Parts.{without_label_items}
use Rattle.cip_digraph.specs.graph.DrawnGraph.{graph_of}
use Rattle.cip_digraph.specs.graph.Renumbering.{IsRenumbering}
use Rattle.cip_digraph.specs.rings.Positions.{positions_of}
use Rattle.cip_digraph.specs.rules.Exchange.{reflected_unit}
use Rattle.cip_laws.specs.DrawnOutcomes.{units_in}
use Rattle.cip_symmetry.specs.Images.{Among}
use Rattle.cip_laws.specs.ReflectionLaw.{ReflectsDrawing}
use Rattle.cip_laws.specs.RenumberingLaw.{on_vertices, GoTogether, OutcomesGo}
use Rattle.cip_symmetry.proofs.lemmas.lists.Among.{among_map, from_map}
use Rattle.cip_laws.proofs.lemmas.drawings.ReflectedDrawings.{reflection_keeps_drawings}
use Rattle.cip_laws.proofs.lemmas.drawings.Renumbered.{renumbering_keeps_outcomes}
use Rattle.cip_print.specs.declared.answer.UnitAnswer.{UnitAnswer}
use Rattle.cip_answer.specs.Answers.{unit_answer}
use Rattle.cip_laws.specs.Records.{IsImageAnswer, RecordsGo, IsMirrorAnswer, RecordsMirror}
use Rattle.cip_laws.proofs.lemmas.lines.Reading.{readings_are_sound, answer_is}

-- what is found of a unit of a drawing
abbrev answer_in : Rules → ℕ → Drawing → units.Unit → UnitAnswer
answer_in rules nodes drawing unit =
    unit_answer rules nodes (graph_of drawing) (positions_of (graph_of drawing)) (units_in drawing) unit

abbrev answers_in : Rules → ℕ → Drawing → List UnitAnswer
answers_in rules nodes drawing = map (answer_in rules nodes drawing) (units_in drawing)

same_drawn : (drawing renumbered : Drawing) → length renumbered.atoms ≡ length drawing.atoms
    → (graph_of renumbered).drawn ≡ (graph_of drawing).drawn
unfolding graph_of
same_drawn drawing renumbered h = h

goes : (rules : Rules) (nodes : ℕ) (drawing renumbered : Drawing) (image : ℕ → ℕ) (one two : units.Unit)
    → IsRenumbering drawing renumbered image → GoTogether rules nodes drawing renumbered image one two
    → IsImageAnswer (on_vertices drawing image) (answer_in rules nodes drawing one) (answer_in rules nodes renumbered two)
goes rules nodes drawing renumbered image one two renumbering go =
    record { name = refl; named = refl; site = go.site; drawn = same_drawn drawing renumbered renumbering.len; outcome = go.outcome }

there : (rules : Rules) (nodes : ℕ) (drawing renumbered : Drawing) (image : ℕ → ℕ)
    → IsRenumbering drawing renumbered image → OutcomesGo rules nodes drawing renumbered image
    → (one : UnitAnswer) → Among one (answers_in rules nodes drawing)
    → (two : UnitAnswer) × Among two (answers_in rules nodes renumbered)
    × IsImageAnswer (on_vertices drawing image) one two
there rules nodes drawing renumbered image renumbering go one among =
    let from = from_map (answer_in rules nodes drawing) one (units_in drawing) among in
    let to = go.there from.0 from.1 in (
      answer_in rules nodes renumbered to.0,
      among_map (answer_in rules nodes renumbered) to.0 (units_in renumbered) to.1.second,
      subst (λ x. IsImageAnswer (on_vertices drawing image) x (answer_in rules nodes renumbered to.0)) (sym from.2)
          (goes rules nodes drawing renumbered image from.0 to.0 renumbering to.1),
    )

back : (rules : Rules) (nodes : ℕ) (drawing renumbered : Drawing) (image : ℕ → ℕ)
    → IsRenumbering drawing renumbered image → OutcomesGo rules nodes drawing renumbered image
    → (two : UnitAnswer) → Among two (answers_in rules nodes renumbered)
    → (one : UnitAnswer) × Among one (answers_in rules nodes drawing)
    × IsImageAnswer (on_vertices drawing image) one two
back rules nodes drawing renumbered image renumbering go two among =
    let from = from_map (answer_in rules nodes renumbered) two (units_in renumbered) among in
    let to = go.back from.0 from.1 in (
      answer_in rules nodes drawing to.0,
      among_map (answer_in rules nodes drawing) to.0 (units_in drawing) to.1.first,
      subst (λ x. IsImageAnswer (on_vertices drawing image) (answer_in rules nodes drawing to.0) x) (sym from.2)
          (goes rules nodes drawing renumbered image to.0 from.0 renumbering to.1),
    )

pub records_go : RecordsGo
records_go rules nodes one other drawing renumbered image first second renumbering =
    let sound : IsSound (length drawing.atoms) drawing.bonds =
    readings_are_sound (body_contents (without_label_items one)) drawing first in
    let go : OutcomesGo rules nodes drawing renumbered image =
    renumbering_keeps_outcomes rules nodes drawing renumbered image sound renumbering in
    record {
      units = answers_in rules nodes drawing;
      others = answers_in rules nodes renumbered;
      first_is = answer_is rules nodes one drawing first;
      second_is = answer_is rules nodes other renumbered second;
      there = there rules nodes drawing renumbered image renumbering go;
      back = back rules nodes drawing renumbered image renumbering go;
    }

-- a mirror

mirror_pairs : (f g : units.Unit → UnitAnswer) (all : List units.Unit)
    → ((unit : units.Unit) → IsMirrorAnswer (f unit) (g (reflected_unit unit)))
    → InPairs IsMirrorAnswer (map f all) (map g (map reflected_unit all))
mirror_pairs f g [] each = tt
mirror_pairs f g (unit ∷ all) each = (each unit, mirror_pairs f g all each)

mirrors : (rules : Rules) (nodes : ℕ) (drawing : Drawing) (unit : units.Unit)
    → IsMirrorAnswer (answer_in rules nodes drawing unit) (answer_in rules nodes (reflected drawing) (reflected_unit unit))
mirrors rules nodes drawing unit =
    let mirror : ReflectsDrawing drawing = reflection_keeps_drawings drawing in
    record {
      name = refl;
      site = refl;
      drawn = ap (λ graph. graph.drawn) mirror.graph;
      outcome = mirror.outcomes rules nodes unit;
    }

pub records_mirror : RecordsMirror
records_mirror rules nodes one other drawing first second =
    let mirror : ReflectsDrawing drawing = reflection_keeps_drawings drawing in
    record {
      units = answers_in rules nodes drawing;
      others = answers_in rules nodes (reflected drawing);
      first_is = answer_is rules nodes one drawing first;
      second_is = answer_is rules nodes other (reflected drawing) second;
      pairs = subst (λ all. InPairs IsMirrorAnswer (answers_in rules nodes drawing)
          (map (answer_in rules nodes (reflected drawing)) all)) (sym mirror.all_units)
          (mirror_pairs (answer_in rules nodes drawing) (answer_in rules nodes (reflected drawing)) (units_in drawing)
          (mirrors rules nodes drawing));
    }
