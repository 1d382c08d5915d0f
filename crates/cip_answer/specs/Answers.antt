-- The answer to a record: its refusal, or each unit of its molecule with its outcome. IUPAC 2013, P-91 to P-93; own:
-- the bound on the nodes of a digraph, and that label items are taken out first.
use Rattle.std.specs.Prelude.{ℕ, List, Bool, true, false, map, Result, Ok, Err}
use Rattle.std.specs.List.{list_any}
use Rattle.cip_text.specs.Bodies.{body_contents}
use Rattle.cip_rank.specs.declared.rules.Rules.{Rules}
use Rattle.cip_mol.specs.Drawing.{Drawing}
use Rattle.cip_mol.specs.declared.labels.outcome.Outcome.{Outcome}
use Rattle.cip_mol.specs.declared.labels.outcome.Outcome.TheVariants as outcomes
use Rattle.cip_mol.specs.declared.labels.refusal.ReadFault.{ReadFault}
use Rattle.cip_mol.specs.declared.site.Unit as units
use Rattle.cip_item.specs.Parts.{without_label_items}
use Rattle.cip_digraph.specs.graph.DrawnGraph.{graph_of}
use Rattle.cip_digraph.specs.graph.Graph.{Graph}
use Rattle.cip_digraph.specs.outcome.Outcomes.{outcome_of}
use Rattle.cip_digraph.specs.rings.Positions.{positions_of}
use Rattle.cip_digraph.specs.units.DrawnUnits.{units_in}
use Rattle.cip_print.specs.declared.answer.Answer.{Answer}
use Rattle.cip_print.specs.declared.answer.Answer.TheVariants.{Labelled, Refused}
use Rattle.cip_print.specs.declared.answer.UnitAnswer.{UnitAnswer}
use Rattle.cip_print.specs.Naming.{name_of}
use Rattle.cip_molfile.specs.Molecules.{read_molecule}

module _ (rules : Rules) (nodes : ℕ) where
  -- a unit of a graph with its outcome; `nodes` bounds each of its digraphs
  abbrev pub unit_answer : Graph → List (List ℕ) → List units.Unit → units.Unit → UnitAnswer
  unit_answer graph positions all unit = record {
    name = name_of unit.site;
    site = unit.site;
    drawn = graph.drawn;
    outcome = outcome_of rules graph positions all nodes unit;
  }

  abbrev pub unit_answers : Graph → List (List ℕ) → List units.Unit → List UnitAnswer
  unit_answers graph positions all = map (unit_answer graph positions all) all

  abbrev pub of_molecule : Drawing → Answer
  of_molecule drawing =
      Labelled (unit_answers (graph_of drawing) (positions_of (graph_of drawing)) (units_in drawing))

  abbrev pub of_reading : Result Drawing ReadFault → Answer
  of_reading (Ok drawing) = of_molecule drawing
  of_reading (Err fault) = Refused fault

  -- the answer to the lines of a record without label items
  abbrev pub answer_lines : List (List ℕ) → Answer
  answer_lines lines = of_reading (read_molecule lines)

  unfoldable pub answer_without_items : List ℕ → Answer
  answer_without_items bytes = answer_lines (body_contents bytes)

  -- the answer to a record
  abbrev pub answer_by : List ℕ → Answer
  answer_by bytes = answer_without_items (without_label_items bytes)

abbrev pub is_over : Outcome → Bool
is_over outcomes.Over = true
is_over outcomes.Tie = false
is_over (outcomes.Label label) = false
is_over (outcomes.NoGeometry cause) = false

-- a record is refused, or a digraph is larger than the bound
abbrev pub is_flagged : Answer → Bool
is_flagged (Labelled units) = list_any (λ unit. is_over unit.outcome) units
is_flagged (Refused fault) = true
