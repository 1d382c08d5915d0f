-- What reflection does to outcomes: R and S, M and P, seqCis and seqTrans change places, and all else stays. IUPAC
-- 2013, P-91.2 and P-93, for the descriptors; that rule, sphere and costs stay is own.
use Rattle.std.specs.Prelude.{◌≡◌, ℕ, List, map}
use Rattle.cip_rank.specs.declared.rules.Rules.{Rules}
use Rattle.cip_mol.specs.Drawing.{Drawing}
use Rattle.cip_mol.specs.Reflection.{reflected}
use Rattle.cip_mol.specs.declared.labels.outcome.Label as labels
use Rattle.cip_mol.specs.declared.labels.outcome.Outcome.{Outcome}
use Rattle.cip_mol.specs.declared.labels.outcome.Outcome.TheVariants.{Label, Tie, Over, NoGeometry}
use Rattle.cip_mol.specs.declared.site.Unit as units
use Rattle.cip_digraph.specs.graph.DrawnGraph.{graph_of}
use Rattle.cip_digraph.specs.graph.Graph.{Graph}
use Rattle.cip_digraph.specs.outcome.Outcomes.{outcome_of}
use Rattle.cip_digraph.specs.rules.Exchange.{exchanged, exchanged_descriptor, reflected_unit}
use Rattle.cip_laws.specs.DrawnOutcomes.{units_in, outcome_in, costs_in, descriptor_in}

-- the rank order isn't spoken of, since Rule 5 turns some pairs
pub record IsMirrorLabel (one other : labels.Label) : Type 0 where
  pub letter : other.letter ≡ exchanged one.letter
  pub rule : other.rule ≡ one.rule
  pub sphere : other.sphere ≡ one.sphere

abbrev pub IsMirrorOutcome : Outcome → Outcome → Type 0
IsMirrorOutcome (Label one) (Label other) = IsMirrorLabel one other
IsMirrorOutcome Tie Tie = Unit {0}
IsMirrorOutcome Over Over = Unit {0}
IsMirrorOutcome (NoGeometry one) (NoGeometry other) = other ≡ one
IsMirrorOutcome one other = ⊥

-- whatever the graph, and whichever units it is taken to have
abbrev pub ReflectionMirrorsOutcomes : Type 0
ReflectionMirrorsOutcomes =
    (rules : Rules) (graph : Graph) (positions : List (List ℕ)) (all : List units.Unit) (bound : ℕ)
    (unit : units.Unit) →
    IsMirrorOutcome (outcome_of rules graph positions all bound unit)
    (outcome_of rules graph positions (map reflected_unit all) bound (reflected_unit unit))

-- the mirror image of a drawing has the same graph and the same units, each in the other sense
pub record ReflectsDrawing (drawing : Drawing) : Type 0 where
  pub graph : graph_of (reflected drawing) ≡ graph_of drawing
  pub all_units : units_in (reflected drawing) ≡ map reflected_unit (units_in drawing)
  pub descriptors : (rules : Rules) (path : List ℕ) →
      descriptor_in rules (reflected drawing) path ≡ exchanged_descriptor (descriptor_in rules drawing path)
  pub costs : (rules : Rules) (unit : units.Unit) →
      costs_in rules (reflected drawing) (reflected_unit unit) ≡ costs_in rules drawing unit
  pub outcomes : (rules : Rules) (bound : ℕ) (unit : units.Unit) →
      IsMirrorOutcome (outcome_in rules bound drawing unit)
      (outcome_in rules bound (reflected drawing) (reflected_unit unit))

abbrev pub ReflectionKeepsDrawings : Type 0
ReflectionKeepsDrawings = (drawing : Drawing) → ReflectsDrawing drawing
