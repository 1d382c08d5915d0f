-- How branches in boxes compare by Rules 1a, 1b and 2. IUPAC 2013, P-92.1.3, P-92.2 and P-92.3.
use Rattle.std.specs.Prelude.{ℕ, ◌+◌, pos, true, None, Some, [], ◌∷◌, slice_index_or}
use Rattle.std.specs.declared.option.Option.{Option}
use Rattle.cip_rank.specs.declared.rules.Rules.{Rules}
use Rattle.cip_mol.specs.declared.labels.outcome.Rule.{Rule}
use Rattle.cip_mol.specs.declared.labels.outcome.Rule.TheVariants.{R1a, R1b, R2}
use Rattle.cip_digraph.specs.declared.decisions.decision.Decision.{Decision}
use Rattle.cip_digraph.specs.rules.Decisions.{Difference, difference_by, first_decision}
use Rattle.cip_digraph.specs.rules.Keys.{lower_precedes}
use Rattle.cip_digraph.specs.rules.Orders.{Seen}
use Rattle.cip_tree.specs.Branches.{Branch, children, height, distance}

abbrev pub seen_in : Rules → Branch → Seen Branch
seen_in rules tree = record {
  children = children;
  height = height tree;
  atomic = λ branch. pos branch.label.atomic;
  distance = λ branch. lower_precedes (distance rules branch.label);
  mass = λ branch. pos branch.label.mass;
  descriptor = λ branch. None;
}

-- what a rule decides where it finds this difference
abbrev pub decided_by : Rule → Option Difference → Option Decision
decided_by rule None = None
decided_by rule (Some found) = Some (record { side = found.side; rule = rule; sphere = found.depth + 1 })

-- the child at a place
abbrev pub child_at : Branch → ℕ → Branch
child_at tree place = slice_index_or (children tree) place tree

-- the order of two children of the root, by their places; none where they tie
abbrev pub plain_decision : Rules → Branch → ℕ → ℕ → Option Decision
plain_decision rules tree a b =
    first_decision (difference_by (seen_in rules tree) true (child_at tree a) (child_at tree b)) (R1a ∷ R1b ∷ R2 ∷ [])
