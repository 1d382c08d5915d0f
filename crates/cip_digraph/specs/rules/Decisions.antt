-- Which rule decides between two branches, in which sphere, and how. IUPAC 2013, P-92.1.3: the first rule that finds a
-- difference decides. A decision at a depth below two nodes is one sphere further out; this count is own.
use Rattle.std.specs.Prelude.{ℕ, zero, suc, ◌+◌, Bool, List, [], ◌∷◌, None, Some}
use Rattle.std.specs.declared.option.Option.{Option}
use Rattle.std.specs.declared.cmp.Ordering.{Ordering}
use Rattle.std.specs.declared.cmp.Ordering.TheVariants.{Less, Equal, Greater}
use Rattle.cip_mol.specs.declared.labels.outcome.Rule.{Rule}
use Rattle.cip_mol.specs.declared.labels.outcome.Rule.TheVariants.{R1a, R1b, R2, R3, R4a, R4b, R4c, R5}
use Rattle.cip_digraph.specs.declared.decisions.decision.Decision.{Decision}
use Rattle.cip_digraph.specs.rules.Orders.{Seen, rule_1a, rule_1b, rule_2, rule_3, rule_4a, rule_4b_higher, rule_4b_lower, rule_4c, rule_5}

pub record Difference : Type 0 where
  pub side : Ordering
  pub depth : ℕ

-- the least depth from one on, of n, at which a comparison differs
abbrev pub first_difference : (ℕ → Ordering) → ℕ → ℕ → Option Difference
first_difference compare depth zero = None
first_difference compare depth (suc more) =
    let later = first_difference compare (depth + 1) more in
    elim (compare depth) as (λ _. Option Difference) [
      | Less ↦ Some (record { side = Less; depth = depth })
      | Equal ↦ later
      | Greater ↦ Some (record { side = Greater; depth = depth })
    ]

abbrev pub or_else : Option Difference → Option Difference → Option Difference
or_else None other = other
or_else (Some found) other = Some found

module _ {N : Type 0} (seen : Seen N) (r_first : Bool) (a b : N) where
  abbrev pub difference_at : (ℕ → N → N → Ordering) → Option Difference
  difference_at rule = first_difference (λ depth. rule depth a b) 0 (seen.height + 1)

  -- of Rule 4b the higher readings decide, and where they tie, the lower ones
  abbrev pub difference_by : Rule → Option Difference
  difference_by R1a = difference_at (rule_1a seen)
  difference_by R1b = difference_at (rule_1b seen)
  difference_by R2 = difference_at (rule_2 seen)
  difference_by R3 = difference_at (rule_3 seen)
  difference_by R4a = difference_at (rule_4a seen)
  difference_by R4b = or_else (difference_at (rule_4b_higher seen)) (difference_at (rule_4b_lower seen))
  difference_by R4c = difference_at (rule_4c seen)
  difference_by R5 = difference_at (rule_5 seen r_first)

abbrev pub first_decision : (Rule → Option Difference) → List Rule → Option Decision
first_decision find [] = None
first_decision find (rule ∷ rules) =
    let later = first_decision find rules in
    elim (find rule) as (λ _. Option Decision) [
      | None ↦ later
      | Some found ↦ Some (record { side = found.side; rule = rule; sphere = found.depth + 1 })
    ]

abbrev pub rules_in_turn : List Rule
rules_in_turn = R1a ∷ R1b ∷ R2 ∷ R3 ∷ R4a ∷ R4b ∷ R4c ∷ R5 ∷ []

-- the order of two branches by all rules, also with the last one turned; none where they tie
unfoldable pub order : {N : Type 0} → Seen N → Bool → N → N → Option Decision
order seen r_first a b = first_decision (difference_by seen r_first a b) rules_in_turn
