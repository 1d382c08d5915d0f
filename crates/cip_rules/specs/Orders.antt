-- The rules that are rules of keys, each over the order that those before it leave, for nodes of any kind. Own.
use Rattle.std.specs.Prelude.{ℕ, ℤ, pos, Bool, true, false, List, [], ◌∷◌}
use Rattle.std.specs.declared.option.Option.{Option}
use Rattle.std.specs.declared.cmp.Ordering.{Ordering}
use Rattle.cip_mol.specs.declared.labels.descriptor.Descriptor.{Descriptor}
use Rattle.cip_mol.specs.declared.labels.outcome.Rule.{Rule}
use Rattle.cip_mol.specs.declared.labels.outcome.Rule.TheVariants.{R1a, R1b, R2, R3, R4a, R4b, R4c, R5}
use Rattle.cip_digraph.specs.declared.decisions.decision.Decision.{Decision}
use Rattle.cip_digraph.specs.rules.Decisions.{first_difference, difference_by, first_decision}
use Rattle.cip_digraph.specs.rules.Kinds.{key_or_zero, geometric_key, chirality_key, small_key, capital_key}
use Rattle.cip_digraph.specs.rules.Orders.{Seen, all_tie, rule_1a, rule_1b, rule_2, rule_3, rule_4a, rule_4c, rule_5}
use Rattle.cip_digraph.specs.Asking.{decided}

-- what a comparison finds between two branches at n depths, as a decision by a rule
abbrev pub found_below : {N : Type 0} → Rule → (ℕ → N → N → Ordering) → (ℕ → N) → ℕ → ℕ → ℕ → Option Decision
found_below rule compare node depths a b =
    decided rule (first_difference (λ depth. compare depth (node a) (node b)) 0 depths)

-- What a descriptor counts for, or none, in a rule that looks at them; Rule 4b isn't one of keys.
abbrev pub key_of_descriptor : Bool → Rule → Option Descriptor → ℤ
key_of_descriptor r_first R1a descriptor = pos 0
key_of_descriptor r_first R1b descriptor = pos 0
key_of_descriptor r_first R2 descriptor = pos 0
key_of_descriptor r_first R3 descriptor = key_or_zero geometric_key descriptor
key_of_descriptor r_first R4a descriptor = key_or_zero chirality_key descriptor
key_of_descriptor r_first R4b descriptor = pos 0
key_of_descriptor r_first R4c descriptor = key_or_zero small_key descriptor
key_of_descriptor r_first R5 descriptor = key_or_zero (capital_key r_first) descriptor

module _ {N : Type 0} (seen : Seen N) (r_first : Bool) where
  -- the key of a node by a rule
  abbrev pub key_by : Rule → N → ℤ
  key_by R1a node = seen.atomic node
  key_by R1b node = seen.distance node
  key_by R2 node = seen.mass node
  key_by R3 node = key_of_descriptor r_first R3 (seen.descriptor node)
  key_by R4a node = key_of_descriptor r_first R4a (seen.descriptor node)
  key_by R4b node = key_of_descriptor r_first R4b (seen.descriptor node)
  key_by R4c node = key_of_descriptor r_first R4c (seen.descriptor node)
  key_by R5 node = key_of_descriptor r_first R5 (seen.descriptor node)

  abbrev pub order_before : Rule → N → N → Ordering
  order_before R1a = all_tie
  order_before R1b = rule_1a seen seen.height
  order_before R2 = rule_1b seen seen.height
  order_before R3 = rule_2 seen seen.height
  order_before R4a = rule_3 seen seen.height
  order_before R4b = rule_4a seen seen.height
  order_before R4c = rule_4a seen seen.height
  order_before R5 = rule_4c seen seen.height

  -- at each depth
  abbrev pub order_by : Rule → ℕ → N → N → Ordering
  order_by R1a = rule_1a seen
  order_by R1b = rule_1b seen
  order_by R2 = rule_2 seen
  order_by R3 = rule_3 seen
  order_by R4a = rule_4a seen
  order_by R4b = rule_4a seen
  order_by R4c = rule_4c seen
  order_by R5 = rule_5 seen r_first

  -- what a rule decides between two branches, whose nodes are known
  abbrev pub decided_by : Rule → (ℕ → N) → ℕ → ℕ → Option Decision
  decided_by rule node a b = decided rule (difference_by seen r_first (node a) (node b) rule)

  -- and some of the rules in turn
  abbrev pub decided_in_turn : List Rule → (ℕ → N) → ℕ → ℕ → Option Decision
  decided_in_turn rules node a b = first_decision (difference_by seen r_first (node a) (node b)) rules

-- the rules before a rule
abbrev pub rules_before : Rule → List Rule
rules_before R1a = []
rules_before R1b = R1a ∷ []
rules_before R2 = R1a ∷ R1b ∷ []
rules_before R3 = R1a ∷ R1b ∷ R2 ∷ []
rules_before R4a = R1a ∷ R1b ∷ R2 ∷ R3 ∷ []
rules_before R4b = R1a ∷ R1b ∷ R2 ∷ R3 ∷ R4a ∷ []
rules_before R4c = R1a ∷ R1b ∷ R2 ∷ R3 ∷ R4a ∷ R4b ∷ []
rules_before R5 = R1a ∷ R1b ∷ R2 ∷ R3 ∷ R4a ∷ R4b ∷ R4c ∷ []

-- which rules are of keys
abbrev pub is_keyed : Rule → Bool
is_keyed R1a = true
is_keyed R1b = true
is_keyed R2 = true
is_keyed R3 = true
is_keyed R4a = true
is_keyed R4b = false
is_keyed R4c = true
is_keyed R5 = true
