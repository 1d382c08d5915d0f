-- The rules in turn, and the spheres of each in turn.
use Rattle.std.proofs.Common.{◌≡◌, ◌<◌, ◌+◌, ◌-◌, ℕ, suc, true, List, [], ◌∷◌, None, Some, get_or, length, refl, sym}
use Rattle.std.proofs.Common.{ap, ◌∙◌, arith, Option, Ordering, Less, Equal, Greater}
use Rattle.std.proofs.lemmas.List.{get_or_default}
use Rattle.cip_rank.specs.Comparison.{comparison}
use Rattle.cip_rank.specs.declared.rules.Rules.{Rules}
use Rattle.cip_mol.specs.declared.labels.outcome.Rule.{Rule}
use Rattle.cip_mol.specs.declared.labels.outcome.Rule.TheVariants.{R1a, R1b, R2}
use Rattle.cip_digraph.specs.declared.decisions.decision.Decision.{Decision}
use Rattle.cip_digraph.specs.rules.Decisions.{Difference, first_difference, first_decision, difference_by}
use Rattle.cip_digraph.specs.rules.Orders.{all_tie, rule_1a, rule_1b, rule_2}
use Rattle.cip_tree.specs.declared.comparing.Key.TheVariants.{Atomic, Distance, Mass}
use Rattle.cip_tree.specs.Branches.{Branch, children, height}
use Rattle.cip_tree.specs.BranchKeys.{key_of}
use Rattle.cip_tree.specs.BoxedOrder.{seen_in, decided_by, child_at, plain_decision}

-- a depth at which nothing differs is passed over
pub tied_here : (at : ℕ → Ordering) (depth count : ℕ) → depth < count → at depth ≡ Equal
    → first_difference at (depth + 1) (count - (depth + 1)) ≡ first_difference at depth (count - depth)
tied_here at depth count low tie =
    let more = count - (depth + 1) in
    let next : suc more ≡ count - depth = omega (arith, low) in
    let later = first_difference at (depth + 1) more in
    sym (ap (λ side. elim side as (λ _. Option Difference) [
      | Less ↦ Some (record { side = Less; depth = depth })
      | Equal ↦ later
      | Greater ↦ Some (record { side = Greater; depth = depth })
    ]) tie)
    ∙ ap (first_difference at depth) next

abbrev or_decision : Option Decision → Option Decision → Option Decision
or_decision None later = later
or_decision (Some found) later = Some found

by_found : (rule : Rule) (later : Option Decision) (found : Option Difference)
    → or_decision (decided_by rule found) later
    ≡ elim found as (λ _. Option Decision) [
      | None ↦ later
      | Some found ↦ Some (record { side = found.side; rule = rule; sphere = found.depth + 1 })
    ]
by_found rule later None = refl
by_found rule later (Some found) = refl

in_turn : (find : Rule → Option Difference) (rule : Rule) (rules : List Rule)
    → or_decision (decided_by rule (find rule)) (first_decision find rules) ≡ first_decision find (rule ∷ rules)
in_turn find rule rules = by_found rule (first_decision find rules) (find rule)

module _ (rules : Rules) (tree a b : Branch) (spheres : ℕ) (whole : spheres ≡ height tree) where
  abbrev find : Rule → Option Difference
  find = difference_by (seen_in rules tree) true a b

  abbrev in_boxes : Option Decision
  in_boxes = first_decision find (R1a ∷ R1b ∷ R2 ∷ [])

  abbrev pub by_atoms : ℕ → ℕ → Branch → Branch → Ordering
  by_atoms last = comparison children all_tie (key_of Atomic)

  abbrev pub by_distances : ℕ → ℕ → Branch → Branch → Ordering
  by_distances last = comparison children (by_atoms last last) (key_of (Distance rules))

  abbrev pub by_masses : ℕ → ℕ → Branch → Branch → Ordering
  by_masses last = comparison children (by_distances last last) (key_of Mass)

  abbrev pub by_rule : Rule → (ℕ → ℕ → Branch → Branch → Ordering) → ℕ → Option Decision
  by_rule rule order last = decided_by rule (first_difference (λ depth. order last depth a b) 0 (last + 1))

  of_1a : by_rule R1a by_atoms spheres ≡ decided_by R1a (find R1a)
  unfolding rule_1a
  of_1a = ap (by_rule R1a by_atoms) whole

  of_1b : by_rule R1b by_distances spheres ≡ decided_by R1b (find R1b)
  unfolding rule_1a rule_1b
  of_1b = ap (by_rule R1b by_distances) whole

  of_2 : by_rule R2 by_masses spheres ≡ decided_by R2 (find R2)
  unfolding rule_1a rule_1b rule_2
  of_2 = ap (by_rule R2 by_masses) whole

  pub decided_1a : (found : Decision) → Some found ≡ by_rule R1a by_atoms spheres → Some found ≡ in_boxes
  decided_1a found is =
      ap (λ first. or_decision first (first_decision find (R1b ∷ R2 ∷ []))) (is ∙ of_1a)
      ∙ in_turn find R1a (R1b ∷ R2 ∷ [])

  pub decided_1b : (found : Decision) → None ≡ by_rule R1a by_atoms spheres
      → Some found ≡ by_rule R1b by_distances spheres → Some found ≡ in_boxes
  decided_1b found none is =
      ap (λ first. or_decision first (first_decision find (R2 ∷ []))) (is ∙ of_1b)
      ∙ in_turn find R1b (R2 ∷ [])
      ∙ ap (λ first. or_decision first (first_decision find (R1b ∷ R2 ∷ []))) (none ∙ of_1a)
      ∙ in_turn find R1a (R1b ∷ R2 ∷ [])

  last_is : (found : Option Decision) → found ≡ or_decision found None
  last_is None = refl
  last_is (Some found) = refl

  pub decided_2 : None ≡ by_rule R1a by_atoms spheres → None ≡ by_rule R1b by_distances spheres
      → by_rule R2 by_masses spheres ≡ in_boxes
  decided_2 none_1a none_1b =
      last_is (by_rule R2 by_masses spheres)
      ∙ ap (λ first. or_decision first None) of_2
      ∙ in_turn find R2 []
      ∙ ap (λ first. or_decision first (first_decision find (R2 ∷ []))) (none_1b ∙ of_1b)
      ∙ in_turn find R1b (R2 ∷ [])
      ∙ ap (λ first. or_decision first (first_decision find (R1b ∷ R2 ∷ []))) (none_1a ∙ of_1a)
      ∙ in_turn find R1a (R1b ∷ R2 ∷ [])

child_is : (tree branch : Branch) (branches : List Branch) (place : ℕ) → place < length (children tree)
    → branches ≡ children tree → branch ≡ get_or branches place branch → branch ≡ child_at tree place
child_is tree branch branches place lt same is =
    is ∙ ap (λ bs. get_or bs place branch) same ∙ get_or_default (children tree) place branch tree lt

-- of two branches that are children of the root
pub of_children : (rules : Rules) (tree one other : Branch) (ones others : List Branch) (a b : ℕ)
    → a < length (children tree) → b < length (children tree) → ones ≡ children tree → others ≡ children tree
    → one ≡ get_or ones a one → other ≡ get_or others b other
    → first_decision (difference_by (seen_in rules tree) true one other) (R1a ∷ R1b ∷ R2 ∷ [])
    ≡ plain_decision rules tree a b
of_children rules tree one other ones others a b low_a low_b same_a same_b is_a is_b =
    ap (λ branch. first_decision (difference_by (seen_in rules tree) true branch other) (R1a ∷ R1b ∷ R2 ∷ []))
    (child_is tree one ones a low_a same_a is_a)
    ∙ ap (λ branch. first_decision (difference_by (seen_in rules tree) true (child_at tree a) branch)
    (R1a ∷ R1b ∷ R2 ∷ [])) (child_is tree other others b low_b same_b is_b)
