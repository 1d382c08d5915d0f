-- How two branches of a digraph compare by each rule. IUPAC 2013, P-92.1.4 and P-92.2 to P-92.6: each rule is applied
-- to the whole digraph before the next one. The form of Rule 4b, and that Rules 4c and 5 leave out what it decides, is
-- own.
use Rattle.std.specs.Prelude.{ℕ, ℤ, Bool, List, map, if◌then◌else◌}
use Rattle.std.specs.Ordering.{is_lt}
use Rattle.std.specs.declared.option.Option.{Option}
use Rattle.std.specs.declared.cmp.Ordering.{Ordering}
use Rattle.std.specs.declared.cmp.Ordering.TheVariants.{Equal}
use Rattle.cip_rank.specs.Comparison.{comparison}
use Rattle.cip_mol.specs.declared.labels.descriptor.Descriptor.{Descriptor}
use Rattle.cip_digraph.specs.rules.Kinds.{Kind, KindR, KindS, key_or_zero, geometric_key, chirality_key, like_key, small_key, capital_key}

-- a digraph as it is seen from one of its nodes: its height is that of the outermost sphere from there
pub record Seen (N : Type 0) : Type 0 where
  pub children : N → List N
  pub height : ℕ
  pub atomic : N → ℤ
  pub distance : N → ℤ
  pub mass : N → ℤ
  pub descriptor : N → Option Descriptor

abbrev pub all_tie : {N : Type 0} → N → N → Ordering
all_tie a b = Equal

module _ {N : Type 0} (seen : Seen N) where
  unfoldable pub rule_1a : ℕ → N → N → Ordering
  rule_1a = comparison seen.children all_tie seen.atomic

  unfoldable pub rule_1b : ℕ → N → N → Ordering
  rule_1b = comparison seen.children (rule_1a seen.height) seen.distance

  unfoldable pub rule_2 : ℕ → N → N → Ordering
  rule_2 = comparison seen.children (rule_1b seen.height) seen.mass

  unfoldable pub rule_3 : ℕ → N → N → Ordering
  rule_3 = comparison seen.children (rule_2 seen.height) (λ node. key_or_zero geometric_key (seen.descriptor node))

  unfoldable pub rule_4a : ℕ → N → N → Ordering
  rule_4a = comparison seen.children (rule_3 seen.height) (λ node. key_or_zero chirality_key (seen.descriptor node))

  -- Rule 4b reads each branch twice, with R and with S as the reference, and compares readings, whichever reference
  -- each has.
  abbrev pub read_children : N × Kind → List (N × Kind)
  read_children branch = map (λ child. (child, branch.1)) (seen.children branch.0)

  unfoldable pub readings : ℕ → N × Kind → N × Kind → Ordering
  readings =
      comparison read_children (λ a b. rule_4a seen.height a.0 b.0)
      (λ branch. key_or_zero (like_key branch.1) (seen.descriptor branch.0))

  abbrev pub is_s_higher : N → Bool
  is_s_higher node = is_lt (readings seen.height (node, KindR) (node, KindS))

  abbrev pub higher_reading : N → N × Kind
  higher_reading node = (node, if is_s_higher node then KindS else KindR)

  abbrev pub lower_reading : N → N × Kind
  lower_reading node = (node, if is_s_higher node then KindR else KindS)

  unfoldable pub rule_4b_higher : ℕ → N → N → Ordering
  rule_4b_higher depth a b = readings depth (higher_reading a) (higher_reading b)

  unfoldable pub rule_4b_lower : ℕ → N → N → Ordering
  rule_4b_lower depth a b = readings depth (lower_reading a) (lower_reading b)

  unfoldable pub rule_4c : ℕ → N → N → Ordering
  rule_4c = comparison seen.children (rule_4a seen.height) (λ node. key_or_zero small_key (seen.descriptor node))

  -- turned: kind S before kind R
  unfoldable pub rule_5 : Bool → ℕ → N → N → Ordering
  rule_5 r_first =
      comparison seen.children (rule_4c seen.height) (λ node. key_or_zero (capital_key r_first) (seen.descriptor node))
