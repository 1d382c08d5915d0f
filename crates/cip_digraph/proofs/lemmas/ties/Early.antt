-- Ligands that have ended, tie by Rules 1a, 1b and 2 and hold no atom of a unit tie by all rules: no descriptor is
-- inside them.
use Rattle.std.proofs.Common.{◌≡◌, ℕ, zero, suc, List, [], ◌∷◌, sym, ap, ◌∙◌, subst, true, None, flat_map, Equal}
use Rattle.std.specs.List.{AllByRecursion}
use Rattle.cip_rank.specs.Matching.{InPairs, AreAlike}
use Rattle.cip_rank.specs.Matching as matching
use Rattle.cip_rank.proofs.lemmas.MatchingBranches.{match_from_tie}
use Rattle.cip_digraph.specs.outcome.Deciding.{nodes_below}
use Rattle.cip_digraph.specs.rules.Decisions.{order}
use Rattle.cip_digraph.specs.rules.Orders.{Seen, all_tie, rule_1a, rule_1b, rule_2}
use Rattle.cip_digraph.specs.digraph.SameBranch.{class_of, AreSameNodes, SameWithin, EndsWithin}
use Rattle.cip_digraph.proofs.lemmas.tree.Branches.{one_further}
use Rattle.cip_digraph.proofs.lemmas.ties.SameFromTie.{parts_of, same_number}
use Rattle.cip_digraph.proofs.lemmas.ties.TieFromSame.{tie_from_same}
use Rattle.cip_digraph.proofs.lemmas.orders.Whole.{total_1b}
use Rattle.cip_digraph.proofs.lemmas.lists.Elements.{all_parts, all_arranged}

module _ {N : Type 0} (seen : Seen N) where
  -- no descriptor is on a node, nor n spheres down below it
  abbrev pub HasNoDescriptor : ℕ → N → Type 0
  HasNoDescriptor zero node = seen.descriptor node ≡ None
  HasNoDescriptor (suc spheres) node = (seen.descriptor node ≡ None) × AllByRecursion (HasNoDescriptor spheres) (seen.children node)

  bare : (spheres : ℕ) (node : N) → HasNoDescriptor spheres node → seen.descriptor node ≡ None
  bare zero node h = h
  bare (suc spheres) node h = h.0

  nodes_alike : (a b : N) → seen.descriptor a ≡ None → seen.descriptor b ≡ None → AreAlike (rule_1b seen seen.height) seen.mass a b
      → AreSameNodes seen a b
  unfolding rule_1a rule_1b
  nodes_alike a b none_a none_b h =
      let by_1b = parts_of seen.children (rule_1a seen seen.height) seen.distance seen.height a b h.0 in
      let by_1a = parts_of seen.children all_tie seen.atomic seen.height a b by_1b.0 in
      record {
        atomic = by_1a.1;
        distance = by_1b.1;
        mass = same_number (seen.mass a) (seen.mass b) h.1;
        class = ap class_of (none_a ∙ sym none_b);
      }

  pairs_with : (spheres : ℕ) → ((a b : N) → HasNoDescriptor spheres a → HasNoDescriptor spheres b → matching.SameBranch
      seen.children (rule_1b seen seen.height) seen.mass spheres a b → SameWithin seen spheres a b)
      → (ns ms : List N) → InPairs (matching.SameBranch seen.children (rule_1b seen seen.height) seen.mass spheres) ns
      ms
      → AllByRecursion (HasNoDescriptor spheres) ns → AllByRecursion (HasNoDescriptor spheres) ms
      → InPairs (SameWithin seen spheres) ns ms
  pairs_with spheres f [] [] h p q = tt
  pairs_with spheres f [] (m ∷ ms) h p q = h
  pairs_with spheres f (n ∷ ns) [] h p q = h
  pairs_with spheres f (n ∷ ns) (m ∷ ms) h p q = (f n m p.0 q.0 h.0, pairs_with spheres f ns ms h.1 p.1 q.1)

  same_within : (spheres : ℕ) (a b : N) → HasNoDescriptor spheres a → HasNoDescriptor spheres b
      → matching.SameBranch seen.children (rule_1b seen seen.height) seen.mass spheres a b → SameWithin seen spheres a b
  same_within zero a b p q h = nodes_alike a b p q h
  same_within (suc spheres) a b p q h = (
    nodes_alike a b p.0 q.0 h.0,
    record {
      one = h.1.one;
      other = h.1.other;
      of_one = h.1.of_one;
      of_other = h.1.of_other;
      pairs = pairs_with spheres (same_within spheres) h.1.one h.1.other h.1.pairs
          (all_arranged (HasNoDescriptor spheres) (seen.children a) h.1.one h.1.of_one p.1)
          (all_arranged (HasNoDescriptor spheres) (seen.children b) h.1.other h.1.of_other q.1);
    },
  )

  -- what no descriptor is in, and ends, ties by all rules where it ties by Rules 1a, 1b and 2
  pub tie_without_descriptors : (a b : N) → EndsWithin seen.children seen.height a → EndsWithin seen.children seen.height b
      → HasNoDescriptor seen.height a → HasNoDescriptor seen.height b → rule_2 seen seen.height a b ≡ Equal
      → order seen true a b ≡ None
  unfolding rule_2
  tie_without_descriptors a b ends_a ends_b p q h =
      tie_from_same seen a b ends_a ends_b
      (same_within seen.height a b p q (match_from_tie seen.children (total_1b seen) seen.mass seen.height a b h))

  -- where no node below some nodes has a descriptor, n spheres down, these have none inside
  each_without_descriptor : (spheres : ℕ) (nodes : List N) → AllByRecursion (λ node. seen.descriptor node ≡ None) nodes
      → AllByRecursion (HasNoDescriptor spheres) (flat_map seen.children nodes) → AllByRecursion (HasNoDescriptor (suc spheres))
      nodes
  each_without_descriptor spheres [] p all = tt
  each_without_descriptor spheres (node ∷ nodes) p all =
      let t = all_parts (HasNoDescriptor spheres) (seen.children node) (flat_map seen.children nodes) all in
      ((p.0, t.0), each_without_descriptor spheres nodes p.1 t.1)

  pub no_descriptor_below : (spheres : ℕ) (nodes : List N)
      → ((number : ℕ) → AllByRecursion (λ node. seen.descriptor node ≡ None) (nodes_below seen.children number nodes))
      → AllByRecursion (HasNoDescriptor spheres) nodes
  no_descriptor_below zero nodes h = h 0
  no_descriptor_below (suc spheres) nodes h =
      each_without_descriptor spheres nodes (h 0)
      (no_descriptor_below spheres (flat_map seen.children nodes) (λ number.
      subst (AllByRecursion (λ node. seen.descriptor node ≡ None)) (one_further seen.children number nodes) (h (suc number))))
