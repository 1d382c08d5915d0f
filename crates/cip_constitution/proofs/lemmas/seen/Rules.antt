-- Seen from its root, the branches of a digraph compare as its nodes do.
use Rattle.std.proofs.Common.{◌≡◌, ◌≤◌, ◌+◌, ◌-◌, arith, inl, inr, ℕ, suc, ℤ, pos, List, [], ◌∷◌, map, refl, sym, ap}
use Rattle.std.proofs.Common.{◌∙◌, subst}
use Rattle.std.proofs.lemmas.List.{map-id}
use Rattle.std.specs.declared.option.Option.{Option}
use Rattle.std.specs.declared.cmp.Ordering.{Ordering}
use Rattle.std.specs.Cmp.{IsTotalOrder}
use Rattle.std.specs.List.{AllByRecursion}
use Rattle.std.specs.List.Sorted.{IsPermutation}
use Rattle.std.proofs.lemmas.Bool.{cases_lt}
use Rattle.std.proofs.lemmas.List.Sorted.{IsPermutation-refl}
use Rattle.cip_rank.specs.Comparison.{comparison}
use Rattle.cip_rank.specs.Embedding.{Embeds}
use Rattle.cip_rank.specs.declared.rules.Rules.{Rules}
use Rattle.cip_rank.proofs.lemmas.Embedded.{embedded_comparison}
use Rattle.cip_mol.specs.declared.labels.descriptor.Descriptor.{Descriptor}
use Rattle.cip_digraph.specs.digraph.Digraph.{Node, children}
use Rattle.cip_digraph.specs.graph.Graph.{Graph}
use Rattle.cip_digraph.specs.rules.Keys.{atomic_key, mass_key, distance_key, sphere_in_digraph, lower_precedes}
use Rattle.cip_digraph.specs.rules.Orders.{Seen, all_tie, rule_1a, rule_1b, rule_2}
use Rattle.cip_digraph.specs.digraph.SameBranch.{EndsWithin}
use Rattle.cip_digraph.specs.digraph.View.{view_children, apart, seen_from}
use Rattle.cip_digraph.proofs.lemmas.tree.Branches.{further_out, children_end}
use Rattle.cip_constitution.proofs.lemmas.seen.AllTie.{tie_total}
use Rattle.cip_digraph.proofs.lemmas.tree.Ended.{IsPath, Anywhere, leads_anywhere, paths_pass}
use Rattle.cip_constitution.proofs.lemmas.seen.Finished.{stays_finished}
use Rattle.cip_digraph.proofs.lemmas.lists.Elements.{all_by}
use Rattle.cip_constitution.proofs.lemmas.seen.Distances.{EndsAt, distance_is, below_ends}
use Rattle.cip_digraph.proofs.lemmas.lists.Elements.{all_both}
use Rattle.cip_digraph.proofs.lemmas.orders.Whole.{total_1a, total_1b}

module _ (graph : Graph) (positions : List (List ℕ)) (root : ℕ) where
  -- a node of some sphere but the root's
  pub record IsFurther (node : Node) : Type 0 where
    pub number : ℕ
    pub path : IsPath Anywhere (suc number) node

  pub below_further : (node : Node) → IsFurther node → AllByRecursion IsFurther (children graph positions node)
  below_further node h =
      all_by (IsPath Anywhere (suc (suc h.number))) IsFurther (λ child p. record { number = suc h.number; path = p })
      (children graph positions node)
      ((paths_pass graph positions Anywhere (λ vertex _. leads_anywhere graph vertex) root tt).step (suc h.number) node
      h.path)

  module _ (earlier seen_earlier : Node → Node → Ordering) (key seen_key : Node → ℤ)
      (same : (a b : Node) → IsFurther a → IsFurther b → seen_earlier a b ≡ earlier a b) (keys : (a : Node)
      → IsFurther a → seen_key a ≡ key a) where
    seen_embeds : Embeds (λ node. node) (λ depth node. IsFurther node) (children graph positions)
        (view_children graph positions (root ∷ [])) earlier seen_earlier key seen_key
    seen_embeds = record {
      moved = λ depth node h.
          subst (IsPermutation (map (λ n. n) (children graph positions node)))
          (map-id (children graph positions node) ∙ sym (further_out graph positions root h.number node h.path))
          (IsPermutation-refl (map (λ n. n) (children graph positions node)));
      below = λ depth node h. below_further node h;
      less = λ depth node h. h;
      orders = same;
      keys = keys;
    }

    pub seen_as : IsTotalOrder seen_earlier → (depth : ℕ) (a b : Node) → IsFurther a → IsFurther b
        → comparison (view_children graph positions (root ∷ [])) seen_earlier seen_key depth a b ≡ comparison
        (children graph positions) earlier key depth a b
    seen_as o depth a b of_a of_b =
        embedded_comparison (λ node. node) (λ depth node. IsFurther node) (children graph positions)
        (view_children graph positions (root ∷ [])) earlier seen_earlier key seen_key seen_embeds o depth a b of_a
        of_b

  -- Rule 1a
  pub seen_1a : (rules : Rules) (descriptor : List ℕ → Option Descriptor) (depth : ℕ) (a b : Node) → IsFurther a → IsFurther b
      → rule_1a (seen_from rules graph positions (root ∷ []) descriptor) depth a b ≡ comparison (children graph positions)
      all_tie (λ node. pos (atomic_key graph positions node)) depth a b
  unfolding rule_1a
  seen_1a rules descriptor depth a b of_a of_b =
      seen_as all_tie all_tie (λ node. pos (atomic_key graph positions node))
      (λ node. pos (atomic_key graph positions node)) (λ a b _ _. refl) (λ a _. refl) tie_total depth a b of_a of_b

-- Branches that end: at each depth from their end on they compare as they do further down.
module _ {N : Type 0} (below : N → List N) (earlier : N → N → Ordering) (key : N → ℤ) where
  one_way : (d e : ℕ) (a b : N) → d ≤ e → EndsWithin below d a → EndsWithin below d b → comparison below earlier key e a
      b ≡ comparison below earlier key d a b
  one_way d e a b le ends_a ends_b =
      let sum : d + (e - d) ≡ e = omega arith in
      ap (λ k. comparison below earlier key k a b) (sym sum) ∙ stays_finished below earlier key (e - d) d a b ends_a
      ends_b

  pub same_ends : (d e : ℕ) (a b : N) → EndsWithin below d a → EndsWithin below d b → EndsWithin below e a
      → EndsWithin below e b
      → comparison below earlier key e a b ≡ comparison below earlier key d a b
  same_ends d e a b d_a d_b e_a e_b = elim (cases_lt d e) [
    | inl lt ↦ one_way d e a b (omega arith) d_a d_b
    | inr le ↦ sym (one_way e d a b le e_a e_b)
  ]

module _ (graph : Graph) (positions : List (List ℕ)) (root : ℕ) (d h : ℕ) where
  -- a node whose branch ends, by both numbers, at a path that ends at the root
  pub record IsEnded (node : Node) : Type 0 where
    pub further : IsFurther graph positions root node
    pub at : EndsAt root node.path
    pub within : EndsWithin (children graph positions) d node
    pub high : EndsWithin (children graph positions) h node

  pub below_ended : (node : Node) → IsEnded node → AllByRecursion IsEnded (children graph positions node)
  below_ended node p =
      let below = children graph positions in
      let nodes = below node in
      all_by (λ child. (IsFurther graph positions root child × EndsAt root child.path) × (EndsWithin below d
      child × EndsWithin below h child)) IsEnded
      (λ child q. record { further = q.0.0; at = q.0.1; within = q.1.0; high = q.1.1 }) nodes
      (all_both (λ child. IsFurther graph positions root child × EndsAt root child.path) (λ child. EndsWithin below d
      child × EndsWithin below h child) nodes
      (all_both (IsFurther graph positions root) (λ (child : Node). EndsAt root child.path) nodes
      (below_further graph positions root node p.further) (below_ends graph positions root node p.at))
      (all_both (EndsWithin below d) (EndsWithin below h) nodes (children_end below d node p.within)
      (children_end below h node p.high)))

  module _ (earlier seen_earlier : Node → Node → Ordering) (key seen_key : Node → ℤ)
      (same : (a b : Node) → IsEnded a → IsEnded b → seen_earlier a b ≡ earlier a b) (keys : (a : Node) → IsEnded a
      → seen_key a ≡ key a) where
    ended_embeds : Embeds (λ node. node) (λ depth node. IsEnded node) (children graph positions)
        (view_children graph positions (root ∷ [])) earlier seen_earlier key seen_key
    ended_embeds = record {
      moved = λ depth node p.
          subst (IsPermutation (map (λ n. n) (children graph positions node)))
          (map-id (children graph positions node) ∙ sym (further_out graph positions root p.further.number node
          p.further.path))
          (IsPermutation-refl (map (λ n. n) (children graph positions node)));
      below = λ depth node p. below_ended node p;
      less = λ depth node p. p;
      orders = same;
      keys = keys;
    }

    -- one rule over another, seen from the root down to the one depth, and in the digraph down to the other
    ended_as : IsTotalOrder seen_earlier → (a b : Node) → IsEnded a → IsEnded b
        → comparison (view_children graph positions (root ∷ [])) seen_earlier seen_key h a b ≡ comparison
        (children graph positions) earlier key d a b
    ended_as o a b of_a of_b =
        embedded_comparison (λ node. node) (λ depth node. IsEnded node) (children graph positions)
        (view_children graph positions (root ∷ [])) earlier seen_earlier key seen_key ended_embeds o h a b of_a of_b
        ∙ same_ends (children graph positions) earlier key d h a b of_a.within of_b.within of_a.high of_b.high

  abbrev pub by_atoms : Node → Node → Ordering
  by_atoms = comparison (children graph positions) all_tie (λ node. pos (atomic_key graph positions node)) d

  abbrev pub by_distances : Rules → Node → Node → Ordering
  by_distances rules = comparison (children graph positions) by_atoms
      (λ node. lower_precedes (distance_key rules sphere_in_digraph node)) d

  abbrev pub by_masses : Rules → Node → Node → Ordering
  by_masses rules = comparison (children graph positions) (by_distances rules) (λ node. pos (mass_key graph node)) d

  module _ (rules : Rules) (descriptor : List ℕ → Option Descriptor)
      (height : (seen_from rules graph positions (root ∷ []) descriptor).height ≡ h) where
    abbrev seen : Seen Node
    seen = seen_from rules graph positions (root ∷ []) descriptor

    ended_1a : (a b : Node) → IsEnded a → IsEnded b → rule_1a seen seen.height a b ≡ by_atoms a b
    unfolding rule_1a
    ended_1a a b of_a of_b =
        ap (λ k. rule_1a seen k a b) height
        ∙ ended_as all_tie all_tie (λ node. pos (atomic_key graph positions node))
        (λ node. pos (atomic_key graph positions node)) (λ a b _ _. refl) (λ a _. refl) tie_total a b of_a of_b

    ended_1b : (a b : Node) → IsEnded a → IsEnded b → rule_1b seen seen.height a b ≡ by_distances rules a b
    unfolding rule_1b
    ended_1b a b of_a of_b =
        ap (λ k. rule_1b seen k a b) height
        ∙ ended_as by_atoms (rule_1a seen seen.height) (λ node. lower_precedes (distance_key rules sphere_in_digraph
        node)) (λ node. lower_precedes (distance_key rules (apart (root ∷ [])) node))
        ended_1a (λ a p. ap lower_precedes (distance_is root rules a p.at)) (total_1a seen) a b of_a of_b

    -- Rules 1a, 1b and 2 of ended branches
    pub ended_2 : (a b : Node) → IsEnded a → IsEnded b → rule_2 seen seen.height a b ≡ by_masses rules a b
    unfolding rule_2
    ended_2 a b of_a of_b =
        ap (λ k. rule_2 seen k a b) height
        ∙ ended_as (by_distances rules) (rule_1b seen seen.height) (λ node. pos (mass_key graph node))
        (λ node. pos (mass_key graph node)) ended_1b (λ a p. refl) (total_1b seen) a b of_a of_b
