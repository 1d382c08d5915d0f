-- Branches of a small digraph, ranked by one rule after another.
use Rattle.std.proofs.Common.{◌≡◌, ◌<◌, ℕ, true, length, slice_index, sym, subst, refl, arith, inl, inr}
use Rattle.std.specs.Cmp.{IsTotalOrder}
use Rattle.std.specs.declared.cmp.Ordering.{Ordering}
use Rattle.std.proofs.lemmas.Bool.{cases_order}
use Rattle.std.proofs.lemmas.List.{map-id}
use Rattle.cip_mol.specs.declared.labels.outcome.Rule.{Rule}
use Rattle.cip_mol.specs.declared.labels.outcome.Rule.TheVariants.{R1a, R1b, R2, R3, R4a, R4b, R4c, R5}
use Rattle.cip_rank.specs.Comparison.{comparison}
use Rattle.cip_branches.specs.Deciding.{Branched, AreFollowed}
use Rattle.cip_branches.specs.Ruled.{Names}
use Rattle.cip_branches.specs.Standing.{AreKeysOf, StandsBy}
use Rattle.cip_branches.specs.Turning.{in_sphere}
use Rattle.cip_branches.specs.ViewedTree.{kids_around}
use Rattle.cip_branches.proofs.lemmas.taken.Rules.{followed_taken, rule_stands}
use Rattle.cip_partition.specs.Keys.{AreKeyed}
use Rattle.cip_digraph.proofs.lemmas.orders.Exchanged.{all_tie_total, total_4a}
use Rattle.cip_digraph.proofs.lemmas.orders.Whole.{total_1a, total_1b, total_2, total_3}
use Rattle.cip_digraph.proofs.lemmas.ties.Turned.{total_4c}
use Rattle.cip_digraph.specs.rules.Orders.{Seen}
use Rattle.cip_rules.specs.DescriptorMap.{AreDescriptorsOf}
use Rattle.cip_rules.specs.Orders.{is_keyed, key_by, order_before, order_by}
use Rattle.cip_rules.proofs.lemmas.RulesFound.{compare_is}
use Rattle.gate_branches.specs.Digraphs.{AreRankedFirst, AreRankedBefore, Columns, EndInside, itself, keys_by, seen_of}
use Rattle.gate_branches.proofs.lemmas.ListedKeys.{keys_are}

pub total_before : (nodes : Columns) (rule : Rule) → IsTotalOrder (order_before (seen_of nodes) true rule)
total_before nodes R1a = all_tie_total (seen_of nodes)
total_before nodes R1b = total_1a (seen_of nodes)
total_before nodes R2 = total_1b (seen_of nodes)
total_before nodes R3 = total_2 (seen_of nodes)
total_before nodes R4a = total_3 (seen_of nodes)
total_before nodes R4b = total_4a (seen_of nodes)
total_before nodes R4c = total_4a (seen_of nodes)
total_before nodes R5 = total_4c (seen_of nodes)

-- how deep the digraph is says nothing of Rule 1a
pub ranked_at : (nodes other : Columns) (height : ℕ) (now : Branched) → other ≡ record nodes { height = height }
    → AreRankedFirst nodes now → AreRankedFirst other now
ranked_at nodes other height now is ranked = subst (λ (all : Columns). AreRankedFirst all now) (sym is)
    (record { followed = ranked.followed; decided = ranked.decided })

module _ (nodes : Columns) (now : Branched) where
  abbrev seen : Seen ℕ
  seen = seen_of nodes

  pub keys_of_nodes : (rule : Rule) → AreKeysOf itself (key_by seen true rule) (keys_by nodes rule) now
  keys_of_nodes rule = record {
    each = λ t place p. keys_are nodes rule (slice_index now.layers.place_tree.nodes place);
  }

  pub names_of_nodes : (rule : Rule) (last size : ℕ)
      → Names seen.children (order_before seen true rule) (key_by seen true rule) itself now.layers now.unresolved last
      size (kids_around nodes.parents nodes.way) (keys_by nodes rule)
  names_of_nodes rule last size = record {
    node_data = λ place p. map-id (kids_around nodes.parents nodes.way (slice_index now.layers.place_tree.nodes place));
    same_key = λ number low. keys_are nodes rule number;
  }

  -- a place of a sphere is one of all
  place_low : AreFollowed now → (t place : ℕ) → in_sphere now.layers.ranked.rows now.layers.starts t place
      → place < length now.layers.place_tree.place_parents
  place_low followed t place at =
      let places = followed.places now.unresolved in
      let few = followed.within in
      elim (cases_order t now.last) [
        | inl last ↦ places.high place (subst (λ s. in_sphere now.layers.ranked.rows now.layers.starts s place) last at)
        | inr (inl inner) ↦ let low = places.inner t place inner at in omega (arith, low, few)
        | inr (inr outer) ↦
            let most = followed.ranked.spheres.ends t at.row at.low at.high in
            absurd (omega (arith, outer, most))
      ]

  pub descriptors_of_nodes : AreFollowed now → AreKeyed (length nodes.parents) now.layers.place_tree
      → length nodes.descriptors ≡ length nodes.parents → AreDescriptorsOf itself seen.descriptor nodes.descriptors now
  descriptors_of_nodes followed keyed len = record {
    within = λ t place p.
        let low = keyed.each place (place_low followed t place p.at) in
        omega (arith, low, len);
    each = λ t place p. refl;
  }

  -- what was followed by Rule 1a to the end is ordered by it
  pub ranked_whole : AreRankedFirst nodes now → EndInside nodes now → AreRankedBefore nodes R1b now
  ranked_whole ranked ends = record {
    followed = ranked.followed;
    stands = subst (λ (by : ℕ → ℕ → Ordering). StandsBy seen.children itself by now)
        (compare_is seen true R1a refl seen.height)
        (rule_stands seen.children itself (order_before seen true R1a) (total_before nodes R1a)
        (key_by seen true R1a) now ends.ended
        (followed_taken seen.children itself (order_before seen true R1a) (total_before nodes R1a)
        (key_by seen true R1a) now ranked.decided) seen.height
        (let last = ends.last in omega (arith, last)));
  }

  -- a rule that was taken to the end leaves the order that the next one goes on from
  pub ranked_by : (rule : Rule) → is_keyed rule ≡ true → (last : ℕ) → last ≡ nodes.height
      → StandsBy seen.children itself (comparison seen.children (order_before seen true rule) (key_by seen true rule)
      last) now → StandsBy seen.children itself (order_by seen true rule nodes.height) now
  ranked_by rule keyed last is stands = subst (λ (by : ℕ → ℕ → Ordering). StandsBy seen.children itself by now)
      (compare_is seen true rule keyed nodes.height)
      (subst (λ depth. StandsBy seen.children itself (comparison seen.children (order_before seen true rule)
      (key_by seen true rule) depth) now) is stands)
