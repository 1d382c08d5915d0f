-- The distance of a node from another one is that of a real node.
use Rattle.std.proofs.Common.{◌≡◌, ◌<◌, ℕ, true, false, cond, List, length, slice_index, refl, sym, ap, ◌∙◌, subst, arith, inl, inr, ne_eqb}
use Rattle.std.specs.Prelude.{None, Some, unwrap_or}
use Rattle.std.specs.declared.option.Option.{Option}
use Rattle.std.proofs.lemmas.Bool.{cases_order}
use Rattle.cip_rank.specs.declared.rules.Rules.{Rules}
use Rattle.cip_rank.specs.declared.rules.Rules.TheVariants.{Wording2013, Wording2018}
use Rattle.cip_digraph.specs.declared.nodes.NodeKind.{NodeKind}
use Rattle.cip_digraph.specs.declared.nodes.NodeKind.TheVariants.{Real, Closure, Multiple, Delocalised}
use Rattle.cip_digraph.specs.digraph.Digraph.{Node, is_real, duplicate}
use Rattle.cip_digraph.specs.digraph.NodeList.{told_at, parents_of}
use Rattle.cip_digraph.specs.digraph.Telling.{node_at, Stands, IsCounterpart}
use Rattle.cip_digraph.specs.digraph.View.{apart}
use Rattle.cip_digraph.specs.rules.Keys.{counterpart, distance_key}
use Rattle.cip_aux.specs.Sources.{node_by, carrier_of, distance_node}
use Rattle.cip_aux.proofs.lemmas.Standing.{real_path, real_kind}
use Rattle.cip_aux.proofs.lemmas.Standing.{hangs}
use Rattle.cip_aux.specs.Views.{DigraphView, Shows, IsReal, path_at}
use Rattle.cip_aux_rank.specs.Keys.{distance_at}

module _ (sight : DigraphView) (shows : Shows sight) (from : ℕ) where
  abbrev away : List ℕ → ℕ
  away path = apart (path_at sight.nodes from) path

  -- a real node that is so far away
  pub record IsSource (number distance : ℕ) : Type 0 where
    pub real : IsReal sight.nodes number
    pub far : away (path_at sight.nodes number) ≡ distance

  standing : (place : Option ℕ) (path : List ℕ) → Stands sight.nodes path place
      → IsSource (unwrap_or place 0) (away path)
  standing None path h = absurd h
  standing (Some number) path h = record {
    real = record { within = h.within; real = ap (λ (node : Node). is_real node.kind) h.node ∙ real_kind path };
    far = ap away (ap (λ (node : Node). node.path) h.node ∙ real_path path);
  }

  -- a duplicate is carried by its parent
  carrying : (n : ℕ) → n < length sight.nodes → is_real (node_at sight.nodes n).kind ≡ false
      → IsSource (carrier_of sight.node_data n) (away (path_at sight.nodes n))
  carrying n h other = elim (cases_order 0 n) [
    | inl first ↦ let bad : true ≡ false =
        sym (ap (λ (node : Node). is_real node.kind) shows.node_data.whole.at_root)
        ∙ ap (λ k. is_real (node_at sight.nodes k).kind) first ∙ other in cc
    | inr (inl some) ↦
        let whole = shows.node_data.whole in
        let len = shows.node_data.len in
        let m = slice_index (parents_of sight.node_data) n in
        let behind : m < n = whole.tree.behind n some (omega (arith, h, len)) in
        let below = hangs sight.graph sight.positions sight.root sight.nodes (parents_of sight.node_data) whole n some
        (omega (arith, h, len)) in
        subst (λ k. IsSource k (away (path_at sight.nodes n)))
        (sym (ap (λ b. cond b 0 m) (ne_eqb n 0 (λ e. absurd (omega (arith, e, some))))))
        (record {
          real = record { within = omega (arith, behind, h); real = below.real };
          far = ap away (sym (below.hangs.other other));
        })
    | inr (inr less) ↦ absurd (omega arith)
  ]

  itself : (n : ℕ) → n < length sight.nodes → is_real (node_at sight.nodes n).kind ≡ true
      → IsSource n (away (path_at sight.nodes n))
  itself n h r = record { real = record { within = h; real = r }; far = refl }

  source_by : (rules : Rules) (kind : NodeKind) (vertex : ℕ) (path : List ℕ) (n : ℕ) → n < length sight.nodes
      → node_at sight.nodes n ≡ duplicate kind vertex path
      → IsCounterpart sight.nodes (duplicate kind vertex path) (told_at sight.node_data n).counterpart
      → IsSource (node_by n (unwrap_or (told_at sight.node_data n).counterpart 0) (carrier_of sight.node_data n) rules kind)
      (distance_key rules away (duplicate kind vertex path))
  source_by Wording2013 Multiple vertex path n h e c =
      standing (told_at sight.node_data n).counterpart (counterpart (duplicate Multiple vertex path)) c
  source_by Wording2018 Multiple vertex path n h e c =
      subst (λ (node : Node). IsSource (carrier_of sight.node_data n) (away node.path)) e
      (carrying n h (ap (λ (node : Node). is_real node.kind) e))
  source_by Wording2013 Closure vertex path n h e c =
      standing (told_at sight.node_data n).counterpart (counterpart (duplicate Closure vertex path)) c
  source_by Wording2018 Closure vertex path n h e c =
      standing (told_at sight.node_data n).counterpart (counterpart (duplicate Closure vertex path)) c
  source_by Wording2013 Real vertex path n h e c = subst (λ (node : Node). IsSource n (away node.path)) e
      (itself n h (ap (λ (node : Node). is_real node.kind) e))
  source_by Wording2018 Real vertex path n h e c = subst (λ (node : Node). IsSource n (away node.path)) e
      (itself n h (ap (λ (node : Node). is_real node.kind) e))
  source_by Wording2013 Delocalised vertex path n h e c =
      subst (λ (node : Node). IsSource (carrier_of sight.node_data n) (away node.path)) e
      (carrying n h (ap (λ (node : Node). is_real node.kind) e))
  source_by Wording2018 Delocalised vertex path n h e c =
      subst (λ (node : Node). IsSource (carrier_of sight.node_data n) (away node.path)) e
      (carrying n h (ap (λ (node : Node). is_real node.kind) e))

  pub source_is : (n : ℕ) → n < length sight.nodes
      → IsSource (distance_node sight.rules sight.node_data n) (distance_at sight from n)
  source_is n h =
      let of = shows.node_data.each n h in
      let node = node_at sight.nodes n in
      subst (λ kind. IsSource (node_by n (unwrap_or (told_at sight.node_data n).counterpart 0) (carrier_of sight.node_data n)
      sight.rules kind) (distance_at sight from n)) (sym of.kind)
      (source_by sight.rules node.kind node.vertex node.path n h refl of.counterpart)
