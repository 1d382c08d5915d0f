use Rattle.std.proofs.Common.{◌≡◌, ◌<◌, ◌≤◌, ◌+◌, arith, ap, sym, ◌∙◌, subst, length, length-append, ℕ, Bool, List, []}
use Rattle.std.proofs.Common.{◌∷◌, ◌++◌}
use Rattle.std.proofs.lemmas.List.{length-map}
use Rattle.cip_rank.specs.Tree.{last_parent}
use Rattle.cip_arena.specs.Growth.{Growth}
use Rattle.cip_digraph.specs.declared.nodes.NodeData.{NodeData}
use Rattle.cip_digraph.specs.digraph.NodeList.{told_at, parents_of}
use Rattle.cip_arena.specs.Walk.{IsEarlier, IsFlagged}
use Rattle.cip_arena.proofs.lemmas.Added.{parents_added, earlier_added, near_added, last_added}
use Rattle.cip_arena.proofs.lemmas.Flagged.{flagged_added}
use Rattle.std.proofs.lemmas.Grind.{common_steps}
use Rattle.cip_arena.proofs.arena.Arena.add.Goals as goal

pub invariant_of-self : goal.invariant_of-self
invariant_of-self g c =
    let inv = c.self.invariant in
    let ts = c.self.inside.nodes.items in
    let t = c.args.node in
    let room : length ts < c.self.inside.bound = subst (λ a. length a.nodes < a.bound) (sym c.self.view_is)
    c.requires.room in
    let below : t.parent < length ts = subst (λ a. t.parent < length a.nodes) (sym c.self.view_is) c.requires.below in
    let nearer : t.as_printed ≤ length ts = subst (λ a. t.as_printed ≤ length a.nodes) (sym c.self.view_is)
    c.requires.nearer in
    let items : c.push_reserved.new.self.items ≡ ts ++ t ∷ [] = c.push_reserved.ensures.items in
    let more : length c.push_reserved.new.self.items ≡ length ts + 1 = ap length items ∙ length-append ts (t ∷ []) in
    record {
      few = inv.few;
      table_bound = ap (λ tree. tree.bound) c.push-number.ensures.pushed ∙ inv.table_bound;
      parents = ap (λ tree. tree.parents) c.push-number.ensures.pushed ∙ ap (λ ps. ps ++ t.parent ∷ []) inv.parents
          ∙ sym (parents_added ts t) ∙ ap parents_of (sym items);
      fits = omega (arith, more, room);
      room = omega (arith, inv.room, c.push_reserved.ensures.capacity);
      earlier = subst IsEarlier (sym items) (earlier_added ts t inv.earlier below);
      nearer = subst (λ (xs : List NodeData). (k : ℕ) → k < length xs → (told_at xs k).as_printed ≤ k) (sym items)
          (near_added ts t inv.nearer nearer);
      first = omega (arith, more, inv.first);
      sphere = omega (arith, more, inv.sphere);
      flags_room = omega (arith, inv.flags_room, c.flag_vertex.ensures.room);
      flagged = subst (λ (xs : List NodeData). IsFlagged c.flag_vertex.new.flags.items xs) (sym items)
          (subst (λ (flags : List Bool). IsFlagged flags (ts ++ t ∷ [])) (sym c.flag_vertex.ensures.flagged)
          (flagged_added c.self.inside.present.items ts t inv.flagged));
    }

pub push-number-requires : goal.push-number-requires
push-number-requires g c =
    let ts = c.self.inside.nodes.items in
    let parent = c.args.node.parent in
    let len : length c.self.inside.table.parents ≡ length ts = ap (λ (ps : List ℕ). length ps) c.self.invariant.parents
    ∙ length-map ts (λ (n : NodeData). n.parent) in
    let room : length ts < c.self.inside.bound = subst (λ (a : Growth). length a.nodes < a.bound) (sym c.self.view_is)
    c.requires.room in
    let below : parent < length ts = subst (λ (a : Growth). parent < length a.nodes) (sym c.self.view_is)
    c.requires.below in
    let bound = c.self.invariant.table_bound in
    record {
      room = omega (arith, len, room, bound);
      below = omega (arith, len, below);
      root = (tt, omega (arith, len, below));
      ordered = subst (λ (ps : List ℕ). last_parent ps ≤ parent) (sym c.self.invariant.parents)
          (subst (λ (a : Growth). last_parent (parents_of a.nodes) ≤ parent) (sym c.self.view_is) c.requires.in_order);
    }

pub returns-clause-added : goal.returns-clause-added
returns-clause-added g c =
    ap {A = List NodeData} {B = Growth} (λ ns. record {
      bound = c.self.inside.bound;
      root = c.self.inside.root;
      sphere = c.self.inside.sphere;
      first = c.self.inside.first;
      nodes = ns;
    }) c.push_reserved.ensures.items
    ∙ ap (λ (a : Growth). record a { nodes = a.nodes ++ c.args.node ∷ [] }) c.self.view_is

pub returns-clause-last : goal.returns-clause-last
returns-clause-last g c =
    ap (λ (all : List NodeData). last_parent (parents_of all)) c.push_reserved.ensures.items
    ∙ last_added c.self.inside.nodes.items c.args.node

pub returns-clause-number : goal.returns-clause-number
returns-clause-number g c = grind (arith, common_steps)
