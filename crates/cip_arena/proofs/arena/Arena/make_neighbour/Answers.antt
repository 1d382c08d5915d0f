use Rattle.std.proofs.Common.{◌≡◌, true, false, None, Some, refl, sym, ap, ◌∙◌, subst, arith}
use Rattle.cip_digraph.specs.declared.nodes.NodeData.{NodeData}
use Rattle.cip_arena.specs.Growth.{Growth}
use Rattle.cip_arena.specs.Making.{with_neighbour}
use Rattle.cip_arena.specs.Walk.{IsEarlier}
use Rattle.cip_arena.proofs.lemmas.Neighbours.{told_read, with_nodes, closure_is, real_is, none_made, one_made, walked_as}
use Rattle.cip_arena.proofs.lemmas.Neighbours.{above_as, stands_as, none_more, one_more, room_for_one, above_low, longer}
use Rattle.cip_arena.proofs.lemmas.Walked.{none_above, parent_above, parent_found}
use Rattle.std.proofs.lemmas.Grind.{common_steps}
use Rattle.cip_arena.proofs.arena.Arena.make_neighbour.Goals as goal

pub returns-then-comes_from : goal.returns-then-comes_from
returns-then-comes_from g c =
    let old = c.args.self.now.nodes in
    let node = c.args.from.node in
    let other = c.args.other in
    let same : c.self.inside.nodes.items ≡ old = ap (λ (a : Growth). a.nodes) c.self.view_is in
    let early : IsEarlier old = subst (λ (a : Growth). IsEarlier a.nodes) c.self.view_is c.self.invariant.earlier in
    let come = sym c.comes_from.ensures ∙ c.if-comes_from.true in
    let above = parent_above old early other node c.args.from.vertex c.args.from.above c.requires.within
    c.requires.vertex c.requires.above come in
    let found = parent_found old early other node c.args.from.vertex c.args.from.above c.requires.within
    c.requires.vertex c.requires.above come in
    let up = ap (λ (t : NodeData). t.parent) (told_read c.self.inside.nodes.items old node c.index.result.now same
    c.requires.within c.index.ensures) in
    record {
      made = with_nodes c.args.self.now old (with_neighbour c.args.graph.now old node other)
          (none_made c.args.graph.now old node other above);
      stands = up ∙ stands_as old node other _ found;
      low = let low = above_low old node other early c.requires.within above in omega (arith, low, up);
      last = c.requires.last;
      size = none_more old node other above;
      cost = refl;
    }

pub returns-then-not-is_above : goal.returns-then-not-is_above
returns-then-not-is_above g c =
    let old = c.args.self.now.nodes in
    let node = c.args.from.node in
    let other = c.args.other in
    let same : c.self-else-comes_from.inside.nodes.items ≡ old = ap (λ (a : Growth). a.nodes) c.self-else-comes_from.view_is in
    let walked = walked_as old node other c.deref.result.now (Some c.in-Some.at) (c.deref.ensures.value ∙ same)
    c.in-Some.ensures.found in
    let above = above_as old node other c.deref-in-Some.result.now c.is_above.result false
    (c.deref-in-Some.ensures.value ∙ same) c.is_above.ensures c.if-not-is_above.true in
    let added = ap (λ (a : Growth). a.nodes) c.add.ensures.added in
    let long = longer old c.add.new.self.nodes c.closure_node_data-node_data.result added in
    let parent : c.closure_node_data-node_data.result.parent ≡ node = ap (λ (t : NodeData). t.parent) c.closure_node_data-node_data.ensures in
    let cost = c.add.ensures.cost in
    let last = c.add.ensures.last in
    let node_data = closure_is c.args.graph.now old node other c.deref-then-not-is_above.result.now c.in-Some.at
    c.closure_node_data-node_data.result (c.deref-then-not-is_above.ensures.value ∙ same) walked c.closure_node_data-node_data.ensures in
    let low = c.in-Some.ensures.low in
    let within = c.requires.within in
    record {
      made = c.add.ensures.added ∙ with_nodes c.args.self.now _ _
          (one_made c.args.graph.now old node other c.closure_node_data-node_data.result above node_data);
      stands = stands_as old node other (Some c.in-Some.at) walked;
      low = omega (arith, long, low, within);
      last = omega (arith, last, parent);
      size = one_more old node other c.add.new.self.nodes c.closure_node_data-node_data.result added above;
      cost = omega (arith, long, cost);
    }

pub returns-else-not-is_above : goal.returns-else-not-is_above
returns-else-not-is_above g c =
    let old = c.args.self.now.nodes in
    let node = c.args.from.node in
    let other = c.args.other in
    let same : c.self-else-comes_from.inside.nodes.items ≡ old = ap (λ (a : Growth). a.nodes) c.self-else-comes_from.view_is in
    let walked = walked_as old node other c.deref.result.now (Some c.in-Some.at) (c.deref.ensures.value ∙ same)
    c.in-Some.ensures.found in
    let above = above_as old node other c.deref-in-Some.result.now c.is_above.result true
    (c.deref-in-Some.ensures.value ∙ same) c.is_above.ensures c.if-not-is_above.false in
    let low = c.in-Some.ensures.low in
    let within = c.requires.within in
    record {
      made = with_nodes c.args.self.now old (with_neighbour c.args.graph.now old node other)
          (none_made c.args.graph.now old node other above);
      stands = stands_as old node other (Some c.in-Some.at) walked;
      low = omega (arith, low, within);
      last = c.requires.last;
      size = none_more old node other above;
      cost = refl;
    }

pub returns-in_default : goal.returns-in_default
returns-in_default g c =
    let old = c.args.self.now.nodes in
    let node = c.args.from.node in
    let other = c.args.other in
    let same : c.self-else-comes_from.inside.nodes.items ≡ old = ap (λ (a : Growth). a.nodes) c.self-else-comes_from.view_is in
    let early : IsEarlier old = subst (λ (a : Growth). IsEarlier a.nodes) c.self-else-comes_from.view_is c.self-else-comes_from.invariant.earlier in
    let walked = walked_as old node other c.deref.result.now None (c.deref.ensures.value ∙ same)
    c.in_default.ensures.found in
    let above = none_above old early other node c.requires.within walked in
    let added = ap (λ (a : Growth). a.nodes) c.add-in_default.ensures.added in
    let long = longer old c.add-in_default.new.self.nodes c.real_node_data-node_data.result added in
    let parent : c.real_node_data-node_data.result.parent ≡ node = ap (λ (t : NodeData). t.parent) c.real_node_data-node_data.ensures in
    let cost = c.add-in_default.ensures.cost in
    let last = c.add-in_default.ensures.last in
    let node_data = real_is c.args.graph.now old node other c.deref-in_default.result.now c.real_node_data-node_data.result
    (c.deref-in_default.ensures.value ∙ same) walked c.real_node_data-node_data.ensures in
    let number = c.add-in_default.ensures.number in
    record {
      made = c.add-in_default.ensures.added ∙ with_nodes c.args.self.now _ _
          (one_made c.args.graph.now old node other c.real_node_data-node_data.result above node_data);
      stands = number ∙ stands_as old node other None walked;
      low = omega (arith, long, number);
      last = omega (arith, last, parent);
      size = one_more old node other c.add-in_default.new.self.nodes c.real_node_data-node_data.result added above;
      cost = omega (arith, long, cost);
    }

pub add-requires-clause-room : goal.add-requires-clause-room
add-requires-clause-room g c =
    let old = c.args.self.now.nodes in
    let node = c.args.from.node in
    let other = c.args.other in
    let same : c.self-else-comes_from.inside.nodes.items ≡ old = ap (λ (a : Growth). a.nodes) c.self-else-comes_from.view_is in
    let above = above_as old node other c.deref-in-Some.result.now c.is_above.result false
    (c.deref-in-Some.ensures.value ∙ same) c.is_above.ensures c.if-not-is_above.true in
    room_for_one old node other c.args.self.now.bound above c.requires.room

pub add-requires-in_default-clause-room : goal.add-requires-in_default-clause-room
add-requires-in_default-clause-room g c =
    let old = c.args.self.now.nodes in
    let node = c.args.from.node in
    let other = c.args.other in
    let same : c.self-else-comes_from.inside.nodes.items ≡ old = ap (λ (a : Growth). a.nodes) c.self-else-comes_from.view_is in
    let early : IsEarlier old = subst (λ (a : Growth). IsEarlier a.nodes) c.self-else-comes_from.view_is c.self-else-comes_from.invariant.earlier in
    let walked = walked_as old node other c.deref.result.now None (c.deref.ensures.value ∙ same)
    c.in_default.ensures.found in
    let above = none_above old early other node c.requires.within walked in
    room_for_one old node other c.args.self.now.bound above c.requires.room

pub add-requires-clause-below : goal.add-requires-clause-below
add-requires-clause-below g c =
    let parent : c.closure_node_data-node_data.result.parent ≡ c.args.from.node = ap (λ (t : NodeData). t.parent)
    c.closure_node_data-node_data.ensures in
    let within = c.requires.within in
    omega (arith, parent, within)

pub add-requires-clause-in_order : goal.add-requires-clause-in_order
add-requires-clause-in_order g c =
    let parent : c.closure_node_data-node_data.result.parent ≡ c.args.from.node = ap (λ (t : NodeData). t.parent)
    c.closure_node_data-node_data.ensures in
    let last = c.requires.last in
    omega (arith, parent, last)

pub add-requires-in_default-clause-below : goal.add-requires-in_default-clause-below
add-requires-in_default-clause-below g c =
    let parent : c.real_node_data-node_data.result.parent ≡ c.args.from.node = ap (λ (t : NodeData). t.parent)
    c.real_node_data-node_data.ensures in
    let within = c.requires.within in
    omega (arith, parent, within)

pub add-requires-in_default-clause-in_order : goal.add-requires-in_default-clause-in_order
add-requires-in_default-clause-in_order g c =
    let parent : c.real_node_data-node_data.result.parent ≡ c.args.from.node = ap (λ (t : NodeData). t.parent)
    c.real_node_data-node_data.ensures in
    let last = c.requires.last in
    omega (arith, parent, last)

pub is_above-requires-clause-within : goal.is_above-requires-clause-within
is_above-requires-clause-within g c = grind (arith, common_steps)

pub index-requires : goal.index-requires
index-requires g c = grind (arith, common_steps)

pub closure_node_data-node_data-requires : goal.closure_node_data-node_data-requires
closure_node_data-node_data-requires g c = grind (arith, common_steps)

pub find_ancestor-requires-clause-earlier : goal.find_ancestor-requires-clause-earlier
find_ancestor-requires-clause-earlier g c = grind (arith, common_steps)

pub is_above-requires-clause-earlier : goal.is_above-requires-clause-earlier
is_above-requires-clause-earlier g c = grind (arith, common_steps)

pub real_node_data-node_data-requires-clause-within : goal.real_node_data-node_data-requires-clause-within
real_node_data-node_data-requires-clause-within g c = grind (arith, common_steps)

pub find_ancestor-requires-clause-within : goal.find_ancestor-requires-clause-within
find_ancestor-requires-clause-within g c = grind (arith, common_steps)
