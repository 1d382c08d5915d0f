use Rattle.std.proofs.Common.{◌≡◌, ◌<◌, ◌≤◌, ◌+◌, ℕ, arith, ap, sym, ◌∙◌, subst, refl, get_or, take, length, false}
use Rattle.std.proofs.Common.{List, None, Some}
use Rattle.std.specs.declared.option.Option.{Option}
use Rattle.std.specs.List.{sum_by, fold}
use Rattle.std.proofs.lemmas.Grind.{common_steps}
use Rattle.std.proofs.lemmas.List.Sums.{sum_by_more, sum_by_more_le, fold_more}
use Rattle.cip_digraph.specs.digraph.NodeList.{told_at}
use Rattle.cip_digraph.specs.graph.Graph.{edges_at}
use Rattle.std.proofs.lemmas.List.{take_all}
use Rattle.cip_digraph.specs.declared.nodes.NodeData.{NodeData}
use Rattle.cip_digraph.specs.declared.drawing.graph.Edge.{Edge}
use Rattle.cip_arena.specs.Growth.{Growth}
use Rattle.cip_arena.specs.Walk.{IsEarlier}
use Rattle.cip_arena.specs.Making.{children_at, edge_size, node_size, size_at, real_vertex, with_edge}
use Rattle.cip_arena.proofs.lemmas.Sized.{edge_kept}
use Rattle.cip_arena.proofs.lemmas.Added.{keeps_then}
use Rattle.cip_arena.proofs.lemmas.Neighbours.{told_read}
use Rattle.cip_arena.proofs.arena.Arena.make_children.Goals as goal

abbrev no_edge : Edge
no_edge = record { a = 0; b = 0; order = 0; counted = false }

-- what was read is the vertex of a real node
real_read : (items old : List NodeData) (node : ℕ) (read : NodeData) (found vertex : Option ℕ) → items ≡ old → node < length old
    → read ≡ get_or items node read → found ≡ real_vertex read → found ≡ vertex
    → real_vertex (told_at old node) ≡ vertex
real_read items old node read found vertex same lt is node_data then =
    ap real_vertex (sym (told_read items old node read same lt is)) ∙ sym node_data ∙ then

pub make_edge-requires-clause-room : goal.make_edge-requires-clause-room
make_edge-requires-clause-room g c =
    let inv = c.loop-edge.invariant in
    let old = c.args.self.now.nodes in
    let es = c.edges_at-edge-items.result.now in
    let e = get_or es c.loop-edge.edge-index no_edge in
    let f = edge_size old c.args.node c.in-Some.vertex in
    let early : IsEarlier old = subst (λ a. IsEarlier a.nodes) c.self.view_is c.self.invariant.earlier in
    let kept : edge_size c.loop-edge.self.nodes c.args.node c.in-Some.vertex e ≡ f e =
    edge_kept old c.loop-edge.self.nodes early inv.kept c.args.node c.in-Some.vertex e c.requires.within in
    let le : sum_by f (take c.loop-edge.edge-index es) + f e ≤ sum_by f es = sum_by_more_le f es c.loop-edge.edge-index
    no_edge c.loop-edge-test.true in
    let real : real_vertex (told_at old c.args.node) ≡ Some c.in-Some.vertex = grind (arith, common_steps) in
    let whole : node_size c.args.graph.now old c.args.node ≡ sum_by f es = ap (size_at c.args.graph.now old c.args.node)
    real ∙ ap (sum_by f) (sym c.edges_at-edge-items.ensures.value) in
    let bound : c.loop-edge.self.bound ≡ c.args.self.now.bound = ap (λ a. a.bound) inv.self in
    let room = c.requires.room in
    let size = inv.size in
    omega (arith, kept, le, whole, room, size, bound)

pub loop-edge-preserved : goal.loop-edge-preserved
loop-edge-preserved g c =
    let inv = c.loop-edge.invariant in
    let old = c.args.self.now.nodes in
    let es = c.edges_at-edge-items.result.now in
    let e = get_or es c.loop-edge.edge-index no_edge in
    let f = edge_size old c.args.node c.in-Some.vertex in
    let early : IsEarlier old = subst (λ a. IsEarlier a.nodes) c.self.view_is c.self.invariant.earlier in
    let kept : edge_size c.loop-edge.self.nodes c.args.node c.in-Some.vertex e ≡ f e =
    edge_kept old c.loop-edge.self.nodes early inv.kept c.args.node c.in-Some.vertex e c.requires.within in
    let more : sum_by f (take (c.loop-edge.edge-index + 1) es) ≡ sum_by f (take c.loop-edge.edge-index es) + f e =
    sum_by_more f es c.loop-edge.edge-index no_edge c.loop-edge-test.true in
    let size = inv.size in
    let made = c.make_edge.ensures.size in
    record {
      self = c.make_edge.ensures.made
          ∙ ap {A = Growth} {B = Growth} (λ a. record a {
            nodes = with_edge c.args.graph.now c.args.positions.now
                c.args.node c.in-Some.vertex a.nodes e;
          }) inv.self
          ∙ ap {A = List NodeData} {B = Growth} (λ ns. record c.args.self.now { nodes = ns })
          (sym (fold_more (with_edge c.args.graph.now c.args.positions.now c.args.node c.in-Some.vertex) old es
          c.loop-edge.edge-index no_edge c.loop-edge-test.true));
      kept = keeps_then old c.loop-edge.self.nodes c.make_edge.new.self.nodes inv.kept c.make_edge.ensures.kept;
      size = omega (arith, kept, more, size, made);
      last = c.make_edge.ensures.last;
      cost = omega (arith, inv.cost, c.make_edge.ensures.cost);
    }

pub make_edge-requires-clause-within : goal.make_edge-requires-clause-within
make_edge-requires-clause-within g c =
    let kept = c.loop-edge.invariant.kept.longer in
    let within = c.requires.within in
    omega (arith, kept, within)

pub make_edge-requires-clause-last : goal.make_edge-requires-clause-last
make_edge-requires-clause-last g c = c.loop-edge.invariant.last

pub returns-in_default-clause-made : goal.returns-in_default-clause-made
returns-in_default-clause-made g c =
    let old = c.args.self.now.nodes in
    let none = real_read c.self.inside.nodes.items old c.args.node c.index.result.now c.real_vertex.result None
    (ap (λ (a : Growth). a.nodes) c.self.view_is) c.requires.within c.index.ensures c.real_vertex.ensures
    c.in_default.is in
    ap {A = List NodeData} {B = Growth} (λ ns. record c.args.self.now { nodes = ns })
    (sym (ap (children_at c.args.graph.now c.args.positions.now old c.args.node) none))

pub returns-in_default-clause-last : goal.returns-in_default-clause-last
returns-in_default-clause-last g c = c.requires.last

pub returns-in_default-clause-size : goal.returns-in_default-clause-size
returns-in_default-clause-size g c =
    let old = c.args.self.now.nodes in
    let none = real_read c.self.inside.nodes.items old c.args.node c.index.result.now c.real_vertex.result None
    (ap (λ (a : Growth). a.nodes) c.self.view_is) c.requires.within c.index.ensures c.real_vertex.ensures
    c.in_default.is in
    let size : node_size c.args.graph.now old c.args.node ≡ 0 = ap (size_at c.args.graph.now old c.args.node) none in
    omega (arith, size)

pub loop-edge-init : goal.loop-edge-init
loop-edge-init g c =
    record {
      self = refl;
      kept = record { longer = omega arith; same = λ k lt. refl };
      size = omega arith;
      last = c.requires.last;
      cost = refl;
    }

pub returns-after-loop-edge-clause-made : goal.returns-after-loop-edge-clause-made
returns-after-loop-edge-clause-made g c =
    let old = c.args.self.now.nodes in
    let real = real_read c.self.inside.nodes.items old c.args.node c.index.result.now c.real_vertex.result (Some c.in-Some.vertex)
    (ap (λ (a : Growth). a.nodes) c.self.view_is) c.requires.within c.index.ensures c.real_vertex.ensures
    c.in-Some.is in
    let es = c.edges_at-edge-items.result.now in
    let all : take c.loop-edge.edge-index es ≡ edges_at c.args.graph.now c.in-Some.vertex =
    take_all c.loop-edge.edge-index es c.loop-edge-test.false ∙ c.edges_at-edge-items.ensures.value in
    c.loop-edge.invariant.self
    ∙ ap {A = List NodeData} {B = Growth} (λ ns. record c.args.self.now { nodes = ns })
    (ap (fold (with_edge c.args.graph.now c.args.positions.now c.args.node c.in-Some.vertex) old) all
    ∙ sym (ap (children_at c.args.graph.now c.args.positions.now old c.args.node) real))

pub returns-after-loop-edge-clause-last : goal.returns-after-loop-edge-clause-last
returns-after-loop-edge-clause-last g c = c.loop-edge.invariant.last

pub returns-after-loop-edge-clause-kept : goal.returns-after-loop-edge-clause-kept
returns-after-loop-edge-clause-kept g c = c.loop-edge.invariant.kept

pub returns-after-loop-edge-clause-size : goal.returns-after-loop-edge-clause-size
returns-after-loop-edge-clause-size g c =
    let old = c.args.self.now.nodes in
    let real = real_read c.self.inside.nodes.items old c.args.node c.index.result.now c.real_vertex.result (Some c.in-Some.vertex)
    (ap (λ (a : Growth). a.nodes) c.self.view_is) c.requires.within c.index.ensures c.real_vertex.ensures
    c.in-Some.is in
    let es = c.edges_at-edge-items.result.now in
    let all : take c.loop-edge.edge-index es ≡ edges_at c.args.graph.now c.in-Some.vertex =
    take_all c.loop-edge.edge-index es c.loop-edge-test.false ∙ c.edges_at-edge-items.ensures.value in
    let size = c.loop-edge.invariant.size in
    let whole : sum_by (edge_size old c.args.node c.in-Some.vertex) (take c.loop-edge.edge-index es)
    ≡ node_size c.args.graph.now old c.args.node =
    ap (sum_by (edge_size old c.args.node c.in-Some.vertex)) all
    ∙ sym (ap (size_at c.args.graph.now old c.args.node) real) in
    omega (arith, size, whole)

pub returns-after-loop-edge-clause-cost : goal.returns-after-loop-edge-clause-cost
returns-after-loop-edge-clause-cost g c = c.loop-edge.invariant.cost

pub vertex_above-above-requires-clause-within : goal.vertex_above-above-requires-clause-within
vertex_above-above-requires-clause-within g c = grind (arith, common_steps)
