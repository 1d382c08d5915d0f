use Rattle.std.proofs.Common.{ap, ◌∙◌, subst}
use Rattle.cip_arena.specs.Making.{node_size}
use Rattle.cip_arena.specs.Walk.{IsEarlier}
use Rattle.cip_arena.proofs.lemmas.Grows.{size_is_count}
use Rattle.cip_arena.proofs.arena.Arena.child_count.Goals as goal

pub returns : goal.returns
returns c positions holds =
    let a = c.args.self.now in
    let early : IsEarlier a.nodes = subst (λ a. IsEarlier a.nodes) c.self.view_is c.self.invariant.earlier in
    c.node_size.ensures.size
    ∙ ap (λ all. node_size c.args.graph.now all c.args.node) (c.deref.ensures.value ∙ ap (λ a. a.nodes) c.self.view_is)
    ∙ size_is_count c.args.graph.now positions a early holds c.args.node c.requires
