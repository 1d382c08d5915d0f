use Rattle.std.proofs.Common.{◌≡◌, ◌+◌, ◌-◌, ℕ, arith, ap, sym, ◌∙◌, subst, refl, length}
use Rattle.cip_arena.specs.Walk.{IsEarlier}
use Rattle.cip_arena.specs.Making.{with_sphere}
use Rattle.cip_arena.specs.Growth.{Growth, Holds}
use Rattle.cip_arena.proofs.lemmas.Grows.{is_grown, size_told, holds_grown, last_holds}
use Rattle.std.proofs.lemmas.Grind.{common_steps}
use Rattle.cip_arena.proofs.arena.Arena.grow.Goals as goal

pub make_sphere-requires-clause-last : goal.make_sphere-requires-clause-last
make_sphere-requires-clause-last g c = last_holds c.args.graph.now c.args.positions.now c.args.self.now c.requires

pub returns-in-None-clause-answer : goal.returns-in-None-clause-answer
returns-in-None-clause-answer g c =
    let a = c.args.self.now in
    let early : IsEarlier a.nodes = subst (λ (a : Growth). IsEarlier a.nodes) c.self.view_is c.self.invariant.earlier in
    let size = size_told c.args.graph.now c.args.positions.now a early c.requires _ _ _
    (c.deref.ensures.value ∙ ap (λ (a : Growth). a.nodes) c.self.view_is) (ap (λ (a : Growth). a.first) c.self.view_is)
    c.len-past.ensures.len in
    let bound : c.self.inside.bound ≡ a.bound = ap (λ (a : Growth). a.bound) c.self.view_is in
    let past = c.len-past.ensures.len in
    let over = c.in-None.ensures.over in
    (refl, refl, omega (arith, size, bound, past, over))

pub returns-in-Some-eq0-clause-answer : goal.returns-in-Some-eq0-clause-answer
returns-in-Some-eq0-clause-answer g c =
    let a = c.args.self.now in
    let early : IsEarlier a.nodes = subst (λ (a : Growth). IsEarlier a.nodes) c.self.view_is c.self.invariant.earlier in
    let size = size_told c.args.graph.now c.args.positions.now a early c.requires _ _ _
    (c.deref.ensures.value ∙ ap (λ (a : Growth). a.nodes) c.self.view_is) (ap (λ (a : Growth). a.first) c.self.view_is)
    c.len-past.ensures.len in
    (refl, refl, omega (arith, size, c.in-Some-eq0.ensures.size, c.in-Some-eq0.field-0-is))

pub returns-in-Some-clause-holds : goal.returns-in-Some-clause-holds
returns-in-Some-clause-holds g c =
    let a = c.args.self.now in
    let past : c.len-past.result ≡ length a.nodes = c.len-past.ensures.len in
    let now = ap (λ (b : Growth). record b { sphere = b.sphere + 1; first = c.len-past.result })
    (c.self-in-Some.view_is ∙ c.make_sphere.ensures.made)
    ∙ ap {A = ℕ} {B = Growth} (λ n. record a {
      sphere = a.sphere + 1;
      first = n;
      nodes = with_sphere c.args.graph.now c.args.positions.now a.nodes a.first (n - a.first);
    }) past in
    subst (Holds c.args.graph.now c.args.positions.now) (sym now)
    (holds_grown c.args.graph.now c.args.positions.now a c.requires)

pub returns-in-Some-clause-answer : goal.returns-in-Some-clause-answer
returns-in-Some-clause-answer g c =
    let a = c.args.self.now in
    let early : IsEarlier a.nodes = subst (λ (a : Growth). IsEarlier a.nodes) c.self.view_is c.self.invariant.earlier in
    let size = size_told c.args.graph.now c.args.positions.now a early c.requires _ _ _
    (c.deref.ensures.value ∙ ap (λ (a : Growth). a.nodes) c.self.view_is) (ap (λ (a : Growth). a.first) c.self.view_is)
    c.len-past.ensures.len in
    let past : c.len-past.result ≡ length a.nodes = c.len-past.ensures.len in
    let now = ap (λ (b : Growth). record b { sphere = b.sphere + 1; first = c.len-past.result })
    (c.self-in-Some.view_is ∙ c.make_sphere.ensures.made)
    ∙ ap {A = ℕ} {B = Growth} (λ n. record a {
      sphere = a.sphere + 1;
      first = n;
      nodes = with_sphere c.args.graph.now c.args.positions.now a.nodes a.first (n - a.first);
    }) past in
    let here = size_told c.args.graph.now c.args.positions.now a early c.requires a.nodes a.first _ refl refl past in
    let some = c.in-Some.ensures.size in
    let not = c.in-Some.field-0-is in
    let long = c.make_sphere.ensures.size in
    let cost = c.make_sphere.ensures.cost in (
      is_grown c.args.graph.now c.args.positions.now a _ now,
      omega (arith, here, long, cost),
      omega (arith, size, some, not),
    )

pub overflow_add-self : goal.overflow_add-self
overflow_add-self g c = grind (arith, common_steps)

pub sphere_size-requires-clause-order : goal.sphere_size-requires-clause-order
sphere_size-requires-clause-order g c = grind (arith, common_steps)

pub make_sphere-requires-clause-room : goal.make_sphere-requires-clause-room
make_sphere-requires-clause-room g c = grind (arith, common_steps)

pub make_sphere-requires-clause-order : goal.make_sphere-requires-clause-order
make_sphere-requires-clause-order g c = grind (arith, common_steps)
