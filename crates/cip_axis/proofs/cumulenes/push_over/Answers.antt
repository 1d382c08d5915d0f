use Rattle.std.proofs.Common.{◌≡◌, ◌∙◌, ◌<◌, ◌≤◌, ◌++◌, List, ℕ, ap, arith, length, subst, sym, true}
use Rattle.std.specs.List.{All, AllByRecursion}
use Rattle.std.proofs.lemmas.List.{append-nil}
use Rattle.std.proofs.lemmas.List.Elements.{All-from_recursion}
use Rattle.cip_mol.specs.Sites.{IsSite}
use Rattle.cip_digraph.specs.graph.Graph.{edges_at}
use Rattle.cip_ring.specs.AnyRings.{is_in_ring}
use Rattle.cip_axis.specs.Cumulenes.{any_bond, first_atom, is_cumulene, last_atom}
use Rattle.cip_axis.specs.Further.{cumulene_site}
use Rattle.cip_axis.specs.Likeness.{like}
use Rattle.cip_axis.specs.Listing.{first_in_ring}
use Rattle.cip_axis.proofs.lemmas.ChainRings.{chain_rings}
use Rattle.cip_axis.proofs.lemmas.Chained.{short_none}
use Rattle.cip_axis.proofs.lemmas.Drawn.{chain_below, chain_short}
use Rattle.cip_axis.proofs.lemmas.Sited.{at_most, axis_end_parts, cumulene_parts, cumulene_shown}
use Rattle.cip_axis.proofs.cumulenes.push_over.Goals as goal
use Rattle.cip_axis.proofs.cumulenes.push_over.Goals.{After-deref-then-is_unit}

-- the chain is a cumulene where the unit is made
is_unit : (c : After-deref-then-is_unit) → is_cumulene c.args.source.now.graph.now c.in-Ok.chain.items ≡ true
is_unit c =
    ap (is_cumulene c.args.source.now.graph.now) (sym c.deref.ensures.value) ∙ sym c.in-Ok-is_cumulene.ensures
    ∙ c.if-is_unit.true

pub returns : goal.returns
returns c =
    let source = c.args.source.now in
    let units = c.args.units.now in
    sym (ap (λ more. units ++ more)
    (short_none source.molecule.now source.graph.now c.args.a c.args.next (sym c.continues_chain.ensures ∙ c.if-continues_chain.false))
    ∙ append-nil units)

pub is_cumulene-requires : goal.is_cumulene-requires
is_cumulene-requires c =
    let source = c.args.source.now in
    let graph = source.graph.now in
    record {
      rings = subst (λ chain. any_bond (is_in_ring graph) chain ≡ first_in_ring graph chain)
          (sym (c.deref.ensures.value ∙ c.in-Ok.ensures))
          (chain_rings graph c.requires.source.sound c.requires.source.leads c.args.a c.args.next c.requires.within c.requires.next);
    }

pub cumulene_unit-unit-requires-clause-some : goal.cumulene_unit-unit-requires-clause-some
cumulene_unit-unit-requires-clause-some c =
    let is = is_unit (goal.at.cumulene_unit-unit-requires-clause-some c).After-deref-then-is_unit in
    let long = (cumulene_parts c.args.source.now.graph.now c.in-Ok.chain.items is).long in
    subst (λ (chain : List ℕ). 1 ≤ length chain) (sym c.deref-then-is_unit.ensures.value) (omega (arith, long))

pub cumulene_unit-unit-requires-clause-first : goal.cumulene_unit-unit-requires-clause-first
cumulene_unit-unit-requires-clause-first c =
    let graph = c.args.source.now.graph.now in
    let items = c.in-Ok.chain.items in
    let is = is_unit (goal.at.cumulene_unit-unit-requires-clause-first c).After-deref-then-is_unit in
    subst (λ chain. length (edges_at graph (first_atom chain)) ≤ 3) (sym c.deref-then-is_unit.ensures.value)
    (at_most (axis_end_parts graph items (first_atom items) (cumulene_parts graph items is).first).three)

pub cumulene_unit-unit-requires-clause-last : goal.cumulene_unit-unit-requires-clause-last
cumulene_unit-unit-requires-clause-last c =
    let graph = c.args.source.now.graph.now in
    let items = c.in-Ok.chain.items in
    let is = is_unit (goal.at.cumulene_unit-unit-requires-clause-last c).After-deref-then-is_unit in
    subst (λ chain. length (edges_at graph (last_atom chain)) ≤ 3) (sym c.deref-then-is_unit.ensures.value)
    (at_most (axis_end_parts graph items (last_atom items) (cumulene_parts graph items is).last).three)

pub cumulene_unit-unit-requires-clause-shown : goal.cumulene_unit-unit-requires-clause-shown
cumulene_unit-unit-requires-clause-shown c =
    let source = c.args.source.now in
    let graph = source.graph.now in
    let items = c.in-Ok.chain.items in
    let below : AllByRecursion (λ atom. atom < graph.drawn) items =
    subst (AllByRecursion (λ atom. atom < graph.drawn)) (sym c.in-Ok.ensures)
    (chain_below graph c.requires.source.leads c.args.a c.args.next c.requires.within c.requires.next) in
    let is = is_unit (goal.at.cumulene_unit-unit-requires-clause-shown c).After-deref-then-is_unit in
    subst (λ chain. IsSite (length source.molecule.now.atoms) (like (cumulene_site graph chain)))
    (sym c.deref-then-is_unit.ensures.value)
    (cumulene_shown graph _ items c.requires.source.drawn below is)

pub cumulene_unit-unit-requires-clause-within : goal.cumulene_unit-unit-requires-clause-within
cumulene_unit-unit-requires-clause-within c =
    let source = c.args.source.now in
    let graph = source.graph.now in
    let items = c.in-Ok.chain.items in
    let below : AllByRecursion (λ atom. atom < graph.drawn) items =
    subst (AllByRecursion (λ atom. atom < graph.drawn)) (sym c.in-Ok.ensures)
    (chain_below graph c.requires.source.leads c.args.a c.args.next c.requires.within c.requires.next) in
    subst (All (λ atom. atom < length source.molecule.now.atoms)) (sym c.deref-then-is_unit.ensures.value)
    (subst (λ n. All (λ atom. atom < n) items) c.requires.source.drawn
    (All-from_recursion (λ atom. atom < graph.drawn) items below))

pub cumulene_unit-unit-requires-clause-few : goal.cumulene_unit-unit-requires-clause-few
cumulene_unit-unit-requires-clause-few c =
    let source = c.args.source.now in
    let short = chain_short source.graph.now c.requires.source.leads c.args.a c.args.next in
    let long = ap length (c.deref-then-is_unit.ensures.value ∙ c.in-Ok.ensures) in
    let few = c.vertices-count.ensures.range.few_vertices in
    omega (arith, short, long, few)
