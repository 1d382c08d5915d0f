use Rattle.std.proofs.Common.{◌≡◌, ◌∙◌, ap, map, refl}
use Rattle.std.specs.Prelude.{sum}
use Rattle.cip_digraph.specs.graph.Hydrogens.{atom_at, bond_orders}
use Rattle.cip_hydro.proofs.lemmas.Drawn.{around_is, bonds_few, orders_small}
use Rattle.cip_hydro.proofs.valence_state.surroundings_at.Goals as goal

pub order_sum-orders-requires : goal.order_sum-orders-requires
order_sum-orders-requires c =
    rw c.bonds_at.ensures (bonds_few c.args.molecule.now c.atoms.ensures.range c.args.number)

pub hydrogens-hydrogens-requires-clause-few : goal.hydrogens-hydrogens-requires-clause-few
hydrogens-hydrogens-requires-clause-few c =
    rw (c.order_sum-orders.ensures, c.bonds_at.ensures)
    (orders_small c.args.molecule.now c.atoms.ensures.range c.args.number)

pub has_lone_pair-lone-requires-clause-orders : goal.has_lone_pair-lone-requires-clause-orders
has_lone_pair-lone-requires-clause-orders c =
    rw (c.order_sum-orders.ensures, c.bonds_at.ensures)
    (orders_small c.args.molecule.now c.atoms.ensures.range c.args.number)

pub returns-clause-value : goal.returns-clause-value
returns-clause-value c =
    let orders : c.order_sum-orders.result ≡ bond_orders c.args.number c.args.molecule.now.bonds =
    c.order_sum-orders.ensures ∙ ap (λ bonds. sum (map (λ bond. bond.order) bonds)) c.bonds_at.ensures in
    rw (
      c.is_neglected.ensures,
      c.has_lone_pair-lone.ensures,
      c.hydrogens-hydrogens.ensures.value,
      c.neighbours.ensures.value,
      c.atoms.ensures.value,
    )
    (around_is c.args.molecule.now c.args.number c.order_sum-orders.result
    (atom_at c.args.molecule.now c.args.number) refl orders)

pub returns-clause-few : goal.returns-clause-few
returns-clause-few c = record { few = c.hydrogens-hydrogens.ensures.few }
