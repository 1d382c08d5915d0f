use Rattle.std.proofs.Common.{◌≡◌, ◌∙◌, ◌++◌, ◌&&◌, ◌∷◌, [], Bool, true, false, not, length, ap, refl, subst, sym, ◌≤◌}
use Rattle.std.proofs.lemmas.Result.{on_ok_weaker}
use Rattle.cip_mol.specs.declared.site.Site.{Site}
use Rattle.cip_mol.specs.declared.site.Site.TheVariants.{Bond}
use Rattle.cip_digraph.specs.units.DoubleBonds.{bond_site, end_ligands, is_bond_unit}
use Rattle.cip_digraph.specs.graph.Graph.{edges_at, other_end}
use Rattle.cip_digraph.specs.rings.SmallRings.{is_in_small_ring}
use Rattle.cip_unit.specs.Sites.{units_at}
use Rattle.cip_unit.proofs.lemmas.Kept.{one_is}
use Rattle.cip_unit.proofs.lemmas.FewUnits.{bond_end_few}
use Rattle.cip_unit.proofs.lemmas.Shown.{bond_shown, unit_parts}
use Rattle.cip_unit.proofs.bonds.push_bond.Goals as goal

-- what can be a unit is one outside of small rings
unit_on : (can ring : Bool) → can ≡ true → ring ≡ false → (can && not ring) ≡ true
unit_on can ring is out = rw (is, out) refl

pub push_unit-requires : goal.push_unit-requires
push_unit-requires c =
    let ring = ap (is_in_small_ring c.args.sketch.now.graph.now c.args.a) (sym c.other_end-b.ensures)
    ∙ sym c.in-Ok.ensures ∙ c.if-in_ring.false in
    let is : is_bond_unit c.args.sketch.now.graph.now c.args.sketch.now.positions.now c.args.a c.args.edge.now ≡ true =
    unit_on _ _ (sym c.can_be_bond_unit.ensures ∙ c.if-not-can_be_bond_unit.false) ring in
    rw (c.end_ligands.ensures, c.end_ligands-else-in_ring.ensures, c.other_end-b.ensures)
    (bond_shown c.args.sketch.now.graph.now c.args.sketch.now.positions.now _ c.args.a c.args.edge.now c.requires.drawn
    c.requires.within c.requires.leads is)

pub returns-else-in_ring : goal.returns-else-in_ring
returns-else-in_ring c =
    let ring = ap (is_in_small_ring c.args.sketch.now.graph.now c.args.a) (sym c.other_end-b.ensures)
    ∙ sym c.in-Ok.ensures ∙ c.if-in_ring.false in
    let is : is_bond_unit c.args.sketch.now.graph.now c.args.sketch.now.positions.now c.args.a c.args.edge.now ≡ true =
    unit_on _ _ (sym c.can_be_bond_unit.ensures ∙ c.if-not-can_be_bond_unit.false) ring in
    let graph = c.args.sketch.now.graph.now in
    let a = c.args.a in
    let other = c.other_end-b.ensures in
    let first = c.end_ligands.ensures ∙ ap (λ b. end_ligands graph (a ∷ b ∷ []) a) other in
    let second = c.end_ligands-else-in_ring.ensures ∙ ap (λ b. end_ligands graph (a ∷ b ∷ []) b) other in
    let same : ◌≡◌ {A = Site}
    (Bond a c.other_end-b.result c.end_ligands.result c.end_ligands-else-in_ring.result)
    (bond_site graph a c.args.edge.now) = λ i. Bond a (other i) (first i) (second i) in
    on_ok_weaker c.push_unit.result
    (λ so_far. so_far
    ∙ ap (λ sites. c.args.units.now ++ units_at c.args.sketch.now.molecule.now sites)
    (ap (λ site. site ∷ []) same
    ∙ one_is (is_bond_unit c.args.sketch.now.graph.now c.args.sketch.now.positions.now c.args.a c.args.edge.now)
    (bond_site c.args.sketch.now.graph.now c.args.a c.args.edge.now)
    is))
    c.push_unit.ensures

pub end_ligands-requires : goal.end_ligands-requires
end_ligands-requires c =
    let ring = ap (is_in_small_ring c.args.sketch.now.graph.now c.args.a) (sym c.other_end-b.ensures)
    ∙ sym c.in-Ok.ensures ∙ c.if-in_ring.false in
    let is : is_bond_unit c.args.sketch.now.graph.now c.args.sketch.now.positions.now c.args.a c.args.edge.now ≡ true =
    unit_on _ _ (sym c.can_be_bond_unit.ensures ∙ c.if-not-can_be_bond_unit.false) ring in
    let graph = c.args.sketch.now.graph.now in
    let other = other_end c.args.a c.args.edge.now in
    bond_end_few graph (c.args.a ∷ other ∷ []) c.args.a
    (unit_parts graph c.args.sketch.now.positions.now c.args.a c.args.edge.now is).first

pub end_ligands-requires-else-in_ring : goal.end_ligands-requires-else-in_ring
end_ligands-requires-else-in_ring c =
    let ring = ap (is_in_small_ring c.args.sketch.now.graph.now c.args.a) (sym c.other_end-b.ensures)
    ∙ sym c.in-Ok.ensures ∙ c.if-in_ring.false in
    let is : is_bond_unit c.args.sketch.now.graph.now c.args.sketch.now.positions.now c.args.a c.args.edge.now ≡ true =
    unit_on _ _ (sym c.can_be_bond_unit.ensures ∙ c.if-not-can_be_bond_unit.false) ring in
    let graph = c.args.sketch.now.graph.now in
    let parts = unit_parts graph c.args.sketch.now.positions.now c.args.a c.args.edge.now is in
    let other = other_end c.args.a c.args.edge.now in
    subst (λ b. length (edges_at graph b) ≤ 3) (sym c.other_end-b.ensures)
    (bond_end_few graph (c.args.a ∷ other ∷ []) other parts.second)
