-- The sites that further units are like have drawn ends.
use Rattle.std.proofs.Common.{◌≡◌, ◌<◌, ◌≤◌, ◌+◌, ◌-◌, ℕ, Bool, true, false, cond, not, ◌==◌, List, [], ◌∷◌, length, arith, eqb-true, ltb-true}
use Rattle.std.specs.Prelude.{nat_le, nat_lt}
use Rattle.std.specs.List.{All, AllByRecursion}
use Rattle.std.proofs.lemmas.Bool.{and_parts, leb-true}
use Rattle.std.proofs.lemmas.List.Elements.{All-from_recursion}
use Rattle.cip_mol.specs.Sites.{IsEnd, IsSite}
use Rattle.cip_mol.specs.declared.site.Ligand.{Ligand}
use Rattle.cip_mol.specs.declared.site.Site.TheVariants.{Bond, Axis}
use Rattle.cip_digraph.specs.declared.drawing.graph.Edge.{Edge}
use Rattle.cip_digraph.specs.graph.Graph.{Graph, edges_at, other_end, vertex_at}
use Rattle.cip_digraph.specs.rings.Positions.{is_delocalised}
use Rattle.cip_digraph.specs.units.Allenes.{is_axis_end}
use Rattle.cip_digraph.specs.units.Descriptors.{is_odd}
use Rattle.cip_digraph.specs.units.DoubleBonds.{end_ligands, has_end_bonds, outer_neighbours}
use Rattle.cip_ring.specs.AnyRings.{is_in_ring}
use Rattle.cip_unit.proofs.lemmas.Shown.{end_shown}
use Rattle.cip_axis.specs.Biaryls.{hindered_at, is_biaryl, is_biaryl_end}
use Rattle.cip_axis.specs.Cumulenes.{any_bond, first_atom, last_atom, is_cumulene}
use Rattle.cip_axis.specs.Further.{biaryl_site, cumulene_site}
use Rattle.cip_axis.specs.Likeness.{like}

like_by : (atoms a b : ℕ) (first second : List Ligand) (odd : Bool) → IsEnd atoms a first → IsEnd atoms b second
    → IsSite atoms (cond odd (Bond a b first second) (Axis a a b first second))
like_by atoms a b first second true p q = (p, q)
like_by atoms a b first second false p q = (p, q)

-- what a chain that is a unit has
pub record CanBeCumulene (graph : Graph) (chain : List ℕ) : Type 0 where
  pub long : 4 ≤ length chain
  pub first : is_axis_end graph chain (first_atom chain) ≡ true
  pub last : is_axis_end graph chain (last_atom chain) ≡ true

pub cumulene_parts : (graph : Graph) (chain : List ℕ) → is_cumulene graph chain ≡ true → CanBeCumulene graph chain
cumulene_parts graph chain is =
    let p = and_parts _ (not (any_bond (is_in_ring graph) chain)) is in
    let q = and_parts _ (is_axis_end graph chain (last_atom chain)) p.0 in
    let r = and_parts _ (is_axis_end graph chain (first_atom chain)) q.0 in
    let s = and_parts (nat_le 4 (length chain)) (nat_lt (first_atom chain) (last_atom chain)) r.0 in
    record { long = leb-true 4 (length chain) s.0; first = r.1; last = q.1 }

pub record IsAxisEnd (graph : Graph) (unit : List ℕ) (atom : ℕ) : Type 0 where
  pub three : length (edges_at graph atom) ≡ 3
  pub bonds : has_end_bonds graph unit atom ≡ true
  pub two : length (outer_neighbours graph unit atom) ≡ 2

pub axis_end_parts : (graph : Graph) (unit : List ℕ) (atom : ℕ) → is_axis_end graph unit atom ≡ true
    → IsAxisEnd graph unit atom
axis_end_parts graph unit atom is =
    let p = and_parts _ (length (outer_neighbours graph unit atom) == 2) is in
    let q = and_parts _ (has_end_bonds graph unit atom) p.0 in
    let r = and_parts ((vertex_at graph atom).z == 6) (length (edges_at graph atom) == 3) q.0 in
    record {
      three = eqb-true (length (edges_at graph atom)) 3 r.1;
      bonds = q.1;
      two = eqb-true (length (outer_neighbours graph unit atom)) 2 p.1;
    }

pub cumulene_shown : (graph : Graph) (atoms : ℕ) (chain : List ℕ) → graph.drawn ≡ atoms
    → AllByRecursion (λ m. m < graph.drawn) chain → is_cumulene graph chain ≡ true
    → IsSite atoms (like (cumulene_site graph chain))
cumulene_shown graph atoms chain same below is =
    let parts = cumulene_parts graph chain is in
    let long = parts.long in
    let all = All-from_recursion (λ m. m < graph.drawn) chain below in
    like_by atoms (first_atom chain) (last_atom chain) (end_ligands graph chain (first_atom chain))
    (end_ligands graph chain (last_atom chain)) (is_odd (length chain - 1))
    (end_shown graph atoms (first_atom chain) chain same (all 0 0 (omega (arith, long)))
    (axis_end_parts graph chain (first_atom chain) parts.first).bonds)
    (end_shown graph atoms (last_atom chain) chain same (all (length chain - 1) 0 (omega (arith, long)))
    (axis_end_parts graph chain (last_atom chain) parts.last).bonds)

-- what a bond that is a biaryl axis has
pub record IsBiarylEnd (graph : Graph) (positions : List (List ℕ)) (unit : List ℕ) (atom : ℕ) : Type 0 where
  pub three : length (edges_at graph atom) ≡ 3
  pub bonds : has_end_bonds graph unit atom ≡ true
  pub two : length (outer_neighbours graph unit atom) ≡ 2

pub biaryl_end_parts : (graph : Graph) (positions : List (List ℕ)) (unit : List ℕ) (atom : ℕ)
    → is_biaryl_end graph positions unit atom ≡ true → IsBiarylEnd graph positions unit atom
biaryl_end_parts graph positions unit atom is =
    let p = and_parts _ (length (outer_neighbours graph unit atom) == 2) is in
    let q = and_parts _ (has_end_bonds graph unit atom) p.0 in
    let r = and_parts (is_delocalised positions atom) (length (edges_at graph atom) == 3) q.0 in
    record {
      three = eqb-true (length (edges_at graph atom)) 3 r.1;
      bonds = q.1;
      two = eqb-true (length (outer_neighbours graph unit atom)) 2 p.1;
    }

pub record AreBiarylEnds (graph : Graph) (positions : List (List ℕ)) (a b : ℕ) : Type 0 where
  pub within : b < graph.drawn
  pub first : IsBiarylEnd graph positions (a ∷ b ∷ []) a
  pub second : IsBiarylEnd graph positions (a ∷ b ∷ []) b

pub biaryl_parts : (graph : Graph) (positions : List (List ℕ)) (a : ℕ) (edge : Edge)
    → is_biaryl graph positions a edge ≡ true → AreBiarylEnds graph positions a (other_end a edge)
unfolding is_biaryl
biaryl_parts graph positions a edge is =
    let b = other_end a edge in
    let unit = a ∷ b ∷ [] in
    let p = and_parts _ (not (is_in_ring graph a b)) is in
    let q = and_parts _ (nat_le 3 (length (hindered_at graph unit a) + length (hindered_at graph unit b))) p.0 in
    let r = and_parts _ (is_biaryl_end graph positions unit b) q.0 in
    let s = and_parts _ (is_biaryl_end graph positions unit a) r.0 in
    let t = and_parts _ (nat_lt b graph.drawn) s.0 in
    record {
      within = ltb-true b graph.drawn t.1;
      first = biaryl_end_parts graph positions unit a s.1;
      second = biaryl_end_parts graph positions unit b r.1;
    }

pub biaryl_shown : (graph : Graph) (positions : List (List ℕ)) (atoms a : ℕ) (edge : Edge) → graph.drawn ≡ atoms
    → a < graph.drawn → is_biaryl graph positions a edge ≡ true
    → IsSite atoms (like (biaryl_site graph a (other_end a edge)))
biaryl_shown graph positions atoms a edge same within is =
    let b = other_end a edge in
    let unit = a ∷ b ∷ [] in
    let parts = biaryl_parts graph positions a edge is in (
      end_shown graph atoms a unit same within parts.first.bonds,
      end_shown graph atoms b unit same parts.within parts.second.bonds,
    )

pub at_most : {n : ℕ} → n ≡ 3 → n ≤ 3
at_most e = omega (arith, e)
