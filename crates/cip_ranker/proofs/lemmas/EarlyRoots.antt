-- Roots whose ligands two spheres distinguish are settled by them, and ranked by what was noted.
use Rattle.std.proofs.Common.{◌≡◌, ◌≢◌, ◌≤◌, ◌+◌, ◌*◌, ℕ, zero, suc, Bool, true, false, List, [], ◌∷◌, flat_map, length, nat_le, refl, sym, ap, ◌∙◌, subst, arith, inl, inr}
use Rattle.std.proofs.lemmas.Bool.{and_parts, cases_order, or_left}
use Rattle.std.proofs.lemmas.List.{append-nil}
use Rattle.std.proofs.lemmas.Bool.Decides.{nat_tests}
use Rattle.cip_mol.specs.declared.site.Ligand.{Ligand}
use Rattle.cip_digraph.specs.digraph.Digraph.{Node, digraph, real_node}
use Rattle.cip_digraph.specs.digraph.View.{height_below, view_children}
use Rattle.cip_digraph.specs.graph.SoundGraphs.{IsSound}
use Rattle.cip_digraph.specs.outcome.Deciding.{is_settled, least_from}
use Rattle.cip_digraph.specs.outcome.Outcomes.{end_root, is_in_unit, settled_in}
use Rattle.cip_digraph.specs.rules.EarlyOrder.{differ_within, seen_at}
use Rattle.cip_digraph.specs.units.Ends.{end_at}
use Rattle.cip_digraph.proofs.lemmas.numbered.Cut.{size_le}
use Rattle.cip_digraph.proofs.lemmas.orders.LeastSphere.{here_or, if_any}
use Rattle.cip_digraph.proofs.lemmas.numbered.PlaceTrees.{count_is}
use Rattle.cip_label.specs.Fitting.{IsFit}
use Rattle.cip_label.specs.Settings.{LabelContext, cost_in}
use Rattle.cip_label.specs.BranchComparison.{RankedAs}
use Rattle.cip_label.specs.declared.root_ranker.Ranking.TheVariants.{Known}
use Rattle.cip_constitution.specs.Pairs.{pairs_of}
use Rattle.cip_ranker.specs.ToldEarly.{found_early, is_told_early, noted_early}
use Rattle.cip_ranker.proofs.lemmas.NeighbourNodes.{neighbour_further}
use Rattle.cip_ranker.specs.Standing.{Standing, standing_of}
use Rattle.cip_ranker.proofs.lemmas.EarlyStanding.{stands_first}
use Rattle.cip_ranker.proofs.lemmas.PairedStanding.{named_already}
use Rattle.cip_ranker.proofs.lemmas.RootLow.{beside, has_child}

pick : (b : Bool) (number later most : ℕ) → number ≤ most → later ≤ most → here_or number later b ≤ most
pick true number later most here further = here
pick false number later most here further = further

-- the least number that passes is not above one that does
least_passes : (test : ℕ → Bool) (number count passes : ℕ) → number ≤ passes → test passes ≡ true
    → least_from test number count ≤ passes
least_passes test number zero passes low e = low
least_passes test number (suc more) passes low e =
    let later = least_from test (number + 1) more in
    elim (cases_order number passes) [
      | inl same ↦ subst (λ b. here_or number later b ≤ passes) (sym (ap test same ∙ e)) low
      | inr (inl below) ↦
          pick (test number) number later passes low (least_passes test (number + 1) more passes (omega arith) e)
      | inr (inr above) ↦ absurd (omega arith)
    ]

nat_le_true : (m n : ℕ) → nat_le m n ≡ true → m ≤ n
nat_le_true m n e = grind (arith, nat_tests)

module _ (setting : LabelContext) (root : ℕ) (ligands : List Ligand) (sound : IsSound setting.graph)
    (fit : IsFit setting.graph root ligands) where
  abbrev below : Node → List Node
  below = view_children setting.graph setting.positions (root ∷ [])

  abbrev height : ℕ
  height = (seen_at setting.rules setting.graph setting.positions setting.units root).height

  some : below (real_node root []) ≢ []
  some = has_child setting.graph root ligands sound fit setting.positions setting.rules setting.units

  -- there is a second sphere to look for
  high : 1 ≤ height
  high =
      let more = 2 * length setting.graph.vertices + 1 in
      let nodes = flat_map below (real_node root [] ∷ []) in
      let sum : 2 * length setting.graph.vertices + 2 ≡ suc more = omega arith in
      subst (λ count. 1 ≤ height_below below count (real_node root [] ∷ [])) (sym sum)
      (let height = if_any nodes (height_below below more nodes + 1)
      (λ none. some (sym (append-nil (below (real_node root []))) ∙ none)) in
      omega (arith, height))

  module _ (differ : differ_within setting.rules setting.graph setting.positions setting.units (end_at root ligands) 2
      ≡ true) where
    abbrev settles : ℕ → Bool
    settles =
        is_settled (seen_at setting.rules setting.graph setting.positions setting.units root) (real_node root [])
        (end_root setting.rules setting.graph setting.positions setting.units (end_at root ligands)).ligands
        (is_in_unit setting.rules setting.graph setting.positions setting.units)

    settled_soon : settled_in setting.rules setting.graph setting.positions setting.units (end_at root ligands) ≤ 2
    settled_soon =
        let least = least_passes settles 1 height 2 (omega arith) (or_left _ _ (or_left _ _ differ)) in
        let is = if_any (below (real_node root [])) (least_from settles 1 height) some in
        omega (arith, least, is)

    cost_few : cost_in setting (end_at root ligands) ≤ length (digraph setting.graph setting.positions root 2)
    cost_few =
        let graph = setting.graph in
        let positions = setting.positions in
        let settled = settled_in setting.rules graph positions setting.units (end_at root ligands) in
        let le = size_le graph positions root settled 2 settled_soon in
        let here = count_is graph positions root settled in
        let most = count_is graph positions root 2 in
        omega (arith, le, here, most)

  pub told_ranked : (bound : ℕ) → is_told_early setting root ligands bound ≡ true → (standing : Standing)
      → standing.natural ≡ noted_early setting root ligands
      → standing.turned ≡ noted_early setting root ligands
      → RankedAs setting bound root ligands (standing_of standing) Known
  told_ranked bound node_data standing natural turned =
      let graph = setting.graph in
      let positions = setting.positions in
      let parts = and_parts (nat_le (length (digraph graph positions root 2)) bound)
      (differ_within setting.rules graph positions setting.units (end_at root ligands) 2) node_data in
      let few = nat_le_true (length (digraph graph positions root 2)) bound parts.0 in
      let cost = cost_few parts.1 in
      let named = sym (named_already (found_early setting root) (pairs_of ligands)) in (
        omega (arith, few, cost),
        record {
          each = stands_first setting.rules graph positions setting.units root 2 (omega arith) sound ligands
              (beside graph root ligands sound fit) (let further = high in omega (arith, further)) parts.1
              (λ vertex. real_node vertex (root ∷ [])) (λ vertex. vertex)
              (neighbour_further graph positions root sound) (λ vertex by. refl)
              (noted_early setting root ligands) refl standing (natural ∙ named) (turned ∙ named);
        },
      )
