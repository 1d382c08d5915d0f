-- Roots whose branches are known within a bound.
use Rattle.std.proofs.Common.{◌≡◌, ◌<◌, ◌≤◌, ℕ, Bool, true, false, List, length, map, slice_get, Some, refl, ap, ◌∙◌, subst, arith}
use Rattle.std.specs.Prelude.{OnOk}
use Rattle.std.specs.List.{list_all}
use Rattle.std.specs.declared.option.Option.{Option}
use Rattle.std.specs.declared.result.Result.{Result}
use Rattle.std.specs.declared.result.Result.TheVariants.{Ok, Err}
use Rattle.cip_arena.specs.Growth.{Growth, Holds}
use Rattle.cip_constitution.proofs.lemmas.settled.DecidingSphere.{settled_low}
use Rattle.cip_constitution.specs.FollowedOut.{AreConstituted, node_of}
use Rattle.cip_constitution.specs.Following.{Trying}
use Rattle.cip_constitution.specs.Noting.{asked_by, Notes}
use Rattle.cip_constitution.specs.Pairs.{pairs_of}
use Rattle.cip_constitution.specs.Settling.{SettledAs}
use Rattle.cip_constitution.specs.declared.pairs.VertexPair.{VertexPair}
use Rattle.cip_constitution.specs.declared.steps.settling.Settled.TheVariants.{Ordered, Whole}
use Rattle.cip_digraph.specs.graph.Graph.{neighbours}
use Rattle.cip_digraph.specs.graph.SoundGraphs.{IsSound}
use Rattle.cip_digraph.specs.rings.Alternating.{is_in}
use Rattle.cip_digraph.specs.rules.Decisions.{order}
use Rattle.cip_digraph.specs.rules.EarlyOrder.{seen_at}
use Rattle.cip_digraph.specs.units.Ends.{end_at}
use Rattle.cip_label.specs.Fitting.{IsFit}
use Rattle.cip_label.specs.Settings as records
use Rattle.cip_label.specs.BranchComparison.{RankedAs}
use Rattle.cip_label.specs.declared.root_ranker.Ranking.TheVariants.{Known}
use Rattle.cip_digraph.specs.declared.decisions.branch_pair.BranchPair.{BranchPair}
use Rattle.cip_digraph.specs.Asking.{is_decided, with_found}
use Rattle.cip_mol.specs.declared.labels.descriptor.Descriptor.{Descriptor}
use Rattle.cip_mol.specs.declared.site.Ligand.{Ligand}
use Rattle.cip_mol.specs.declared.site.Ligand.TheVariants.{Vertex}
use Rattle.cip_ranker.specs.Desks.{settled_by}
use Rattle.cip_ranker.specs.Rooting.{HoldDescriptors}
use Rattle.cip_ranker.specs.Standing.{Standing, StandsOrdered, asked_in, by_vertices, standing_of}
use Rattle.cip_ranker.proofs.lemmas.EarlyStanding.{stands_early}
use Rattle.cip_ranker.proofs.lemmas.RootLow.{beside, root_low, settled_further}
use Rattle.cip_ranker.proofs.lemmas.SettledRoots.{cost_within}
use Rattle.cip_ranker.proofs.lemmas.WholeStanding.{found_early, found_late, stands_whole}

pub on_ok : {T E : Type 0} {A D : Type 0} (result : Result T E) → OnOk result A → (A → D) → OnOk result D
on_ok (Ok value) a all = all a
on_ok (Err error) a all = tt

module _ (setting : records.LabelContext) (ligands : List Ligand) (a : Growth)
    (h : Holds setting.graph setting.positions a) (sound : IsSound setting.graph)
    (fit : IsFit setting.graph a.root ligands) (fits : length a.nodes ≤ a.bound) where
  pub ordered_ranked : SettledAs (settled_by setting ligands) a Ordered → (pairs : List VertexPair) (noted : List BranchPair)
      → pairs ≡ pairs_of ligands → Notes setting.graph setting.positions a.root a.bound a.sphere pairs noted
      → (standing : Standing) → standing.natural ≡ by_vertices pairs noted → standing.turned ≡ by_vertices pairs noted
      → RankedAs setting a.bound a.root ligands (standing_of standing) Known
  ordered_ranked settled pairs noted are notes standing natural turned = (
    cost_within setting ligands a.root a h refl settled.1 fits,
    record {
      each = stands_early setting.rules setting.graph setting.positions setting.units a h settled.0 sound ligands
          (beside setting.graph a.root ligands sound fit)
          (let low = settled_low setting.rules setting.graph setting.positions setting.units (end_at a.root ligands)
          sound (root_low setting.graph a.root ligands sound fit) in
          let is = settled.1 in omega (arith, low, is))
          settled.2 noted
          (subst (λ (ps : List VertexPair). Notes setting.graph setting.positions a.root a.bound a.sphere ps noted) are notes)
          standing (natural ∙ ap (λ (ps : List VertexPair). by_vertices ps noted) are)
          (turned ∙ ap (λ (ps : List VertexPair). by_vertices ps noted) are);
    },
  )

  pub some_spheres : SettledAs (settled_by setting ligands) a Whole → 0 < a.sphere
  some_spheres settled =
      let further = settled_further setting.graph a.root ligands sound fit setting.positions setting.rules
      setting.units in
      let is = settled.0 in
      omega (arith, further, is)

  has_reversed : (natural turned : List BranchPair) (ranked : Bool → List BranchPair) → natural ≡ ranked true → turned ≡ ranked false
      → (r_first : Bool) → asked_in (record { natural = natural; turned = turned }) r_first ≡ ranked r_first
  has_reversed natural turned ranked n t true = n
  has_reversed natural turned ranked n t false = t

  -- the branches of a root whose digraph is whole, as constitution leaves them
  module _ (settled : SettledAs (settled_by setting ligands) a Whole) (trying : Trying)
      (pairs_are : trying.pairs ≡ pairs_of ligands)
      (constituted : AreConstituted setting.rules setting.graph setting.positions a trying.pairs trying.branched
      trying.noted) where
    are : AreConstituted setting.rules setting.graph setting.positions a (pairs_of ligands) trying.branched trying.noted
    are = subst (λ (pairs : List VertexPair). AreConstituted setting.rules setting.graph setting.positions a pairs
        trying.branched trying.noted) pairs_are constituted

    by : (i vertex : ℕ) → slice_get ligands i ≡ Some (Vertex vertex)
        → is_in vertex (neighbours setting.graph a.root) ≡ true
    by = beside setting.graph a.root ligands sound fit

    -- where it decides all pairs
    pub early_ranked : list_all is_decided trying.noted ≡ true → (standing : Standing)
        → standing.natural ≡ by_vertices trying.pairs trying.noted
        → standing.turned ≡ by_vertices trying.pairs trying.noted
        → RankedAs setting a.bound a.root ligands (standing_of standing) Known
    early_ranked done standing natural turned = (
      cost_within setting ligands a.root a h refl settled.0 fits,
      record {
        each = stands_whole setting.rules setting.graph setting.positions setting.units a sound ligands by trying are
            standing (λ r_first. has_reversed standing.natural standing.turned
            (λ r_first. by_vertices trying.pairs trying.noted) natural turned r_first
            ∙ (λ k. by_vertices (pairs_are k) (found_early setting.rules setting.graph setting.positions setting.units a
            sound ligands by trying are done r_first k)));
      },
    )

    -- where descriptors were asked for
    pub late_ranked : list_all is_decided trying.noted ≡ false → (descriptors : List (Option Descriptor))
        → HoldDescriptors setting a trying.branched descriptors → (standing : Standing) → StandsOrdered trying descriptors standing
        → RankedAs setting a.bound a.root ligands (standing_of standing) Known
    late_ranked undone descriptors have standing stands =
        let found = found_late setting.rules setting.graph setting.positions setting.units a sound ligands by trying are
        undone descriptors have.each stands.first stands.second stands.ordered in
        let seen = seen_at setting.rules setting.graph setting.positions setting.units a.root in
        let node = node_of setting.rules setting.graph setting.positions a trying.branched in (
          cost_within setting ligands a.root a h refl settled.0 fits,
          record {
            each = stands_whole setting.rules setting.graph setting.positions setting.units a sound ligands by trying
                are standing (has_reversed standing.natural standing.turned
                (λ r_first. by_vertices (pairs_of ligands)
                (map (with_found (λ m n. order seen r_first (node m) (node n)))
                (map (asked_by are.branch) (pairs_of ligands))))
                (stands.natural ∙ (λ k. by_vertices (pairs_are k) (found.0 k)))
                (stands.turned ∙ (λ k. by_vertices (pairs_are k) (found.1 k))));
          },
        )
