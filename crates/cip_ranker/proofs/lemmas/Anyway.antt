-- Roots whose ligands are ranked the same whatever the senses of units are.
use Rattle.std.proofs.Common.{◌≡◌, ℕ, true, List, refl, sym, subst, ◌∙◌}
use Rattle.std.specs.List.{list_all}
use Rattle.cip_arena.specs.Growth.{Growth}
use Rattle.cip_constitution.specs.FollowedOut.{AreConstituted}
use Rattle.cip_constitution.specs.Following.{Trying}
use Rattle.cip_constitution.specs.Noting.{Notes}
use Rattle.cip_constitution.specs.Pairs.{pairs_of}
use Rattle.cip_constitution.specs.Settling.{SettledAs}
use Rattle.cip_constitution.specs.declared.pairs.VertexPair.{VertexPair}
use Rattle.cip_constitution.specs.declared.steps.settling.Settled.{Settled}
use Rattle.cip_constitution.specs.declared.steps.settling.Settled.TheVariants as ways
use Rattle.cip_label.specs.Fitting.{IsFit}
use Rattle.cip_label.specs.Settings.{IsProper, LabelContext, StandAtSites}
use Rattle.cip_label.specs.BranchComparison.{RankedAs}
use Rattle.cip_label.specs.declared.root_ranker.Ranking.TheVariants.{Known, Tied, Over}
use Rattle.cip_digraph.specs.Asking.{is_decided}
use Rattle.cip_digraph.specs.declared.decisions.branch_pair.BranchPair.{BranchPair}
use Rattle.cip_mol.specs.declared.site.Ligand.{Ligand}
use Rattle.cip_mol.specs.declared.site.Unit as units
use Rattle.cip_ranker.specs.Desks.{settled_by}
use Rattle.cip_ranker.specs.Keeping.{IsWholeAnyway, StandsAnyway, kept_of, with_units}
use Rattle.cip_ranker.specs.Rooting.{IsRooted}
use Rattle.cip_ranker.specs.Standing.{both_as, by_vertices, standing_of}
use Rattle.cip_ranker.proofs.lemmas.KnownRoots.{early_ranked, ordered_ranked}
use Rattle.cip_ranker.proofs.lemmas.SameSites.{settled_alike}
use Rattle.cip_ranker.proofs.lemmas.SettledRoots.{over_ranked, tied_ranked}

module _ (setting : LabelContext) (root : ℕ) (ligands : List Ligand) (a : Growth)
    (rooted : IsRooted setting root ligands a) (proper : IsProper setting) where
  settled_anyway : (settled : Settled) → SettledAs (settled_by setting ligands) a settled
      → (all : List units.Unit) → StandAtSites setting.graph setting.positions all
      → SettledAs (settled_by (with_units (kept_of setting root ligands) all) ligands) a settled
  settled_anyway settled is all at =
      settled_alike setting.rules setting.graph setting.positions setting.units all (at ∙ sym proper.sites) ligands a
      settled is

  pub whole_anyway : SettledAs (settled_by setting ligands) a ways.Whole
      → IsWholeAnyway (kept_of setting root ligands) a
  whole_anyway settled = record { each = settled_anyway ways.Whole settled }

  pub over_anyway : (noted : List BranchPair) → SettledAs (settled_by setting ligands) a ways.Over
      → StandsAnyway (kept_of setting root ligands) a.bound noted Over
  over_anyway noted settled = record {
    each = λ all at. over_ranked (with_units (kept_of setting root ligands) all) ligands root a rooted.holds rooted.at
        (standing_of (both_as noted)) (settled_anyway ways.Over settled all at);
  }

  pub tied_anyway : (noted : List BranchPair) → SettledAs (settled_by setting ligands) a ways.Tied
      → StandsAnyway (kept_of setting root ligands) a.bound noted Tied
  tied_anyway noted settled = record {
    each = λ all at. tied_ranked (with_units (kept_of setting root ligands) all) ligands root a rooted.holds rooted.at
        (standing_of (both_as noted)) proper.sound rooted.fit (settled_anyway ways.Tied settled all at) rooted.fits;
  }

  fit : IsFit setting.graph a.root ligands
  fit = subst (λ (at : ℕ). IsFit setting.graph at ligands) (sym rooted.at) rooted.fit

  pub ordered_anyway : SettledAs (settled_by setting ligands) a ways.Ordered → (pairs : List VertexPair) (noted : List BranchPair)
      → pairs ≡ pairs_of ligands → Notes setting.graph setting.positions a.root a.bound a.sphere pairs noted
      → StandsAnyway (kept_of setting root ligands) a.bound (by_vertices pairs noted) Known
  ordered_anyway settled pairs noted are notes = record {
    each = λ all at. subst (λ (at : ℕ). RankedAs (with_units (kept_of setting root ligands) all) a.bound at ligands
        (standing_of (both_as (by_vertices pairs noted))) Known) rooted.at
        (ordered_ranked (with_units (kept_of setting root ligands) all) ligands a rooted.holds proper.sound fit
        rooted.fits (settled_anyway ways.Ordered settled all at) pairs noted are notes
        (both_as (by_vertices pairs noted)) refl refl);
  }

  pub early_anyway : SettledAs (settled_by setting ligands) a ways.Whole → (trying : Trying)
      → trying.pairs ≡ pairs_of ligands
      → AreConstituted setting.rules setting.graph setting.positions a trying.pairs trying.branched trying.noted
      → list_all is_decided trying.noted ≡ true
      → StandsAnyway (kept_of setting root ligands) a.bound (by_vertices trying.pairs trying.noted) Known
  early_anyway settled trying are constituted done = record {
    each = λ all at. subst (λ (at : ℕ). RankedAs (with_units (kept_of setting root ligands) all) a.bound at ligands
        (standing_of (both_as (by_vertices trying.pairs trying.noted))) Known) rooted.at
        (early_ranked (with_units (kept_of setting root ligands) all) ligands a rooted.holds proper.sound fit
        rooted.fits (settled_anyway ways.Whole settled all at) trying are constituted done
        (both_as (by_vertices trying.pairs trying.noted)) refl refl);
  }
