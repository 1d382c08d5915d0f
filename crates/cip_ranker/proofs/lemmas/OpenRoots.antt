-- Branches that were set aside are again as constitution left them.
use Rattle.std.proofs.Common.{◌≡◌, ◌≤◌, ℕ, false, List, [], length, sym, ap, ◌∙◌, subst}
use Rattle.std.specs.List.{list_all}
use Rattle.cip_arena.specs.Growth.{Growth, Holds}
use Rattle.cip_branches.specs.Deciding.{Branched, AreFollowed}
use Rattle.cip_branches.specs.Saving.{Checkpoint, restored, saved_of}
use Rattle.cip_partition.specs.PlaceTree.{PlaceTree}
use Rattle.cip_constitution.specs.Aside.{Fits}
use Rattle.cip_constitution.specs.FollowedOut.{AreConstituted}
use Rattle.cip_constitution.specs.Following.{Trying}
use Rattle.cip_constitution.specs.Pairs.{pairs_of}
use Rattle.cip_digraph.specs.Asking.{is_decided}
use Rattle.cip_rules.specs.Taking.{AreSame}
use Rattle.cip_digraph.specs.declared.decisions.branch_pair.BranchPair.{BranchPair}
use Rattle.cip_rules.proofs.lemmas.TakenSteps.{stands_back}
use Rattle.cip_ranker.specs.Keeping.{IsOpen, IsWholeAnyway, with_units}
use Rattle.cip_ranker.specs.Rooting.{HaveTurns}
use Rattle.cip_ranker.specs.declared.caches.cache_key.CacheKey.{CacheKey}
use Rattle.cip_ranker.specs.declared.whole_digraph.RankTables.{RankTables}

module _ (begin now : Branched) (saved : Checkpoint) (room : ℕ) (are : saved ≡ saved_of room begin)
    (followed : AreFollowed begin) (same : AreSame begin now) where
  fits_still : length begin.layers.ranked.numbers ≡ length begin.layers.place_tree.place_parents → Fits saved now
  fits_still count = record {
    rows = ap (λ (s : Checkpoint). length s.rows) are ∙ sym same.kept.places.len;
    numbers = ap (λ (s : Checkpoint). length s.numbers) are ∙ count ∙ sym (ap (λ (k : PlaceTree). length k.place_parents) same.kept.place_tree);
    unresolved = ap (λ (s : Checkpoint). length s.unresolved) are ∙ sym same.count;
  }

  back : restored saved now ≡ begin
  back = ap (λ (s : Checkpoint). restored s now) are ∙ stands_back begin now room followed same

-- the root of a digraph that is kept, with its branches set aside before the last rules
module _ (kept : CacheKey) (a : Growth) (holds : Holds kept.graph kept.positions a) (at : a.root ≡ kept.root)
    (fits : length a.nodes ≤ a.bound) (settled : IsWholeAnyway kept a) where
  pub opened : (begin : Branched) (noted : List BranchPair) (work : Trying) (tables : RankTables) (room : ℕ)
      → work.pairs ≡ pairs_of kept.ligands
      → tables.aside.ranks ≡ saved_of room begin
      → length begin.layers.ranked.numbers ≡ length begin.layers.place_tree.place_parents
      → AreSame begin work.branched
      → tables.aside.noted.items ≡ noted
      → length work.noted ≡ length noted
      → AreConstituted kept.rules kept.graph kept.positions a (pairs_of kept.ligands) begin noted
      → list_all is_decided noted ≡ false
      → HaveTurns (with_units kept []) a tables
      → IsOpen kept a work tables
  opened begin noted work tables room pairs ranks count same are len constituted undone parities =
      let stands = back begin work.branched tables.aside.ranks room ranks constituted.followed same in
      record {
        holds = holds;
        at = at;
        fits = fits;
        settled = settled;
        pairs = pairs;
        aside = fits_still begin work.branched tables.aside.ranks room ranks constituted.followed same count;
        len = ap (λ (requested : List BranchPair). length requested) are ∙ sym len;
        constituted = subst (λ (requested : List BranchPair). AreConstituted kept.rules kept.graph kept.positions a
            (pairs_of kept.ligands) (restored tables.aside.ranks work.branched) requested) (sym are)
            (subst (λ (b : Branched). AreConstituted kept.rules kept.graph kept.positions a (pairs_of kept.ligands) b
            noted) (sym stands) constituted);
        undone = ap (list_all is_decided) are ∙ undone;
        parities = parities;
      }
