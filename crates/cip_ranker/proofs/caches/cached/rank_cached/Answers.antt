use Rattle.std.proofs.Common.{◌∙◌, subst, ◌≡◌, false, List, length, sym, ap, refl}
use Rattle.cip_ranker.specs.Keeping.{FoundAs, StandsAnyway, kept_of, IsOpen}
use Rattle.cip_ranker.proofs.lemmas.Ready.{found_kept, told_ranked, open_ready}
use Rattle.std.specs.List.{list_all}
use Rattle.cip_branches.specs.Deciding.{Branched}
use Rattle.cip_branches.specs.Saving.{restored}
use Rattle.cip_constitution.specs.FollowedOut.{AreConstituted}
use Rattle.cip_constitution.specs.Following.{Trying}
use Rattle.cip_constitution.specs.declared.pairs.VertexPair.{VertexPair}
use Rattle.cip_label.specs.BranchComparison.{RankedAs}
use Rattle.cip_label.specs.declared.root_ranker.Ranking.TheVariants.{Known}
use Rattle.cip_digraph.specs.Asking.{is_decided}
use Rattle.cip_rules.specs.Taking.{AreSame}
use Rattle.cip_digraph.specs.declared.decisions.branch_pair.BranchPair.{BranchPair}
use Rattle.cip_ranker.specs.Rooting.{HasRoom}
use Rattle.cip_ranker.specs.Standing.{standing_of}
use Rattle.cip_ranker.specs.declared.checkpoint.RootCheckpoint.{RootCheckpoint}
use Rattle.cip_ranker.proofs.lemmas.OpenRoots.{opened}
use Rattle.cip_ranker.proofs.caches.cached.rank_cached.Goals as goal

pub returns-in-Ok-clause-ranking : goal.returns-in-Ok-clause-ranking
returns-in-Ok-clause-ranking c =
    let node_data = c.args.query.now in
    let workspace = c.args.workspace.now in
    let kept = kept_of node_data.setting.now node_data.root node_data.ligands.now in
    let noted = workspace.tables.aside.noted.items in
    let found = subst (FoundAs kept workspace.arena workspace.work workspace.tables) c.in-Final.is
    (found_kept workspace c.args.found kept c.requires.found c.requires.root c.requires.ready.kept) in
    told_ranked node_data.setting.now node_data.root node_data.ligands.now node_data.bound noted c.in-Final.ranking c.set_decisions.new.self
    node_data.proper
    (subst (λ bound. StandsAnyway kept bound noted c.in-Final.ranking) c.requires.ready.room.arena found)
    (c.in-Ok.ensures.natural ∙ c.as_slice.ensures.value)
    (c.in-Ok.ensures.turned ∙ c.as_slice.ensures.value)

pub rank_by_all_rules-requires-clause-rooted : goal.rank_by_all_rules-requires-clause-rooted
rank_by_all_rules-requires-clause-rooted c =
    let node_data = c.args.query.now in
    let workspace = c.args.workspace.now in
    let kept = kept_of node_data.setting.now node_data.root node_data.ligands.now in
    let stands : IsOpen kept workspace.arena workspace.work workspace.tables =
    subst (FoundAs kept workspace.arena workspace.work workspace.tables) c.in-Open.is
    (found_kept workspace c.args.found kept c.requires.found c.requires.root c.requires.ready.kept) in
    record {
      holds = stands.holds;
      at = stands.at;
      fit = c.requires.fit;
      fits = stands.fits;
    }

pub rank_by_all_rules-requires-clause-settled : goal.rank_by_all_rules-requires-clause-settled
rank_by_all_rules-requires-clause-settled c =
    let node_data = c.args.query.now in
    let workspace = c.args.workspace.now in
    let kept = kept_of node_data.setting.now node_data.root node_data.ligands.now in
    let stands : IsOpen kept workspace.arena workspace.work workspace.tables =
    subst (FoundAs kept workspace.arena workspace.work workspace.tables) c.in-Open.is
    (found_kept workspace c.args.found kept c.requires.found c.requires.root c.requires.ready.kept) in
    stands.settled.each c.args.query.now.setting.now.units c.args.query.now.proper.sites

pub rank_by_all_rules-requires-clause-constituted : goal.rank_by_all_rules-requires-clause-constituted
rank_by_all_rules-requires-clause-constituted c =
    let node_data = c.args.query.now in
    let workspace = c.args.workspace.now in
    let kept = kept_of node_data.setting.now node_data.root node_data.ligands.now in
    let stands : IsOpen kept workspace.arena workspace.work workspace.tables =
    subst (FoundAs kept workspace.arena workspace.work workspace.tables) c.in-Open.is
    (found_kept workspace c.args.found kept c.requires.found c.requires.root c.requires.ready.kept) in
    let setting = c.args.query.now.setting.now in
    let arena = c.args.workspace.now.arena in
    let work = c.args.workspace.now.work in
    let begin = restored c.args.workspace.now.tables.aside.ranks work.branched in
    subst (λ (w : Trying). AreConstituted setting.rules setting.graph setting.positions arena w.pairs w.branched
    w.noted) (sym c.restore.ensures)
    (subst (λ (noted : List BranchPair). AreConstituted setting.rules setting.graph setting.positions arena work.pairs begin
    noted) (sym c.as_slice-in-Open.ensures.value)
    (subst (λ (pairs : List VertexPair). AreConstituted setting.rules setting.graph setting.positions arena pairs begin
    c.args.workspace.now.tables.aside.noted.items) (sym stands.pairs) stands.constituted))

pub rank_by_all_rules-requires-clause-undone : goal.rank_by_all_rules-requires-clause-undone
rank_by_all_rules-requires-clause-undone c =
    let node_data = c.args.query.now in
    let workspace = c.args.workspace.now in
    let kept = kept_of node_data.setting.now node_data.root node_data.ligands.now in
    let stands : IsOpen kept workspace.arena workspace.work workspace.tables =
    subst (FoundAs kept workspace.arena workspace.work workspace.tables) c.in-Open.is
    (found_kept workspace c.args.found kept c.requires.found c.requires.root c.requires.ready.kept) in
    subst (λ (w : Trying). list_all is_decided w.noted ≡ false) (sym c.restore.ensures)
    (ap (list_all is_decided) c.as_slice-in-Open.ensures.value ∙ stands.undone)

pub rank_by_all_rules-requires-clause-pairs : goal.rank_by_all_rules-requires-clause-pairs
rank_by_all_rules-requires-clause-pairs c =
    let node_data = c.args.query.now in
    let workspace = c.args.workspace.now in
    let kept = kept_of node_data.setting.now node_data.root node_data.ligands.now in
    let stands : IsOpen kept workspace.arena workspace.work workspace.tables =
    subst (FoundAs kept workspace.arena workspace.work workspace.tables) c.in-Open.is
    (found_kept workspace c.args.found kept c.requires.found c.requires.root c.requires.ready.kept) in
    ap (λ (w : Trying). w.pairs) c.restore.ensures ∙ stands.pairs

pub rank_by_all_rules-requires-clause-room : goal.rank_by_all_rules-requires-clause-room
rank_by_all_rules-requires-clause-room c =
    let node_data = c.args.query.now in
    let workspace = c.args.workspace.now in
    let kept = kept_of node_data.setting.now node_data.root node_data.ligands.now in
    let stands : IsOpen kept workspace.arena workspace.work workspace.tables =
    subst (FoundAs kept workspace.arena workspace.work workspace.tables) c.in-Open.is
    (found_kept workspace c.args.found kept c.requires.found c.requires.root c.requires.ready.kept) in
    subst (λ bound. HasRoom bound c.args.workspace.now.tables) (sym c.requires.ready.room.arena) c.requires.ready.room.tables

pub restore-requires-clause-fits : goal.restore-requires-clause-fits
restore-requires-clause-fits c =
    let node_data = c.args.query.now in
    let workspace = c.args.workspace.now in
    let kept = kept_of node_data.setting.now node_data.root node_data.ligands.now in
    let stands : IsOpen kept workspace.arena workspace.work workspace.tables =
    subst (FoundAs kept workspace.arena workspace.work workspace.tables) c.in-Open.is
    (found_kept workspace c.args.found kept c.requires.found c.requires.root c.requires.ready.kept) in
    stands.aside

pub restore-requires-clause-len : goal.restore-requires-clause-len
restore-requires-clause-len c =
    let node_data = c.args.query.now in
    let workspace = c.args.workspace.now in
    let kept = kept_of node_data.setting.now node_data.root node_data.ligands.now in
    let stands : IsOpen kept workspace.arena workspace.work workspace.tables =
    subst (FoundAs kept workspace.arena workspace.work workspace.tables) c.in-Open.is
    (found_kept workspace c.args.found kept c.requires.found c.requires.root c.requires.ready.kept) in
    ap (λ (ns : List BranchPair). length ns) c.as_slice-in-Open.ensures.value ∙ stands.len

pub returns-in-Ok-rank_by_all_rules-clause-ready : goal.returns-in-Ok-rank_by_all_rules-clause-ready
returns-in-Ok-rank_by_all_rules-clause-ready c =
    let node_data = c.args.query.now in
    let workspace = c.args.workspace.now in
    let kept = kept_of node_data.setting.now node_data.root node_data.ligands.now in
    let stands : IsOpen kept workspace.arena workspace.work workspace.tables =
    subst (FoundAs kept workspace.arena workspace.work workspace.tables) c.in-Open.is
    (found_kept workspace c.args.found kept c.requires.found c.requires.root c.requires.ready.kept) in
    let arena = workspace.arena in
    let work = workspace.work in
    let tables = workspace.tables in
    let begin = restored tables.aside.ranks work.branched in
    let is = c.restore.ensures in
    let branched = ap (λ (w : Trying). w.branched) is in
    let noted = ap (λ (w : Trying). w.noted) is ∙ c.as_slice-in-Open.ensures.value in
    open_ready node_data.bound _ c.args.found kept (record {
      arena = c.requires.ready.room.arena;
      work = c.rank_by_all_rules.ensures.work ∙ ap (λ (w : Trying). w.bound) c.restore.ensures ∙ c.requires.ready.room.work;
      tables = subst (λ bound. HasRoom bound c.rank_by_all_rules.new.tables) c.requires.ready.room.arena
          c.rank_by_all_rules.ensures.room;
    }) refl c.requires.root c.in-Open.is
    (opened kept arena stands.holds stands.at stands.fits stands.settled begin
    tables.aside.noted.items c.rank_by_all_rules.new.work c.rank_by_all_rules.new.tables tables.aside.ranks.room
    (c.in-Ok-rank_by_all_rules.ensures.pairs ∙ ap (λ (w : Trying). w.pairs) is ∙ stands.pairs)
    (ap (λ (aside : RootCheckpoint). aside.ranks) c.rank_by_all_rules.ensures.aside) stands.aside.numbers
    (subst (λ (b : Branched). AreSame b c.rank_by_all_rules.new.work.branched) branched c.in-Ok-rank_by_all_rules.ensures.same)
    (ap (λ (aside : RootCheckpoint). aside.noted.items) c.rank_by_all_rules.ensures.aside)
    (c.in-Ok-rank_by_all_rules.ensures.len ∙ ap (λ (requested : List BranchPair). length requested) noted) stands.constituted stands.undone
    c.rank_by_all_rules.ensures.parities)

pub returns-in_default-rank_by_all_rules-clause-ready : goal.returns-in_default-rank_by_all_rules-clause-ready
returns-in_default-rank_by_all_rules-clause-ready c =
    let node_data = c.args.query.now in
    let workspace = c.args.workspace.now in
    let kept = kept_of node_data.setting.now node_data.root node_data.ligands.now in
    let stands : IsOpen kept workspace.arena workspace.work workspace.tables =
    subst (FoundAs kept workspace.arena workspace.work workspace.tables) c.in-Open.is
    (found_kept workspace c.args.found kept c.requires.found c.requires.root c.requires.ready.kept) in
    record {
      room = record {
        arena = c.requires.ready.room.arena;
        work = c.rank_by_all_rules.ensures.work ∙ ap (λ (w : Trying). w.bound) c.restore.ensures ∙ c.requires.ready.room.work;
        tables = subst (λ bound. HasRoom bound c.rank_by_all_rules.new.tables) c.requires.ready.room.arena
            c.rank_by_all_rules.ensures.room;
      };
      kept = tt;
    }

pub returns-in-Ok-rank_by_all_rules-clause-ranking : goal.returns-in-Ok-rank_by_all_rules-clause-ranking
returns-in-Ok-rank_by_all_rules-clause-ranking c =
    let node_data = c.args.query.now in
    let workspace = c.args.workspace.now in
    let kept = kept_of node_data.setting.now node_data.root node_data.ligands.now in
    let stands : IsOpen kept workspace.arena workspace.work workspace.tables =
    subst (FoundAs kept workspace.arena workspace.work workspace.tables) c.in-Open.is
    (found_kept workspace c.args.found kept c.requires.found c.requires.root c.requires.ready.kept) in
    subst (λ bound. RankedAs node_data.setting.now bound node_data.root node_data.ligands.now (standing_of c.rank_by_all_rules.new.branches)
    Known) c.requires.ready.room.arena c.in-Ok-rank_by_all_rules.ensures.ranked
