use Rattle.std.proofs.Common.{◌≤◌, ◌∙◌, ℕ, List, All, length, sym, ap, subst}
use Rattle.std.proofs.lemmas.List.Elements.{All-from_recursion}
use Rattle.cip_aux.specs.DescriptorsInside.{AreSeenTurns}
use Rattle.cip_aux.specs.Views.{IsReal, DigraphView}
use Rattle.cip_digraph.specs.Asking.{AreWithin}
use Rattle.cip_digraph.specs.declared.decisions.branch_pair.BranchPair.{BranchPair}
use Rattle.cip_digraph.specs.digraph.NodeList.{parents_of}
use Rattle.cip_aux_rank.specs.Asking.{asked_pairs}
use Rattle.cip_aux_rank.specs.LigandBranches.{AreConstituted, AreTops}
use Rattle.cip_aux_rank.specs.RankingCache.{AreOpen}
use Rattle.cip_aux_rank.proofs.lemmas.AskedSides.{pairs_within}
use Rattle.cip_aux_rank.proofs.lemmas.AskedTops.{asked_tops_are}
use Rattle.cip_aux_rank.proofs.lemmas.Narrowed.{constituted_left}
use Rattle.cip_aux_rank.proofs.lemmas.SeenTurns.{decided_seen, lone_seen}
use Rattle.cip_aux_rank.proofs.cached.cached_ranking.look_at.Goals as goal

pub returns-then-is_empty-clause-parities : goal.returns-then-is_empty-clause-parities
returns-then-is_empty-clause-parities g c =
    let inner = c.args.inner.now in
    let requested = c.args.requested.now in
    subst (AreSeenTurns inner requested.node requested.ligands.now) (sym c.of.ensures)
    (lone_seen inner requested.node requested.ligands.now c.requires.next c.args.ligand_branches.now.tops c.requires.tops c.args.pairs.now
    (ap (λ (ns : List ℕ). length ns) (c.is_empty.ensures.none c.if-is_empty.true)) c.requires.pairs)

pub apply_constitutional_rules-requires-clause-within : goal.apply_constitutional_rules-requires-clause-within
apply_constitutional_rules-requires-clause-within g c =
    let tops = c.args.ligand_branches.now.tops in
    let ligands = c.args.requested.now.ligands.now in
    subst (All (AreWithin (length tops))) (sym c.requires.pairs)
    (All-from_recursion (AreWithin (length tops)) (asked_pairs tops ligands)
    (pairs_within tops (c.is_empty.ensures.some c.if-is_empty.false) ligands))

pub apply_constitutional_rules-requires-clause-room : goal.apply_constitutional_rules-requires-clause-room
apply_constitutional_rules-requires-clause-room g c =
    subst (λ (s : DigraphView). length s.node_data ≤ c.args.ligand_branches.now.bound) (sym c.whole.ensures) c.requires.open.room

pub apply_constitutional_rules-requires-clause-real : goal.apply_constitutional_rules-requires-clause-real
apply_constitutional_rules-requires-clause-real g c =
    subst (λ (s : DigraphView). IsReal s.nodes c.args.requested.now.node) (sym c.whole.ensures) c.requires.ready.real

pub apply_constitutional_rules-requires-clause-tops : goal.apply_constitutional_rules-requires-clause-tops
apply_constitutional_rules-requires-clause-tops g c =
    let requested = c.args.requested.now in
    let parents = parents_of c.args.inner.now.sight.node_data in
    subst (λ (s : DigraphView). AreTops (parents_of s.node_data) requested.node c.args.ligand_branches.now.tops) (sym c.whole.ensures)
    (subst (AreTops parents requested.node) (sym c.requires.tops)
    (asked_tops_are parents requested.ligands.now requested.node))

pub returns-then-apply_constitutional_rules-clause-parities : goal.returns-then-apply_constitutional_rules-clause-parities
returns-then-apply_constitutional_rules-clause-parities g c =
    let inner = c.args.inner.now in
    let requested = c.args.requested.now in
    let ligands = requested.ligands.now in
    let tops = c.args.ligand_branches.now.tops in
    let ligand_branches = c.apply_constitutional_rules.new.self in
    let pairs = c.apply_constitutional_rules.new.requested in
    subst (AreSeenTurns inner requested.node ligands) (sym c.of-then-apply_constitutional_rules.ensures)
    (decided_seen inner requested.node ligands c.requires.next tops c.requires.tops ligand_branches.now pairs
    (c.is_empty.ensures.some c.if-is_empty.false)
    (subst (λ (ns : List ℕ). AreConstituted inner.sight requested.node ns ligand_branches.now (asked_pairs tops ligands) pairs)
    c.apply_constitutional_rules.ensures.tops
    (subst (λ (begin : List BranchPair). AreConstituted inner.sight requested.node ligand_branches.tops ligand_branches.now begin pairs)
    c.requires.pairs
    (subst (λ (sight : DigraphView). AreConstituted sight requested.node ligand_branches.tops ligand_branches.now c.args.pairs.now pairs)
    c.whole.ensures c.apply_constitutional_rules.ensures.constituted)))
    (sym c.apply_constitutional_rules.ensures.all ∙ c.if-apply_constitutional_rules.true))

pub returns-then-apply_constitutional_rules-clause-open : goal.returns-then-apply_constitutional_rules-clause-open
returns-then-apply_constitutional_rules-clause-open g c = c.requires.open

pub look_further-requires-clause-ready : goal.look_further-requires-clause-ready
look_further-requires-clause-ready g c = c.requires.ready

pub look_further-requires-clause-tops : goal.look_further-requires-clause-tops
look_further-requires-clause-tops g c = c.apply_constitutional_rules.ensures.tops ∙ c.requires.tops

pub look_further-requires-clause-left : goal.look_further-requires-clause-left
look_further-requires-clause-left g c =
    let requested = c.args.requested.now in
    let ligand_branches = c.apply_constitutional_rules.new.self in
    let pairs = c.apply_constitutional_rules.new.requested in
    constituted_left c.args.inner.now.sight requested.node requested.ligands.now c.requires.next c.args.ligand_branches.now.tops ligand_branches.tops
    c.requires.tops c.apply_constitutional_rules.ensures.tops (c.is_empty.ensures.some c.if-is_empty.false) ligand_branches.now c.args.pairs.now
    pairs c.requires.pairs
    (subst (λ (s : DigraphView). AreConstituted s requested.node ligand_branches.tops ligand_branches.now c.args.pairs.now pairs) c.whole.ensures
    c.apply_constitutional_rules.ensures.constituted) (sym c.apply_constitutional_rules.ensures.all ∙ c.if-apply_constitutional_rules.false)

pub look_further-requires-clause-open : goal.look_further-requires-clause-open
look_further-requires-clause-open g c =
    subst (λ n. AreOpen n c.args.inner.now.sight c.args.kept.now) (sym c.apply_constitutional_rules.ensures.bound) c.requires.open

pub returns-else-apply_constitutional_rules-clause-parities : goal.returns-else-apply_constitutional_rules-clause-parities
returns-else-apply_constitutional_rules-clause-parities g c = c.look_further.ensures.parities

pub returns-else-apply_constitutional_rules-clause-open : goal.returns-else-apply_constitutional_rules-clause-open
returns-else-apply_constitutional_rules-clause-open g c =
    subst (λ n. AreOpen n c.args.inner.now.sight c.look_further.new.kept) c.apply_constitutional_rules.ensures.bound
    c.look_further.ensures.open

pub returns-else-apply_constitutional_rules-clause-ligand_branches : goal.returns-else-apply_constitutional_rules-clause-ligand_branches
returns-else-apply_constitutional_rules-clause-ligand_branches g c = c.look_further.ensures.ligand_branches ∙ c.apply_constitutional_rules.ensures.bound
