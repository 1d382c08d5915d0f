use Rattle.std.proofs.Common.{◌∙◌, ℕ, List, ap, sym, subst, length, ◌≤◌, arith}
use Rattle.std.proofs.lemmas.Grind.{common_steps}
use Rattle.std.specs.declared.option.Option.{Option}
use Rattle.cip_aux.specs.Views.{sight_of}
use Rattle.cip_digraph.specs.digraph.NodeList.{parents_of}
use Rattle.cip_aux_rank.specs.LigandBranches.{LigandBranches, asked_tops, AreTops}
use Rattle.cip_aux_rank.specs.Narrowing.{unresolved_tops}
use Rattle.cip_aux_rank.proofs.lemmas.Narrowed.{narrowed_open, narrowed_within}
use Rattle.cip_aux_rank.proofs.lemmas.AskedTops.{asked_tops_are}
use Rattle.cip_aux_rank.proofs.cached.cached_ranking.narrowed.Goals as goal

pub apply_constitutional_rules-requires-clause-within : goal.apply_constitutional_rules-requires-clause-within
apply_constitutional_rules-requires-clause-within g c =
    let sight = sight_of c.args.whole.now in
    let requested = c.args.requested.now in
    let ligand_branches = c.args.ligand_branches.now in
    narrowed_within sight requested.node ligand_branches.tops requested.ligands.now c.requires.tops ligand_branches.now c.args.pairs.now
    requested.ligands.now c.requires.left c.as_slice-earlier.result.now c.begin.new.self.tops c.renumber_pairs.new.pairs (c.as_slice-earlier.ensures.value ∙ c.in-Ok.ensures.items ∙ c.tops.ensures)
    (ap (λ (n : LigandBranches). n.tops) c.begin.ensures
    ∙ ap (λ (ls : List (Option ℕ)). asked_tops (parents_of sight.node_data) ls requested.node)
    (c.as_slice.ensures.value ∙ c.in-Ok-unresolved_tops.ensures ∙ ap (λ (tops : List ℕ). unresolved_tops tops c.args.pairs.now) (c.as_slice-earlier.ensures.value ∙ c.in-Ok.ensures.items ∙ c.tops.ensures)))
    c.renumber_pairs.ensures

pub returns-in-Ok-unresolved_tops-clause-left : goal.returns-in-Ok-unresolved_tops-clause-left
returns-in-Ok-unresolved_tops-clause-left g c =
    let sight = sight_of c.args.whole.now in
    let requested = c.args.requested.now in
    let ligand_branches = c.args.ligand_branches.now in
    narrowed_open sight requested.node ligand_branches.tops requested.ligands.now c.requires.tops ligand_branches.now c.args.pairs.now
    requested.ligands.now c.requires.left c.as_slice-earlier.result.now c.begin.new.self.tops c.renumber_pairs.new.pairs (c.as_slice-earlier.ensures.value ∙ c.in-Ok.ensures.items ∙ c.tops.ensures)
    (ap (λ (n : LigandBranches). n.tops) c.begin.ensures
    ∙ ap (λ (ls : List (Option ℕ)). asked_tops (parents_of sight.node_data) ls requested.node)
    (c.as_slice.ensures.value ∙ c.in-Ok-unresolved_tops.ensures ∙ ap (λ (tops : List ℕ). unresolved_tops tops c.args.pairs.now) (c.as_slice-earlier.ensures.value ∙ c.in-Ok.ensures.items ∙ c.tops.ensures)))
    c.renumber_pairs.ensures c.apply_constitutional_rules.new.self.tops c.apply_constitutional_rules.new.self.now c.apply_constitutional_rules.new.requested
    c.apply_constitutional_rules.ensures.tops c.apply_constitutional_rules.ensures.constituted

pub returns-in-Ok-unresolved_tops-clause-bound : goal.returns-in-Ok-unresolved_tops-clause-bound
returns-in-Ok-unresolved_tops-clause-bound g c = c.apply_constitutional_rules.ensures.bound ∙ ap (λ (ligand_branches : LigandBranches). ligand_branches.bound) c.begin.ensures

pub apply_constitutional_rules-requires-clause-room : goal.apply_constitutional_rules-requires-clause-room
apply_constitutional_rules-requires-clause-room g c =
    subst (λ (ligand_branches : LigandBranches). length c.args.whole.now.node_data ≤ ligand_branches.bound) (sym c.begin.ensures) c.requires.room

pub apply_constitutional_rules-requires-clause-tops : goal.apply_constitutional_rules-requires-clause-tops
apply_constitutional_rules-requires-clause-tops g c =
    subst (λ (ligand_branches : LigandBranches). AreTops (parents_of c.args.whole.now.node_data) c.args.requested.now.node ligand_branches.tops) (sym
    c.begin.ensures) (asked_tops_are (parents_of c.args.whole.now.node_data) c.as_slice.result.now c.args.requested.now.node)

pub begin-requires-clause-room : goal.begin-requires-clause-room
begin-requires-clause-room g c = c.requires.room

pub apply_constitutional_rules-requires-clause-real : goal.apply_constitutional_rules-requires-clause-real
apply_constitutional_rules-requires-clause-real g c = c.requires.real

pub begin-requires-clause-node : goal.begin-requires-clause-node
begin-requires-clause-node g c = c.requires.node

pub returns-in-Ok-unresolved_tops-clause-tops : goal.returns-in-Ok-unresolved_tops-clause-tops
returns-in-Ok-unresolved_tops-clause-tops g c =
    let parents = parents_of c.args.whole.now.node_data in
    c.apply_constitutional_rules.ensures.tops ∙ ap (λ (ligand_branches : LigandBranches). ligand_branches.tops) c.begin.ensures
    ∙ ap (λ (tops : List (Option ℕ)). asked_tops parents tops c.args.requested.now.node) c.as_slice.ensures.value

pub returns-else-has_few_unresolved-clause-tops : goal.returns-else-has_few_unresolved-clause-tops
returns-else-has_few_unresolved-clause-tops g c = grind (arith, common_steps)

pub returns-else-has_few_unresolved-clause-left : goal.returns-else-has_few_unresolved-clause-left
returns-else-has_few_unresolved-clause-left g c = grind (arith, common_steps)
