use Rattle.std.proofs.Common.{List, map, sym, ap, ◌∙◌, subst}
use Rattle.cip_mol.specs.declared.labels.outcome.Rule.TheVariants.{R4b}
use Rattle.cip_branches.specs.Twins.{twins_of}
use Rattle.cip_partition.specs.Keys.{AreKeyed}
use Rattle.cip_partition.specs.PlaceTree.{PlaceTree}
use Rattle.cip_digraph.specs.declared.decisions.branch_pair.BranchPair.{BranchPair}
use Rattle.std.specs.List.{list_all}
use Rattle.cip_digraph.specs.Asking.{is_decided}
use Rattle.cip_rules.specs.Rule4bWorkspace.{base_of, between}
use Rattle.cip_rules.specs.Taking.{TakesRule}
use Rattle.cip_rules.proofs.rule_4b.take_pairs.Goals as goal

pub read_all-requires : goal.read_all-requires
read_all-requires g c = c.requires.aside.few

pub take_again-requires-clause-aside : goal.take_again-requires-clause-aside
take_again-requires-clause-aside g c = c.requires.aside

pub take_again-requires-clause-keyed : goal.take_again-requires-clause-keyed
take_again-requires-clause-keyed g c = c.requires.keyed

pub read_all-requires-2 : goal.read_all-requires-2
read_all-requires-2 g c = c.requires.aside.few

pub take_open-requires-clause-aside : goal.take_open-requires-clause-aside
take_open-requires-clause-aside g c = c.take_again.ensures.aside

pub take_open-requires-clause-keyed : goal.take_open-requires-clause-keyed
take_open-requires-clause-keyed g c =
    subst (λ (k : PlaceTree). AreKeyed (g.K.Keyed.nodes c.args.keys.now) k) (sym c.take_again.ensures.place_tree) c.requires.keyed

pub returns-clause-place_tree : goal.returns-clause-place_tree
returns-clause-place_tree g c = c.take_open.ensures.place_tree ∙ c.take_again.ensures.place_tree

pub returns-clause-compared : goal.returns-clause-compared
returns-clause-compared g c =
    let from = c.args.branches.now in
    let keys = g.K.Keyed.key c.args.keys.now in
    let once = ap (λ (k : PlaceTree). k.room) c.take_again.ensures.place_tree in
    let twice = ap (λ (k : PlaceTree). k.room) c.take_open.ensures.place_tree ∙ once in
    let reads = c.read_all-2.ensures in
    record {
      higher = c.take_again.new.pairs;
      higher_now = c.take_again.new.twins;
      higher_taken = subst (λ (pairs : List BranchPair). TakesRule (twins_of c.args.twins.now.layers.place_tree.room from) keys R4b
          pairs c.take_again.new.twins c.take_again.new.pairs) c.read_all.ensures
          (subst (λ r. TakesRule (twins_of r from) keys R4b c.read_all.new.pairs c.take_again.new.twins
          c.take_again.new.pairs) once c.take_again.ensures.taken);
      lower = c.take_open.new.pairs;
      lower_now = c.take_open.new.twins;
      lower_decided = λ done. c.take_open.ensures.decided (ap (list_all is_decided) reads ∙ done) ∙ reads;
      lower_taken = λ left. subst (λ (pairs : List BranchPair). TakesRule (twins_of c.args.twins.now.layers.place_tree.room from)
          keys R4b pairs c.take_open.new.twins c.take_open.new.pairs) reads
          (subst (λ r. TakesRule (twins_of r from) keys R4b c.read_all-2.new.pairs c.take_open.new.twins
          c.take_open.new.pairs) twice (c.take_open.ensures.taken (ap (list_all is_decided) reads ∙ left)));
      named = c.name_all.ensures ∙ ap (λ n. map (between (base_of n)) c.take_open.new.pairs) c.len.ensures.count;
    }
