use Rattle.std.proofs.Common.{sym, subst, length}
use Rattle.cip_mol.specs.declared.labels.outcome.Rule.TheVariants.{R1b, R2}
use Rattle.cip_partition.specs.Keys.{AreKeyed}
use Rattle.cip_constitution.proofs.rules.constitutional_rules.apply_both.Goals as goal

pub returns-clause-taken : goal.returns-clause-taken
returns-clause-taken c = record {
  mid = c.take_whole.new.branches;
  distances = c.take_whole.ensures.whole R1b;
  masses = c.take_whole-2.ensures.whole R2;
}

pub take_whole-requires-2-clause-keyed : goal.take_whole-requires-2-clause-keyed
take_whole-requires-2-clause-keyed c =
    subst (AreKeyed (length c.args.arena.now.nodes)) (sym c.take_whole.ensures.place_tree) c.requires.keyed

pub take_whole-requires-clause-keyed : goal.take_whole-requires-clause-keyed
take_whole-requires-clause-keyed c = c.requires.keyed

pub take_whole-requires-clause-followed : goal.take_whole-requires-clause-followed
take_whole-requires-clause-followed c = c.requires.followed

pub returns-clause-saved : goal.returns-clause-saved
returns-clause-saved c = c.save.ensures.saved
