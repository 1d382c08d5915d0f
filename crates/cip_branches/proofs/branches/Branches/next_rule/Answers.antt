use Rattle.std.proofs.Common.{refl, sym, subst}
use Rattle.cip_branches.specs.Deciding.{AreFollowed, Branched, FlagsOpen}
use Rattle.cip_branches.specs.Taking.{SplitsFirst}
use Rattle.cip_branches.proofs.lemmas.taken.Kept.{followed_kept}
use Rattle.cip_branches.proofs.branches.Branches.next_rule.Goals as goal

pub split_first-requires-clause-ranked : goal.split_first-requires-clause-ranked
split_first-requires-clause-ranked g c = (_, (subst AreFollowed (sym c.self.view_is) c.requires.followed).ranked)

pub returns-clause-followed : goal.returns-clause-followed
returns-clause-followed g c =
    let was = subst AreFollowed (sym c.self.view_is) c.requires.followed in
    rw c.drop_distinct.ensures.others
    (followed_kept _ _ was c.split_first.ensures.split.kept (c.split_first.ensures.ranked _ was.ranked) refl refl
    c.drop_distinct.ensures.chosen)

pub returns-clause-split : goal.returns-clause-split
returns-clause-split g c =
    let keys = g.K.Keyed.key c.args.keys.now in
    subst (λ (b : Branched). SplitsFirst c.args.self.now.layers keys b.layers) (sym c.drop_distinct.ensures.others)
    (subst (λ (b : Branched). SplitsFirst b.layers keys c.split_first.new.self) c.self.view_is c.split_first.ensures.split)

pub returns-clause-chosen : goal.returns-clause-chosen
returns-clause-chosen g c =
    let flags = c.drop_distinct.new.self.unresolved in
    subst (λ (b : Branched). FlagsOpen b.layers.ranked.numbers c.args.self.now.unresolved flags) (sym c.drop_distinct.ensures.others)
    (subst (λ (b : Branched). FlagsOpen c.split_first.new.self.ranked.numbers b.unresolved flags) c.self.view_is
    c.drop_distinct.ensures.chosen)
