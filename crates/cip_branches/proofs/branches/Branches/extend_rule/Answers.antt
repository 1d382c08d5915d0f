use Rattle.std.proofs.Common.{◌≡◌, false, refl, sym, subst}
use Rattle.cip_branches.specs.Deciding.{AreFollowed, Branched, FlagsOpen}
use Rattle.cip_branches.specs.Taking.{Deepens}
use Rattle.cip_branches.proofs.lemmas.ruled.Open.{open_still}
use Rattle.cip_branches.proofs.lemmas.taken.Kept.{columns_kept, followed_kept}
use Rattle.cip_branches.proofs.branches.Branches.extend_rule.Goals as goal
use Rattle.cip_branches.proofs.branches.Branches.extend_rule.Goals.{After-extend_rule}

-- where the first sphere is unchanged, so are the branches that are unresolved
open_after : (g : _) (c : After-extend_rule g) → c.extend_rule.result ≡ false
    → FlagsOpen c.extend_rule.new.self.ranked.numbers c.self.inside.unresolved.items c.self.inside.unresolved.items
open_after g c not =
    let was = subst AreFollowed (sym c.self.view_is) c.requires.followed in
    let stand = c.extend_rule.ensures.tops not in
    open_still c.self.inside.spheres.ranked.numbers c.extend_rule.new.self.ranked.numbers c.self.inside.unresolved.items
    (λ branch has. stand.each branch (was.chosen.top branch has)) was.chosen.tie

pub extend_rule-requires-clause-ranked : goal.extend_rule-requires-clause-ranked
extend_rule-requires-clause-ranked g c = (subst AreFollowed (sym c.self.view_is) c.requires.followed).ranked

pub invariant_of-self : goal.invariant_of-self
invariant_of-self g c = columns_kept c.extend_rule.ensures.deeper.kept.place_tree c.self.invariant

pub invariant_of-self-else-extend_rule : goal.invariant_of-self-else-extend_rule
invariant_of-self-else-extend_rule g c = columns_kept c.extend_rule.ensures.deeper.kept.place_tree c.self.invariant

pub returns-then-extend_rule-clause-deeper : goal.returns-then-extend_rule-clause-deeper
returns-then-extend_rule-clause-deeper g c =
    let keys = g.K.Keyed.key c.args.keys.now in
    subst (λ (b : Branched). Deepens c.args.self.now.layers c.args.far keys b.layers) (sym c.drop_distinct.ensures.others)
    (subst (λ (b : Branched). Deepens b.layers c.args.far keys c.extend_rule.new.self) c.self.view_is c.extend_rule.ensures.deeper)

pub returns-else-extend_rule-clause-deeper : goal.returns-else-extend_rule-clause-deeper
returns-else-extend_rule-clause-deeper g c =
    let keys = g.K.Keyed.key c.args.keys.now in
    subst (λ (b : Branched). Deepens b.layers c.args.far keys c.extend_rule.new.self) c.self.view_is c.extend_rule.ensures.deeper

pub returns-then-extend_rule-clause-chosen : goal.returns-then-extend_rule-clause-chosen
returns-then-extend_rule-clause-chosen g c =
    let flags = c.drop_distinct.new.self.unresolved in
    subst (λ (b : Branched). FlagsOpen b.layers.ranked.numbers c.args.self.now.unresolved flags) (sym c.drop_distinct.ensures.others)
    (subst (λ (b : Branched). FlagsOpen c.extend_rule.new.self.ranked.numbers b.unresolved flags) c.self.view_is
    c.drop_distinct.ensures.chosen)

pub returns-then-extend_rule-clause-followed : goal.returns-then-extend_rule-clause-followed
returns-then-extend_rule-clause-followed g c =
    let was = subst AreFollowed (sym c.self.view_is) c.requires.followed in
    rw c.drop_distinct.ensures.others
    (followed_kept _ _ was c.extend_rule.ensures.deeper.kept c.extend_rule.ensures.ranked refl refl c.drop_distinct.ensures.chosen)

pub returns-else-extend_rule-clause-chosen : goal.returns-else-extend_rule-clause-chosen
returns-else-extend_rule-clause-chosen g c =
    rw (sym c.self.view_is)
    (open_after g (goal.at.returns-else-extend_rule-clause-chosen g c).After-extend_rule c.if-extend_rule.false)

pub returns-else-extend_rule-clause-followed : goal.returns-else-extend_rule-clause-followed
returns-else-extend_rule-clause-followed g c =
    let was = subst AreFollowed (sym c.self.view_is) c.requires.followed in
    followed_kept _ _ was c.extend_rule.ensures.deeper.kept c.extend_rule.ensures.ranked refl refl
    (open_after g (goal.at.returns-else-extend_rule-clause-followed g c).After-extend_rule c.if-extend_rule.false)
