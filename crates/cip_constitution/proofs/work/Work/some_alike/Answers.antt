use Rattle.std.proofs.Common.{◌≡◌, ◌-◌, length, sym, ap, ◌∙◌, subst, arith}
use Rattle.cip_branches.specs.Deciding.{Branched, AreFollowed}
use Rattle.cip_partition.specs.Keys.{AreKeyed}
use Rattle.cip_partition.specs.PlaceTree.{PlaceTree}
use Rattle.cip_branches.specs.Saving.{Checkpoint, restored}
use Rattle.cip_digraph.specs.rules.EarlyOrder.{seen_at}
use Rattle.cip_rules.proofs.lemmas.TakenSteps.{stands_back}
use Rattle.cip_constitution.specs.Alike.{TakesBoth}
use Rattle.cip_constitution.specs.Ending.{NotAnew, EachPair}
use Rattle.cip_constitution.specs.Following.{Trying, numbers_of}
use Rattle.cip_constitution.specs.Trials.{FollowsTo, node_data}
use Rattle.cip_constitution.proofs.lemmas.node_data.Alike.{alike_is}
use Rattle.cip_constitution.proofs.lemmas.anew.LastSphere.{none_anew}
use Rattle.cip_constitution.proofs.lemmas.cut.Rules.{over_within}
use Rattle.cip_constitution.proofs.lemmas.cut.Taken.{same_both}
use Rattle.cip_constitution.proofs.work.Work.some_alike.Goals as goal

pub has_candidates-found-requires-clause-followed : goal.has_candidates-found-requires-clause-followed
has_candidates-found-requires-clause-followed c =
    let a = c.args.arena.now in
    subst (λ (w : Trying). FollowsTo (node_data c.args.setting.now) a a.sphere w.branched) (sym c.self.view_is)
    c.requires.followed

pub apply_both-requires-clause-followed : goal.apply_both-requires-clause-followed
apply_both-requires-clause-followed c =
    subst (λ (w : Trying). AreFollowed w.branched) (sym c.self.view_is) c.requires.followed.followed

pub apply_both-requires-clause-keyed : goal.apply_both-requires-clause-keyed
apply_both-requires-clause-keyed c =
    let a = c.args.arena.now in
    let follows = subst (λ (w : Trying). FollowsTo (node_data c.args.setting.now) a a.sphere w.branched)
    (sym c.self.view_is) c.requires.followed in
    subst (λ n. AreKeyed n c.self.inside.branches.layers.place_tree) (sym c.requires.grown.holds.tells.len) follows.keyed

pub alike_each-alike-requires-clause-room : goal.alike_each-alike-requires-clause-room
alike_each-alike-requires-clause-room c =
    let bound = ap (λ (w : Trying). w.bound) c.self.view_is in
    let held = c.self.invariant.under in
    let wide = c.has_candidates-found.ensures.room in
    omega (arith, bound, held, wide, c.requires.grown.fits, c.requires.room)

pub invariant_of-self-else-found : goal.invariant_of-self-else-found
invariant_of-self-else-found c =
    let room = c.self.invariant in
    let held = room.under in
    let wide = c.has_candidates-found.ensures.room in
    record {
      branches = room.branches;
      tops = room.tops;
      pairs = room.pairs;
      few = room.few;
      noted = room.noted;
      saved = room.saved;
      under = omega (arith, held, wide);
    }

pub returns-else-found-clause-result : goal.returns-else-found-clause-result
returns-else-found-clause-result c =
    let s = c.args.setting.now in
    let a = c.args.arena.now in
    let branched = c.args.self.now.branched in
    let grown = c.requires.grown in
    let anew = subst (λ (w : Trying). EachPair (NotAnew s.rules s.graph.now s.positions.now s.units.now a w.branched)
    s.ligands.now) c.self.view_is (c.has_candidates-found.ensures.anew c.if-found.false) in
    sym (none_anew s.graph.now s.positions.now a grown.holds grown.some grown.sound grown.fits grown.last branched
    c.requires.followed s.rules s.units.now grown.root s.ligands.now anew c.requires.before)

pub restore-requires : goal.restore-requires
restore-requires c =
    let same = same_both c.self.inside.branches c.args.setting.now.rules c.args.arena.now.nodes c.apply_both.new.branches
    c.apply_both.ensures.taken in
    let saved = c.apply_both.ensures.saved in
    record {
      rows = ap (λ (s : Checkpoint). length s.rows) saved ∙ sym same.kept.places.len;
      numbers = ap (λ (s : Checkpoint). length s.numbers) saved ∙ c.apply_both.ensures.count
          ∙ sym (ap (λ (k : PlaceTree). length k.place_parents) same.kept.place_tree);
      unresolved = ap (λ (s : Checkpoint). length s.unresolved) saved ∙ sym same.count;
    }

pub invariant_of-self : goal.invariant_of-self
invariant_of-self c =
    let begin = c.self.inside.branches in
    let same = same_both begin c.args.setting.now.rules c.args.arena.now.nodes c.apply_both.new.branches
    c.apply_both.ensures.taken in
    let followed = subst AreFollowed (sym (ap (λ (w : Trying). w.branched) c.self.view_is))
    c.requires.followed.followed in
    let back : c.restore.new.self ≡ begin = c.restore.ensures
    ∙ ap (λ (s : Checkpoint). restored s c.apply_both.new.branches) c.apply_both.ensures.saved
    ∙ stands_back begin c.apply_both.new.branches c.self.inside.saved.room followed same in
    let held = c.self.invariant.under in
    let one = c.has_candidates-found.ensures.room in
    let two = c.alike_each-alike.ensures.room in
    record {
      branches = ap (λ (b : Branched). b.layers.place_tree.room) back ∙ c.self.invariant.branches;
      tops = c.self.invariant.tops;
      pairs = c.self.invariant.pairs;
      few = c.self.invariant.few;
      noted = c.self.invariant.noted;
      saved = ap (λ (s : Checkpoint). s.room) c.apply_both.ensures.saved ∙ c.self.invariant.saved;
      under = omega (arith, held, one, two);
    }

pub returns-then-found-clause-result : goal.returns-then-found-clause-result
returns-then-found-clause-result c =
    let s = c.args.setting.now in
    let a = c.args.arena.now in
    let branched = c.args.self.now.branched in
    let third = c.apply_both.new.branches in
    let grown = c.requires.grown in
    let far = c.requires.followed.last in
    let takes = subst (λ (b : Branched). TakesBoth b s.rules a.nodes third)
    (ap (λ (w : Trying). w.branched) c.self.view_is) c.apply_both.ensures.taken in
    c.alike_each-alike.ensures.alike
    ∙ alike_is s.rules s.graph.now s.positions.now s.units.now a grown.holds grown.some grown.sound grown.root
    (numbers_of third)
    (over_within s.graph.now s.positions.now a grown.holds grown.some grown.fits grown.last branched
    c.requires.followed s.rules takes.mid third takes.distances takes.masses grown.sound
    (seen_at s.rules s.graph.now s.positions.now s.units.now a.root).height (a.sphere - 1) (omega (arith, far)))
    s.ligands.now

pub returns-then-found-clause-kept : goal.returns-then-found-clause-kept
returns-then-found-clause-kept c =
    let begin = c.self.inside.branches in
    let same = same_both begin c.args.setting.now.rules c.args.arena.now.nodes c.apply_both.new.branches
    c.apply_both.ensures.taken in
    let followed = subst AreFollowed (sym (ap (λ (w : Trying). w.branched) c.self.view_is))
    c.requires.followed.followed in
    let back : c.restore.new.self ≡ begin = c.restore.ensures
    ∙ ap (λ (s : Checkpoint). restored s c.apply_both.new.branches) c.apply_both.ensures.saved
    ∙ stands_back begin c.apply_both.new.branches c.self.inside.saved.room followed same in
    ap {A = Branched} {B = Trying} (λ b. record {
      bound = c.self.inside.bound;
      branched = b;
      pairs = c.self.inside.pairs.items;
      noted = c.self.inside.noted.items;
    }) back ∙ c.self.view_is

pub alike_each-alike-requires-clause-grown : goal.alike_each-alike-requires-clause-grown
alike_each-alike-requires-clause-grown c = c.requires.grown

pub has_candidates-found-requires-clause-grown : goal.has_candidates-found-requires-clause-grown
has_candidates-found-requires-clause-grown c = c.requires.grown
