use Rattle.std.proofs.Common.{rules, ◌≡◌, ◌-◌, ◌++◌, ℕ, List, take, drop, length, refl, sym, ◌∙◌, subst, arith}
use Rattle.std.proofs.Math.Seq.{take-append_seam}
use Rattle.cip_arena.specs.Growth.{Growth}
use Rattle.cip_digraph.specs.declared.decisions.branch_pair.BranchPair.{BranchPair}
use Rattle.cip_constitution.specs.Following.{Trying}
use Rattle.cip_constitution.specs.Settling.{RootContext}
use Rattle.cip_constitution.specs.Trials.{FollowsTo, NotesTo}
use Rattle.cip_constitution.specs.declared.pairs.VertexPair.{VertexPair}
use Rattle.cip_constitution.proofs.lemmas.followed.Branches.{few_now}
use Rattle.cip_constitution.proofs.work.Work.follow.Goals as goal

-- what was noted before is noted up to the last sphere, by the columns that hold it
noted_now : (setting : RootContext) (a : Growth) (s : ℕ) (pairs ps : List VertexPair) (before old new : List BranchPair) (count : ℕ)
    → s ≡ a.sphere - 1 → ps ≡ pairs → old ≡ before → count ≡ length new → NotesTo setting a s ps before
    → (NotesTo setting a (a.sphere - 1) pairs old → NotesTo setting a a.sphere pairs new)
    → NotesTo setting a a.sphere pairs (take count (new ++ drop (length new) before))
noted_now setting a s pairs ps before old new count depth is same len notes more =
    let done : NotesTo setting a a.sphere pairs new = more (rw (sym depth, sym is, same) notes) in
    rw (len, take-append_seam new (drop (length new) before)) done

pub begin_branches-requires-clause-nodes : goal.begin_branches-requires-clause-nodes
begin_branches-requires-clause-nodes c =
    let s = c.requires.ahead.0 in
    let grown = c.requires.ahead.1.grown in
    let few = few_now s.graph s.positions c.args.arena.now grown.holds grown.last grown.fits in
    let one : c.args.arena.now.sphere ≡ 1 = sym c.sphere.ensures ∙ c.if-sphere-eq1.true in
    omega (arith, few, one)

pub begin_noting-requires-clause-some : goal.begin_noting-requires-clause-some
begin_noting-requires-clause-some c = c.requires.ahead.1.grown.nodes

pub record_sphere-requires : goal.record_sphere-requires
record_sphere-requires c = c.requires.ahead.1.grown.some

pub record_sphere-requires-else-sphere-eq1 : goal.record_sphere-requires-else-sphere-eq1
record_sphere-requires-else-sphere-eq1 c = c.requires.ahead.1.grown.some

pub follow_branches-requires-clause-followed : goal.follow_branches-requires-clause-followed
follow_branches-requires-clause-followed c =
    let s = c.requires.ahead.0 in
    let a = c.args.arena.now in
    let ahead = c.requires.ahead.1 in
    let some = ahead.grown.some in
    let is = c.sphere.ensures in
    let not = c.if-sphere-eq1.false in (
      s,
      ahead.grown,
      subst (λ (w : Trying). FollowsTo s a (a.sphere - 1) w.branched) (sym c.self.view_is)
          (ahead.kept (omega (arith, some, is, not))).follows,
    )

pub returns-then-sphere-eq1-clause-kept : goal.returns-then-sphere-eq1-clause-kept
returns-then-sphere-eq1-clause-kept c setting ahead =
    let a = c.args.arena.now in
    let pairs = c.self.inside.pairs.items in
    let one : a.sphere ≡ 1 = sym c.sphere.ensures ∙ c.if-sphere-eq1.true in
    let follows = c.begin_branches.ensures.followed setting ahead.grown one in
    let len : c.begin_noting.new.noted.len ≡ length c.record_sphere.new.noted = search rules in
    record {
      follows = follows;
      notes = noted_now setting a 0 pairs c.as_slice.result.now c.begin_noting.new.noted.items c.deref_mut.result.now
          c.record_sphere.new.noted c.begin_noting.new.noted.len (omega (arith, one)) c.as_slice.ensures.value
          c.deref_mut.ensures.value len (c.begin_noting.ensures.noted setting ahead.grown one)
          (c.record_sphere.ensures setting pairs follows);
    }

pub returns-else-sphere-eq1-clause-kept : goal.returns-else-sphere-eq1-clause-kept
returns-else-sphere-eq1-clause-kept c setting ahead =
    let a = c.args.arena.now in
    let pairs = c.self.inside.pairs.items in
    let some = ahead.grown.some in
    let is = c.sphere.ensures in
    let not = c.if-sphere-eq1.false in
    let kept = ahead.kept (omega (arith, some, is, not)) in
    let follows = c.follow_branches.ensures.followed setting ahead.grown
    (subst (λ (w : Trying). FollowsTo setting a (a.sphere - 1) w.branched) (sym c.self.view_is) kept.follows) in
    let noted = subst (λ (w : Trying). NotesTo setting a (a.sphere - 1) w.pairs w.noted) (sym c.self.view_is)
    kept.notes in
    let new = c.record_sphere-else-sphere-eq1.new.noted in
    let len : c.self.inside.noted.len ≡ length new = search rules in
    record {
      follows = follows;
      notes = noted_now setting a (a.sphere - 1) pairs pairs c.self.inside.noted.items
          c.deref_mut-else-sphere-eq1.result.now new c.self.inside.noted.len refl refl
          c.deref_mut-else-sphere-eq1.ensures.value len noted
          (c.record_sphere-else-sphere-eq1.ensures setting pairs follows);
    }
