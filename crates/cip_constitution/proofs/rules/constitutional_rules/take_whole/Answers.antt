use Rattle.std.proofs.Common.{◌≡◌, ◌+◌, ◌<◌, [], suc, refl, arith, ◌∙◌, sym, ap, subst}
use Rattle.cip_branches.specs.Deciding.{Branched}
use Rattle.cip_partition.specs.PlaceTree.{PlaceTree}
use Rattle.cip_partition.specs.Keys.{AreKeyed}
use Rattle.cip_rules.specs.Taking.{TakesSoFar}
use Rattle.cip_rules.proofs.lemmas.TakenSteps.{so_far_begun, so_far_on}
use Rattle.cip_constitution.proofs.rules.constitutional_rules.take_whole.Goals as goal

pub loop-far-init : goal.loop-far-init
loop-far-init g c = record {
  so_far = λ rule. so_far_begun c.args.branches.now (g.K.Keyed.key c.args.keys.now) rule [] c.next_rule.new.self []
      c.next_rule.ensures.split c.next_rule.ensures.chosen
      (ap (λ (b : Branched). b.first) c.next_rule.ensures.others)
      (ap (λ (b : Branched). b.last) c.next_rule.ensures.others) refl;
  followed = c.next_rule.ensures.followed;
  place_tree = c.next_rule.ensures.split.kept.place_tree;
  end = ap (λ (b : Branched). b.last) c.next_rule.ensures.others;
}

pub extend_rule-requires-clause-keyed : goal.extend_rule-requires-clause-keyed
extend_rule-requires-clause-keyed g c =
    subst (λ (k : PlaceTree). AreKeyed (g.K.Keyed.nodes c.args.keys.now) k) (sym c.loop-far.invariant.place_tree) c.requires.keyed

pub loop-far-preserved : goal.loop-far-preserved
loop-far-preserved g c =
    let far = c.loop-far.far in
    let now = c.extend_rule.new.self in
    let next : suc far ≡ far + 1 = omega arith in
    let last = ap (λ (b : Branched). b.last) c.extend_rule.ensures.others in
    let was = ap (λ (b : Branched). b.last) c.next_rule.ensures.others in
    let stands = c.loop-far.invariant.end in
    let read = c.last-last.ensures.last in
    let within : far < c.loop-far.branches.last = omega (arith, was, stands, read) in
    record {
      so_far = λ rule. subst (λ d. TakesSoFar c.args.branches.now (g.K.Keyed.key c.args.keys.now) rule [] d now []) next
          (so_far_on c.args.branches.now (g.K.Keyed.key c.args.keys.now) rule [] far c.loop-far.branches now [] []
          (c.loop-far.invariant.so_far rule) within c.extend_rule.ensures.deeper c.extend_rule.ensures.chosen
          (ap (λ (b : Branched). b.first) c.extend_rule.ensures.others) last refl);
      followed = c.extend_rule.ensures.followed;
      place_tree = c.extend_rule.ensures.deeper.kept.place_tree ∙ c.loop-far.invariant.place_tree;
      end = last ∙ c.loop-far.invariant.end;
    }

pub returns-clause-whole : goal.returns-clause-whole
returns-clause-whole g c = λ rule.
    let was = ap (λ (b : Branched). b.last) c.next_rule.ensures.others in
    let read = c.last-last.ensures.last in
    let low = c.loop-far-test.false in
    let high = c.loop-far.auto.far-end in
    let at : c.loop-far.far ≡ c.args.branches.now.last = omega (arith, was, read, low, high) in
    record {
      takes = record {
        far = c.loop-far.far;
        within = omega (arith, at);
        so_far = c.loop-far.invariant.so_far rule;
        early = λ lt. absurd (omega (arith, lt, at));
      };
      reached = at;
    }

pub next_rule-requires-clause-keyed : goal.next_rule-requires-clause-keyed
next_rule-requires-clause-keyed g c = c.requires.keyed
