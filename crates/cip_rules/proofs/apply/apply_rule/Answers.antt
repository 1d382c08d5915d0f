use Rattle.std.proofs.Common.{◌≡◌, ◌+◌, ◌<◌, suc, map, arith, ◌∙◌, sym, ap, subst}
use Rattle.cip_branches.specs.Deciding.{Branched}
use Rattle.cip_partition.specs.PlaceTree.{PlaceTree}
use Rattle.cip_partition.specs.Keys.{AreKeyed}
use Rattle.cip_digraph.specs.Asking.{with_found, found_between}
use Rattle.cip_rules.specs.Taking.{TakesSoFar}
use Rattle.cip_rules.proofs.lemmas.TakenSteps.{so_far_begun, so_far_on, fewer_wanted}
use Rattle.cip_rules.proofs.apply.apply_rule.Goals as goal

pub loop-far-init : goal.loop-far-init
loop-far-init g c = record {
  so_far = so_far_begun c.args.branches.now (g.K.Keyed.key c.args.keys.now) c.args.rule c.args.pairs.now
      c.next_rule.new.self c.record_decisions.new.pairs c.next_rule.ensures.split c.next_rule.ensures.chosen
      (ap (λ (b : Branched). b.first) c.next_rule.ensures.others)
      (ap (λ (b : Branched). b.last) c.next_rule.ensures.others) c.record_decisions.ensures;
  followed = c.next_rule.ensures.followed;
  place_tree = c.next_rule.ensures.split.kept.place_tree;
  end = ap (λ (b : Branched). b.last) c.next_rule.ensures.others;
}

pub extend_rule-requires-clause-keyed : goal.extend_rule-requires-clause-keyed
extend_rule-requires-clause-keyed g c =
    subst (λ (k : PlaceTree). AreKeyed (g.K.Keyed.nodes c.args.keys.now) k) (sym c.loop-far.invariant.place_tree) c.requires.keyed

pub loop-far-preserved : goal.loop-far-preserved
loop-far-preserved g c =
    let far = c.loop-far.far in
    let now = c.extend_rule.new.self in
    let next : suc far ≡ far + 1 = omega arith in
    let last : now.last ≡ c.loop-far.branches.last = ap (λ (b : Branched). b.last) c.extend_rule.ensures.others in
    let was = ap (λ (b : Branched). b.last) c.next_rule.ensures.others in
    let stands = c.loop-far.invariant.end in
    let read = c.last-last.ensures.last in
    let within : far < c.loop-far.branches.last = omega (arith, was, stands, read) in
    record {
      so_far = subst (λ d. TakesSoFar c.args.branches.now (g.K.Keyed.key c.args.keys.now) c.args.rule c.args.pairs.now d
          now c.record_decisions-in-loop-far.new.pairs) next
          (so_far_on c.args.branches.now (g.K.Keyed.key c.args.keys.now) c.args.rule c.args.pairs.now far
          c.loop-far.branches now c.loop-far.pairs c.record_decisions-in-loop-far.new.pairs c.loop-far.invariant.so_far
          within c.extend_rule.ensures.deeper c.extend_rule.ensures.chosen
          (ap (λ (b : Branched). b.first) c.extend_rule.ensures.others) last
          (subst (λ d. c.record_decisions-in-loop-far.new.pairs ≡ map (with_found (found_between now.layers.ranked.numbers
          c.args.rule d)) c.loop-far.pairs) (sym next) c.record_decisions-in-loop-far.ensures));
      followed = c.extend_rule.ensures.followed;
      place_tree = c.extend_rule.ensures.deeper.kept.place_tree ∙ c.loop-far.invariant.place_tree;
      end = last ∙ c.loop-far.invariant.end;
    }

pub returns-then-all_decided-clause-unresolved : goal.returns-then-all_decided-clause-unresolved
returns-then-all_decided-clause-unresolved g c =
    fewer_wanted c.args.branches.now (g.K.Keyed.key c.args.keys.now) c.args.rule c.args.pairs.now c.loop-far.far
    c.loop-far.branches c.loop-far.pairs c.loop-far.invariant.so_far

pub returns-clause-unresolved : goal.returns-clause-unresolved
returns-clause-unresolved g c =
    fewer_wanted c.args.branches.now (g.K.Keyed.key c.args.keys.now) c.args.rule c.args.pairs.now c.loop-far.far
    c.loop-far.branches c.loop-far.pairs c.loop-far.invariant.so_far

pub extend_rule-requires-clause-followed : goal.extend_rule-requires-clause-followed
extend_rule-requires-clause-followed g c = c.loop-far.invariant.followed

pub returns-then-all_decided-clause-taken : goal.returns-then-all_decided-clause-taken
returns-then-all_decided-clause-taken g c =
    let last = c.last-last.ensures.last ∙ ap (λ (b : Branched). b.last) c.next_rule.ensures.others in
    let lt = c.loop-far-test.true in
    record {
      far = c.loop-far.far;
      within = omega (arith, last, lt);
      so_far = c.loop-far.invariant.so_far;
      early = λ early. sym c.all_decided.ensures ∙ c.if-all_decided.true;
    }

pub returns-then-all_decided-clause-followed : goal.returns-then-all_decided-clause-followed
returns-then-all_decided-clause-followed g c = c.loop-far.invariant.followed

pub returns-then-all_decided-clause-place_tree : goal.returns-then-all_decided-clause-place_tree
returns-then-all_decided-clause-place_tree g c = c.loop-far.invariant.place_tree

pub returns-clause-taken : goal.returns-clause-taken
returns-clause-taken g c =
    let last = c.last-last.ensures.last ∙ ap (λ (b : Branched). b.last) c.next_rule.ensures.others in
    let end = c.loop-far-test.false in
    let within = c.loop-far.auto.far-end in
    record {
      far = c.loop-far.far;
      within = omega (arith, last, within);
      so_far = c.loop-far.invariant.so_far;
      early = λ early. absurd (omega (arith, last, end, early));
    }

pub returns-clause-followed : goal.returns-clause-followed
returns-clause-followed g c = c.loop-far.invariant.followed

pub returns-clause-place_tree : goal.returns-clause-place_tree
returns-clause-place_tree g c = c.loop-far.invariant.place_tree

pub next_rule-requires-clause-keyed : goal.next_rule-requires-clause-keyed
next_rule-requires-clause-keyed g c = c.requires.keyed

pub extend_rule-requires-clause-far : goal.extend_rule-requires-clause-far
extend_rule-requires-clause-far g c =
    omega (
      arith,
      ap (λ (b : Branched). b.last) c.next_rule.ensures.others,
      c.loop-far.invariant.end,
      c.last-last.ensures.last,
      c.loop-far-test.true,
    )
