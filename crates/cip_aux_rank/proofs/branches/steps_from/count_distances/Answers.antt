use Rattle.std.proofs.Common.{◌≡◌, ◌+◌, ◌++◌, ◌∷◌, [], ◌∙◌, ℕ, List, length, sym, ap, subst, arith}
use Rattle.std.proofs.lemmas.Grind.{common_steps}
use Rattle.cip_partition.specs.ReservedList.{ReservedList}
use Rattle.cip_aux.specs.Views.{IsReal, path_at, sight_of}
use Rattle.cip_digraph.specs.digraph.View.{apart}
use Rattle.cip_aux_rank.specs.Keys.{KnowSteps}
use Rattle.cip_aux_rank.proofs.lemmas.KnownSteps.{known_more, known_none}
use Rattle.cip_aux_rank.proofs.branches.steps_from.count_distances.Goals as goal

pub loop-preserved : goal.loop-preserved
loop-preserved g c =
    let sight = sight_of c.args.whole.now in
    let from = c.args.from.now.node in
    let old = c.loop.steps.items in
    let next = c.next_steps-next.result in
    let count : length c.as_slice.result.now ≡ length old = ap (λ (ns : List ℕ). length ns) c.as_slice.ensures in
    let few = c.next_steps-next.ensures.few in
    let more = known_more sight from (length old) next old c.loop.invariant.known
    (subst (λ n. IsReal sight.nodes n → next ≡ apart (path_at sight.nodes from) (path_at sight.nodes n)) count
    c.next_steps-next.ensures.steps) (omega (arith, count, few)) in
    let pushed = c.push.ensures in
    let one = c.loop.invariant.count in
    record {
      known = subst (λ (s : ReservedList ℕ). KnowSteps sight from (length s.items) s.items) (sym pushed)
          (subst (λ n. KnowSteps sight from n (old ++ next ∷ [])) (sym more.len) more);
      count = ap (λ (s : ReservedList ℕ). length s.items) pushed ∙ more.len ∙ ap (λ n. n + 1) one;
      room = ap (λ (s : ReservedList ℕ). s.room) pushed ∙ c.loop.invariant.room;
    }

pub loop-init : goal.loop-init
loop-init g c =
    let sight = sight_of c.args.whole.now in
    let from = c.args.from.now.node in
    record {
      known = subst (λ (s : ReservedList ℕ). KnowSteps sight from (length s.items) s.items) (sym c.clear.ensures)
          (known_none sight from);
      count = ap (λ (s : ReservedList ℕ). length s.items) c.clear.ensures;
      room = ap (λ (s : ReservedList ℕ). s.room) c.clear.ensures;
    }

pub next_steps-next-requires-clause-real : goal.next_steps-next-requires-clause-real
next_steps-next-requires-clause-real g c = c.requires.real

pub next_steps-next-requires-clause-way : goal.next_steps-next-requires-clause-way
next_steps-next-requires-clause-way g c = c.requires.way

pub next_steps-next-requires-clause-known : goal.next_steps-next-requires-clause-known
next_steps-next-requires-clause-known g c =
    subst (λ (ns : List ℕ). KnowSteps (sight_of c.args.whole.now) c.args.from.now.node (length ns) ns)
    (sym c.as_slice.ensures) c.loop.invariant.known

pub next_steps-next-requires-clause-few : goal.next_steps-next-requires-clause-few
next_steps-next-requires-clause-few g c = c.requires.few

pub returns-clause-known : goal.returns-clause-known
returns-clause-known g c = c.loop.invariant.known

pub returns-clause-room : goal.returns-clause-room
returns-clause-room g c = c.loop.invariant.room

pub next_steps-next-requires-clause-within : goal.next_steps-next-requires-clause-within
next_steps-next-requires-clause-within g c = grind (arith, common_steps)

pub push-requires : goal.push-requires
push-requires g c = grind (arith, common_steps)
