use Rattle.std.proofs.Common.{◌≡◌, ◌<◌, ◌≤◌, ◌+◌, ◌∙◌, ℕ, List, ap, arith, length, map, subst}
use Rattle.std.specs.List.{range_with_len}
use Rattle.std.proofs.lemmas.List.Elements.{All-push}
use Rattle.cip_mol.specs.declared.graph.molecule.Atom.{Atom}
use Rattle.cip_hydro.specs.Carriers.{HasFew}
use Rattle.cip_hydro.specs.ValenceState.{surroundings_at}
use Rattle.cip_hydro.proofs.lemmas.Drawn.{around_next}
use Rattle.cip_hydro.proofs.valence_state.surroundings_of.Goals as goal

all_read : (a n : ℕ) → n ≤ a → a ≤ n → a ≡ n
all_read a n past within = omega (arith, past, within)

pub loop-atom-preserved : goal.loop-atom-preserved
loop-atom-preserved c = record {
  value = c.push_reserved.ensures.items
      ∙ around_next c.args.molecule.now _ _ _ c.loop-atom.invariant.value c.surroundings_at.ensures.value;
  few = rw c.push_reserved.ensures.items
      (All-push HasFew _ _ c.loop-atom.invariant.few c.surroundings_at.ensures.few);
  count = c.push_reserved.ensures.len ∙ ap (λ n. n + 1) c.loop-atom.invariant.count;
  room = rw c.push_reserved.ensures.capacity c.loop-atom.invariant.room;
}

pub surroundings_at-requires : goal.surroundings_at-requires
surroundings_at-requires c =
    subst (λ (atoms : List Atom). c.loop-atom.atom < length atoms) c.atoms-count.ensures.value c.loop-atom-test.true

pub returns-clause-value : goal.returns-clause-value
returns-clause-value c =
    c.loop-atom.invariant.value
    ∙ ap (λ n. map (surroundings_at c.args.molecule.now) (range_with_len 0 n))
    (all_read c.loop-atom.atom _ c.loop-atom-test.false c.loop-atom.auto.atom-end ∙ ap length c.atoms-count.ensures.value)

pub returns-clause-few : goal.returns-clause-few
returns-clause-few c = c.loop-atom.invariant.few
