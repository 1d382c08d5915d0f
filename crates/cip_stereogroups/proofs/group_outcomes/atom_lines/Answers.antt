use Rattle.std.proofs.Common.{◌∙◌, ◌<◌, ◌≤◌, ◌++◌, ℕ, List, ap, get_or, length, map, subst}
use Rattle.std.proofs.lemmas.List.{take_all}
use Rattle.cip_stereogroups.specs.Outcomes.{line_of}
use Rattle.cip_stereogroups.proofs.lemmas.LinesSoFar.{both_found, line_behind}
use Rattle.cip_stereogroups.proofs.group_outcomes.atom_lines.Goals as goal

pub loop-atom-preserved : goal.loop-atom-preserved
loop-atom-preserved g c =
    let bound = c.args.labeller.now in
    let drawn = c.args.centres.now in
    let group = c.args.group.now in
    let place = c.loop-atom.atom-index in
    let atom = get_or c.as_slice-atom-items.result.now place 0 in
    let outcomes = c.in-Ok.outcomes in
    record {
      so_far = c.in-Ok-push.ensures.items
          ∙ line_behind c.args.output.now.lines.items group.atoms place 0
          (subst (λ (atoms : List ℕ). place < length atoms) c.as_slice-atom-items.ensures c.loop-atom-test.true)
          c.loop-atom.output.lines.items (line_of bound drawn group)
          (record { kind = group.kind; atom = atom; outcomes = outcomes })
          c.loop-atom.invariant.so_far
          ((λ i. record {
            kind = group.kind;
            atom = atom;
            outcomes = both_found outcomes c.loop-atom.labeller bound drawn c.args.turned.now group.atoms atom
                c.in-Ok.ensures.both c.loop-atom.invariant.kept c.requires.turned i;
          })
          ∙ ap (λ (atoms : List ℕ). line_of bound drawn group (get_or atoms place 0)) c.as_slice-atom-items.ensures);
      kept = c.in-Ok.ensures.kept ∙ c.loop-atom.invariant.kept;
    }

pub returns : goal.returns
returns g c = record {
  lines = c.loop-atom.invariant.so_far
      ∙ ap (λ (atoms : List ℕ). c.args.output.now.lines.items
      ++ map (line_of c.args.labeller.now c.args.centres.now c.args.group.now) atoms)
      (take_all c.loop-atom.atom-index c.args.group.now.atoms
      (subst (λ (atoms : List ℕ). length atoms ≤ c.loop-atom.atom-index) c.as_slice-atom-items.ensures
      c.loop-atom-test.false));
  kept = c.loop-atom.invariant.kept;
}

pub returns-in_default-push-clause-kept : goal.returns-in_default-push-clause-kept
returns-in_default-push-clause-kept g c = c.in-Ok.ensures.kept ∙ c.loop-atom.invariant.kept

pub returns-in_default-push-clause-lines : goal.returns-in_default-push-clause-lines
returns-in_default-push-clause-lines g c = tt

pub returns-in_default-clause-kept : goal.returns-in_default-clause-kept
returns-in_default-clause-kept g c = c.in_default.ensures.kept ∙ c.loop-atom.invariant.kept

pub returns-in_default-clause-lines : goal.returns-in_default-clause-lines
returns-in_default-clause-lines g c = tt
