use Rattle.std.proofs.Common.{sym, ap, ◌∙◌, get_or}
use Rattle.std.proofs.lemmas.List.{drop_more, drop_all}
use Rattle.cip_ctfile.proofs.lemmas.Turns.{over_next, over_refused, over_done}
use Rattle.cip_stereogroups.specs.declared.faults.GroupCause.TheVariants.{Repeated}
use Rattle.cip_stereogroups.specs.AtomLists.{with_taken}
use Rattle.cip_stereogroups.specs.Reading.{told_at}
use Rattle.cip_stereogroups.proofs.lemmas.AtomSteps.{taken_again, taken_first}
use Rattle.cip_stereogroups.proofs.atoms.atom_lists.take_all.Goals as goal

pub returns-then-contains : goal.returns-then-contains
returns-then-contains c =
    let atom = get_or c.args.atoms.now c.loop-atom.atom-index 0 in
    rw c.refused.ensures (ap (told_at c.args.number)
    (sym (over_refused with_taken c.loop-atom.taken Repeated _ _ _ _
    (drop_more c.args.atoms.now c.loop-atom.atom-index 0 c.loop-atom-test.true)
    (taken_again c.loop-atom.taken atom (sym c.contains.ensures ∙ c.if-contains.true)) c.loop-atom.invariant)))

pub loop-atom-preserved : goal.loop-atom-preserved
loop-atom-preserved c =
    let atom = get_or c.args.atoms.now c.loop-atom.atom-index 0 in
    rw c.in-Ok.ensures (over_next with_taken c.loop-atom.taken _ _ _ _ _
    (drop_more c.args.atoms.now c.loop-atom.atom-index 0 c.loop-atom-test.true)
    (taken_first c.loop-atom.taken atom (sym c.contains.ensures ∙ c.if-contains.false)) c.loop-atom.invariant)

pub returns : goal.returns
returns c =
    ap (told_at c.args.number)
    (sym (over_done with_taken c.loop-atom.taken _ _
    (drop_all c.loop-atom.atom-index c.args.atoms.now c.loop-atom-test.false) c.loop-atom.invariant))
