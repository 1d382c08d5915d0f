use Rattle.std.proofs.Common.{sym, ap}
use Rattle.std.proofs.lemmas.List.{drop_more, drop_all}
use Rattle.std.specs.Option.{ok_or}
use Rattle.cip_text.specs.Slices.{texts}
use Rattle.cip_ctfile.proofs.lemmas.Turns.{over_next, over_refused, over_done}
use Rattle.cip_stereogroups.specs.declared.faults.GroupCause.TheVariants.{Atom}
use Rattle.cip_stereogroups.specs.AtomLists.{with_atom}
use Rattle.cip_stereogroups.specs.Reading.{told_at}
use Rattle.cip_stereogroups.proofs.lemmas.AtomSteps.{atom_read, atom_refused}
use Rattle.cip_stereogroups.proofs.atoms.atom_lists.atoms_of.Goals as goal

pub returns-in_default : goal.returns-in_default
returns-in_default c =
    rw c.refused.ensures (ap (told_at c.args.number)
    (sym (over_refused (with_atom c.args.index.now) c.loop-name.atoms.items Atom _ _ _ _
    (ap texts (drop_more c.args.names.now c.loop-name.name-index _ c.loop-name-test.true))
    (atom_refused c.args.index.now c.loop-name.atoms.items _ Atom (ap (λ place. ok_or place Atom) c.in_default.ensures)) c.loop-name.invariant)))

pub loop-name-preserved : goal.loop-name-preserved
loop-name-preserved c =
    rw c.in-Ok.ensures.items
    (over_next (with_atom c.args.index.now) c.loop-name.atoms.items _ _ _ _ _
    (ap texts (drop_more c.args.names.now c.loop-name.name-index _ c.loop-name-test.true))
    (atom_read c.args.index.now c.loop-name.atoms.items _ c.in-Some.atom
    (ap (λ place. ok_or place Atom) c.in-Some.ensures)) c.loop-name.invariant)

pub returns : goal.returns
returns c =
    ap (told_at c.args.number)
    (sym (over_done (with_atom c.args.index.now) c.loop-name.atoms.items _ _
    (ap texts (drop_all c.loop-name.name-index c.args.names.now c.loop-name-test.false)) c.loop-name.invariant))
