use Rattle.std.proofs.Common.{sym, ap}
use Rattle.std.proofs.lemmas.List.{drop_more, drop_all}
use Rattle.cip_text.specs.Slices.{texts}
use Rattle.cip_ctfile.proofs.lemmas.Turns.{over_next, over_refused, over_done}
use Rattle.cip_stereogroups.specs.AtomLists.{with_names}
use Rattle.cip_stereogroups.specs.Reading.{told_at, fault_in}
use Rattle.cip_stereogroups.proofs.lemmas.LineBuilder.{read_from_told, refused_alike}
use Rattle.cip_stereogroups.proofs.atoms.atom_lists.names_of.Goals as goal

pub returns-in-Err : goal.returns-in-Err
returns-in-Err c =
    refused_alike (fault_in c.in-Err.refusal) c.args.number _ _ c.in-Err.ensures
    (λ cause is. over_refused with_names (texts c.loop-word.names.items) cause _ _ _ _
    (ap texts (drop_more c.args.words.now c.loop-word.word-index _ c.loop-word-test.true)) is c.loop-word.invariant)

pub loop-word-preserved : goal.loop-word-preserved
loop-word-preserved c =
    over_next with_names (texts c.loop-word.names.items) (texts c.push_names.new.names.items) _ _ _ _
    (ap texts (drop_more c.args.words.now c.loop-word.word-index _ c.loop-word-test.true))
    (read_from_told c.args.number _ _ c.in-Ok.ensures) c.loop-word.invariant

pub returns : goal.returns
returns c =
    ap (told_at c.args.number)
    (sym (over_done with_names (texts c.loop-word.names.items) _ _
    (ap texts (drop_all c.loop-word.word-index c.args.words.now c.loop-word-test.false)) c.loop-word.invariant))
