use Rattle.std.proofs.Common.{◌+◌, ◌∙◌, All, ap, length, subst, sym}
use Rattle.std.proofs.lemmas.List.Elements.{All-push}
use Rattle.cip_mol.specs.Ranges.{IsAtom}
use Rattle.cip_ctfile.proofs.lemmas.Refusals.{fails_alike}
use Rattle.cip_ctfile.proofs.lemmas.Rows.{length-push}
use Rattle.cip_v3000.specs.AtomLine.{atom_of}
use Rattle.cip_v3000.specs.Blocks.{seen_atoms}
use Rattle.cip_v3000.specs.Grammar.{read_at}
use Rattle.cip_v3000.specs.Joining.{seen_all}
use Rattle.cip_v3000.proofs.lemmas.BlockRows.{atom_row_read, atom_row_refused}
use Rattle.cip_v3000.proofs.blocks.read_atom.Goals as goal

pub returns-in-Err-clause-value : goal.returns-in-Err-clause-value
returns-in-Err-clause-value c =
    let joined = seen_all c.args.joined.now in
    fails_alike c.in-Err.refusal
    (read_at joined (3 + c.args.row) (atom_of c.args.block.now.indices)) _ c.in-Err.ensures.value
    (λ fault is. sym (atom_row_refused joined (seen_atoms c.args.block.now) c.args.row fault is))

pub returns-in-Ok-push-2-clause-value : goal.returns-in-Ok-push-2-clause-value
returns-in-Ok-push-2-clause-value c =
    rw (c.in-Ok-push.ensures, c.in-Ok-push-2.ensures.items)
    (sym (atom_row_read (seen_all c.args.joined.now) (seen_atoms c.args.block.now) c.args.row c.in-Ok.line
    c.in-Ok.ensures.value))

pub returns-in-Ok-push-2-clause-are : goal.returns-in-Ok-push-2-clause-are
returns-in-Ok-push-2-clause-are c = record {
  range = subst (All IsAtom) (sym c.in-Ok-push-2.ensures.items)
      (All-push IsAtom _ _ c.requires.are.range c.in-Ok.ensures.range.atom);
  counted = ap length c.in-Ok-push-2.ensures.items ∙ length-push _ _ _ c.requires.are.counted;
  indexed = ap length c.in-Ok-push.ensures ∙ length-push _ _ _ c.requires.are.indexed;
}
