use Rattle.std.proofs.Common.{◌+◌, sym}
use Rattle.std.proofs.lemmas.List.Elements.{All-push}
use Rattle.cip_mol.specs.Ranges.{IsBond}
use Rattle.cip_ctfile.proofs.lemmas.Refusals.{fails_alike}
use Rattle.cip_ctfile.proofs.lemmas.Rows.{length-push}
use Rattle.cip_v3000.specs.Blocks.{seen_bonds}
use Rattle.cip_v3000.specs.BondLine.{bond_of}
use Rattle.cip_v3000.specs.Grammar.{read_at}
use Rattle.cip_v3000.specs.Joining.{seen_all}
use Rattle.cip_v3000.proofs.lemmas.BlockRows.{bond_row_read, bond_row_refused}
use Rattle.cip_v3000.proofs.blocks.read_bond.Goals as goal

pub returns-in-Err-clause-value : goal.returns-in-Err-clause-value
returns-in-Err-clause-value c =
    let joined = seen_all c.args.joined.now in
    let before = c.args.block.now in
    fails_alike c.in-Err.refusal
    (read_at joined (c.args.first + c.args.row) (bond_of c.args.atoms.now before.indices before.bonds.bonds)) _
    c.in-Err.ensures.value
    (λ fault is. sym (bond_row_refused joined c.args.atoms.now c.args.first (seen_bonds before) c.args.row fault is))

pub returns-in-Ok-push-2 : goal.returns-in-Ok-push-2
returns-in-Ok-push-2 c = rw (c.in-Ok-push.ensures, c.in-Ok-push-2.ensures.added) (record {
  value = sym (bond_row_read (seen_all c.args.joined.now) c.args.atoms.now c.args.first (seen_bonds c.args.block.now)
      c.args.row c.in-Ok.line c.in-Ok.ensures.value);
  are = record {
    among = c.requires.are.among;
    range = All-push IsBond _ _ c.requires.are.range c.in-Ok.ensures.range.bond;
    counted = length-push _ _ _ c.requires.are.counted;
  };
})
