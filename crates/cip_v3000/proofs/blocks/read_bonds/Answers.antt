use Rattle.std.proofs.Common.{sym}
use Rattle.cip_ctfile.proofs.lemmas.Refusals.{fails_alike}
use Rattle.cip_ctfile.proofs.lemmas.Rows.{step_read, step_refused, steps_read}
use Rattle.cip_v3000.specs.Blocks.{seen_bonds}
use Rattle.cip_v3000.specs.Grammar.{bond_row}
use Rattle.cip_v3000.specs.Joining.{seen_all}
use Rattle.cip_v3000.proofs.blocks.read_bonds.Goals as goal

pub returns-in-Err-clause-value : goal.returns-in-Err-clause-value
returns-in-Err-clause-value c =
    let row = bond_row (seen_all c.args.joined.now) c.args.atoms.now c.args.first in
    fails_alike c.in-Err.refusal
    (row (seen_bonds c.loop-row.block) c.loop-row.row) _ c.in-Err.ensures.value
    (λ fault is. step_refused row _ c.args.count c.loop-row.row fault _ c.loop-row-test.true is
    c.loop-row.invariant.so_far)

pub loop-row-preserved : goal.loop-row-preserved
loop-row-preserved c = record {
  so_far = step_read (bond_row (seen_all c.args.joined.now) c.args.atoms.now c.args.first)
      (seen_bonds c.loop-row.block) (seen_bonds c.read_bond.new.block) c.args.count c.loop-row.row _
      c.loop-row-test.true (sym c.in-Ok.ensures.value) c.loop-row.invariant.so_far;
  are = c.in-Ok.ensures.are;
}

pub returns-clause-value : goal.returns-clause-value
returns-clause-value c =
    steps_read (bond_row (seen_all c.args.joined.now) c.args.atoms.now c.args.first) _ c.args.count c.loop-row.row _
    c.loop-row-test.false c.loop-row.invariant.so_far
