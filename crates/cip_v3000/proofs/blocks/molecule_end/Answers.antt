use Rattle.std.proofs.Common.{◌∙◌, arith, refl, sym}
use Rattle.std.proofs.lemmas.Grind.{common_steps}
use Rattle.cip_v3000.proofs.lemmas.BlockRows.{molecule_ends, molecule_goes_on, molecule_runs_out}
use Rattle.cip_v3000.proofs.blocks.molecule_end.Goals as goal

pub returns-then-is_molecule_end : goal.returns-then-is_molecule_end
returns-then-is_molecule_end c =
    rw (molecule_ends c.args.lines.now c.loop-place.place _ _ c.loop-place-test.true
    (sym c.is_molecule_end.ensures ∙ c.if-is_molecule_end.true) c.loop-place.invariant) refl

pub loop-place-preserved : goal.loop-place-preserved
loop-place-preserved c =
    molecule_goes_on c.args.lines.now c.loop-place.place _ _ c.loop-place-test.true
    (sym c.is_molecule_end.ensures ∙ c.if-is_molecule_end.false) c.loop-place.invariant

pub returns : goal.returns
returns c =
    let none = molecule_runs_out c.args.lines.now c.loop-place.place _ c.loop-place-test.false
    c.loop-place.invariant in
    grind (arith, common_steps, none)
