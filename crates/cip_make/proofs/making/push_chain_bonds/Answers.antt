use Rattle.std.proofs.Common.{◌≡◌, ◌+◌, ◌++◌, ◌∙◌, ap, arith, suc}
use Rattle.cip_make.specs.declared.chain.Stereo.TheVariants.{Plain}
use Rattle.cip_make.specs.Lines.{bond_line}
use Rattle.cip_make.specs.Made.{chain_bonds}
use Rattle.cip_make.proofs.lemmas.Texts.{longer}
use Rattle.cip_make.proofs.making.push_chain_bonds.Goals as goal

pub loop-before-preserved : goal.loop-before-preserved
loop-before-preserved c =
    let before = c.loop-before.before in
    let next : suc before ≡ before + 1 = omega arith in
    longer c.args.text.now.items (chain_bonds before) (bond_line (before + 1) (before + 2) Plain) _ _
    c.loop-before.invariant c.in-Ok.ensures
    ∙ ap (λ n. c.args.text.now.items ++ chain_bonds n) next
