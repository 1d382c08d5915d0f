use Rattle.std.proofs.Common.{◌≡◌, ◌==◌, ◌∙◌, ◌||◌, ap, not, sym, subst, ℕ, List, [], Bool, false, zero, suc, refl, length, arith}
use Rattle.std.specs.Prelude.{All}
use Rattle.cip_mol.specs.Ranges.{IsBond}
use Rattle.cip_mol.specs.declared.graph.molecule.Bond.{Bond}
use Rattle.cip_v3000.specs.Grammar.{Bonds, behind_block}
use Rattle.cip_v3000.proofs.blocks.bond_block.Goals as goal

none_due : (count : ℕ) (begins : Bool) → false ≡ (not (count == 0) || begins) → count ≡ 0
none_due zero begins is = refl
none_due (suc n) begins is = absurd (grind (arith, is))

pub returns-in-Ok-false-clause-are : goal.returns-in-Ok-false-clause-are
returns-in-Ok-false-clause-are c =
    let due = none_due c.args.count _ (sym c.in-Ok-false.field-0-test ∙ c.in-Ok-false.ensures) in
    let none : c.args.block.now.bonds.bonds ≡ [] = ap (λ (b : Bonds). b.bonds) c.requires.none.none in
    record {
      among = c.requires.none.among;
      range = subst (λ (bonds : List Bond). All IsBond bonds) (sym none) (λ i d within. absurd (omega (arith, within)));
      counted = ap length none ∙ sym due;
    }

pub returns-in-Ok-expect_block_line-clause-behind : goal.returns-in-Ok-expect_block_line-clause-behind
returns-in-Ok-expect_block_line-clause-behind c =
    sym (ap (λ has. behind_block has c.args.count c.args.place)
    (sym c.in-Ok-true.ensures ∙ c.in-Ok-true.field-0-test))
