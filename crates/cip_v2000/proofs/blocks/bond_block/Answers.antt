use Rattle.std.proofs.Common.{◌≡◌, ◌≤◌, ◌+◌, ◌-◌, ℕ, List, [], All, Result, ap, arith, length}
use Rattle.std.proofs.lemmas.List.Elements.{All-push}
use Rattle.cip_text.specs.Slices.{texts}
use Rattle.cip_mol.specs.Ranges.{IsBond}
use Rattle.cip_mol.specs.declared.graph.molecule.Bond.{Bond}
use Rattle.cip_ctfile.specs.Reading.{in_turn}
use Rattle.cip_v2000.specs.Grammar.{bond_row}
use Rattle.cip_ctfile.proofs.lemmas.Rows.{row_read, row_refused, rows_read, length-push}
use Rattle.cip_v2000.proofs.blocks.bond_block.Goals as goal

-- no row was read yet
none_read : {A E : Type 0} (read : List A → ℕ → Result A E) (rows : List A) (count : ℕ) → rows ≡ []
    → in_turn read rows (count - 0) 0 ≡ in_turn read [] count 0
none_read read rows count none =
    let all : count - 0 ≡ count = omega arith in
    λ i. in_turn read (none i) (all i) 0

none_passed : (n m : ℕ) → n ≤ m → n + 0 ≤ m
none_passed n m within = omega (arith, within)

none_in : (bonds : List Bond) → bonds ≡ [] → All IsBond bonds
none_in bonds none k d within = absurd (let e : length bonds ≡ 0 = ap length none in omega (arith, within, e))

pub returns-in-Err-clause-value : goal.returns-in-Err-clause-value
returns-in-Err-clause-value c =
    row_refused (bond_row (texts c.args.lines.now) c.args.atoms) _ _ _ _ _ c.loop-row-test.true
    c.in-Err.ensures.value c.loop-row.invariant.so_far

pub loop-row-preserved : goal.loop-row-preserved
loop-row-preserved c = rw c.in-Ok-push.ensures.added (record {
  so_far = row_read (bond_row (texts c.args.lines.now) c.args.atoms) _ _ _ _ _ c.loop-row-test.true
      c.in-Ok-bond_line.ensures.value c.loop-row.invariant.so_far;
  among = c.loop-row.invariant.among;
  there = omega (arith, c.in-Ok-bond_line.ensures.there);
  counted = length-push _ _ _ c.loop-row.invariant.counted;
  range = All-push IsBond _ _ c.loop-row.invariant.range c.in-Ok-bond_line.ensures.range;
})

pub returns-clause-value : goal.returns-clause-value
returns-clause-value c = rows_read (bond_row (texts c.args.lines.now) c.args.atoms) _ _ _ _ c.loop-row-test.false
    c.loop-row.invariant.so_far

pub loop-row-init : goal.loop-row-init
loop-row-init c =
    record {
      so_far = none_read (bond_row (texts c.args.lines.now) c.args.atoms) c.in-Ok.bonds.bonds c.args.count
          (λ i. (c.in-Ok.ensures i).bonds);
      among = λ i. (c.in-Ok.ensures i).atoms;
      there = none_passed (4 + c.args.atoms) (length c.args.lines.now) c.requires.there;
      counted = λ i. length (c.in-Ok.ensures i).bonds;
      range = none_in c.in-Ok.bonds.bonds (λ i. (c.in-Ok.ensures i).bonds);
    }
