-- How a refusal is written. Own.
use Rattle.std.specs.Prelude.{ℕ, List, ◌++◌, codes, decimal}
use Rattle.cip_mol.specs.declared.labels.refusal.ReadFault.{ReadFault}
use Rattle.cip_mol.specs.Causes.{cause_text}

-- the line and the cause of a refusal
abbrev pub refusal_line : ReadFault → List ℕ
refusal_line fault = codes "refused " ++ (decimal fault.line ++ (codes " " ++ cause_text fault.cause))
