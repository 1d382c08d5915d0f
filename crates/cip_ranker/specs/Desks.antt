-- What a ranker holds. Own.
use Rattle.std.specs.Prelude.{ℕ, List}
use Rattle.cip_mol.specs.declared.site.Ligand.{Ligand}
use Rattle.cip_constitution.specs.Settling.{RootContext, setting_of}
use Rattle.cip_label.specs.Settings as records
use Rattle.cip_ranker.specs.declared.ranker.Ranker.TheInside.{Inside}
use Rattle.cip_ranker.specs.Standing.{Standing}

-- how many nodes there is room for, and how the branches of the root ranked last compare
pub record Held : Type 0 where
  pub bound : ℕ
  pub standing : Standing

abbrev pub held_of : Inside → Held
held_of ranker = record { bound = ranker.bound; standing = ranker.branches }

-- what settles a root with these ligands
abbrev pub settled_by : records.LabelContext → List Ligand → RootContext
settled_by setting ligands = setting_of setting.rules setting.graph setting.positions setting.units ligands
