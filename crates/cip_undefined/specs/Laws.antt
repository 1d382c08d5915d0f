-- An undefined unit is open, ties or is over whichever sense is shown. Own.
use Rattle.std.specs.Prelude.{◌≡◌, ℕ}
use Rattle.cip_mol.specs.declared.labels.descriptor.Descriptor.TheVariants.{R}
use Rattle.cip_mol.specs.declared.labels.descriptor.Sense.{Sense}
use Rattle.cip_mol.specs.declared.labels.outcome.Outcome.{Outcome}
use Rattle.cip_mol.specs.declared.labels.outcome.Outcome.TheVariants.{Label, Tie, Over, NoGeometry}
use Rattle.cip_mol.specs.declared.site.Site.{Site}
use Rattle.cip_label.specs.Settings.{LabelContext, known_in}
use Rattle.cip_undefined.specs.UndefinedUnits.{open_outcome}

-- an outcome with one letter in the place of any other
abbrev pub lettered : Outcome → Outcome
lettered (Label label) = Label (record label { letter = R })
lettered Tie = Tie
lettered Over = Over
lettered (NoGeometry cause) = NoGeometry cause

-- ties, bound, order, rule and sphere are those of the other outcome, whatever the letter
abbrev pub AreAlikeButLetters : Outcome → Outcome → Type 0
AreAlikeButLetters one other = lettered one ≡ lettered other

-- with either sense
abbrev pub SensesKeepOrders : Type 0
SensesKeepOrders =
    (setting : LabelContext) (nodes : ℕ) (site : Site) (sense : Sense) →
    AreAlikeButLetters (known_in setting nodes site sense) (open_outcome setting nodes site)
