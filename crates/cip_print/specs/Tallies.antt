-- How many units of records have which outcome. Own.
use Rattle.std.specs.Prelude.{ℕ, List, [], ◌∷◌, ◌++◌, ◌+◌, codes, decimal, fold}
use Rattle.cip_mol.specs.declared.labels.outcome.Outcome.{Outcome}
use Rattle.cip_mol.specs.declared.labels.outcome.Outcome.TheVariants as outcomes
use Rattle.cip_print.specs.declared.answer.Answer.{Answer}
use Rattle.cip_print.specs.declared.answer.Answer.TheVariants.{Labelled, Refused}
use Rattle.cip_print.specs.declared.answer.UnitAnswer.{UnitAnswer}
use Rattle.cip_print.specs.declared.tally.UnitCounts.{UnitCounts}

-- the records so far, how many of them are refused, and their units by outcome
pub record Counts : Type 0 where
  pub records : ℕ
  pub refused : ℕ
  pub labels : ℕ
  pub over : ℕ
  pub ties : ℕ
  pub none : ℕ

abbrev pub nothing : Counts
nothing = record { records = 0; refused = 0; labels = 0; over = 0; ties = 0; none = 0 }

-- units

abbrev pub no_units : UnitCounts
no_units = record { labels = 0; over = 0; ties = 0; none = 0 }

abbrev pub with_outcome : UnitCounts → Outcome → UnitCounts
with_outcome counts (outcomes.Label label) = record counts { labels = counts.labels + 1 }
with_outcome counts outcomes.Over = record counts { over = counts.over + 1 }
with_outcome counts outcomes.Tie = record counts { ties = counts.ties + 1 }
with_outcome counts (outcomes.NoGeometry cause) = record counts { none = counts.none + 1 }

abbrev pub with_units : UnitCounts → List UnitAnswer → UnitCounts
with_units counts [] = counts
with_units counts (unit ∷ units) = with_units (with_outcome counts unit.outcome) units

-- records

abbrev pub plus : Counts → UnitCounts → Counts
plus counts units = record {
  records = counts.records + 1;
  refused = counts.refused;
  labels = counts.labels + units.labels;
  over = counts.over + units.over;
  ties = counts.ties + units.ties;
  none = counts.none + units.none;
}

-- the counts with one record more
abbrev pub counted : Counts → Answer → Counts
counted counts (Labelled units) = plus counts (with_units no_units units)
counted counts (Refused fault) = record counts { records = counts.records + 1; refused = counts.refused + 1 }

-- the counts of these records
abbrev pub tally : List Answer → Counts
tally answers = fold counted nothing answers

-- the line that gives the counts

unfoldable pub records_part : Counts → List ℕ
records_part counts = codes "records " ++ (decimal counts.records ++ (codes " refused " ++ decimal counts.refused))

unfoldable pub units_part : Counts → List ℕ
units_part counts =
    codes " labels " ++ (decimal counts.labels ++ (codes " over " ++ (decimal counts.over ++ (codes " ties "
    ++ (decimal counts.ties ++ (codes " none " ++ (decimal counts.none ++ 10 ∷ [])))))))

abbrev pub summary_line : Counts → List ℕ
summary_line counts = records_part counts ++ units_part counts
