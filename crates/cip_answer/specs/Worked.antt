-- Worked records, on which the definitions are tried: bromochlorofluoromethane and others like it. Own.
use Rattle.std.specs.Prelude.{◌≡◌, ℕ, List, [], ◌∷◌, ◌++◌, ◌==◌, codes, if◌then◌else◌}
use Rattle.cip_text.specs.Lines.{line_feed, carriage_return}
use Rattle.cip_mol.specs.declared.labels.descriptor.Descriptor.{Descriptor}
use Rattle.cip_mol.specs.declared.labels.descriptor.Descriptor.TheVariants.{R, S}
use Rattle.cip_mol.specs.declared.labels.outcome.Outcome.{Outcome}
use Rattle.cip_mol.specs.declared.labels.outcome.Outcome.TheVariants as outcomes
use Rattle.cip_mol.specs.declared.labels.outcome.Rule.TheVariants.{R1a}
use Rattle.cip_mol.specs.declared.labels.refusal.ReadCause.TheVariants.{BondMark}
use Rattle.cip_mol.specs.declared.site.Cause.TheVariants.{Either}
use Rattle.cip_mol.specs.declared.site.Ligand.TheVariants.{Vertex}
use Rattle.cip_mol.specs.declared.site.Site.TheVariants.{Centre}
use Rattle.cip_item.specs.Putting.{heading}
use Rattle.cip_print.specs.declared.answer.Answer.{Answer}
use Rattle.cip_print.specs.declared.answer.Answer.TheVariants.{Labelled, Refused}
use Rattle.cip_print.specs.declared.unit_name.UnitName.TheVariants as names
use Rattle.cip_print.specs.Values.{settings_line}
use Rattle.cip_rank.specs.declared.rules.Rules.TheVariants.{Wording2018}
use Rattle.cip_answer.specs.Answers.{answer_by}

abbrev pub ended : List ℕ → List ℕ
ended line = line ++ line_feed ∷ []

-- up to `M  END`, with the stereo field of the bond to bromine
abbrev pub bromochlorofluoromethane : List ℕ → List ℕ
bromochlorofluoromethane stereo =
    ended (codes "bromochlorofluoromethane") ++ ended [] ++ ended []
    ++ ended (codes "  5  4  0  0  0  0  0  0  0  0999 V2000")
    ++ ended (codes "    0.0000    0.0000    0.0000 C   0  0  0  0  0  0  0  0  0  0  0  0")
    ++ ended (codes "    0.0000    1.0000    0.0000 F   0  0  0  0  0  0  0  0  0  0  0  0")
    ++ ended (codes "    1.0000    0.0000    0.0000 Cl  0  0  0  0  0  0  0  0  0  0  0  0")
    ++ ended (codes "    0.0000   -1.0000    0.0000 Br  0  0  0  0  0  0  0  0  0  0  0  0")
    ++ ended (codes "   -1.0000    0.0000    0.0000 H   0  0  0  0  0  0  0  0  0  0  0  0")
    ++ ended (codes "  1  2  1  0") ++ ended (codes "  1  3  1  0") ++ ended (codes "  1  4  1" ++ stereo)
    ++ ended (codes "  1  5  1  0")
    ++ ended (codes "M  END")

abbrev pub with_returns : List ℕ → List ℕ
with_returns [] = []
with_returns (b ∷ bs) = if b == line_feed then carriage_return ∷ line_feed ∷ with_returns bs else b ∷ with_returns bs

abbrev pub labelled : List ℕ
labelled =
    bromochlorofluoromethane (codes "  1") ++ ended heading ++ ended (settings_line 100000 Wording2018)
    ++ ended (codes "a1 S 1a 1 order 4 3 2 5") ++ ended []

-- the answer for the centre alone
abbrev pub centre : Outcome → Answer
centre outcome =
    Labelled (record {
      name = names.Centre 0;
      site = Centre 0 (Vertex 1 ∷ Vertex 2 ∷ Vertex 3 ∷ Vertex 4 ∷ []);
      drawn = 5;
      outcome = outcome;
    } ∷ [])

-- bromine, chlorine, fluorine, hydrogen
abbrev pub labelled_as : Descriptor → Answer
labelled_as letter =
    centre (outcomes.Label (record { letter = letter; rule = R1a; sphere = 1; order = 2 ∷ 1 ∷ 0 ∷ 3 ∷ [] }))

abbrev pub closed : List ℕ → List ℕ
closed molfile = molfile ++ ended (codes "$$$$")

-- bromine in front of the plane gives S, behind it R, and an undecided bond shows nothing; a mark that isn't one is
-- refused; a digraph of five nodes is larger than a bound of four; label items and line ends change nothing
pub record AreAnswered : Type 0 where
  pub front : answer_by Wording2018 100000 (closed (bromochlorofluoromethane (codes "  1"))) ≡ labelled_as S
  pub behind : answer_by Wording2018 100000 (closed (bromochlorofluoromethane (codes "  6"))) ≡ labelled_as R
  pub undecided : answer_by Wording2018 100000 (closed (bromochlorofluoromethane (codes "  4")))
      ≡ centre (outcomes.NoGeometry Either)
  pub refused : answer_by Wording2018 100000 (closed (bromochlorofluoromethane (codes "  5")))
      ≡ Refused (record { line = 12; cause = BondMark })
  pub within : answer_by Wording2018 5 (closed (bromochlorofluoromethane (codes "  1"))) ≡ labelled_as S
  pub over : answer_by Wording2018 4 (closed (bromochlorofluoromethane (codes "  1"))) ≡ centre outcomes.Over
  pub again : answer_by Wording2018 100000 (closed labelled) ≡ labelled_as S
  pub returns : answer_by Wording2018 100000 (with_returns (bromochlorofluoromethane (codes "  1"))) ≡ labelled_as S
