-- Worked records, on which the definitions are tried: bromochlorofluoromethane and its mirror image. Own.
use Rattle.std.specs.Prelude.{◌≡◌, ℕ, List, [], ◌∷◌, ◌++◌, codes, Some, None}
use Rattle.cip_frame.specs.Records.{records_of, blank_tail}
use Rattle.cip_item.specs.Putting.{heading}
use Rattle.cip_print.specs.Values.{settings_line}
use Rattle.cip_answer.specs.Worked.{ended, bromochlorofluoromethane, with_returns, labelled}
use Rattle.cip_rank.specs.declared.rules.Rules.TheVariants.{Wording2018}
use Rattle.cip_batch.specs.declared.limits.Limits.{Limits}
use Rattle.cip_batch.specs.Due.{due}
use Rattle.cip_batch.specs.Limits.{limit_place, answered}
use Rattle.cip_commands.specs.Telling.{annotated, annotating, explaining}

abbrev pub with_value : List ℕ → List ℕ → List ℕ
with_value molfile value =
    molfile ++ ended heading ++ ended (settings_line 100000 Wording2018) ++ ended value ++ ended []
    ++ ended (codes "$$$$")

abbrev pub answer_to : List ℕ → List ℕ
answer_to bytes = annotated Wording2018 100000 bytes

abbrev pub Gives : List ℕ → List ℕ → Type 0
Gives stereo value = answer_to (bromochlorofluoromethane stereo ++ ended (codes "$$$$"))
    ≡ with_value (bromochlorofluoromethane stereo) value

-- bromine in front of the plane gives S, behind it R, and an undecided bond nothing; a mark that isn't one is
-- refused; a record that was answered is answered with itself; other line ends and a missing terminator stay as they
-- are
pub record AreGiven : Type 0 where
  pub front : Gives (codes "  1") (codes "a1 S 1a 1 order 4 3 2 5")
  pub behind : Gives (codes "  6") (codes "a1 R 1a 1 order 4 3 2 5")
  pub undecided : Gives (codes "  4") (codes "none")
  pub refused : Gives (codes "  5") (codes "refused 12 BondMark")
  pub again : answer_to (labelled ++ ended (codes "$$$$")) ≡ labelled ++ ended (codes "$$$$")
  pub returns : answer_to (with_returns (bromochlorofluoromethane (codes "  1"))) ≡ with_returns labelled

abbrev pub within : ℕ → ℕ → Limits
within record_bytes input_bytes = record { «record» = record_bytes; input = input_bytes }

abbrev pub due_within : ℕ → ℕ → List ℕ → List ℕ
due_within record_bytes input_bytes bytes = due (annotating Wording2018 100000) (within record_bytes input_bytes) bytes

-- small streams, worked by hand
pub record StreamsAreGiven : Type 0 where
  pub none : due_within 9 9 [] ≡ []
  pub blank : due_within 9 9 (ended [] ++ ended [] ++ ended []) ≡ ended [] ++ ended [] ++ ended []
  pub blank_unexplained : due (explaining Wording2018 100000) (within 9 9) (ended [] ++ ended [] ++ ended []) ≡ []
  pub fits : limit_place (within 3 3) (codes "abc") ≡ None
  pub long_record : limit_place (within 3 9) (codes "abcd") ≡ Some 4
  pub long_input : limit_place (within 9 2) (codes "abc") ≡ Some 3
  pub second_record : limit_place (within 5 99) (ended (codes "$$$$") ++ codes "abcdef") ≡ Some 11
  pub before_limit : answered (within 5 99) (ended (codes "$$$$") ++ codes "abcdef") ≡ ended (codes "$$$$") ∷ []
  pub records : records_of (ended (codes "$$$$ ") ++ codes "x") ≡ ended (codes "$$$$ ") ∷ codes "x" ∷ []
  pub tail : blank_tail (ended (codes "$$$$") ++ ended (codes " ")) ≡ ended (codes " ")
