-- What comes of making a labeller. Own.
use Rattle.std.specs.Prelude.{◌==◌, ◌||◌, ◌≡◌, ◌⊎◌, ℕ, ℤ, pos, negsuc, if◌then◌else◌, nat_lt}
use Rattle.std.specs.Prelude.{Option, None, Some, Result, Ok, Err}
use Rattle.cip_rank.specs.declared.rules.Rules.TheVariants.{Wording2013, Wording2018}
use Rattle.cip_c.specs.Answers.{BOUND_OUTSIDE, NO_MEMORY, WORDING_UNKNOWN, MOST_NODES}
use Rattle.cip_c.specs.declared.settings.Settings.{Settings}

abbrev pub settings_by : ℕ → ℕ → Result Settings ℤ
settings_by nodes year =
    if year == 2013 then Ok (record { nodes = nodes; rules = Wording2013 })
    else if year == 2018 then Ok (record { nodes = nodes; rules = Wording2018 })
    else Err WORDING_UNKNOWN

-- the bound on the nodes of a digraph, and the wording of Rule 1b by its year
abbrev pub settings_of : ℕ → ℕ → Result Settings ℤ
settings_of nodes year =
    if nodes == 0 || nat_lt MOST_NODES nodes then Err BOUND_OUTSIDE else settings_by nodes year

-- what is answered
abbrev pub IsMade : Result Settings ℤ → ℤ → Type 0
IsMade (Ok settings) result = (result ≡ pos 0) ⊎ (result ≡ NO_MEMORY)
IsMade (Err cause) result = result ≡ cause

-- the labeller that is then held
abbrev pub made : ℤ → Result Settings ℤ → Option Settings
made (pos n) (Ok settings) = Some settings
made (pos n) (Err cause) = None
made (negsuc n) expected = None
