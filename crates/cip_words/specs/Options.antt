-- The options by their names: what each takes, and what holds where it isn't given. Own.
use Rattle.std.specs.Prelude.{ℕ, List, codes, Some, None}
use Rattle.cip_words.specs.declared.command_table.OptionSpec.{OptionSpec}
use Rattle.cip_words.specs.declared.command_table.Values.TheVariants.{Between, CentreLetter, Either}

abbrev pub NamedOption : Type 0
NamedOption = List ℕ × OptionSpec

-- The letters that stand for values in the help text are N (78), Y (89) and L (76).

-- an option that takes a number in a range, and has to be given
abbrev needed : List ℕ → ℕ → ℕ → NamedOption
needed name least most = (name, record { letter = 78; values = Between least most; default = None })

abbrev pub start : NamedOption
start = needed (codes "--start") 0 4294967295

abbrev pub records : NamedOption
records = needed (codes "--records") 1 100000

-- the number of a record, and that of an atom, from 1
abbrev pub number : NamedOption
number = needed (codes "--record") 1 1000000000

abbrev pub atom : NamedOption
atom = needed (codes "--atom") 1 1000000000

abbrev pub letter : NamedOption
letter = (codes "--letter", record { letter = 76; values = CentreLetter; default = None })

-- the bound on the nodes of a digraph
abbrev pub nodes : NamedOption
nodes = (codes "--nodes", record { letter = 78; values = Between 1 1000000; default = Some 100000 })

abbrev pub workers : NamedOption
workers = (codes "--workers", record { letter = 78; values = Between 1 16; default = Some 1 })

-- the year of the wording of Rule 1b
abbrev pub wording : NamedOption
wording = (codes "--rule1b", record { letter = 89; values = Either 2013 2018; default = Some 2018 })
