-- What the words of a command line ask for: a command's name, then names of its options, each at most once, and values
-- in turn. Own.
use Rattle.std.specs.Prelude.{ℕ, List, [], ◌∷◌, ◌==◌, ⊤, String, string_bytes, Some, None, if◌then◌else◌}
use Rattle.std.specs.declared.option.Option.{Option}
use Rattle.std.specs.declared.alloc.Global.{Global}
use Rattle.std.specs.Option.{option_map}
use Rattle.std.specs.Str.{bytes_eq}
use Rattle.cip_mol.specs.declared.labels.centre_letter.CentreLetter.{CentreLetter}
use Rattle.cip_rank.specs.declared.rules.Rules.{Rules}
use Rattle.cip_rank.specs.declared.rules.Rules.TheVariants.{Wording2013, Wording2018}
use Rattle.cip_words.specs.Choices.{◌>>=◌, are_name_value_pairs, once, value_of}
use Rattle.cip_words.specs.Letters.{letter_named}
use Rattle.cip_words.specs.declared.command_table.Command.{Command}
use Rattle.cip_words.specs.declared.command_table.Command.TheVariants as commands
use Rattle.cip_words.specs.Forms.{CommandSpec, forms}
use Rattle.cip_words.specs.Options as options
use Rattle.cip_words.specs.Options.{NamedOption}
use Rattle.cip_words.specs.Ranges.{CanLabel, CanMake, CanName, Labelling}
use Rattle.cip_words.specs.declared.settings.Action.{Action}
use Rattle.cip_words.specs.declared.settings.Action.TheVariants as does
use Rattle.cip_words.specs.declared.settings.Task.{Task}
use Rattle.cip_words.specs.declared.settings.Task.TheVariants as tasks
use Rattle.cip_words.specs.declared.settings.Settings.{Settings}
use Rattle.cip_words.specs.declared.settings.Settings.TheVariants.{Annotate, Explain, Make, Trial, Set, Mirror, Groups, Axes, Help}

-- the command of this name
abbrev pub form_of : List ℕ → List CommandSpec → Option CommandSpec
form_of name [] = None
form_of name (form ∷ forms) = if bytes_eq name form.0 then Some form else form_of name forms

-- the wording of a year
abbrev pub wording_of : ℕ → Rules
wording_of year = if year == 2013 then Wording2013 else Wording2018

-- the options

abbrev pub start_of : List (String Global) → Option ℕ
start_of words = value_of options.start.0 options.start.1 words

abbrev pub records_of : List (String Global) → Option ℕ
records_of words = value_of options.records.0 options.records.1 words

abbrev pub record_of : List (String Global) → Option ℕ
record_of words = value_of options.number.0 options.number.1 words

abbrev pub atom_of : List (String Global) → Option ℕ
atom_of words = value_of options.atom.0 options.atom.1 words

abbrev pub letter_of : List (String Global) → Option CentreLetter
letter_of words = once options.letter.0 words >>= letter_named

abbrev pub nodes_of : List (String Global) → Option ℕ
nodes_of words = value_of options.nodes.0 options.nodes.1 words

abbrev pub workers_of : List (String Global) → Option ℕ
workers_of words = value_of options.workers.0 options.workers.1 words

abbrev pub rules_of : List (String Global) → Option Rules
rules_of words = option_map wording_of (value_of options.wording.0 options.wording.1 words)

-- what all commands that label ask for
abbrev pub labelling_of : List (String Global) → Option Labelling
labelling_of words = do
  nodes ← nodes_of words
  workers ← workers_of words
  rules ← rules_of words
  Some (record { nodes = nodes; workers = workers; rules = rules })

-- what a command asks for that has no options but those of labelling
abbrev pub alone : Command → Labelling → Option Settings
alone commands.Annotate labelling = Some (Annotate labelling.nodes labelling.workers labelling.rules)
alone commands.Explain labelling = Some (Explain labelling.nodes labelling.workers labelling.rules)
alone commands.Mirror labelling = Some (Mirror labelling.nodes labelling.workers labelling.rules)
alone commands.Groups labelling = Some (Groups labelling.nodes labelling.workers labelling.rules)
alone commands.Axes labelling = Some (Axes labelling.nodes labelling.workers labelling.rules)
alone command labelling = None

abbrev pub making_of : List (String Global) → Option Settings
making_of words = do
  start ← start_of words
  records ← records_of words
  Some (Make start records)

abbrev pub trial_of : List (String Global) → Option Settings
trial_of words = do
  start ← start_of words
  records ← records_of words
  labelling ← labelling_of words
  Some (Trial start records labelling.nodes labelling.workers labelling.rules)

abbrev pub setting_of : List (String Global) → Option Settings
setting_of words = do
  number ← record_of words
  atom ← atom_of words
  letter ← letter_of words
  labelling ← labelling_of words
  Some (Set number atom letter labelling.nodes labelling.workers labelling.rules)

-- what a command asks for with these names and values
abbrev pub requested : Command → List (String Global) → Option Settings
requested commands.Make words = making_of words
requested commands.Trial words = trial_of words
requested commands.Set words = setting_of words
requested commands.Help words = Some Help
requested command words = labelling_of words >>= alone command

-- the same where these are its options
abbrev pub asked_by : Command → List NamedOption → List (String Global) → Option Settings
asked_by command options words = if are_name_value_pairs options words then requested command words else None

-- what the words ask for; none where they are those of no command
unfoldable pub settings_of : List (String Global) → Option Settings
settings_of [] = None
settings_of (name ∷ words) = do
  form ← form_of (string_bytes name) forms
  asked_by form.1 form.2 words

-- what a command does

abbrev pub labelling_by : ℕ → ℕ → Rules → Labelling
labelling_by nodes workers rules = record { nodes = nodes; workers = workers; rules = rules }

abbrev pub action_of : Settings → Action
action_of (Annotate nodes workers rules) = does.Read tasks.Annotate (labelling_by nodes workers rules)
action_of (Explain nodes workers rules) = does.Read tasks.Explain (labelling_by nodes workers rules)
action_of (Make start records) = does.Make (record { start = start; records = records })
action_of (Trial start records nodes workers rules) =
    does.Trial (record { start = start; records = records }) (labelling_by nodes workers rules)
action_of (Set number atom letter nodes workers rules) =
    does.Read (tasks.Set number atom letter) (labelling_by nodes workers rules)
action_of (Mirror nodes workers rules) = does.Read tasks.Mirror (labelling_by nodes workers rules)
action_of (Groups nodes workers rules) = does.Read tasks.Groups (labelling_by nodes workers rules)
action_of (Axes nodes workers rules) = does.Read tasks.Axes (labelling_by nodes workers rules)
action_of Help = does.Help

-- the numbers of settings are in their ranges

abbrev pub IsNamed : Task → Type 0
IsNamed (tasks.Set number atom letter) = CanName number atom
IsNamed task = ⊤

abbrev pub IsWithin : Action → Type 0
IsWithin (does.Read task labelling) = IsNamed task × CanLabel labelling.nodes labelling.workers
IsWithin (does.Make series) = CanMake series.records
IsWithin (does.Trial series labelling) = CanMake series.records × CanLabel labelling.nodes labelling.workers
IsWithin does.Help = ⊤

abbrev pub AreWithin : Settings → Type 0
AreWithin settings = IsWithin (action_of settings)
