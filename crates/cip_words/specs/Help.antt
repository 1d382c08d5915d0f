-- The help text: a line for each command, with its options. Own.
use Rattle.std.specs.Prelude.{ℕ, List, [], ◌∷◌, ◌++◌, codes, Some, None}
use Rattle.std.specs.declared.option.Option.{Option}
use Rattle.std.specs.List.{flat_map}
use Rattle.cip_words.specs.declared.command_table.OptionSpec.{OptionSpec}
use Rattle.cip_words.specs.Forms.{forms}

-- in brackets where it may be left out
abbrev pub bracketed : Option ℕ → List ℕ → List ℕ
bracketed None text = text
bracketed (Some default) text = codes "[" ++ (text ++ codes "]")

abbrev pub choice_text : List ℕ → OptionSpec → List ℕ
choice_text name choice = codes " " ++ bracketed choice.default (name ++ (codes " " ++ choice.letter ∷ []))

abbrev pub form_line : List ℕ → List ℕ → List ℕ
form_line name choices = codes "cip " ++ (name ++ (choices ++ 10 ∷ []))

abbrev pub help : List ℕ
help = flat_map (λ form. form_line form.0 (flat_map (λ option. choice_text option.0 option.1) form.2)) forms
