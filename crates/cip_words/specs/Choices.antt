-- What an option is set to by the words after a command: names and values in turn. Own.
use Rattle.std.specs.Prelude.{ℕ, List, [], ◌∷◌, Bool, true, false, ◌==◌, ◌&&◌, ◌||◌, nat_le, String, string_bytes, Some, None, if◌then◌else◌}
use Rattle.std.specs.declared.option.Option.{Option}
use Rattle.std.specs.declared.alloc.Global.{Global}
use Rattle.std.specs.List.{list_any}
use Rattle.std.specs.Option.{is_some}
use Rattle.std.specs.Str.{bytes_eq}
use Rattle.cip_words.specs.Numbers.{number_of}
use Rattle.cip_words.specs.Options.{NamedOption}
use Rattle.cip_words.specs.declared.command_table.OptionSpec.{OptionSpec}
use Rattle.cip_words.specs.declared.command_table.Values.{Values}
use Rattle.cip_words.specs.declared.command_table.Values.TheVariants.{Between, CentreLetter, Either}

-- what follows is asked for only where everything before it is set
infixl 10 ◌>>=◌
abbrev pub ◌>>=◌ : {A B : Type 0} → Option A → (A → Option B) → Option B
(Some x) >>= next = next x
None >>= next = None

abbrev pub allows : Values → ℕ → Bool
allows (Between least most) number = nat_le least number && nat_le number most
allows (Either one other) number = number == one || number == other
allows CentreLetter number = false

-- the number that a word spells, where it is one of these
abbrev pub among : Values → Option ℕ → Option ℕ
among values None = None
among values (Some number) = if allows values number then Some number else None

abbrev pub allowed : Values → List ℕ → Option ℕ
allowed values word = among values (number_of word)

abbrev pub is_name : List NamedOption → List ℕ → Bool
is_name options word = list_any (λ option. bytes_eq word option.0) options

-- whether the words are names of these options, each with a word for its value after it
abbrev pub are_name_value_pairs : List NamedOption → List (String Global) → Bool
are_name_value_pairs options [] = true
are_name_value_pairs options (word ∷ []) = false
are_name_value_pairs options (word ∷ value ∷ words) = is_name options (string_bytes word) && are_name_value_pairs options words

-- the word after a name where it is first, and the words after that
abbrev pub first_given : List ℕ → List (String Global) → Option (List ℕ × List (String Global))
first_given name [] = None
first_given name (word ∷ []) = None
first_given name (word ∷ value ∷ words) =
    if bytes_eq (string_bytes word) name then Some (string_bytes value, words) else first_given name words

abbrev pub is_given : List ℕ → List (String Global) → Bool
is_given name words = is_some (first_given name words)

-- the word after a name that is given once
abbrev pub once : List ℕ → List (String Global) → Option (List ℕ)
once name words = do
  given ← first_given name words
  if is_given name given.1 then None else Some given.0

-- an option's default where its name isn't given, and its value where the name is given once
abbrev pub value_of : List ℕ → OptionSpec → List (String Global) → Option ℕ
value_of name choice words =
    if is_given name words then (once name words >>= allowed choice.values) else choice.default
