-- The commands by their names in the order of the help text, each with its options. Own.
use Rattle.std.specs.Prelude.{ℕ, List, [], ◌∷◌, codes}
use Rattle.cip_words.specs.declared.command_table.Command.{Command}
use Rattle.cip_words.specs.declared.command_table.Command.TheVariants.{Annotate, Explain, Make, Trial, Set, Mirror, Groups, Axes, Help}
use Rattle.cip_words.specs.Options.{NamedOption, start, records, number, atom, letter, nodes, workers, wording}

abbrev pub CommandSpec : Type 0
CommandSpec = List ℕ × Command × List NamedOption

-- the options of every command that labels
abbrev labelling : List NamedOption
labelling = nodes ∷ workers ∷ wording ∷ []

abbrev pub forms : List CommandSpec
forms =
    (codes "annotate", Annotate, labelling)
    ∷ (codes "explain", Explain, labelling)
    ∷ (codes "make", Make, start ∷ records ∷ [])
    ∷ (codes "trial", Trial, start ∷ records ∷ labelling)
    ∷ (codes "set", Set, number ∷ atom ∷ letter ∷ labelling)
    ∷ (codes "mirror", Mirror, labelling)
    ∷ (codes "groups", Groups, labelling)
    ∷ (codes "axes", Axes, labelling)
    ∷ (codes "help", Help, [])
    ∷ []
