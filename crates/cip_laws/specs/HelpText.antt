-- The help text. Own.
use Rattle.std.specs.Prelude.{◌≡◌, ℕ, List, [], ◌∷◌, ◌++◌, codes}
use Rattle.cip_words.specs.Help.{help}

-- a line of the help text, and those after it
abbrev line : List ℕ → List ℕ → List ℕ
line text behind = text ++ 10 ∷ behind

abbrev pub HelpIsWritten : Type 0
HelpIsWritten =
    help
    ≡ line (codes "cip annotate [--nodes N] [--workers N] [--rule1b Y]")
    (line (codes "cip explain [--nodes N] [--workers N] [--rule1b Y]")
    (line (codes "cip make --start N --records N")
    (line (codes "cip trial --start N --records N [--nodes N] [--workers N] [--rule1b Y]")
    (line (codes "cip set --record N --atom N --letter L [--nodes N] [--workers N] [--rule1b Y]")
    (line (codes "cip mirror [--nodes N] [--workers N] [--rule1b Y]")
    (line (codes "cip groups [--nodes N] [--workers N] [--rule1b Y]")
    (line (codes "cip axes [--nodes N] [--workers N] [--rule1b Y]")
    (line (codes "cip help") []))))))))
