-- The letters that can be asked of a centre, as words. Own.
use Rattle.std.specs.Prelude.{ℕ, List, codes, Some, None, if◌then◌else◌}
use Rattle.std.specs.declared.option.Option.{Option}
use Rattle.std.specs.Str.{bytes_eq}
use Rattle.cip_mol.specs.declared.labels.centre_letter.CentreLetter.{CentreLetter}
use Rattle.cip_mol.specs.declared.labels.centre_letter.CentreLetter.TheVariants.{R, S, SmallR, SmallS}

-- the letter that a word spells
abbrev pub letter_named : List ℕ → Option CentreLetter
letter_named word =
    if bytes_eq word (codes "R") then Some R
    else if bytes_eq word (codes "S") then Some S
    else if bytes_eq word (codes "r") then Some SmallR
    else if bytes_eq word (codes "s") then Some SmallS
    else None
