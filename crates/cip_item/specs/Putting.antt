-- A record with a label item put in. CTfile Formats, SDfile data items; the name and the place of the item, and the
-- line ends that it needs, are own.
use Rattle.std.specs.Prelude.{ℕ, List, [], ◌∷◌, ◌++◌, Bool, true, false, not, ◌==◌, ◌&&◌, codes, if◌then◌else◌}
use Rattle.std.specs.List.{flat_map, list_any}
use Rattle.cip_text.specs.Lines.{line_feed, carriage_return, ends_with_byte, lf, crlf}
use Rattle.cip_text.specs.Kinds.{is_blank, is_terminator}
use Rattle.cip_text.specs.Kinds.{is_molecule_end}
use Rattle.cip_text.specs.Bodies.{body_contents}
use Rattle.cip_text.specs.Bodies.{body, closing}
use Rattle.cip_item.specs.Kinds.{label_name}

-- the first LF is right after a CR; where there is none, the last byte is a CR
abbrev pub has_returns : Bool → List ℕ → Bool
has_returns behind_return [] = behind_return
has_returns behind_return (b ∷ bs) = if b == line_feed then behind_return else has_returns (b == carriage_return) bs

abbrev pub line_end_for : List ℕ → List ℕ
line_end_for bytes = if has_returns false bytes then crlf else lf

-- The end that the last line lacks, if it lacks one. Where it ends with a CR that end is CRLF, so that the CR stays
-- content.
abbrev pub missing_end : List ℕ → List ℕ → List ℕ
missing_end end [] = []
missing_end end (b ∷ bs) =
    if ends_with_byte line_feed (b ∷ bs) then []
    else if ends_with_byte carriage_return (b ∷ bs) then crlf
    else end

-- lines follow the first `M  END` line, and the last of them isn't blank
abbrev pub needs_gap : Bool → Bool → List (List ℕ) → Bool
needs_gap ended filled [] = filled
needs_gap ended filled (content ∷ contents) =
    if ended then needs_gap true (not (is_blank content)) contents
    else needs_gap (is_molecule_end content) filled contents

-- an empty line before the item, where it would otherwise go on from another one
abbrev pub gap : List ℕ → List ℕ → List ℕ
gap end bytes = if needs_gap false false (body_contents bytes) then end else []

-- the item

unfoldable pub heading : List ℕ
heading = codes "> " ++ label_name

-- the heading, the values and an empty line
abbrev pub item : List ℕ → List (List ℕ) → List ℕ
item end values = heading ++ (end ++ (flat_map (λ value. value ++ end) values ++ end))

-- a record with an item of these values before its terminator line, or at its end
abbrev pub with_item : List ℕ → List (List ℕ) → List ℕ
with_item bytes values =
    let end : List ℕ = line_end_for bytes in
    body bytes ++ (missing_end end (body bytes) ++ (gap end bytes ++ (item end values ++ closing bytes)))

-- a record with the line ends that the item needs, and without it
abbrev pub prepared : List ℕ → List ℕ
prepared bytes =
    let end : List ℕ = line_end_for bytes in
    body bytes ++ (missing_end end (body bytes) ++ (gap end bytes ++ closing bytes))

-- what may be a value: not blank, neither CR nor LF in it, no terminator line and no end of a molecule
abbrev pub is_value : List ℕ → Bool
is_value value =
    not (is_blank value) && not (list_any (λ b. b == line_feed) value)
    && not (list_any (λ b. b == carriage_return) value)
    && not (is_terminator value) && not (is_molecule_end value)
