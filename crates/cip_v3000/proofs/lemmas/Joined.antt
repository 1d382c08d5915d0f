-- One line more of the joined lines.
use Rattle.std.proofs.Common.{◌≡◌, ℕ, ◌-◌, ◌+◌, ◌≤◌, ◌<◌, List, [], ◌∷◌, ◌++◌, refl, sym, ap, ◌∙◌, arith, length, take, drop, get_or, true, false, append_assoc}
use Rattle.std.proofs.lemmas.List.{append-nil, take_more, drop_more, drop_all, get_or-drop, length-drop, length-take, length-map, map-append}
use Rattle.std.specs.Borrow.{Bor}
use Rattle.std.specs.List.{flat_map}
use Rattle.cip_mol.specs.declared.labels.refusal.ReadCause.TheVariants.{Short, Frame}
use Rattle.cip_text.specs.Slices.{texts}
use Rattle.cip_ctfile.proofs.lemmas.Texts.{drop_texts, drop_texts_past}
use Rattle.cip_v3000.specs.JoinedLines.{LogicalLine, JoinedLines, begins_v30, is_continued, part_of, behind, joined_from}
use Rattle.cip_v3000.specs.Joining.{with_before, parts_at, rest_from}

-- a line more is a part more
part_more : (lines : List (Bor (List ℕ))) (first place : ℕ) (d : Bor (List ℕ)) → first ≤ place → place < length lines
    → parts_at lines first (place + 1) ≡ parts_at lines first place ++ (get_or lines place d).now ∷ []
part_more lines first place d le lt =
    let n : place + 1 - first ≡ (place - first) + 1 = omega (arith, le) in
    let m : first + (place - first) ≡ place = omega (arith, le) in
    let e : get_or (drop first lines) (place - first) d
    ≡ get_or lines place d = get_or-drop first lines (place - first) d ∙ ap (λ k. get_or lines k d) m in
    let more : take (place + 1 - first) (drop first lines) ≡ take (place - first) (drop first lines)
    ++ get_or lines place d ∷ []
    = rw n (take_more (drop first lines) (place - first) d (omega (arith, le, lt, length-drop first lines))
    ∙ ap (λ x. take (place - first) (drop first lines) ++ x ∷ []) e) in
    ap texts more ∙ map-append (λ (line : Bor (List ℕ)). line.now) (take (place - first) (drop first lines))
    (get_or lines place d ∷ [])

number_at : (lines : List (Bor (List ℕ))) (first place : ℕ) → first ≤ place → place ≤ length lines
    → first + 1 + length (parts_at lines first place) ≡ place + 1
number_at lines first place le up =
    let parts = length-map (take (place - first) (drop first lines)) (λ (line : Bor (List ℕ)). line.now) in
    omega (arith, le, up, parts, length-take (place - first) (drop first lines), length-drop first lines)

-- a line that doesn't begin as it has to
pub line_refused : (before : List LogicalLine) (lines : List (Bor (List ℕ))) (first place : ℕ) (d : Bor (List ℕ))
    (total : JoinedLines)
    → first ≤ place → place < length lines → begins_v30 (get_or lines place d).now ≡ false
    → with_before before (rest_from lines first place) ≡ total
    → record { lines = before; past = record { line = place + 1; cause = Frame } } ≡ total
line_refused before lines first place d total le lt begins is =
    let one : rest_from lines first place ≡ record { lines = []; past = record { line = place + 1; cause = Frame } }
    = rw (drop_texts lines place d lt, begins) (rw (number_at lines first place le (omega (arith, lt))) refl) in
    rw (sym (append-nil before)) (sym (ap (with_before before) one) ∙ is)

-- a line that goes on in the next
pub line_continued : (before : List LogicalLine) (lines : List (Bor (List ℕ))) (first place : ℕ) (d : Bor (List ℕ))
    (total : JoinedLines)
    → first ≤ place → place < length lines → begins_v30 (get_or lines place d).now ≡ true
    → is_continued (get_or lines place d).now ≡ true
    → with_before before (rest_from lines first place) ≡ total
    → with_before before (rest_from lines first (place + 1)) ≡ total
line_continued before lines first place d total le lt begins goes_on is =
    let one : rest_from lines first place ≡ rest_from lines first (place + 1)
    = rw (drop_texts lines place d lt, begins, goes_on, part_more lines first place d le lt) refl in
    sym (ap (with_before before) one) ∙ is

-- a line that doesn't
pub line_whole : (before : List LogicalLine) (lines : List (Bor (List ℕ))) (first place : ℕ) (d : Bor (List ℕ))
    (line : LogicalLine) (total : JoinedLines)
    → first ≤ place → place < length lines → begins_v30 (get_or lines place d).now ≡ true
    → is_continued (get_or lines place d).now ≡ false
    → line ≡ record { parts = parts_at lines first (place + 1); number = first + 1 }
    → with_before before (rest_from lines first place) ≡ total
    → with_before (before ++ line ∷ []) (rest_from lines (place + 1) (place + 1)) ≡ total
line_whole before lines first place d line total le lt begins ends made is =
    let next : joined_from (length lines + 1) (first + 1 + length (parts_at lines first place) + 1) []
    (drop (place + 1) (texts lines))
    ≡ rest_from lines (place + 1) (place + 1)
    = let z : place + 1 - (place + 1) ≡ 0 = omega arith in rw
    (z, number_at lines first place le (omega (arith, lt))) refl in
    let one : rest_from lines first place
    ≡ behind (record { parts = parts_at lines first (place + 1); number = first + 1 })
    (rest_from lines (place + 1) (place + 1))
    = rw (drop_texts lines place d lt, begins, ends, part_more lines first place d le lt, ← next) refl in
    let put : with_before (before ++ line ∷ []) (rest_from lines (place + 1) (place + 1))
    ≡ with_before before (behind line (rest_from lines (place + 1) (place + 1)))
    = ap (λ (all : List LogicalLine). record (rest_from lines (place + 1) (place + 1)) { lines = all })
    (append_assoc before (line ∷ []) (rest_from lines (place + 1) (place + 1)).lines) in
    put ∙ ap (λ (l : LogicalLine). with_before before (behind l (rest_from lines (place + 1) (place + 1)))) made
    ∙ sym (ap (with_before before) one) ∙ is

-- no line is left
pub lines_end : (before : List LogicalLine) (lines : List (Bor (List ℕ))) (first place : ℕ) (total : JoinedLines)
    → length lines ≤ place → with_before before (rest_from lines first place) ≡ total
    → record { lines = before; past = record { line = length lines + 1; cause = Short } } ≡ total
lines_end before lines first place total le is =
    let one : rest_from lines first place ≡ record {
      lines = [];
      past =
          record { line = length lines + 1; cause = Short };
    }
    = rw (drop_texts_past lines place le) refl in
    rw (sym (append-nil before)) (sym (ap (with_before before) one) ∙ is)

-- the text of parts, one more of them

pub part_joined : (so_far : List ℕ) (parts : List (Bor (List ℕ))) (place : ℕ) (d : Bor (List ℕ)) (part total : List ℕ)
    → place < length parts → part ≡ part_of (get_or parts place d).now
    → so_far ++ flat_map part_of (texts (drop place parts)) ≡ total
    → (so_far ++ part) ++ flat_map part_of (texts (drop (place + 1) parts)) ≡ total
part_joined so_far parts place d part total lt here is =
    let one : flat_map part_of (texts (drop place parts)) ≡ part ++ flat_map part_of (texts (drop (place + 1) parts))
    = rw (drop_more parts place d lt, here) refl in
    append_assoc so_far part (flat_map part_of (texts (drop (place + 1) parts)))
    ∙ ap (λ bytes. so_far ++ bytes) (sym one) ∙ is

pub parts_joined : (so_far : List ℕ) (parts : List (Bor (List ℕ))) (place : ℕ) (total : List ℕ) → length parts ≤ place
    → so_far ++ flat_map part_of (texts (drop place parts)) ≡ total → so_far ≡ total
parts_joined so_far parts place total past is =
    sym (append-nil so_far)
    ∙ ap (λ (left : List (Bor (List ℕ))). so_far ++ flat_map part_of (texts left)) (sym (drop_all place parts past))
    ∙ is

pub only_part : (parts : List (Bor (List ℕ))) (d : Bor (List ℕ)) → 1 ≤ length parts → length parts < 2
    → part_of (get_or parts 0 d).now ≡ flat_map part_of (texts parts)
only_part [] d some few = absurd (omega (arith, some))
only_part (part ∷ []) d some few = sym (append-nil (part_of part.now))
only_part (part ∷ other ∷ parts) d some few = absurd (omega (arith, few))
