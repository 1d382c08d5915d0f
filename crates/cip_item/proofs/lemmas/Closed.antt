-- Lines of which the last one gets the end that it lacks.
use Rattle.std.proofs.Common.{◌≡◌, ◌<◌, ◌+◌, ◌++◌, ℕ, List, [], ◌∷◌, Bool, true, false, if◌then◌else◌, refl, sym, ◌∙◌, ap, arith, length, map, append_assoc, append-nil, length-append}
use Rattle.std.specs.List.{concat, list_all}
use Rattle.std.proofs.lemmas.Bool.{and_parts}
use Rattle.cip_text.specs.Lines.{ends_with_byte, content_of}
use Rattle.cip_text.specs.Laws.{has_line_feed, is_ended, are_ended}
use Rattle.cip_item.specs.Putting.{missing_end}
use Rattle.cip_text.specs.Lines.{crlf}
use Rattle.cip_text.proofs.lemmas.Ended.{end_as, ends, last_open}
use Rattle.cip_text.proofs.lemmas.LastBytes.{last_behind, last_lacks, last_ended, content_of_open, content_before_crlf, content_before_end}

-- which end a text lacks

missing_is : (end text : List ℕ) → 0 < length text
    → missing_end end text ≡ (if ends_with_byte 10 text then [] else if ends_with_byte 13 text then crlf else end)
missing_is end [] some = absurd (omega arith)
missing_is end (b ∷ bs) some = refl

some_before : (before behind : List ℕ) → 0 < length behind → 0 < length (before ++ behind)
some_before before behind some =
    let n : length (before ++ behind) ≡ length before + length behind = length-append before behind in
    omega (arith, n, some)

pub missing_behind : (end before behind : List ℕ) → 0 < length behind
    → missing_end end (before ++ behind) ≡ missing_end end behind
missing_behind end before behind some =
    missing_is end (before ++ behind) (some_before before behind some)
    ∙ rw (last_behind 10 before behind some, last_behind 13 before behind some) (sym (missing_is end behind some))

some_ended : (line : List ℕ) → is_ended line ≡ true → 0 < length line
some_ended [] h = absurd (grind (arith, h))
some_ended (b ∷ bs) h = omega arith

pub none_missing : (end line : List ℕ) → is_ended line ≡ true → missing_end end line ≡ []
none_missing end line h = missing_is end line (some_ended line h) ∙ rw (last_ended line h) refl

pub crlf_missing : (end line : List ℕ) → 0 < length line → has_line_feed line ≡ false → ends_with_byte 13 line ≡ true
    → missing_end end line ≡ crlf
crlf_missing end line some h r = missing_is end line some ∙ rw (last_lacks 10 line h, r) refl

pub end_missing : (end line : List ℕ) → 0 < length line → has_line_feed line ≡ false → ends_with_byte 13 line ≡ false
    → missing_end end line ≡ end
end_missing end line some h r = missing_is end line some ∙ rw (last_lacks 10 line h, r) refl

-- one line with the end that it lacked

record Closes (line closed : List ℕ) : Type 0 where
  content : content_of closed ≡ content_of line
  ended : is_ended closed ≡ true

closes_open : (line : List ℕ) (returns k : Bool) → ends_with_byte 13 line ≡ k → 0 < length line → has_line_feed line ≡ false
    → Closes line (line ++ missing_end (end_as returns) line)
closes_open line returns true e some h =
    rw (crlf_missing (end_as returns) line some h e)
    (record { content = content_before_crlf line ∙ sym (content_of_open line h); ended = ends line true h })
closes_open line returns false e some h =
    rw (end_missing (end_as returns) line some h e)
    (record {
      content = content_before_end line returns e ∙ sym (content_of_open line h);
      ended = ends line returns h;
    })

closes : (line : List ℕ) (returns k : Bool) → is_ended line ≡ k → are_ended (line ∷ []) ≡ true
    → Closes line (line ++ missing_end (end_as returns) line)
closes line returns true e h = rw (none_missing (end_as returns) line e, append-nil line)
    (record { content = refl; ended = e })
closes line returns false e h =
    let is_open = last_open line e h in
    closes_open line returns (ends_with_byte 13 line) refl is_open.0 is_open.1

-- all lines

abbrev pub closed : List ℕ → List (List ℕ) → List (List ℕ)
closed end [] = []
closed end (line ∷ []) = (line ++ missing_end end line) ∷ []
closed end (line ∷ next ∷ lines) = line ∷ closed end (next ∷ lines)

pub closed_contents : (returns : Bool) (lines : List (List ℕ)) → are_ended lines ≡ true
    → map content_of (closed (end_as returns) lines) ≡ map content_of lines
closed_contents returns [] h = refl
closed_contents returns (line ∷ []) h = rw (closes line returns (is_ended line) refl h).content refl
closed_contents returns (line ∷ next ∷ lines) h =
    ap (λ xs. content_of line ∷ xs) (closed_contents returns (next ∷ lines)
    (and_parts (is_ended line) (are_ended (next ∷ lines)) h).1)

pub closed_ended : (returns : Bool) (lines : List (List ℕ)) → are_ended lines ≡ true
    → list_all is_ended (closed (end_as returns) lines) ≡ true
closed_ended returns [] h = refl
closed_ended returns (line ∷ []) h = rw (closes line returns (is_ended line) refl h).ended refl
closed_ended returns (line ∷ next ∷ lines) h =
    let each = and_parts (is_ended line) (are_ended (next ∷ lines)) h in
    rw (each.0, closed_ended returns (next ∷ lines) each.1) refl

some_text : (line : List ℕ) (lines : List (List ℕ)) → are_ended (line ∷ lines) ≡ true
    → 0 < length (concat (line ∷ lines))
some_text [] [] h = absurd (grind (arith, h))
some_text [] (next ∷ lines) h = absurd (grind (arith, h))
some_text (b ∷ bs) lines h = omega arith

pub closed_text : (end : List ℕ) (lines : List (List ℕ)) → are_ended lines ≡ true
    → concat (closed end lines) ≡ concat lines ++ missing_end end (concat lines)
closed_text end [] h = refl
closed_text end (line ∷ []) h = rw (append-nil line, append-nil (line ++ missing_end end line)) refl
closed_text end (line ∷ next ∷ lines) h =
    let each = and_parts (is_ended line) (are_ended (next ∷ lines)) h in
    rw (
      closed_text end (next ∷ lines) each.1,
      missing_behind end line (concat (next ∷ lines)) (some_text next lines each.1),
    )
    (sym (append_assoc line (concat (next ∷ lines)) (missing_end end (concat (next ∷ lines)))))
