-- The content and the end of a line of a text, and the line of another content with the same end.
use Rattle.std.proofs.Common.{◌≡◌, ◌<◌, ◌++◌, ℕ, List, [], ◌∷◌, Bool, true, false, ◌==◌, ◌||◌, refl, sym, ◌∙◌, ap, arith, length, drop, append_assoc, append-nil}
use Rattle.std.proofs.lemmas.Bool.{or_parts, or_from}
use Rattle.std.proofs.lemmas.Grind.{common_steps}
use Rattle.std.proofs.lemmas.List.Folds.{list_any-append}
use Rattle.std.proofs.Math.Seq.{drop-append_seam}
use Rattle.cip_text.specs.Lines.{ends_with_byte, content_of, end_of, lf, crlf}
use Rattle.cip_text.specs.Laws.{has_line_feed, is_ended, are_ended}
use Rattle.cip_text.proofs.lemmas.Ended.{end_as, ends, last_open}
use Rattle.cip_text.proofs.lemmas.LastBytes.{last_behind, content_before_crlf, content_before_end, content_of_open}

-- a text that ends with a byte

abbrev EndsWith : ℕ → List ℕ → Type 0
EndsWith c text = (front : List ℕ) × (text ≡ front ++ c ∷ [])

last_one : (b c : ℕ) (k : Bool) → (b == c) ≡ k → ends_with_byte c (b ∷ []) ≡ true → EndsWith c (b ∷ [])
last_one b c true e h = let same : b ≡ c = grind (arith, common_steps) in ([], ap (λ x. x ∷ []) same)
last_one b c false e h = absurd (grind (arith, common_steps, rw e at h))

ends_with : (c : ℕ) (text : List ℕ) → ends_with_byte c text ≡ true → EndsWith c text
ends_with c [] h = absurd (grind (arith, h))
ends_with c (b ∷ []) h = last_one b c (b == c) refl h
ends_with c (b ∷ d ∷ ds) h =
    let more = ends_with c (d ∷ ds) (sym (last_behind c (b ∷ []) (d ∷ ds) (omega arith)) ∙ h) in
    (b ∷ more.0, ap (λ xs. b ∷ xs) more.1)

-- a line that ends, by what is before its LF

abbrev BeforeFeed : List ℕ → Type 0
BeforeFeed line = (front : List ℕ) × (line ≡ front ++ lf) × (has_line_feed front ≡ false)

feed_byte : (b : ℕ) (bs : List ℕ) (k : Bool) → (b == 10) ≡ k → is_ended (b ∷ bs) ≡ true
    → (is_ended bs ≡ true → BeforeFeed bs) → BeforeFeed (b ∷ bs)
feed_byte b [] true e h more =
    let same : b ≡ 10 = grind (arith, common_steps) in ([], ap (λ x. x ∷ []) same, refl)
feed_byte b (d ∷ ds) true e h more = absurd (grind (arith, common_steps, rw e at h))
feed_byte b bs false e h more =
    let rest = more (rw e at h) in
    (b ∷ rest.0, ap (λ xs. b ∷ xs) rest.1, or_from (b == 10) (has_line_feed rest.0) e rest.2)

before_feed : (line : List ℕ) → is_ended line ≡ true → BeforeFeed line
before_feed [] h = absurd (grind (arith, h))
before_feed (b ∷ bs) h = feed_byte b bs (b == 10) refl h (before_feed bs)

-- a line is its content with one of three ends after it

pub record IsEndedLine (line : List ℕ) (returns : Bool) : Type 0 where
  pub end : end_of line ≡ end_as returns
  pub free : has_line_feed (content_of line) ≡ false
  pub plain : returns ≡ false → ends_with_byte 13 (content_of line) ≡ false

pub record IsOpenLine (line : List ℕ) : Type 0 where
  pub end : end_of line ≡ []
  pub content : content_of line ≡ line
  pub some : 0 < length line
  pub free : has_line_feed line ≡ false

end_behind : (content end line : List ℕ) → content_of line ≡ content → line ≡ content ++ end → end_of line ≡ end
end_behind content end line is whole =
    rw is (ap (drop (length content)) whole ∙ drop-append_seam content end)

returned : (front line : List ℕ) → line ≡ front ++ crlf → has_line_feed front ≡ false → IsEndedLine line true
returned front line whole free =
    let is : content_of line ≡ front = ap content_of whole ∙ content_before_crlf front in
    record {
      end = end_behind front crlf line is whole;
      free = ap has_line_feed is ∙ free;
      plain = λ e. absurd cc;
    }

fed : (front line : List ℕ) → line ≡ front ++ lf → has_line_feed front ≡ false → ends_with_byte 13 front ≡ false
    → IsEndedLine line false
fed front line whole free plain =
    let is : content_of line ≡ front = ap content_of whole ∙ content_before_end front false plain in
    record {
      end = end_behind front lf line is whole;
      free = ap has_line_feed is ∙ free;
      plain = λ e. ap (ends_with_byte 13) is ∙ plain;
    }

ended_by : (front line : List ℕ) (k : Bool) → ends_with_byte 13 front ≡ k → line ≡ front ++ lf
    → has_line_feed front ≡ false → (returns : Bool) × IsEndedLine line returns
ended_by front line true e whole free =
    let more = ends_with 13 front e in
    let feeds : (has_line_feed more.0 || has_line_feed (13 ∷ [])) ≡ false =
    sym (list_any-append (λ b. b == 10) more.0 (13 ∷ [])) ∙ ap has_line_feed (sym more.1) ∙ free in (
      true,
      returned more.0 line (whole ∙ ap (λ xs. xs ++ lf) more.1 ∙ append_assoc more.0 (13 ∷ []) lf)
          (or_parts (has_line_feed more.0) (has_line_feed (13 ∷ [])) feeds).0,
    )
ended_by front line false e whole free = (false, fed front line whole free e)

pub ended_line : (line : List ℕ) → is_ended line ≡ true → (returns : Bool) × IsEndedLine line returns
ended_line line h =
    let b = before_feed line h in
    ended_by b.0 line (ends_with_byte 13 b.0) refl b.1 b.2

pub open_line : (line : List ℕ) → is_ended line ≡ false → are_ended (line ∷ []) ≡ true → IsOpenLine line
open_line line e h =
    let is = last_open line e h in
    let same : content_of line ≡ line = content_of_open line is.1 in
    record {
      end = end_behind line [] line same (sym (append-nil line));
      content = same;
      some = is.0;
      free = is.1;
    }

-- another content with the end of a line

pub record IsLineOf (content line : List ℕ) : Type 0 where
  pub is : content_of line ≡ content
  pub ended : is_ended line ≡ true

pub with_end : (returns : Bool) (content : List ℕ) → has_line_feed content ≡ false
    → (returns ≡ false → ends_with_byte 13 content ≡ false) → IsLineOf content (content ++ end_as returns)
with_end true content free plain = record { is = content_before_crlf content; ended = ends content true free }
with_end false content free plain =
    record { is = content_before_end content false (plain refl); ended = ends content false free }
