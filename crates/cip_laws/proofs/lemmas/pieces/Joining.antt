-- The parts of a cut stream, joined.
use Rattle.std.proofs.Common.{◌≡◌, ℕ, List, [], ◌∷◌, ◌++◌, Bool, true, false, refl, sym, ◌∙◌, ap, append_assoc, append-nil}
use Rattle.std.specs.List.{concat}
use Rattle.std.proofs.lemmas.List.Folds.{concat-append}
use Rattle.cip_text.specs.Lines.{lines_of}
use Rattle.cip_text.proofs.lemmas.Firsts.{lines_join}
use Rattle.cip_frame.specs.Records.{Cut, joined_to, is_closing, cut_lines, cut_of, is_blank_text, records_of, blank_tail}

abbrev pub joined : Cut → List ℕ
joined cut = concat cut.whole ++ cut.rest

joined_to_joins : (front : List ℕ) (parts : List (List ℕ)) (rest : List ℕ)
    → joined (joined_to front parts rest) ≡ front ++ (concat parts ++ rest)
joined_to_joins front [] rest = refl
joined_to_joins front (part ∷ parts) rest =
    append_assoc (front ++ part) (concat parts) rest ∙ append_assoc front part (concat parts ++ rest)
    ∙ ap (λ xs. front ++ xs) (sym (append_assoc part (concat parts) rest))

line_joins : (line : List ℕ) (lines : List (List ℕ)) (k : Bool) → is_closing line ≡ k
    → joined (cut_lines lines) ≡ concat lines → joined (cut_lines (line ∷ lines)) ≡ line ++ concat lines
line_joins line lines true e more = rw e (append_assoc line (concat (cut_lines lines).whole) (cut_lines lines).rest
    ∙ ap (λ xs. line ++ xs) more)
line_joins line lines false e more = rw e (joined_to_joins line (cut_lines lines).whole (cut_lines lines).rest
    ∙ ap (λ xs. line ++ xs) more)

lines_joined : (lines : List (List ℕ)) → joined (cut_lines lines) ≡ concat lines
lines_joined [] = refl
lines_joined (line ∷ lines) = line_joins line lines (is_closing line) refl (lines_joined lines)

pub cuts_join : (bytes : List ℕ) → joined (cut_of bytes) ≡ bytes
cuts_join bytes = lines_joined (lines_of bytes) ∙ lines_join bytes

records_join_by : (bytes : List ℕ) (k : Bool) → is_blank_text (cut_of bytes).rest ≡ k
    → concat (records_of bytes) ++ blank_tail bytes ≡ joined (cut_of bytes)
records_join_by bytes true e = rw (e, append-nil (cut_of bytes).whole) refl
records_join_by bytes false e =
    rw (
      e,
      concat-append (cut_of bytes).whole ((cut_of bytes).rest ∷ []),
      append-nil (cut_of bytes).rest,
      append-nil (concat (cut_of bytes).whole ++ (cut_of bytes).rest),
    ) refl

-- the records in order, and the blank tail after them, are the stream
pub records_join : (bytes : List ℕ) → concat (records_of bytes) ++ blank_tail bytes ≡ bytes
records_join bytes = records_join_by bytes (is_blank_text (cut_of bytes).rest) refl ∙ cuts_join bytes
