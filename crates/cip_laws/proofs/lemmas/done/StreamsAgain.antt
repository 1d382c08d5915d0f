-- Annotating the text that is due for a stream.
use Rattle.std.proofs.Common.{◌≡◌, ◌+◌, ◌++◌, ◌&&◌, ◌||◌, ℕ, List, [], ◌∷◌, Bool, true, false, None, map, refl, sym, ◌∙◌, ap, subst, append-nil, if◌then◌else◌}
use Rattle.std.specs.List.{AllByRecursion, concat, list_all}
use Rattle.std.proofs.lemmas.List.{map-append}
use Rattle.std.proofs.lemmas.List.Folds.{list_all-append, concat-append}
use Rattle.std.proofs.Math.Bool.{and-false}
use Rattle.cip_text.specs.Bodies.{body_lines, body_contents, closing, closing_lines}
use Rattle.cip_text.specs.Kinds.{is_blank}
use Rattle.cip_text.specs.Lines.{lines_of, content_of}
use Rattle.cip_frame.specs.Records.{Cut, cut_of, is_blank_text, last_of, records_of, blank_tail}
use Rattle.cip_laws.proofs.lemmas.pieces.Parts.{cut_as, IsOne, parts_of, cuts_of_all, one_alike, open_alike}
use Rattle.cip_item.specs.Parts.{without_label_items}
use Rattle.cip_item.specs.Putting.{heading}
use Rattle.cip_item.proofs.lemmas.ItemLines.{item_contents}
use Rattle.cip_item.proofs.lemmas.NoLabels.{both, closing_kept}
use Rattle.cip_item.proofs.lemmas.TakenOut.{all_lines, all_contents, made_with_item, gap_of, gap_contents}
use Rattle.cip_item.proofs.lemmas.Made.{IsMade}
use Rattle.cip_print.specs.Values.{values_of}
use Rattle.cip_laws.proofs.lemmas.item_values.Fit.{values_are_fit}
use Rattle.cip_rank.specs.declared.rules.Rules.{Rules}
use Rattle.cip_answer.specs.Answers.{answer_by, is_flagged}
use Rattle.cip_batch.specs.declared.limits.Limits.{Limits}
use Rattle.cip_batch.specs.Due.{are_flagged, due, texts_from, verdict_from}
use Rattle.cip_batch.specs.Limits.{limit_place, answered}
use Rattle.cip_batch.proofs.lemmas.Dividing.{due_within, answered_within}
use Rattle.cip_laws.specs.runs.Repeating.{EndsAsItSays, StreamsRepeat}
use Rattle.cip_commands.specs.Telling.{annotated, annotating, is_flagged_record}
use Rattle.cip_laws.proofs.lemmas.done.Repeating.{text_is, annotating_repeats}

module _ (rules : Rules) (nodes : ℕ) where
  abbrev again : List ℕ → List ℕ
  again bytes = annotated rules nodes bytes

  abbrev values : List ℕ → List (List ℕ)
  values bytes = values_of nodes rules (answer_by rules nodes bytes)

  abbrev bare : List ℕ → List ℕ
  bare bytes = without_label_items bytes

  made_again : (bytes : List ℕ) → IsMade (all_lines (bare bytes) (values bytes)) (bare bytes) (again bytes)
  made_again bytes = subst (IsMade (all_lines (bare bytes) (values bytes)) (bare bytes))
      (sym (text_is rules nodes bytes))
      (made_with_item (bare bytes) (values bytes) (values_are_fit nodes rules (answer_by rules nodes bytes)))

  -- a record keeps its closing
  same_closing : (bytes : List ℕ) → closing (again bytes) ≡ closing bytes
  same_closing bytes = (made_again bytes).closing ∙ closing_kept bytes

  all_again : (records : List (List ℕ)) → AllByRecursion IsOne records → AllByRecursion IsOne (map again records)
  all_again [] ones = tt
  all_again (bytes ∷ records) ones =
      (one_alike bytes (again bytes) (same_closing bytes) ones.0, all_again records ones.1)

  -- its item is no blank text

  heading_stands : is_blank heading ≡ false
  unfolding heading
  heading_stands = refl

  filled_behind : (before behind : List (List ℕ)) → list_all is_blank behind ≡ false
      → list_all is_blank (before ++ behind) ≡ false
  filled_behind before behind h = list_all-append is_blank before behind
      ∙ ap (λ b. list_all is_blank before && b) h ∙ and-false (list_all is_blank before)

  none_and : (before behind : List (List ℕ)) → list_all is_blank before ≡ false
      → list_all is_blank (before ++ behind) ≡ false
  none_and before behind h = list_all-append is_blank before behind ∙ ap (λ b. b && list_all is_blank behind) h

  item_filled : (lines : List (List ℕ)) → list_all is_blank (item_contents lines) ≡ false
  item_filled lines = rw heading_stands refl

  body_filled : (bytes : List ℕ) → list_all is_blank (body_contents (again bytes)) ≡ false
  body_filled bytes =
      ap (λ lines. list_all is_blank (map content_of lines)) (made_again bytes).body
      ∙ ap (list_all is_blank) (all_contents (bare bytes) (values bytes)
      (values_are_fit nodes rules (answer_by rules nodes bytes)))
      ∙ filled_behind (body_contents (bare bytes) ++ gap_contents (gap_of (bare bytes))) (item_contents (values bytes))
      (item_filled (values bytes))

  again_filled : (bytes : List ℕ) → is_blank_text (again bytes) ≡ false
  again_filled bytes =
      ap (λ lines. list_all is_blank (map content_of lines)) (sym (both (lines_of (again bytes))))
      ∙ ap (list_all is_blank) (map-append content_of (body_lines (lines_of (again bytes)))
      (closing_lines (lines_of (again bytes))))
      ∙ none_and (body_contents (again bytes)) (map content_of (closing_lines (lines_of (again bytes))))
      (body_filled bytes)

  -- the records of the text that is due

  abbrev text_of : List ℕ → List ℕ
  text_of bytes = concat (map again (records_of bytes)) ++ blank_tail bytes

  cut_blank : (bytes : List ℕ) → is_blank_text (cut_of bytes).rest ≡ true
      → cut_of (text_of bytes) ≡ cut_as (map again (cut_of bytes).whole) (cut_of bytes).rest
  cut_blank bytes k =
      rw (k, append-nil (cut_of bytes).whole)
      (cuts_of_all (map again (cut_of bytes).whole) (cut_of bytes).rest
      (all_again (cut_of bytes).whole (parts_of bytes).ones) (parts_of bytes).rest)

  last_text : (whole : List (List ℕ)) (rest : List ℕ)
      → concat (map again (whole ++ rest ∷ [])) ++ [] ≡ concat (map again whole) ++ again rest
  last_text whole rest = append-nil (concat (map again (whole ++ rest ∷ [])))
      ∙ ap concat (map-append again whole (rest ∷ [])) ∙ concat-append (map again whole) (again rest ∷ [])
      ∙ ap (λ text. concat (map again whole) ++ text) (append-nil (again rest))

  cut_last : (bytes : List ℕ) → is_blank_text (cut_of bytes).rest ≡ false
      → cut_of (text_of bytes) ≡ cut_as (map again (cut_of bytes).whole) (again (cut_of bytes).rest)
  cut_last bytes k =
      rw k (ap cut_of (last_text (cut_of bytes).whole (cut_of bytes).rest)
      ∙ cuts_of_all (map again (cut_of bytes).whole) (again (cut_of bytes).rest)
      (all_again (cut_of bytes).whole (parts_of bytes).ones)
      (open_alike (cut_of bytes).rest (again (cut_of bytes).rest) (same_closing (cut_of bytes).rest)
      (parts_of bytes).rest))

  abbrev records_in : Cut → List (List ℕ)
  records_in cut = cut.whole ++ last_of cut.rest

  abbrev tail_in : Cut → List ℕ
  tail_in cut = if is_blank_text cut.rest then cut.rest else []

  record StaysIn (old new : Cut) : Type 0 where
    records : records_in new ≡ map again (records_in old)
    tail : tail_in new ≡ tail_in old

  blank_stays : (old : Cut) → is_blank_text old.rest ≡ true → StaysIn old (cut_as (map again old.whole) old.rest)
  blank_stays old k = record {
    records = rw (k, append-nil old.whole) (append-nil (map again old.whole));
    tail = refl;
  }

  last_stays : (old : Cut) → is_blank_text old.rest ≡ false
      → StaysIn old (cut_as (map again old.whole) (again old.rest))
  last_stays old k = record {
    records = rw (again_filled old.rest, k) (sym (map-append again old.whole (old.rest ∷ [])));
    tail = rw (again_filled old.rest, k) refl;
  }

  stays_by : (bytes : List ℕ) (k : Bool) → is_blank_text (cut_of bytes).rest ≡ k
      → StaysIn (cut_of bytes) (cut_of (text_of bytes))
  stays_by bytes true k = subst (StaysIn (cut_of bytes)) (sym (cut_blank bytes k)) (blank_stays (cut_of bytes) k)
  stays_by bytes false k = subst (StaysIn (cut_of bytes)) (sym (cut_last bytes k)) (last_stays (cut_of bytes) k)

  -- texts and flags

  texts_are : (number : ℕ) (records : List (List ℕ))
      → texts_from (annotating rules nodes) number records ≡ concat (map again records)
  texts_are number [] = refl
  texts_are number (bytes ∷ records) = ap (λ text. again bytes ++ text) (texts_are (number + 1) records)

  due_is : (limits : Limits) (bytes : List ℕ) → limit_place limits bytes ≡ None
      → due (annotating rules nodes) limits bytes ≡ text_of bytes
  due_is limits bytes within = due_within (annotating rules nodes) limits bytes within
      ∙ ap (λ text. text ++ blank_tail bytes) (texts_are 1 (records_of bytes))

  texts_stay : (records : List (List ℕ)) → AllByRecursion (EndsAsItSays rules nodes) records
      → map again (map again records) ≡ map again records
  texts_stay [] says = refl
  texts_stay (bytes ∷ records) says =
      ap (λ text. text ∷ map again (map again records)) (annotating_repeats rules nodes bytes says.0).text
      ∙ ap (λ texts. again bytes ∷ texts) (texts_stay records says.1)

  flag_stays : (bytes : List ℕ) → EndsAsItSays rules nodes bytes
      → is_flagged_record rules nodes (again bytes) ≡ is_flagged_record rules nodes bytes
  unfolding is_flagged_record
  flag_stays bytes says = ap is_flagged (annotating_repeats rules nodes bytes says).answer

  abbrev flags_from : ℕ → List (List ℕ) → Bool
  flags_from number records = (verdict_from (annotating rules nodes) number records).flagged

  flags_stay : (number : ℕ) (records : List (List ℕ)) → AllByRecursion (EndsAsItSays rules nodes) records
      → flags_from number (map again records) ≡ flags_from number records
  flags_stay number [] says = refl
  flags_stay number (bytes ∷ records) says =
      ap (λ flag. flag || flags_from (number + 1) (map again records)) (flag_stays bytes says.0)
      ∙ ap (λ flags. is_flagged_record rules nodes bytes || flags) (flags_stay (number + 1) records says.1)

  stream_repeats : (limits : Limits) (bytes : List ℕ) → limit_place limits bytes ≡ None
      → limit_place limits (text_of bytes) ≡ None → AllByRecursion (EndsAsItSays rules nodes) (records_of bytes)
      → (due (annotating rules nodes) limits (text_of bytes) ≡ text_of bytes)
      × (are_flagged (annotating rules nodes) (answered limits (text_of bytes))
      ≡ are_flagged (annotating rules nodes) (answered limits bytes))
  stream_repeats limits bytes within text_within says =
      let stays : StaysIn (cut_of bytes) (cut_of (text_of bytes)) =
      stays_by bytes (is_blank_text (cut_of bytes).rest) refl in (
        due_is limits (text_of bytes) text_within
            ∙ ap (λ records. concat (map again records) ++ blank_tail (text_of bytes)) stays.records
            ∙ ap (λ tail. concat (map again (map again (records_of bytes))) ++ tail) stays.tail
            ∙ ap (λ records. concat records ++ blank_tail bytes) (texts_stay (records_of bytes) says),
        ap (are_flagged (annotating rules nodes)) (answered_within limits (text_of bytes) text_within ∙ stays.records)
            ∙ flags_stay 1 (records_of bytes) says
            ∙ ap (are_flagged (annotating rules nodes)) (sym (answered_within limits bytes within)),
      )

pub streams_repeat : StreamsRepeat
streams_repeat rules nodes limits bytes within text_within says =
    let is : due (annotating rules nodes) limits bytes ≡ text_of rules nodes bytes =
    due_is rules nodes limits bytes within in
    let repeats = stream_repeats rules nodes limits bytes within
    (sym (ap (limit_place limits) is) ∙ text_within) says in
    record {
      text = ap (due (annotating rules nodes) limits) is ∙ repeats.0 ∙ sym is;
      flags = ap (λ text. are_flagged (annotating rules nodes) (answered limits text)) is ∙ repeats.1;
    }
