-- Parts that are longer than the limit.
use Rattle.std.proofs.Common.{◌≡◌, ◌<◌, ◌+◌, ℕ, List, [], ◌∷◌, ◌++◌, length, Bool, true, false, refl, ap, arith, length-append, append-nil, ◌&&◌, sym, ◌∙◌}
use Rattle.std.specs.List.{take_while, list_all}
use Rattle.std.proofs.lemmas.List.Sums.{take_while-cons}
use Rattle.std.proofs.lemmas.List.Folds.{list_all-append}
use Rattle.std.proofs.lemmas.Grind.{common_steps}
use Rattle.cip_frame.specs.Records.{Cut, is_closing, open_line, cut_of}
use Rattle.cip_frame.specs.Framing.{fits, all_fit}
use Rattle.cip_frame.specs.Following.{closes, cut_behind}
use Rattle.cip_frame.specs.Taking.{is_line}
use Rattle.cip_frame.proofs.lemmas.Cutting.{cut_closing, cut_open, cuts_follow}
use Rattle.std.proofs.lemmas.Bool.{and_parts}
use Rattle.cip_frame.proofs.lemmas.PieceLines.{line_closing, line_open}

-- a part is longer than the limit, and none before it is whole
pub record IsOver (limit : ℕ) (cut : Cut) : Type 0 where
  pub over : all_fit limit cut ≡ false
  pub none : take_while (fits limit) cut.whole ≡ []

over_first : (limit : ℕ) (front : List ℕ) (cut : Cut) → limit < length front
    → IsOver limit (record { whole = front ∷ cut.whole; rest = cut.rest })
over_first limit front cut more = record {
  over = grind (arith, common_steps);
  none = grind (arith, common_steps, take_while-cons);
}

over_byte : (limit : ℕ) (front : List ℕ) (b : ℕ) (bs : List ℕ) (k : Bool) → closes front b ≡ k
    → limit < length (front ++ b ∷ []) → IsOver limit (cut_behind (front ++ b ∷ []) bs)
    → IsOver limit (cut_behind front (b ∷ bs))
over_byte limit front b bs true k more later =
    rw (cut_closing front b bs k) (over_first limit (front ++ b ∷ []) (cut_behind [] bs) more)
over_byte limit front b bs false k more later = rw (cut_open front b bs k) later

-- the front is longer than the limit, and so is the part that it begins
pub over_front : (limit : ℕ) (front bs : List ℕ) → limit < length front → IsOver limit (cut_behind front bs)
over_front limit front [] more = record { over = grind (arith, common_steps); none = refl }
over_front limit front (b ∷ bs) more =
    let longer : limit < length (front ++ b ∷ []) = rw (length-append front (b ∷ [])) (omega arith) in
    over_byte limit front b bs (closes front b) refl longer (over_front limit (front ++ b ∷ []) bs longer)

over_line_by : (limit : ℕ) (front line behind : List ℕ) (k : Bool) → is_closing (open_line front ++ line) ≡ k
    → is_line line ≡ true → limit < length (front ++ line) → IsOver limit (cut_behind front (line ++ behind))
over_line_by limit front line behind true k h more =
    rw (line_closing front line behind h k) (over_first limit (front ++ line) (cut_behind [] behind) more)
over_line_by limit front line behind false k h more =
    rw (line_open front line behind h k) (over_front limit (front ++ line) behind more)

-- so it is where the front is longer with the next line
pub over_line : (limit : ℕ) (front line behind : List ℕ) → is_line line ≡ true → limit < length front + length line
    → IsOver limit (cut_behind front (line ++ behind))
over_line limit front line behind h more =
    let longer : limit < length (front ++ line) = rw (length-append front line) more in
    over_line_by limit front line behind (is_closing (open_line front ++ line)) refl h longer

-- records up to the first that doesn't fit

pub take_fitting : (limit : ℕ) (xs ys : List (List ℕ)) → list_all (fits limit) xs ≡ true
    → take_while (fits limit) (xs ++ ys) ≡ xs ++ take_while (fits limit) ys
take_fitting limit [] ys h = refl
take_fitting limit (x ∷ xs) ys h =
    let parts = and_parts (fits limit x) (list_all (fits limit) xs) h in
    rw (take_while-cons (fits limit) x (xs ++ ys), parts.0) (ap (λ rest. x ∷ rest) (take_fitting limit xs ys parts.1))

take_all_fitting : (limit : ℕ) (xs : List (List ℕ)) → list_all (fits limit) xs ≡ true → take_while (fits limit) xs ≡ xs
take_all_fitting limit xs h = ap (take_while (fits limit)) (sym (append-nil xs)) ∙ take_fitting limit xs [] h
    ∙ append-nil xs

take_stops_by : (limit : ℕ) (x : List ℕ) (xs ys : List (List ℕ)) (k : Bool) → fits limit x ≡ k
    → (k && list_all (fits limit) xs) ≡ false
    → (list_all (fits limit) xs ≡ false → take_while (fits limit) (xs ++ ys) ≡ take_while (fits limit) xs)
    → take_while (fits limit) (x ∷ (xs ++ ys)) ≡ take_while (fits limit) (x ∷ xs)
take_stops_by limit x xs ys true e h more = rw
    (take_while-cons (fits limit) x (xs ++ ys), take_while-cons (fits limit) x xs, e) (ap (λ rest. x ∷ rest) (more h))
take_stops_by limit x xs ys false e h more = rw
    (take_while-cons (fits limit) x (xs ++ ys), take_while-cons (fits limit) x xs, e) refl

take_stops : (limit : ℕ) (xs ys : List (List ℕ)) → list_all (fits limit) xs ≡ false
    → take_while (fits limit) (xs ++ ys) ≡ take_while (fits limit) xs
take_stops limit [] ys h = absurd (grind (arith, h))
take_stops limit (x ∷ xs) ys h = take_stops_by limit x xs ys (fits limit x) refl h (take_stops limit xs ys)

-- bytes that follow change nothing, once a part is too long

pub record IsStopped (limit : ℕ) (xs ys : List ℕ) : Type 0 where
  pub passed : all_fit limit (cut_of (xs ++ ys)) ≡ false
  pub records : take_while (fits limit) (cut_of (xs ++ ys)).whole ≡ take_while (fits limit) (cut_of xs).whole

longer : (limit : ℕ) (part : List ℕ) → fits limit part ≡ false → limit < length part
longer limit part h = grind (arith, common_steps)

stopped_by : (limit : ℕ) (xs ys : List ℕ) (k : Bool) → list_all (fits limit) (cut_of xs).whole ≡ k
    → all_fit limit (cut_of xs) ≡ false → IsStopped limit xs ys
stopped_by limit xs ys true e h =
    let over = over_front limit (cut_of xs).rest ys (longer limit (cut_of xs).rest (rw e at h)) in
    record {
      passed = ap (all_fit limit) (cuts_follow xs ys)
          ∙ (rw (list_all-append (fits limit) (cut_of xs).whole (cut_behind (cut_of xs).rest ys).whole, e) over.over);
      records = ap (λ (cut : Cut). take_while (fits limit) cut.whole) (cuts_follow xs ys)
          ∙ take_fitting limit (cut_of xs).whole (cut_behind (cut_of xs).rest ys).whole e
          ∙ ap (λ rest. (cut_of xs).whole ++ rest) over.none
          ∙ append-nil (cut_of xs).whole
          ∙ sym (take_all_fitting limit (cut_of xs).whole e);
    }
stopped_by limit xs ys false e h = record {
  passed = ap (all_fit limit) (cuts_follow xs ys)
      ∙ (rw (list_all-append (fits limit) (cut_of xs).whole (cut_behind (cut_of xs).rest ys).whole, e) refl);
  records = ap (λ (cut : Cut). take_while (fits limit) cut.whole) (cuts_follow xs ys)
      ∙ take_stops limit (cut_of xs).whole (cut_behind (cut_of xs).rest ys).whole e;
}

pub stopped : (limit : ℕ) (xs ys : List ℕ) → all_fit limit (cut_of xs) ≡ false → IsStopped limit xs ys
stopped limit xs ys h = stopped_by limit xs ys (list_all (fits limit) (cut_of xs).whole) refl h
