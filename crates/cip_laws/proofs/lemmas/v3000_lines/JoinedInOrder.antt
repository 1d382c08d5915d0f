-- Joined lines decide in order, one after the other.
use Rattle.std.proofs.Common.{◌≡◌, ◌≢◌, ◌⊎◌, ◌≤◌, ◌+◌, ◌-◌, ℕ, zero, suc, List, [], ◌∷◌, ◌++◌, length, drop, Result, Ok, Err, Option, Some, None, Bool, true, false, not, cond, refl, sym, ap, ◌∙◌, subst, inl, inr, arith}
use Rattle.std.specs.Prelude.{slice_get}
use Rattle.std.specs.Option.{ok_or}
use Rattle.std.proofs.lemmas.Bool.{cases_lt}
use Rattle.std.proofs.lemmas.Option.{slice_get_past}
use Rattle.cip_mol.specs.declared.labels.refusal.ReadCause.{ReadCause}
use Rattle.cip_mol.specs.declared.labels.refusal.ReadCause.TheVariants.{Short, Frame}
use Rattle.cip_mol.specs.declared.labels.refusal.ReadFault.{ReadFault}
use Rattle.cip_ctfile.specs.Laws.{Reader}
use Rattle.cip_ctfile.specs.Reading.{◌>>=◌, numbered}
use Rattle.cip_laws.proofs.lemmas.reading.InOrder.{Decides, DecidesSomewhere, IsLineAt, IsFaultOf, line_there, same_fault, decided, gives, alike, alike_by, later, goes_on, one_after_another, there_decides, numbered_fails, drop_cases}
use Rattle.cip_laws.proofs.lemmas.reading.LineCauses.{IsOfLine}
use Rattle.cip_ctfile.proofs.lemmas.Rows.{length-push}
use Rattle.cip_v3000.specs.Grammar.{words_in, read_line, read_at}
use Rattle.cip_v3000.specs.JoinedLines.{LogicalLine, JoinedLines, begins_v30, is_continued, next_number, behind, joined_from, logical_lines}
use Rattle.cip_v3000.specs.Laws.{passes, is_part_at, is_continued_at, AreJoined, TellsAtFirstPart}

-- the joined line at a place, or the fault of asking for it
abbrev pub get : ℕ → JoinedLines → Result LogicalLine ReadFault
get place joined = ok_or (slice_get joined.lines place) joined.past

abbrev pub joined_at : ℕ → Reader LogicalLine
joined_at place lines = get place (logical_lines lines)

-- the joined line of which these parts came before this place
abbrev first_from : ℕ → List (List ℕ) → ℕ → Reader LogicalLine
first_from number begun place lines = get 0 (joined_from (length lines + 1) number begun (drop place lines))

-- what is read from one of its lines on
abbrev from_line : ℕ → List (List ℕ) → ℕ → List ℕ → Reader LogicalLine
from_line number begun place line lines =
    cond (not (begins_v30 line)) (Err (record { line = number + length begun; cause = Frame }))
    (cond (is_continued line) (first_from number (begun ++ line ∷ []) (place + 1) lines)
    (Ok (record { parts = begun ++ line ∷ []; number = number })))

get_by_tests : (broken continued : Bool) (refused more rest : JoinedLines) (line : LogicalLine)
    → get 0 (cond broken refused (cond continued more (behind line rest)))
    ≡ cond broken (get 0 refused) (cond continued (get 0 more) (Ok line))
get_by_tests true continued refused more rest line = refl
get_by_tests false true refused more rest line = refl
get_by_tests false false refused more rest line = refl

first_from-is : (number : ℕ) (begun : List (List ℕ)) (place : ℕ) (lines : List (List ℕ))
    → first_from number begun place lines
    ≡ (line_there place lines >>= λ line. from_line number begun place line lines)
first_from-is number begun place lines = elim (drop_cases place lines) [
  | inl none ↦ rw (none.0, none.1) refl
  | inr some ↦ rw (some.1, some.2) (get_by_tests (not (begins_v30 some.0)) (is_continued some.0) _ _ _ _)
]

-- the next joined line begins after the one before it
module _ (all : List (List ℕ)) (past : ℕ) where
  abbrev next_of : LogicalLine → Result LogicalLine ReadFault
  next_of line = get 0 (joined_from past (next_number line) [] (drop (next_number line - 1) all))

  next_by_tests : (broken continued : Bool) (refused more rest : JoinedLines) (line : LogicalLine) (place : ℕ)
      → refused.lines ≡ []
      → (get (suc place) more ≡ (get place more >>= next_of))
      → (get (suc place) (behind line rest) ≡ (get place (behind line rest) >>= next_of))
      → get (suc place) (cond broken refused (cond continued more (behind line rest)))
      ≡ (get place (cond broken refused (cond continued more (behind line rest))) >>= next_of)
  next_by_tests true continued refused more rest line place none goes_on ends = rw none refl
  next_by_tests false true refused more rest line place none goes_on ends = goes_on
  next_by_tests false false refused more rest line place none goes_on ends = ends

  next_behind : (line : LogicalLine) (rest : List (List ℕ)) (number place : ℕ) → number ≡ next_number line
      → rest ≡ drop (next_number line - 1) all
      → ((q : ℕ) → get (suc q) (joined_from past number [] rest)
      ≡ (get q (joined_from past number [] rest) >>= next_of))
      → get (suc place) (behind line (joined_from past number [] rest))
      ≡ (get place (behind line (joined_from past number [] rest)) >>= next_of)
  next_behind line rest number zero same left each = rw (same, left) refl
  next_behind line rest number (suc place) same left each = each place

  next_is : (rest : List (List ℕ)) (number : ℕ) (begun : List (List ℕ)) (at : ℕ)
      → number + length begun ≡ at + 1 → rest ≡ drop at all → (place : ℕ)
      → get (suc place) (joined_from past number begun rest)
      ≡ (get place (joined_from past number begun rest) >>= next_of)
  next_is [] number begun at counted is place = refl
  next_is (line ∷ rest) number begun at counted is place =
      let long : length (begun ++ line ∷ []) ≡ length begun + 1 = length-push begun line (length begun) refl in
      let left : rest ≡ drop (at + 1) all = left_over at all is in
      let end : number + length (begun ++ line ∷ []) - 1 ≡ at + 1 = omega (arith, counted, long) in
      next_by_tests (not (begins_v30 line)) (is_continued line) _ _ _ _ place refl
      (next_is rest number (begun ++ line ∷ []) (at + 1) (omega (arith, counted, long)) left place)
      (next_behind (record { parts = begun ++ line ∷ []; number = number }) rest (number + length begun + 1) place
      (omega (arith, long)) (left ∙ ap (λ n. drop n all) (sym end))
      (next_is rest (number + length begun + 1) [] (at + 1) (omega (arith, counted)) left))
    where
      left_over : {A : Type 0} {x : A} {xs : List A} (at : ℕ) (all : List A) → x ∷ xs ≡ drop at all
          → xs ≡ drop (at + 1) all
      left_over at all is = elim (drop_cases at all) [
        | inl none ↦ absurd (let e : _ ∷ _ ≡ [] = is ∙ none.1 in cc)
        | inr some ↦ (let e : _ ∷ _ ≡ some.0 ∷ drop (at + 1) all = is ∙ some.2 in cc)
      ]

joined_next : (place : ℕ) (lines : List (List ℕ)) → joined_at (suc place) lines
    ≡ (joined_at place lines >>= λ line. first_from (next_number line) [] (next_number line - 1) lines)
unfolding logical_lines
joined_next place lines = next_is lines (length lines + 1) (drop 4 lines) 5 [] 4 refl refl place

joined_first : (lines : List (List ℕ)) → joined_at 0 lines ≡ first_from 5 [] 4 lines
unfolding logical_lines
joined_first lines = refl

-- what a joined line that was read says of the lines up to one
pub record Makes (lines : List (List ℕ)) (line : LogicalLine) (last : ℕ) : Type 0 where
  pub next : next_number line ≡ last + 1
  pub joined : AreJoined lines line.number last

-- the lines of these numbers are parts of one that goes on
record AreBegun (lines : List (List ℕ)) (first last : ℕ) : Type 0 where
  pub behind : 5 ≤ first
  pub order : first ≤ last + 1
  pub begun : (first ≡ 5) ⊎ (is_continued_at lines (first - 1) ≡ false)
  pub parts : (k : ℕ) → first ≤ k → k ≤ last → is_part_at lines k ≡ true
  pub continued : (k : ℕ) → first ≤ k → k ≤ last → is_continued_at lines k ≡ true

one_more : (P : ℕ → Type 0) (first last : ℕ) → ((k : ℕ) → first ≤ k → k ≤ last → P k) → P (last + 1)
    → (k : ℕ) → first ≤ k → k ≤ last + 1 → P k
one_more P first last each next k from to = elim (cases_lt k (last + 1)) [
  | inl less ↦ each k from (omega (arith, less))
  | inr more ↦ (let same : last + 1 ≡ k = omega (arith, more, to) in subst P same next)
]

passes_at : (test : List ℕ → Bool) (lines : List (List ℕ)) (place : ℕ) (line : List ℕ) (is : Bool)
    → slice_get lines place ≡ Some line → test line ≡ is → passes test (slice_get lines (place + 1 - 1)) ≡ is
passes_at test lines place line is get tested =
    let same : place + 1 - 1 ≡ place = omega arith in
    rw (same, get) tested

pub missing_told : (lines : List (List ℕ)) → TellsAtFirstPart lines (length lines + 1) (length lines + 1)
missing_told lines =
    let none : slice_get lines (length lines + 1 - 1)
    ≡ None = slice_get_past lines (length lines + 1 - 1) (omega arith) in
    inr (refl, ap (passes begins_v30) none)

frame_is_not_short : Frame ≢ Short
frame_is_not_short e = cc

module _ (lines : List (List ℕ)) where
  abbrev pub Stated : ℕ → ℕ → Type 0
  Stated = TellsAtFirstPart lines

  module _ (number : ℕ) (begun : List (List ℕ)) (place : ℕ) (counted : number + length begun ≡ place + 1)
      (before : AreBegun lines number place)
      (rest : place + 1 ≤ length lines → (line : List ℕ) → AreBegun lines number (place + 1)
      → DecidesSomewhere Stated lines (place + 1) (Makes lines) (first_from number (begun ++ line ∷ []) (place + 1)))
    where
      refused_at : (line : List ℕ) → slice_get lines place ≡ Some line → begins_v30 line ≡ false
          → (fault : ReadFault) → record { line = number + length begun; cause = Frame } ≡ fault
          → IsFaultOf Stated (place + 1) fault
      refused_at line get test fault is = record {
        stated = inr (ap (λ f. f.line) (sym is) ∙ counted, passes_at begins_v30 lines place line false get test);
        cause = λ short. frame_is_not_short (ap (λ f. f.cause) is ∙ short);
      }

      by_tests : (line : List ℕ) → slice_get lines place ≡ Some line → place + 1 ≤ length lines
          → (begins continued : Bool) → begins_v30 line ≡ begins → is_continued line ≡ continued
          → DecidesSomewhere Stated lines (place + 1) (Makes lines)
          (λ ls. cond (not begins) (Err (record { line = number + length begun; cause = Frame }))
          (cond continued (first_from number (begun ++ line ∷ []) (place + 1) ls)
          (Ok (record { parts = begun ++ line ∷ []; number = number }))))
      by_tests line get within false continued begins goes =
          decided Stated lines (place + 1) (Makes lines) (Err (record { line = number + length begun; cause = Frame }))
          (omega (arith, within))
          (λ fault e. refused_at line get begins fault
          (same_fault {A = LogicalLine} (record { line = number + length begun; cause = Frame }) fault e))
          (λ x e. absurd cc)
      by_tests line get within true true begins goes = rest within line (record {
        behind = before.behind;
        order = omega (arith, before.order);
        begun = before.begun;
        parts = one_more (λ k. is_part_at lines k ≡ true) number place before.parts
            (passes_at begins_v30 lines place line true get begins);
        continued = one_more (λ k. is_continued_at lines k ≡ true) number place before.continued
            (passes_at is_continued lines place line true get goes);
      })
      by_tests line get within true false begins goes =
          gives Stated lines (place + 1) (Makes lines) (record { parts = begun ++ line ∷ []; number = number }) within
          (record {
            next = omega (arith, counted, length-push begun line (length begun) refl);
            joined = record {
              behind = before.behind;
              order = before.order;
              begun = before.begun;
              parts = one_more (λ k. is_part_at lines k ≡ true) number place before.parts
                  (passes_at begins_v30 lines place line true get begins);
              continued = λ k from to. before.continued k from (omega (arith, to));
              ended = passes_at is_continued lines place line false get goes;
            };
          })

      first_step : (early : ℕ) → early ≤ place → early ≤ length lines
          → DecidesSomewhere Stated lines early (Makes lines) (first_from number begun place)
      first_step early le from =
          alike Stated lines early (Makes lines) _ (first_from number begun place) (first_from-is number begun place)
          (one_after_another Stated lines early (IsLineAt lines place) (Makes lines) (line_there place)
          (from_line number begun place) from
          (there_decides Stated lines early place (missing_told lines) le from)
          (λ line n is within. let at : n ≡ place + 1 = is.number in
          rw at (by_tests line is.is (omega (arith, at, within)) (begins_v30 line) (is_continued line) refl refl)))

  first_decides : (left number : ℕ) (begun : List (List ℕ)) (place : ℕ) → place + left ≡ length lines
      → number + length begun ≡ place + 1 → AreBegun lines number place
      → DecidesSomewhere Stated lines place (Makes lines) (first_from number begun place)
  first_decides zero number begun place at counted before =
      first_step number begun place counted before (λ within line more. absurd (omega (arith, at, within)))
      place (omega arith) (omega (arith, at))
  first_decides (suc left) number begun place at counted before =
      first_step number begun place counted before
      (λ within line more. first_decides left number (begun ++ line ∷ []) (place + 1) (omega (arith, at))
      (omega (arith, counted, length-push begun line (length begun) refl)) more)
      place (omega arith) (omega (arith, at))

  none_begun : (first last : ℕ) → first ≡ last + 1 → 5 ≤ first
      → (first ≡ 5) ⊎ (is_continued_at lines (first - 1) ≡ false) → AreBegun lines first last
  none_begun first last is behind begun = record {
    behind = behind;
    order = omega (arith, is);
    begun = begun;
    parts = λ k from to. absurd (omega (arith, is, from, to));
    continued = λ k from to. absurd (omega (arith, is, from, to));
  }

  -- the joined line at a place was read, and these lines decide so
  pub record Reached (place last : ℕ) : Type 0 where
    pub line : LogicalLine
    pub is : joined_at place lines ≡ Ok line
    pub decides : Decides Stated lines 0 (Makes lines) (joined_at place) last

  -- the joined lines before a place were read, and these lines decide so
  abbrev pub Stands : ℕ → ℕ → Type 0
  Stands zero last = last ≡ 0
  Stands (suc place) last = Reached place last

  pub record Read (place : ℕ) (line : LogicalLine) (last : ℕ) : Type 0 where
    pub makes : Makes lines line last
    pub stands : Stands (suc place) last

  read_behind : (place early last : ℕ) → early ≤ last → Decides Stated lines 0 (Makes lines) (joined_at place) last
      → DecidesSomewhere Stated lines early (Read place) (joined_at place)
  read_behind place early last le d = (
    last,
    later Stated lines 0 early (Makes lines) (Read place) (joined_at place) last (omega arith) le
        (λ line is. record {
          makes = d.ends line is;
          stands = record { line = line; is = is; decides = d };
        }) d,
  )

  begun_behind : (line : LogicalLine) (last : ℕ) → Makes lines line last → AreBegun lines (next_number line) last
  begun_behind line last makes =
      let next : next_number line ≡ last + 1 = makes.next in
      let same : last + 1 - 1 ≡ last = omega arith in
      none_begun (next_number line) last next (omega (arith, next, makes.joined.behind, makes.joined.order))
      (inr (rw (next, same) makes.joined.ended))

  joined_behind : (place early : ℕ) (reached : Reached place early)
      → DecidesSomewhere Stated lines early (Makes lines)
      (first_from (next_number reached.line) [] (next_number reached.line - 1))
      → DecidesSomewhere Stated lines early (Read (suc place)) (joined_at (suc place))
  joined_behind place early reached second =
      read_behind (suc place) early second.0 second.1.ahead
      (alike_by Stated lines 0 (Makes lines)
      (λ ls. joined_at place ls >>= λ line. first_from (next_number line) [] (next_number line - 1) ls)
      (joined_at (suc place)) second.0 (joined_next place)
      (goes_on Stated lines 0 (Makes lines) (Makes lines) (joined_at place)
      (λ line. first_from (next_number line) [] (next_number line - 1)) early reached.decides
      reached.line second.0 reached.is second.1))

  pub joined_decides : (place early : ℕ) → Stands place early → early ≤ length lines
      → DecidesSomewhere Stated lines early (Read place) (joined_at place)
  joined_decides zero early stands le =
      let d : DecidesSomewhere Stated lines 0 (Makes lines) (joined_at 0) =
      alike Stated lines 0 (Makes lines) (first_from 5 [] 4) (joined_at 0) joined_first
      (first_step 5 [] 4 refl (none_begun 5 4 refl (omega arith) (inl refl))
      (λ within line more. first_decides (length lines - 5) 5 (line ∷ []) 5 (omega (arith, within)) refl more)
      0 (omega arith) (omega arith)) in
      read_behind 0 early d.0 (omega (arith, stands)) d.1
  joined_decides (suc place) early reached le =
      let makes : Makes lines reached.line early = reached.decides.ends reached.line reached.is in
      let same : next_number reached.line - 1 ≡ early = omega (arith, makes.next) in
      joined_behind place early reached
      (rw same (first_decides (length lines - early) (next_number reached.line) [] early (omega (arith, le))
      (omega (arith, makes.next)) (begun_behind reached.line early makes)))

  read_at-is : {A : Type 0} (place : ℕ) (read : List (List ℕ) → Result A ReadCause) (ls : List (List ℕ))
      → read_at (logical_lines ls) place read
      ≡ (joined_at place ls >>= λ line. numbered line.number (read (words_in line)))
  unfolding read_at
  read_at-is place read ls = by_option (logical_lines ls).past read (slice_get (logical_lines ls).lines place)
    where
      by_option : {A : Type 0} (past : ReadFault) (read : List (List ℕ) → Result A ReadCause) (line : Option LogicalLine)
          → read_line past read line
          ≡ (ok_or line past >>= λ line. numbered line.number (read (words_in line)))
      by_option past read None = refl
      by_option past read (Some line) = refl

  -- what is read of the words of a joined line
  pub words_decide : {A : Type 0} (place next early : ℕ) (read : List (List ℕ) → Result A ReadCause) → next ≡ place + 1
      → ((words : List (List ℕ)) → IsOfLine (read words)) → Stands place early → early ≤ length lines
      → DecidesSomewhere Stated lines early (λ x last. Stands next last) (λ ls. read_at (logical_lines ls) place read)
  words_decide place next early read is own stands le =
      let follows : next ≡ suc place = omega (arith, is) in
      alike Stated lines early (λ x last. Stands next last) _ (λ ls. read_at (logical_lines ls) place read)
      (read_at-is place read)
      (one_after_another Stated lines early (Read place) (λ x last. Stands next last) (joined_at place)
      (λ line ls. numbered line.number (read (words_in line))) le (joined_decides place early stands le)
      (λ line last at within.
      decided Stated lines last (λ x last. Stands next last) (numbered line.number (read (words_in line)))
      (omega (arith, within))
      (numbered_fails Stated line.number last (read (words_in line)) (own (words_in line)) (inl at.makes.joined))
      (λ x e. rw follows at.stands)))
