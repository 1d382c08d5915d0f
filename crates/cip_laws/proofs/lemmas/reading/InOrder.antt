-- The lines decide in order: by one lemma for each way in which parts of a grammar are joined.
use Rattle.std.proofs.Common.{◌≡◌, ◌≢◌, ◌⊎◌, ◌≤◌, ◌<◌, ◌+◌, ℕ, zero, suc, List, [], ◌∷◌, length, take, drop, get_or, Result, Ok, Err, Option, Some, None, refl, sym, ap, ◌∙◌, subst, inl, inr, arith}
use Rattle.std.specs.Prelude.{slice_get}
use Rattle.std.specs.Option.{ok_or}
use Rattle.std.proofs.lemmas.Bool.{cases_lt}
use Rattle.std.proofs.lemmas.List.{take_all, take-take, length-take-le}
use Rattle.std.proofs.lemmas.Option.{slice_get_past, slice_get-get_or}
use Rattle.cip_mol.specs.declared.labels.refusal.ReadCause.{ReadCause}
use Rattle.cip_mol.specs.declared.labels.refusal.ReadCause.TheVariants.{Short}
use Rattle.cip_mol.specs.declared.labels.refusal.ReadFault.{ReadFault}
use Rattle.cip_ctfile.specs.Laws.{Reader, IsDecidedBy}
use Rattle.cip_ctfile.specs.Reading.{◌>>=◌, numbered, read_line, read_at, through}
use Rattle.cip_laws.proofs.lemmas.reading.LineCauses.{IsOfLine}
use Rattle.cip_laws.proofs.lemmas.reading.SameLines.{all_alike, line_alike, take_fewer}

abbrev pub short_at : ℕ → ReadFault
short_at number = record { line = number; cause = Short }

-- The first n lines decide what a part reads that follows others; how many is said of what it gives. `Stated` says of
-- these lines where a fault is reported.
pub record Decides {A : Type 0} (Stated : ℕ → ℕ → Type 0) (lines : List (List ℕ))
    (behind : ℕ) (Ends : A → ℕ → Type 0) (read : Reader A) (decisive : ℕ) : Type 0 where
  pub ahead : behind ≤ decisive
  pub within : decisive ≤ length lines + 1
  pub kept : (others : List (List ℕ)) → take decisive others ≡ take decisive lines → read others ≡ read lines
  pub before : (k : ℕ) → behind ≤ k → k < decisive → read (take k lines) ≡ Err (short_at (k + 1))
  pub stated : (fault : ReadFault) → read lines ≡ Err fault → Stated fault.line decisive
  pub short : (fault : ReadFault) → read lines ≡ Err fault → fault.cause ≡ Short → decisive ≡ length lines + 1
  pub ends : (x : A) → read lines ≡ Ok x → Ends x decisive

abbrev pub DecidesSomewhere : {A : Type 0} → (ℕ → ℕ → Type 0) → List (List ℕ)
    → ℕ → (A → ℕ → Type 0) → Reader A → Type 0
DecidesSomewhere Stated lines behind Ends read = (decisive : ℕ) × Decides Stated lines behind Ends read decisive

abbrev pub Anywhere : {A : Type 0} → A → ℕ → Type 0
Anywhere x decisive = Unit {0}

abbrev given : {A : Type 0} → A → Result A ReadFault
given x = Ok x

abbrev refused_by : {A : Type 0} → ReadFault → Result A ReadFault
refused_by fault = Err fault

pub ok_is_no_fault : {A : Type 0} (x : A) (fault : ReadFault) → given x ≡ refused_by fault → ⊥
ok_is_no_fault x fault e = absurd cc

pub same_fault : {A : Type 0} (one other : ReadFault) → refused_by {A = A} one ≡ refused_by other → one ≡ other
same_fault one other e = cc

-- a fault of the lines up to one, for a cause that it has
pub record IsFaultOf (Stated : ℕ → ℕ → Type 0) (number : ℕ) (fault : ReadFault) : Type 0 where
  pub stated : Stated fault.line number
  pub cause : fault.cause ≢ Short

-- no further line is read
pub decided : {A : Type 0} (Stated : ℕ → ℕ → Type 0) (lines : List (List ℕ)) (behind : ℕ) (Ends : A → ℕ → Type 0)
    (result : Result A ReadFault) → behind ≤ length lines + 1
    → ((fault : ReadFault) → result ≡ Err fault → IsFaultOf Stated behind fault)
    → ((x : A) → result ≡ Ok x → Ends x behind)
    → DecidesSomewhere Stated lines behind Ends (λ _. result)
decided Stated lines behind Ends result within fails gives = (
  behind,
  record {
    ahead = omega arith;
    within = within;
    kept = λ others same. refl;
    before = λ k le lt. absurd (omega (arith, le, lt));
    stated = λ fault e. (fails fault e).stated;
    short = λ fault e is. absurd ((fails fault e).cause is);
    ends = gives;
  },
)

pub gives : {A : Type 0} (Stated : ℕ → ℕ → Type 0) (lines : List (List ℕ)) (behind : ℕ) (Ends : A → ℕ → Type 0)
    (x : A) → behind ≤ length lines → Ends x behind → DecidesSomewhere Stated lines behind Ends (λ _. Ok x)
gives Stated lines behind Ends x within ends =
    decided Stated lines behind Ends (Ok x) (omega (arith, within))
    (λ fault e. absurd (ok_is_no_fault x fault e))
    (λ y e. subst (λ z. Ends z behind) (let is : x ≡ y = cc in is) ends)

-- a part that reads alike
pub alike_by : {A : Type 0} (Stated : ℕ → ℕ → Type 0) (lines : List (List ℕ)) (behind : ℕ) (Ends : A → ℕ → Type 0)
    (read other : Reader A) (decisive : ℕ) → ((ls : List (List ℕ)) → other ls ≡ read ls)
    → Decides Stated lines behind Ends read decisive → Decides Stated lines behind Ends other decisive
alike_by Stated lines behind Ends read other decisive same d = record {
  ahead = d.ahead;
  within = d.within;
  kept = λ others e. same others ∙ d.kept others e ∙ sym (same lines);
  before = λ k le lt. same (take k lines) ∙ d.before k le lt;
  stated = λ fault e. d.stated fault (sym (same lines) ∙ e);
  short = λ fault e. d.short fault (sym (same lines) ∙ e);
  ends = λ x e. d.ends x (sym (same lines) ∙ e);
}

pub alike : {A : Type 0} (Stated : ℕ → ℕ → Type 0) (lines : List (List ℕ)) (behind : ℕ) (Ends : A → ℕ → Type 0)
    (read other : Reader A) → ((ls : List (List ℕ)) → other ls ≡ read ls)
    → DecidesSomewhere Stated lines behind Ends read → DecidesSomewhere Stated lines behind Ends other
alike Stated lines behind Ends read other same d =
    (d.0, alike_by Stated lines behind Ends read other d.0 same d.1)

-- the same part after more lines
pub later : {A : Type 0} (Stated : ℕ → ℕ → Type 0) (lines : List (List ℕ)) (early late : ℕ)
    (Ends Others : A → ℕ → Type 0) (read : Reader A) (decisive : ℕ) → early ≤ late → late ≤ decisive
    → ((x : A) → read lines ≡ Ok x → Others x decisive)
    → Decides Stated lines early Ends read decisive → Decides Stated lines late Others read decisive
later Stated lines early late Ends Others read decisive le ahead ends d = record {
  ahead = ahead;
  within = d.within;
  kept = d.kept;
  before = λ k from lt. d.before k (omega (arith, le, from)) lt;
  stated = d.stated;
  short = d.short;
  ends = ends;
}

-- one part after another
module _ {A B : Type 0} (Stated : ℕ → ℕ → Type 0) (lines : List (List ℕ)) (behind : ℕ) (Between : A → ℕ → Type 0)
    (Ends : B → ℕ → Type 0) (read : Reader A) (next : A → Reader B) (first : ℕ)
    (d : Decides Stated lines behind Between read first) where
  refused : (fault : ReadFault) → read lines ≡ Err fault
      → Decides Stated lines behind Ends (λ ls. read ls >>= λ x. next x ls) first
  refused fault is = record {
    ahead = d.ahead;
    within = d.within;
    kept = λ others same. rw (d.kept others same, is) refl;
    before = λ k le lt. rw (d.before k le lt) refl;
    stated = λ other e. d.stated other (is ∙ ap (λ f. Err f) (same_fault fault other (rw is at e)));
    short = λ other e. d.short other (is ∙ ap (λ f. Err f) (same_fault fault other (rw is at e)));
    ends = λ y e. absurd (ok_is_no_fault y fault (sym (rw is at e)));
  }

  inside : (x : A) → behind ≤ length lines → read lines ≡ Ok x → first ≤ length lines
  inside x le is = elim (cases_lt (length lines) first) [
    | inl past ↦ absurd (ok_is_no_fault x (short_at (length lines + 1))
        (sym is ∙ ap read (sym (take_all (length lines) lines (omega arith))) ∙ d.before (length lines) le past))
    | inr within ↦ omega (arith, within)
  ]

  pub goes_on : (x : A) (second : ℕ) → read lines ≡ Ok x → Decides Stated lines first Ends (next x) second
      → Decides Stated lines behind Ends (λ ls. read ls >>= λ x. next x ls) second
  goes_on x second is e =
      let on : (ls : List (List ℕ)) → take first ls ≡ take first lines → read ls ≡ Ok x =
      λ ls same. d.kept ls same ∙ is in
      record {
        ahead = omega (arith, d.ahead, e.ahead);
        within = e.within;
        kept = λ others same.
            rw (on others (take_fewer first second others lines e.ahead same), is) (e.kept others same);
        before = λ k from lt. elim (cases_lt k first) [
          | inl early ↦ rw (d.before k from early) refl
          | inr late ↦
              rw (on (take k lines) (take-take first k lines (omega (arith, late))))
              (e.before k (omega (arith, late)) lt)
        ];
        stated = λ fault f. e.stated fault (rw is at f);
        short = λ fault f. e.short fault (rw is at f);
        ends = λ y f. e.ends y (rw is at f);
      }

  by_result : (result : Result A ReadFault) → read lines ≡ result → behind ≤ length lines
      → ((x : A) (n : ℕ) → Between x n → n ≤ length lines → DecidesSomewhere Stated lines n Ends (next x))
      → DecidesSomewhere Stated lines behind Ends (λ ls. read ls >>= λ x. next x ls)
  by_result (Err fault) is le each = (first, refused fault is)
  by_result (Ok x) is le each =
      let second : DecidesSomewhere Stated lines first Ends (next x) = each x first (d.ends x is) (inside x le is) in
      (second.0, goes_on x second.0 is second.1)

pub one_after_another : {A B : Type 0} (Stated : ℕ → ℕ → Type 0) (lines : List (List ℕ)) (behind : ℕ)
    (Between : A → ℕ → Type 0) (Ends : B → ℕ → Type 0) (read : Reader A) (next : A → Reader B)
    → behind ≤ length lines → DecidesSomewhere Stated lines behind Between read
    → ((x : A) (n : ℕ) → Between x n → n ≤ length lines → DecidesSomewhere Stated lines n Ends (next x))
    → DecidesSomewhere Stated lines behind Ends (λ ls. read ls >>= λ x. next x ls)
one_after_another Stated lines behind Between Ends read next le d each =
    by_result Stated lines behind Between Ends read next d.0 d.1 (read lines) refl le each

-- what is made of what a part gives
pub mapped : {A B : Type 0} (Stated : ℕ → ℕ → Type 0) (lines : List (List ℕ)) (behind : ℕ)
    (Between : A → ℕ → Type 0) (Ends : B → ℕ → Type 0) (read : Reader A) (f : A → B)
    → behind ≤ length lines → ((x : A) (n : ℕ) → Between x n → Ends (f x) n)
    → DecidesSomewhere Stated lines behind Between read
    → DecidesSomewhere Stated lines behind Ends (λ ls. read ls >>= λ x. Ok (f x))
mapped Stated lines behind Between Ends read f le each d =
    one_after_another Stated lines behind Between Ends read (λ x ls. Ok (f x)) le d
    (λ x n at within. gives Stated lines n Ends (f x) within (each x n at))

-- one line

abbrev pub line_there : ℕ → Reader (List ℕ)
line_there place lines = ok_or (slice_get lines place) (short_at (length lines + 1))

pub record IsLineAt (lines : List (List ℕ)) (place : ℕ) (line : List ℕ) (decisive : ℕ) : Type 0 where
  pub is : slice_get lines place ≡ Some line
  pub number : decisive ≡ place + 1

module _ (Stated : ℕ → ℕ → Type 0) (lines : List (List ℕ)) (behind place : ℕ) where
  cut : (k : ℕ) → k ≤ place → k ≤ length lines → line_there place (take k lines) ≡ Err (short_at (k + 1))
  cut k before within =
      let long : length (take k lines) ≡ k = length-take-le k lines within in
      rw (slice_get_past (take k lines) place (omega (arith, long, before)), long) refl

  there : behind ≤ place → place < length lines
      → Decides Stated lines behind (IsLineAt lines place) (line_there place) (place + 1)
  there le inside =
      let get : slice_get lines place ≡ Some (get_or lines place []) = slice_get-get_or lines place [] inside in
      record {
        ahead = omega (arith, le);
        within = omega (arith, inside);
        kept = λ others same. rw (line_alike place others lines same, get) refl;
        before = λ k from lt. cut k (omega (arith, lt)) (omega (arith, lt, inside));
        stated = λ fault e. absurd (ok_is_no_fault (get_or lines place []) fault (rw get at e));
        short = λ fault e is. absurd (ok_is_no_fault (get_or lines place []) fault (rw get at e));
        ends = λ x e.
            let same : get_or lines place [] ≡ x =
            (let f : given (get_or lines place []) ≡ given x = rw get at e in cc) in
            record { is = get ∙ ap Some same; number = refl };
      }

  missing : Stated (length lines + 1) (length lines + 1) → length lines ≤ place → behind ≤ length lines
      → Decides Stated lines behind (IsLineAt lines place) (line_there place) (length lines + 1)
  missing past le from =
      let none : slice_get lines place ≡ None = slice_get_past lines place le in
      let fault_is : (fault : ReadFault) → line_there place lines ≡ Err fault → short_at (length lines + 1) ≡ fault =
      λ fault e. same_fault {A = List ℕ} (short_at (length lines + 1)) fault (rw none at e) in
      record {
        ahead = omega (arith, from);
        within = omega arith;
        kept = λ others same. ap (line_there place) (all_alike (length lines + 1) others lines (omega arith) same);
        before = λ k at lt. cut k (omega (arith, lt, le)) (omega (arith, lt));
        stated = λ fault e. subst (λ f. Stated f.line (length lines + 1)) (fault_is fault e) past;
        short = λ fault e is. refl;
        ends = λ x e. absurd (ok_is_no_fault x (short_at (length lines + 1)) (sym (rw none at e)));
      }

  pub there_decides : Stated (length lines + 1) (length lines + 1) → behind ≤ place → behind ≤ length lines
      → DecidesSomewhere Stated lines behind (IsLineAt lines place) (line_there place)
  there_decides past le from = elim (cases_lt place (length lines)) [
    | inl inside ↦ (place + 1, there le inside)
    | inr over ↦ (length lines + 1, missing past (omega (arith, over)) from)
  ]

pub numbered_fails : {A : Type 0} (Stated : ℕ → ℕ → Type 0) (line number : ℕ) (read : Result A ReadCause)
    → IsOfLine read → Stated line number
    → (fault : ReadFault) → numbered line read ≡ Err fault → IsFaultOf Stated number fault
numbered_fails Stated line number (Ok x) own tells fault e = absurd (ok_is_no_fault x fault e)
numbered_fails {A} Stated line number (Err cause) own tells fault e =
    let same : record { line = line; cause = cause } ≡ fault =
    same_fault {A = A} (record { line = line; cause = cause }) fault e in
    record {
      stated = subst (λ f. Stated f.line number) same tells;
      cause = λ is. own.never (ap (λ c. Err c) (ap (λ f. f.cause) same ∙ is));
    }

read_at-is : {A : Type 0} (place : ℕ) (read : List ℕ → Result A ReadCause) (lines : List (List ℕ))
    → read_at lines place read ≡ (line_there place lines >>= λ line. numbered (place + 1) (read line))
unfolding read_at
read_at-is place read lines = by_option (length lines + 1) place read (slice_get lines place)
  where
    by_option : {A : Type 0} (past place : ℕ) (read : List ℕ → Result A ReadCause) (line : Option (List ℕ))
        → read_line past place read line
        ≡ (ok_or line (short_at past) >>= λ line. numbered (place + 1) (read line))
    by_option past place read None = refl
    by_option past place read (Some line) = refl

pub line_decides : {A : Type 0} (Stated : ℕ → ℕ → Type 0) (lines : List (List ℕ)) (behind place : ℕ)
    (read : List ℕ → Result A ReadCause) → ((number : ℕ) → Stated number number)
    → ((line : List ℕ) → IsOfLine (read line)) → behind ≤ place → behind ≤ length lines
    → DecidesSomewhere Stated lines behind (λ x n. n ≡ place + 1) (λ ls. read_at ls place read)
line_decides Stated lines behind place read same own le from =
    alike Stated lines behind (λ x n. n ≡ place + 1) _ (λ ls. read_at ls place read) (read_at-is place read)
    (one_after_another Stated lines behind (IsLineAt lines place) (λ x n. n ≡ place + 1) (line_there place)
    (λ line ls. numbered (place + 1) (read line)) from
    (there_decides Stated lines behind place (same (length lines + 1)) le from)
    (λ line n is within.
    decided Stated lines n (λ x n. n ≡ place + 1) (numbered (place + 1) (read line)) (omega (arith, within))
    (numbered_fails Stated (place + 1) n (read line) (own line)
    (subst (Stated (place + 1)) (sym is.number) (same (place + 1))))
    (λ x e. is.number)))

-- rows

pub rows_decide : {A : Type 0} (Stated : ℕ → ℕ → Type 0) (lines : List (List ℕ)) (At : ℕ → ℕ → Type 0)
    (row : List (List ℕ) → A → ℕ → Result A ReadFault)
    → ((before : A) (number n : ℕ) → At number n → n ≤ length lines
    → DecidesSomewhere Stated lines n (λ x m. At (number + 1) m) (λ ls. row ls before number))
    → (count : ℕ) (before : A) (number last n : ℕ) → last ≡ number + count → At number n → n ≤ length lines
    → DecidesSomewhere Stated lines n (λ x m. At last m) (λ ls. through (row ls) before count number)
unfolding through
rows_decide Stated lines At row each zero before number last n up at le =
    let same : last ≡ number = omega (arith, up) in
    gives Stated lines n (λ x m. At last m) before le (rw same at)
rows_decide Stated lines At row each (suc count) before number last n up at le =
    one_after_another Stated lines n (λ x m. At (number + 1) m) (λ x m. At last m) (λ ls. row ls before number)
    (λ x ls. through (row ls) x count (number + 1)) le (each before number n at le)
    (λ x m next within. rows_decide Stated lines At row each count x (number + 1) last m (omega (arith, up)) next within)

-- the lines from a place on, one by one

pub drop_cases : {A : Type 0} (place : ℕ) (lines : List A)
    → ((slice_get lines place ≡ None) × (drop place lines ≡ []))
    ⊎ ((line : A) × (slice_get lines place ≡ Some line) × (drop place lines ≡ line ∷ drop (place + 1) lines))
drop_cases zero [] = inl (refl, refl)
drop_cases (suc place) [] = inl (refl, refl)
drop_cases zero (line ∷ lines) = inr (line, refl, refl)
drop_cases (suc place) (line ∷ lines) =
    let next : suc place + 1 ≡ suc (place + 1) = omega arith in
    rw next (drop_cases place lines)

-- the whole grammar

pub in_order : {A : Type 0} (Tells : List (List ℕ) → ℕ → ℕ → Type 0) (lines : List (List ℕ)) (read : Reader A)
    → DecidesSomewhere (Tells lines) lines 0 Anywhere read
    → (decisive : ℕ) × IsDecidedBy Tells read lines decisive
in_order Tells lines read d = (
  d.0,
  record {
    within = d.1.within;
    kept = d.1.kept;
    before = λ k lt. d.1.before k (omega arith) lt;
    stated = d.1.stated;
    short = d.1.short;
  },
)
