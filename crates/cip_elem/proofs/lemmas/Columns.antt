-- The columns that are searched are those of the symbols.
use Rattle.std.proofs.Common.{◌≡◌, ◌≤◌, ◌<◌, ◌+◌, ◌==◌, ◌&&◌, ◌++◌, ◌-◌, ◌∙◌, ℕ, List, [], ◌∷◌, Bool, true, false, not, cond, Option, None, Some, refl, sym, ap, arith, length, take, drop, get_or, position}
use Rattle.std.specs.List.{list_all, position_from}
use Rattle.std.specs.Str.{bytes_eq}
use Rattle.std.proofs.lemmas.Bool.{and_parts}
use Rattle.std.proofs.lemmas.Bool.Decides.{nat_tests}
use Rattle.std.proofs.lemmas.Iterator.Adapters.{position_from-zero}
use Rattle.std.proofs.lemmas.List.{take_rest}
use Rattle.std.proofs.lemmas.Slice.Eq.{bytes_eq-Decides}
use Rattle.cip_elem.specs.Columns.{place_in}
use Rattle.cip_elem.specs.declared.symbols.TheConstants.{SYMBOLS}

-- one byte, or two of which the second is no space
abbrev is_symbol : List ℕ → Bool
is_symbol [] = false
is_symbol (a ∷ []) = true
is_symbol (a ∷ b ∷ []) = not (b == 32)
is_symbol (a ∷ b ∷ c ∷ more) = false

abbrev padded : List ℕ → List ℕ
padded [] = []
padded (a ∷ []) = a ∷ 32 ∷ []
padded (a ∷ b ∷ more) = a ∷ b ∷ []

abbrev columns_of : {S : Type 0} → List S → (S → List ℕ) → List ℕ
columns_of [] text = []
columns_of (symbol ∷ symbols) text = padded (text symbol) ++ columns_of symbols text

abbrev are_symbols : {S : Type 0} → List S → (S → List ℕ) → Bool
are_symbols symbols text = list_all (λ symbol. is_symbol (text symbol)) symbols

abbrev place_from : {S : Type 0} → List ℕ → ℕ → List S → (S → List ℕ) → Option ℕ
place_from symbol n symbols text = position_from (λ other. bytes_eq symbol (text other)) n symbols

-- two columns more that aren't those
pub columns_step : (first second place : ℕ) (rest : List ℕ) (d e : ℕ) (total : Option ℕ) → 2 ≤ length rest
    → ((first == get_or rest 0 d) && (second == get_or rest 1 e)) ≡ false
    → place_in first second place rest ≡ total
    → place_in first second (place + 1) (take (length rest - 2) (drop 2 rest)) ≡ total
columns_step first second place [] d e total some other so_far = absurd (omega (arith, some))
columns_step first second place (a ∷ []) d e total some other so_far = absurd (omega (arith, some))
columns_step first second place (a ∷ b ∷ more) d e total some other so_far =
    let one : place_in first second place (a ∷ b ∷ more) ≡ place_in first second (place + 1) more = rw other refl in
    rw (take_rest (a ∷ b ∷ more) 2) (sym one ∙ so_far)

-- a symbol of one letter

letter_step : (x n : ℕ) (s : List ℕ) (found : Option ℕ) (columns : List ℕ) → is_symbol s ≡ true
    → found ≡ place_in x 32 (n + 1) columns
    → cond (bytes_eq (x ∷ []) s) (Some n) found ≡ place_in x 32 n (padded s ++ columns)
letter_step x n [] found columns is rest = absurd (grind (arith, is))
letter_step x n (a ∷ []) found columns is rest = rw rest refl
letter_step x n (a ∷ b ∷ []) found columns is rest =
    let other : (32 == b) ≡ false = grind (arith, nat_tests, is) in
    rw (other, rest) refl
letter_step x n (a ∷ b ∷ c ∷ more) found columns is rest = absurd (grind (arith, is))

letter_from : {S : Type 0} (x n : ℕ) (symbols : List S) (text : S → List ℕ) → are_symbols symbols text ≡ true
    → place_from (x ∷ []) n symbols text ≡ place_in x 32 n (columns_of symbols text)
letter_from x n [] text all = refl
letter_from x n (s ∷ symbols) text all =
    let each = and_parts (is_symbol (text s)) (are_symbols symbols text) all in
    letter_step x n (text s) _ (columns_of symbols text) each.0 (letter_from x (n + 1) symbols text each.1)

-- one of two letters

and_true : (b : Bool) → (b && true) ≡ b
and_true true = refl
and_true false = refl

letters_step : (x y n : ℕ) (s : List ℕ) (found : Option ℕ) (columns : List ℕ) → (y == 32) ≡ false
    → is_symbol s ≡ true → found ≡ place_in x y (n + 1) columns
    → cond (bytes_eq (x ∷ y ∷ []) s) (Some n) found ≡ place_in x y n (padded s ++ columns)
letters_step x y n [] found columns other is rest = absurd (grind (arith, is))
letters_step x y n (a ∷ []) found columns other is rest = rw (other, rest) refl
letters_step x y n (a ∷ b ∷ []) found columns other is rest = rw (and_true (y == b), rest) refl
letters_step x y n (a ∷ b ∷ c ∷ more) found columns other is rest = absurd (grind (arith, is))

letters_from : {S : Type 0} (x y n : ℕ) (symbols : List S) (text : S → List ℕ) → (y == 32) ≡ false
    → are_symbols symbols text ≡ true
    → place_from (x ∷ y ∷ []) n symbols text ≡ place_in x y n (columns_of symbols text)
letters_from x y n [] text other all = refl
letters_from x y n (s ∷ symbols) text other all =
    let each = and_parts (is_symbol (text s)) (are_symbols symbols text) all in
    letters_step x y n (text s) _ (columns_of symbols text) other each.0
    (letters_from x y (n + 1) symbols text other each.1)

-- what is none

unlike : (text s : List ℕ) (b : Bool) → is_symbol text ≡ false → is_symbol s ≡ true → bytes_eq text s ≡ b → b ≡ false
unlike text s false unfit fit is = refl
unlike text s true unfit fit is =
    let same : is_symbol text ≡ is_symbol s = ap is_symbol ((bytes_eq-Decides text s).0 is) in
    absurd (let two = sym unfit ∙ same ∙ fit in grind (arith, two))

none_from : {S : Type 0} (symbol : List ℕ) (n : ℕ) (symbols : List S) (text : S → List ℕ) → is_symbol symbol ≡ false
    → are_symbols symbols text ≡ true → place_from symbol n symbols text ≡ None
none_from symbol n [] text unfit all = refl
none_from symbol n (s ∷ symbols) text unfit all =
    let each = and_parts (is_symbol (text s)) (are_symbols symbols text) all in
    rw (unlike symbol (text s) _ unfit each.0 refl) (none_from symbol (n + 1) symbols text unfit each.1)

-- among all symbols

abbrev columns : List ℕ
columns = columns_of SYMBOLS (λ symbol. symbol.now)

all_are : are_symbols SYMBOLS (λ symbol. symbol.now) ≡ true
all_are = refl

abbrev placed : List ℕ → Option ℕ
placed symbol = position (λ other. bytes_eq symbol other.now) SYMBOLS

from_first : (symbol : List ℕ) → placed symbol ≡ place_from symbol 0 SYMBOLS (λ other. other.now)
from_first symbol = position_from-zero (λ other. bytes_eq symbol other.now) SYMBOLS

pub by_letter : (symbol : List ℕ) (d : ℕ) → 1 ≤ length symbol → length symbol < 2
    → place_in (get_or symbol 0 d) 32 0 columns ≡ placed symbol
by_letter [] d some few = absurd (omega (arith, some))
by_letter (x ∷ []) d some few = sym (from_first (x ∷ []) ∙ letter_from x 0 SYMBOLS (λ symbol. symbol.now) all_are)
by_letter (x ∷ y ∷ more) d some few = absurd (omega (arith, few))

pub by_letters : (symbol : List ℕ) (d e : ℕ) → 2 ≤ length symbol → length symbol < 3 → (get_or symbol 1 e == 32) ≡ false
    → place_in (get_or symbol 0 d) (get_or symbol 1 e) 0 columns ≡ placed symbol
by_letters [] d e some few other = absurd (omega (arith, some))
by_letters (x ∷ []) d e some few other = absurd (omega (arith, some))
by_letters (x ∷ y ∷ []) d e some few other =
    sym (from_first (x ∷ y ∷ []) ∙ letters_from x y 0 SYMBOLS (λ symbol. symbol.now) other all_are)
by_letters (x ∷ y ∷ z ∷ more) d e some few other = absurd (omega (arith, few))

pub by_none : (symbol : List ℕ) → is_symbol symbol ≡ false → None ≡ placed symbol
by_none symbol unfit = sym (from_first symbol ∙ none_from symbol 0 SYMBOLS (λ other. other.now) unfit all_are)

pub spaced_is_none : (symbol : List ℕ) (e : ℕ) → 2 ≤ length symbol → length symbol < 3 → get_or symbol 1 e ≡ 32
    → None ≡ placed symbol
spaced_is_none [] e some few space = absurd (omega (arith, some))
spaced_is_none (x ∷ []) e some few space = absurd (omega (arith, some))
spaced_is_none (x ∷ y ∷ []) e some few space = by_none (x ∷ y ∷ []) (rw space refl)
spaced_is_none (x ∷ y ∷ z ∷ more) e some few space = absurd (omega (arith, few))

pub long_is_none : (symbol : List ℕ) → 3 ≤ length symbol → None ≡ placed symbol
long_is_none [] some = absurd (omega (arith, some))
long_is_none (x ∷ []) some = absurd (omega (arith, some))
long_is_none (x ∷ y ∷ []) some = absurd (omega (arith, some))
long_is_none (x ∷ y ∷ z ∷ more) some = by_none (x ∷ y ∷ z ∷ more) refl

pub empty_is_none : (symbol : List ℕ) → length symbol < 1 → None ≡ placed symbol
empty_is_none [] few = by_none [] refl
empty_is_none (x ∷ more) few = absurd (omega (arith, few))
