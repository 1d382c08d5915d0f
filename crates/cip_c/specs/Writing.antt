-- What is written of a text that is due. Own.
use Rattle.std.specs.Prelude.{◌≡◌, ◌⊎◌, ◌++◌, ℕ, ℤ, pos, negsuc, List, drop, length, take, if◌then◌else◌, nat_lt}
use Rattle.std.specs.Prelude.{Option, None, Some, Result, Ok, Err}
use Rattle.cip_c.specs.Answers.{NO_MEMORY, NOT_MADE, RECORD_TOO_LONG, LONGEST}
use Rattle.cip_c.specs.declared.settings.Settings.{Settings}

-- the text that is due for a record, or why there is none
abbrev pub due : (Settings → List ℕ → List ℕ) → Option Settings → List ℕ → Result (List ℕ) ℤ
due text None bytes = Err NOT_MADE
due text (Some settings) bytes = if nat_lt LONGEST (length bytes) then Err RECORD_TOO_LONG else Ok (text settings bytes)

-- what is answered: how many bytes the text has
abbrev pub IsTold : Result (List ℕ) ℤ → ℤ → Type 0
IsTold (Ok text) result = (result ≡ pos (length text)) ⊎ (result ≡ NO_MEMORY)
IsTold (Err cause) result = result ≡ cause

-- a text, or its front, over what was there before
abbrev pub over : List ℕ → List ℕ → List ℕ
over text old = take (length old) text ++ drop (length text) old

-- what is there after the call that answers so
abbrev pub written : ℤ → Result (List ℕ) ℤ → List ℕ → List ℕ
written (pos n) (Ok text) old = over text old
written (pos n) (Err cause) old = old
written (negsuc n) expected old = old
