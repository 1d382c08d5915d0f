-- Made records, written one after the other.
use Rattle.std.proofs.Common.{◌≡◌, ◌<◌, ◌+◌, ◌-◌, ℕ, zero, suc, List, [], ◌++◌, Option, sym, ap, ◌∙◌, subst, arith, append_assoc, append-nil, add-zero}
use Rattle.std.specs.Io.KnownBytes.{Appends}
use Rattle.cip_io.specs.Growth.{AppendsPrefix}
use Rattle.cip_make.specs.Made.{made}
use Rattle.cip_io.proofs.lemmas.Growth.{appends_both, prefix_behind, prefix_longer}
use Rattle.cip_commands.specs.Making.{made_text}

-- the first records are a front of more of them
record Longer (start before records : ℕ) : Type 0 where
  pub rest : List ℕ
  pub joined : made_text start records ≡ made_text start before ++ rest

one_longer : (start before records : ℕ) → Longer start before records → Longer start before (suc records)
one_longer start before records longer = record {
  rest = longer.rest ++ made start (records + 1);
  joined = ap (λ text. text ++ made start (records + 1)) longer.joined
      ∙ append_assoc (made_text start before) longer.rest (made start (records + 1));
}

longer : (start before more : ℕ) → Longer start before (before + more)
longer start before zero =
    subst (Longer start before) (sym (add-zero before)) (record { rest = []; joined = sym (append-nil _) })
longer start before (suc more) =
    let next : suc (before + more) ≡ before + suc more = omega arith in
    subst (Longer start before) next (one_longer start before (before + more) (longer start before more))

-- where the write of the next record fails, the sink took a front of all of them
pub broken_off : (start before records : ℕ) (old middle new : Option (List ℕ)) → before < records
    → Appends old middle (made_text start before) → AppendsPrefix middle new (made start (before + 1))
    → AppendsPrefix old new (made_text start records)
broken_off start before records old middle new within written writes =
    let whole : suc before + (records - suc before) ≡ records = omega (arith, within) in
    let more = subst (Longer start (suc before)) whole (longer start (suc before) (records - suc before)) in
    subst (AppendsPrefix old new) (sym more.joined)
    (prefix_longer old new (made_text start (suc before)) more.rest
    (prefix_behind old middle new (made_text start before) (made start (before + 1)) written writes))

-- where the next record is written too, the sink took one record more
pub one_more : (start before : ℕ) (old middle new : Option (List ℕ)) → Appends old middle (made_text start before)
    → Appends middle new (made start (before + 1)) → Appends old new (made_text start (before + 1))
one_more start before old middle new written writes =
    let next : suc before ≡ before + 1 = omega arith in
    subst (λ count. Appends old new (made_text start count)) next
    (appends_both old middle new (made_text start before) (made start (before + 1)) written writes)
