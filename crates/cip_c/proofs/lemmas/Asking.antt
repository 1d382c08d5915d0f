-- What a call that asks for a text hands on to `write_at`, and what comes back.
use Rattle.std.proofs.Common.{ℕ, ℤ, ◌<◌, ◌^◌, List, [], ◌∷◌, refl, w64}
use Rattle.std.specs.Prelude.{Option, Result}
use seplogic.Ra.Ura.{Ura}
use mir.Val.{Val}
use base.Logic.{SProp, id⊢}
use base.Fml.{ftrue}
use prog.Model.{Model}
use types.Logic.{Logic}
use contract.Running.{Running}
use contract.Monad.{fact}
use types.Kit.{Goal, Item, Seq, Soaks, Step, step, ⋆, ‵, raw, ◌⊛◌, some, later, ◌$◌, move, drop, use1, use2, split, join, pick, await}
use denote.Builtin.{usize, i64}
use denote.Enum.Laws.{makes}
use denote.Laws.{Is, shows}
use denote.Plain.{uint_vals, uint_Makes}
use denote.RawPtr.{Ptr, RawPtr, rawptr_vals, rawptr_Makes}
use denote.Steps.{nothing, owned, peeks}
use denote.Triple.Clauses.{Lasts, lasts}
use denote.Triple.Spec.{triple_of}
use denote.Triple.Statement.{Contract}
use Rattle.cip_c.specs.Texts.{text_of}
use Rattle.cip_c.specs.Writing.{IsTold, due, written}
use Rattle.cip_c.specs.Pointers.{Passed, given, given_bytes, unless_null}
use Rattle.cip_c.specs.declared.settings.Settings.{Settings}
use Rattle.cip_c.specs.declared.text_kinds.Text.{Text}
use Rattle.cip_c.specs.contracts.labeller_slot.Slot.{the_row}
use Rattle.cip_c.specs.contracts.text_kinds.Text.{the_type, the_row as text_row}
use Rattle.cip_c.specs.contracts.exports.write_at as of
use Rattle.cip_c.proofs.text_kinds.Text.TheLaws.{lowered, the_plain}

-- what is handed on, and what is at its pointers
pub record Handed : Type 0 where
  pub requested : Text
  pub labeller : Ptr
  pub bytes : Ptr
  pub length : ℕ
  pub text : Ptr
  pub room : ℕ
  pub passed : Passed (Option Settings)

pub record Fit (h : Handed) : Type 0 where
  pub requested : Is text_row h.requested (lowered h.requested ∷ [])
  pub length : h.length < 2 ^ 64
  pub room : h.room < 2 ^ 64

module _ {M : Type 1} {𝓤 : Ura M} (𝓛 : Logic 𝓤) (𝓜 : Model 𝓤 𝓛.H) (𝓡 : Running 𝓤 𝓛.H 𝓜) where
  -- the contract of `write_at`
  abbrev pub G : Contract 𝓤
  G = triple_of 𝓛 of.signature (of.spec 𝓛 𝓜.mem 𝓡.returns)

  abbrev pub at_hand : Handed → G.Ghost
  at_hand h = (
    (
      tt,
      tt,
      tt,
      (h.labeller, (h.requested, (h.bytes, (h.length, (h.text, (h.room, tt)))))),
      (
        rawptr_vals h.labeller,
        (
          lowered h.requested ∷ [],
          (rawptr_vals h.bytes, (uint_vals w64 h.length, (rawptr_vals h.text, (uint_vals w64 h.room, tt)))),
        ),
      ),
    ),
    h.passed,
  )

module _ {M : Type 1} {𝓤 : Ura M} (𝓛 : Logic 𝓤) (h : Handed) where
  abbrev expected : Result (List ℕ) ℤ
  expected = due (text_of h.requested) h.passed.labeller h.passed.bytes

  abbrev pub Had : SProp 𝓤
  Had = ⋆ 𝓛 (‵ (given the_row h.labeller h.passed.labeller) ∷ ‵ (given_bytes h.length h.bytes h.passed.bytes) ∷
      ‵ (given_bytes h.room h.text h.passed.text) ∷ [])

  abbrev pub Left : ℤ → SProp 𝓤
  Left u = ⋆ 𝓛 (‵ (given the_row h.labeller h.passed.labeller) ∷ ‵ (given_bytes h.length h.bytes h.passed.bytes) ∷
      ‵ (given_bytes h.room h.text (written u expected h.passed.text)) ∷
      raw (fact 𝓤 (unless_null h.labeller (unless_null h.bytes (unless_null h.text (IsTold expected u) u) u) u)) ∷ [])

module _ {M : Type 1} {𝓤 : Ura M} {𝓛 : Logic 𝓤} (𝓜 : Model 𝓤 𝓛.H) (𝓡 : Running 𝓤 𝓛.H 𝓜) (h : Handed) {K : Type 0}
    {Γ : List (Item 𝓤)} {goal : Goal 𝓤 𝓛.H} where
  pub hands_on : K → Fit h → Step K 𝓛 (raw ((G 𝓛 𝓜 𝓡).pre (at_hand 𝓛 𝓜 𝓡 h)) ∷ Γ) goal (raw (Had 𝓛 h) ∷ Γ) goal
  hands_on t fit =
      step (λ rest. nothing t $ owned t usize _ (uint_Makes 𝓛 w64) h.room _ (refl, fit.room) $ join t $
      owned t RawPtr _ (rawptr_Makes 𝓛) h.text _ refl $ join t $
      owned t usize _ (uint_Makes 𝓛 w64) h.length _ (refl, fit.length) $ join t $
      owned t RawPtr _ (rawptr_Makes 𝓛) h.bytes _ refl $ join t $
      owned t text_row _ (makes the_type the_plain 𝓛) h.requested _ fit.requested $ join t $
      owned t RawPtr _ (rawptr_Makes 𝓛) h.labeller _ refl $ join t $
      nothing t $ join t $ use2 𝓛 (raw ((G 𝓛 𝓜 𝓡).pre (at_hand 𝓛 𝓜 𝓡 h))) (id⊢ 𝓤 _) $ rest)

  pub comes_back : K → Soaks goal → (v : Val)
      → ((u : ℤ) → Is i64 u (v ∷ []) → Seq K 𝓛 (‵ (i64.own_val u (v ∷ [])) ∷ raw (Left 𝓛 h u) ∷ Γ) goal)
      → Seq K 𝓛 (raw ((G 𝓛 𝓜 𝓡).post (at_hand 𝓛 𝓜 𝓡 h) v) ∷ Γ) goal
  comes_back t a v rest =
      let z = at_hand 𝓛 𝓜 𝓡 h in
      use1 𝓛
      (later
      (some (λ (u : ℤ). (‵ ftrue ⊛ ‵ (i64.own_val u (v ∷ []))) ⊛
      some (λ (ws : Lasts of.ended z.0.0 z.0.3). ‵ (lasts of.ended z.0.0 z.0.3 ws) ⊛ raw (Left 𝓛 h u)))))
      (id⊢ 𝓤 _) $
      await t a $ pick t (λ u. split t $ split t $ drop t $ move t (1 ∷ []) $ pick t (λ ws. split t $ drop t $
      move t (1 ∷ []) $ peeks t i64 (Is i64) (shows 𝓛 i64) u (v ∷ []) (λ is. rest u is)))
