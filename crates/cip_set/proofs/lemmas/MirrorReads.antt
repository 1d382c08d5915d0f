-- What a call makes of a record is read as its mirror image.
use Rattle.std.proofs.Common.{◌≡◌, ◌≤◌, ℕ, List, Result, length, sym, ap, ◌∙◌, subst, arith}
use Rattle.std.specs.Prelude.{IfOk}
use Rattle.std.proofs.lemmas.Result.{IfOk-weaker}
use Rattle.cip_item.specs.Parts.{without_label_items}
use Rattle.cip_edit.specs.Answers.{answer_without_items, IsFew, GivesReflected}
use Rattle.cip_edit.specs.declared.mirror_answer.MirrorAnswer.{MirrorAnswer}
use Rattle.cip_edit.specs.declared.mirror_answer.MirrorAnswer.TheVariants.{Written, Refused}
use Rattle.cip_edit.proofs.lemmas.MirrorReads.{mirror_reads}

pub reads_of : {E : Type 0} (bytes bare : List ℕ) (result : Result MirrorAnswer E) → bare ≡ without_label_items bytes
    → IfOk result (λ answer. answer ≡ answer_without_items bare) → IfOk result (λ answer. GivesReflected bytes answer)
reads_of bytes bare result same is =
    IfOk-weaker result _ (GivesReflected bytes)
    (λ answer e. subst (GivesReflected bytes) (sym (e ∙ ap answer_without_items same)) (mirror_reads bytes)) is

fewer : (bytes bare : List ℕ) (answer : MirrorAnswer) → length bare ≤ length bytes → IsFew bare answer
    → IsFew bytes answer
fewer bytes bare (Written text) le few = omega (arith, le, few)
fewer bytes bare (Refused refusal) le few = tt

pub few_with_items : {E : Type 0} (bytes bare : List ℕ) (result : Result MirrorAnswer E)
    → length bare ≤ length bytes → IfOk result (λ answer. IsFew bare answer)
    → IfOk result (λ answer. IsFew bytes answer)
few_with_items bytes bare result le is =
    IfOk-weaker result (IsFew bare) (IsFew bytes) (λ answer few. fewer bytes bare answer le few) is
