use Rattle.std.proofs.Common.{◌≡◌, ◌+◌, ◌∙◌, ℕ, List, Option, sym}
use Rattle.std.specs.Prelude.{slice_get}
use Rattle.cip_text.specs.Slices.{texts}
use Rattle.cip_v2000.specs.PropertyLines.{pair_at, pair_from}
use Rattle.cip_v2000.specs.declared.properties.Property.{Property}
use Rattle.cip_v2000.proofs.lemmas.FoundTexts.{text_found, text_missing}
use Rattle.cip_v2000.proofs.properties.pair_at.Goals as goal

pair_is : (property : Property) (atoms : ℕ) (words : List (List ℕ)) (place : ℕ) (atom value : Option (List ℕ))
    → slice_get words place ≡ atom → slice_get words (place + 1) ≡ value
    → pair_at property atoms words place ≡ pair_from property atoms atom value
unfolding pair_at
pair_is property atoms words place atom value at behind = λ i. pair_from property atoms (at i) (behind i)

pub returns-in-None-get-clause-value : goal.returns-in-None-get-clause-value
returns-in-None-get-clause-value c =
    let found = c.in-Some.ensures.lookup in
    sym (pair_is c.args.property c.args.atoms (texts c.args.words.now) c.args.place _ _
    (text_found c.args.words.now c.args.place c.in-Some.atom.now found.3.0
    (found.3.1 c.in-Some.atom.now))
    (text_missing c.args.words.now (c.args.place + 1) c.in-None-get.ensures.lookup.3))

pub returns-in-Some-get-clause-value : goal.returns-in-Some-get-clause-value
returns-in-Some-get-clause-value c =
    let found = c.in-Some.ensures.lookup in
    let behind = c.in-Some-get.ensures.lookup in
    c.pair_in.ensures.value
    ∙ sym (pair_is c.args.property c.args.atoms (texts c.args.words.now) c.args.place _ _
    (text_found c.args.words.now c.args.place c.in-Some.atom.now found.3.0
    (found.3.1 c.in-Some.atom.now))
    (text_found c.args.words.now (c.args.place + 1) c.in-Some-get.value.now behind.3.0
    (behind.3.1 c.in-Some-get.value.now)))
