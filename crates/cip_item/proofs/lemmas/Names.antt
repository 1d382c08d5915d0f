-- Where the name of label items is in a text.
use Rattle.std.proofs.Common.{◌≡◌, ◌≤◌, ◌+◌, ◌↔◌, ◌||◌, ℕ, zero, suc, List, [], ◌∷◌, Bool, true, false, refl, sym, ap, arith, length, take, IsTrue}
use Rattle.std.specs.Str.{bytes_eq}
use Rattle.std.proofs.lemmas.Slice.Eq.{bytes_eq-Decides}
use Rattle.bstr.specs.Find.{OccursAt}
use Rattle.bstr.specs.Text.{Contains}
use Rattle.memchr.proofs.lemmas.MatchLemmas.{OccursAt-part, OccursAt-from_part}
use Rattle.cip_item.specs.Kinds.{label_name, holds_label_name}

named_at_front : (text : List ℕ) → bytes_eq (take 12 text) label_name ≡ true → Contains text label_name
named_at_front text h =
    let is : take 12 text ≡ label_name = (bytes_eq-Decides (take 12 text) label_name).0 h in
    let long : length (take 12 text) ≡ 12 = ap length is in
    (0, OccursAt-from_part text label_name 0 (grind (arith, long)) is)

one_behind : (b : ℕ) (bs : List ℕ) → Contains bs label_name → Contains (b ∷ bs) label_name
one_behind b bs h =
    let fits : h.0 + 12 ≤ length bs = h.1.fits in (
      suc h.0,
      OccursAt-from_part (b ∷ bs) label_name (suc h.0) (omega (arith, fits))
          (OccursAt-part bs label_name h.0 h.1),
    )

held_at : (b : ℕ) (bs : List ℕ) (k : Bool) → bytes_eq (take 12 (b ∷ bs)) label_name ≡ k
    → holds_label_name (b ∷ bs) ≡ true → (holds_label_name bs ≡ true → Contains bs label_name)
    → Contains (b ∷ bs) label_name
held_at b bs true e h more = named_at_front (b ∷ bs) e
held_at b bs false e h more = one_behind b bs (more (rw e at h))

held_occurs : (text : List ℕ) → holds_label_name text ≡ true → Contains text label_name
held_occurs [] h = absurd (grind (arith, h))
held_occurs (b ∷ bs) h = held_at b bs (bytes_eq (take 12 (b ∷ bs)) label_name) refl h (held_occurs bs)

pub or_behind : (a b : Bool) → b ≡ true → (a || b) ≡ true
or_behind true b h = refl
or_behind false b h = h

occurs_held : (text : List ℕ) (k : ℕ) → OccursAt text label_name k → holds_label_name text ≡ true
occurs_held [] k h =
    let fits : k + 12 ≤ 0 = h.fits in
    absurd (omega (arith, fits))
occurs_held (b ∷ bs) zero h =
    let is : take 12 (b ∷ bs) ≡ label_name = OccursAt-part (b ∷ bs) label_name 0 h in
    rw ((bytes_eq-Decides (take 12 (b ∷ bs)) label_name).1 is) refl
occurs_held (b ∷ bs) (suc k) h =
    let fits : suc k + 12 ≤ length (b ∷ bs) = h.fits in
    or_behind (bytes_eq (take 12 (b ∷ bs)) label_name) (holds_label_name bs)
    (occurs_held bs k (OccursAt-from_part bs label_name k (omega (arith, fits))
    (OccursAt-part (b ∷ bs) label_name (suc k) h)))

same : (a b : Bool) → (a ≡ true → b ≡ true) → (b ≡ true → a ≡ true) → a ≡ b
same true b there back = sym (there refl)
same false true there back = back refl
same false false there back = refl

pub held : (text : List ℕ) (found : Bool) → (IsTrue found ↔ Contains text label_name)
    → found ≡ holds_label_name text
held text found h =
    same found (holds_label_name text) (λ t. let at = h.0 t in occurs_held text at.0 at.1)
    (λ t. h.1 (held_occurs text t))
