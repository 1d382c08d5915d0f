use Rattle.std.proofs.Common.{arith, ◌≡◌, ◌≤◌, ◌∙◌, ℕ, List, [], Vec, Global, ap, length, refl, subst, sym}
use Rattle.std.proofs.lemmas.List.Elements.{All-push, All-same}
use Rattle.cip_frame.specs.Records.{open_line}
use Rattle.cip_frame.proofs.framer.Framer.close.Goals as goal

nothing_open : (items : List ℕ) (limit : ℕ) → items ≡ []
    → (0 ≤ length items) × (items ≡ open_line items) × (length items ≤ limit)
nothing_open items limit none = rw none (omega arith, refl, omega arith)

pub invariant_of-self-2 : goal.invariant_of-self-2
invariant_of-self-2 c =
    let few = λ (bytes : List ℕ). length bytes ≤ c.self.inside.limit in
    let none : c.replace-whole.new.dest.items ≡ [] =
    ap (λ (v : Vec ℕ Global). v.items) c.replace-whole.ensures.after ∙ c.new.ensures.items in
    let whole : c.from_vec.result ≡ c.self.inside.open_bytes.items =
    c.from_vec.ensures ∙ ap (λ (v : Vec ℕ Global). v.items) c.replace-whole.ensures.value in
    let begun = nothing_open c.replace-whole.new.dest.items c.self.inside.limit none in (
      begun.0,
      begun.1,
      begun.2,
      All-same few _ _ c.push_back_reserved.ensures.items
          (All-push few c.reserve.new.self.items c.from_vec.result
          (All-same few _ _ c.in_default.ensures.items c.self.invariant.3)
          (subst few (sym whole) c.self.invariant.2)),
    )
