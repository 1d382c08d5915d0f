use Rattle.std.proofs.Common.{rules, arith, ◌≡◌, ◌≤◌, ◌+◌, ◌++◌, ◌∙◌, ℕ, List, All, ap, drop, length, length-append, refl, subst, sym, true}
use Rattle.std.proofs.lemmas.List.{drop_all}
use Rattle.std.proofs.lemmas.List.Elements.{All-same}
use Rattle.cip_text.specs.Lines.{ends_with_byte}
use Rattle.cip_frame.specs.Records.{open_line}
use Rattle.cip_frame.proofs.lemmas.PlainLines.{none_open}
use Rattle.cip_frame.proofs.framer.Framer.take_plain.Goals.{then-is_empty+in-Ok, else-is_empty}
use Rattle.cip_frame.proofs.framer.Framer.take_plain.Goals as goal

-- after lines that have ended none is open
none_begun : (items front lines : List ℕ) (line limit now : ℕ) → items ≡ front ++ lines → line ≡ length items
    → ends_with_byte 10 lines ≡ true → length front + length lines ≤ limit → now ≡ limit
    → (line ≤ length items) × (drop line items ≡ open_line items) × (length items ≤ now)
none_begun items front lines line limit now added all ended room same = (
  omega (arith, all),
  drop_all line items (omega (arith, all)) ∙ sym (ap open_line added ∙ none_open front lines ended),
  omega (arith, ap length added, length-append front lines, room, same),
)

pub invariant_of-self-2 : goal.invariant_of-self-2
invariant_of-self-2 c =
    let inside = c.self.inside in
    let now = c.if-is_empty.self-inside in
    let front : now.open_bytes.items ≡ inside.open_bytes.items = elim c.if-is_empty.branch [
      | then-is_empty+in-Ok w ↦ rw w.self-inside-is w.in-Ok.ensures.items
      | else-is_empty w ↦ rw w.self-inside-is refl
    ] in
    let limit : now.limit ≡ inside.limit = elim c.if-is_empty.branch [
      | then-is_empty+in-Ok w ↦ rw w.self-inside-is refl
      | else-is_empty w ↦ rw w.self-inside-is refl
    ] in
    let waiting : now.waiting.items ≡ inside.waiting.items = elim c.if-is_empty.branch [
      | then-is_empty+in-Ok w ↦ rw w.self-inside-is refl
      | else-is_empty w ↦ rw w.self-inside-is refl
    ] in
    let added = c.in-Ok-extend_from_slice.ensures.items ∙ ap (λ xs. xs ++ c.args.lines.now) front in
    let all : c.len-self-inside.result ≡ length c.extend_from_slice.new.self.items = search rules in
    let room : length inside.open_bytes.items + length c.args.lines.now ≤ inside.limit = search rules in
    let begun = none_begun c.extend_from_slice.new.self.items inside.open_bytes.items c.args.lines.now
    c.len-self-inside.result inside.limit now.limit added all c.requires.plain.ended room limit in (
      begun.0,
      begun.1,
      begun.2,
      subst (λ n. All (λ bytes. length bytes ≤ n) now.waiting.items) (sym limit)
          (All-same (λ bytes. length bytes ≤ inside.limit) _ _ waiting c.self.invariant.3),
    )
