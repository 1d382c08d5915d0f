use Rattle.std.proofs.Common.{◌≡◌, ◌<◌, ◌≤◌, ◌∙◌, ℕ, List, ap, sym, subst, length, arith}
use Rattle.std.specs.Prelude.{slice_index}
use Rattle.std.specs.declared.cmp.Ordering.{Ordering}
use Rattle.std.proofs.lemmas.List.{with_items_is}
use Rattle.cip_partition.specs.Parting.{PartsRows}
use Rattle.cip_partition.specs.Ranked.{Ranked}
use Rattle.cip_partition.specs.ReservedList.{ReservedList}
use Rattle.cip_partition.proofs.lemmas.PartedRows.{still_below}
use Rattle.cip_partition.proofs.partition.Partition.split_class.Goals as goal

-- what holds of columns holds of the lists that are lent of them
lent_below : (rows lent numbers lent_numbers : List ℕ) → lent ≡ rows → lent_numbers ≡ numbers
    → ((k : ℕ) → k < length rows → slice_index rows k < length numbers) → (k : ℕ) → k < length lent
    → slice_index lent k < length lent_numbers
lent_below rows lent numbers lent_numbers same alike below k within =
    let low = subst (λ xs. slice_index xs k < length numbers) (sym same)
    (below k (subst (λ xs. k < length xs) same within)) in
    subst (λ ns. slice_index lent k < length ns) (sym alike) low

parted_alike : (compare : ℕ → ℕ → Ordering) (first past : ℕ) (a b c d k l m n : List ℕ) → a ≡ k → b ≡ l → c ≡ m → d ≡ n
    → PartsRows compare first past a b c d → PartsRows compare first past k l m n
parted_alike compare first past a b c d k l m n p q r s parts =
    subst (λ x. PartsRows compare first past k l m x) s (subst (λ x. PartsRows compare first past k l x d) r
    (subst (λ x. PartsRows compare first past k x c d) q (subst (λ x. PartsRows compare first past x b c d) p parts)))

pub split_rows-requires : goal.split_rows-requires
split_rows-requires g c =
    let same = c.deref_mut.ensures.value ∙ ap (λ (rows : ReservedList ℕ). rows.items) c.rows.view_is in
    let alike = c.deref_mut-2.ensures.value ∙ ap (λ (numbers : ReservedList ℕ). numbers.items) c.numbers.view_is in
    let past = subst (λ xs. c.args.past ≤ length xs) (sym (same ∙ ap (λ (order : Ranked). order.rows) c.self.view_is))
    c.requires.within in
    let nodes = c.requires.nodes ∙ ap length (sym (alike ∙ ap (λ (order : Ranked). order.numbers) c.self.view_is)) in
    record {
      ordered = c.requires.ordered;
      rows = past;
      below = λ k low high. subst (λ n. slice_index c.deref_mut.result.now k < n) (sym nodes)
          (lent_below c.self.inside.rows.items c.deref_mut.result.now c.self.inside.numbers.items
          c.deref_mut-2.result.now same alike c.self.invariant.below k (omega (arith, high, past)));
      within = omega (arith, nodes);
      room = omega (arith, ap length same, c.self.invariant.fits, c.self.invariant.offsets_room);
    }

pub invariant_of-rows : goal.invariant_of-rows
invariant_of-rows g c =
    let rows = with_items_is c.rows.inside.items c.split_rows.new.rows (c.split_rows.auto.rows ∙ c.deref_mut.ensures.len) in
    let fits : length c.rows.inside.items.items ≤ c.rows.inside.room = c.rows.invariant.1 in
    let many = c.split_rows.auto.rows ∙ ap length c.deref_mut.ensures.value in
    (c.rows.invariant.0, rw rows (omega (arith, fits, many)), c.rows.invariant.2)

pub invariant_of-numbers : goal.invariant_of-numbers
invariant_of-numbers g c =
    let numbers = with_items_is c.numbers.inside.items c.split_rows.new.numbers
    (c.split_rows.auto.numbers ∙ c.deref_mut-2.ensures.len) in
    let fits : length c.numbers.inside.items.items ≤ c.numbers.inside.room = c.numbers.invariant.1 in
    let many = c.split_rows.auto.numbers ∙ ap length c.deref_mut-2.ensures.value in
    (c.numbers.invariant.0, rw numbers (omega (arith, fits, many)), c.numbers.invariant.2)

pub invariant_of-self : goal.invariant_of-self
invariant_of-self g c =
    let same = c.deref_mut.ensures.value ∙ ap (λ (rows : ReservedList ℕ). rows.items) c.rows.view_is in
    let alike = c.deref_mut-2.ensures.value ∙ ap (λ (numbers : ReservedList ℕ). numbers.items) c.numbers.view_is in
    let past = subst (λ xs. c.args.past ≤ length xs) (sym (same ∙ ap (λ (order : Ranked). order.rows) c.self.view_is))
    c.requires.within in
    let room = ap (λ (rows : ReservedList ℕ). rows.room) c.rows.view_is in
    let kept = c.split_rows.ensures.parted.kept.len in
    let rows = with_items_is c.rows.inside.items c.split_rows.new.rows
    (omega (arith, kept, ap length c.deref_mut.ensures.value, c.rows.inside.items.ok)) in
    let numbers = with_items_is c.numbers.inside.items c.split_rows.new.numbers
    (omega (arith, c.split_rows.ensures.parted.len, ap length c.deref_mut-2.ensures.value, c.numbers.inside.items.ok)) in
    record {
      few = omega (arith, room, c.self.invariant.few);
      fits = subst (λ xs. length xs ≤ c.rows.inside.room) (sym rows)
          (omega (arith, room, ap length same, kept, c.self.invariant.fits));
      numbers_room = ap (λ (numbers : ReservedList ℕ). numbers.room) c.numbers.view_is ∙ c.self.invariant.numbers_room ∙ sym room;
      offsets_room = c.split_rows.ensures.room ∙ c.self.invariant.offsets_room ∙ sym room;
      below = lent_below c.split_rows.new.rows _ c.split_rows.new.numbers _ rows numbers
          (still_below (g.S.NodeOrder.order c.args.by.now) c.args.first c.args.past c.deref_mut.result.now
          c.split_rows.new.rows c.deref_mut-2.result.now c.split_rows.new.numbers c.split_rows.ensures.parted past
          (lent_below c.self.inside.rows.items c.deref_mut.result.now c.self.inside.numbers.items
          c.deref_mut-2.result.now same alike c.self.invariant.below));
    }

pub returns-clause-parted : goal.returns-clause-parted
returns-clause-parted g c =
    let kept = c.split_rows.ensures.parted.kept.len in
    let order = g.S.NodeOrder.order c.args.by.now in
    let rows = with_items_is c.rows.inside.items c.split_rows.new.rows
    (omega (arith, kept, ap length c.deref_mut.ensures.value, c.rows.inside.items.ok)) in
    let numbers = with_items_is c.numbers.inside.items c.split_rows.new.numbers
    (omega (arith, c.split_rows.ensures.parted.len, ap length c.deref_mut-2.ensures.value, c.numbers.inside.items.ok)) in
    let same = c.deref_mut.ensures.value ∙ ap (λ (rows : ReservedList ℕ). rows.items) c.rows.view_is
    ∙ ap (λ (order : Ranked). order.rows) c.self.view_is in
    let alike = c.deref_mut-2.ensures.value ∙ ap (λ (numbers : ReservedList ℕ). numbers.items) c.numbers.view_is
    ∙ ap (λ (order : Ranked). order.numbers) c.self.view_is in
    parted_alike order c.args.first c.args.past _ _ _ _ _ _ _ _ same (sym rows) alike (sym numbers)
    c.split_rows.ensures.parted
