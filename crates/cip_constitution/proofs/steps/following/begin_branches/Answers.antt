use Rattle.std.proofs.Common.{◌≡◌, ◌-◌, ℕ, List, length, slice_index, arith, ap, ◌∙◌}
use Rattle.std.specs.List.{range_with_len}
use Rattle.std.proofs.lemmas.List.FromFn.{length-range_with_len, get_or-range_with_len}
use Rattle.cip_partition.specs.ReservedList.{ReservedList}
use Rattle.cip_constitution.proofs.lemmas.followed.Branches.{begins_now}
use Rattle.cip_constitution.proofs.steps.following.begin_branches.Goals as goal

pub begin-requires-clause-room : goal.begin-requires-clause-room
begin-requires-clause-room c =
    let fits = c.len-past.ensures in
    let tops = ap (λ (ns : List ℕ). length ns) (c.as_slice.ensures
    ∙ ap (λ (t : ReservedList ℕ). t.items) c.fill_tops.ensures) in
    let len = length-range_with_len 1 (c.len-past.result - 1) in
    let wide = c.requires.room in
    omega (arith, tops, len, wide, fits.fits)

pub begin-requires-clause-keyed : goal.begin-requires-clause-keyed
begin-requires-clause-keyed c = λ k lt.
    let is = c.as_slice.ensures ∙ ap (λ (t : ReservedList ℕ). t.items) c.fill_tops.ensures in
    let tops = ap (λ (ns : List ℕ). length ns) is in
    let len = length-range_with_len 1 (c.len-past.result - 1) in
    let at = ap (λ (ns : List ℕ). slice_index ns k) is
    ∙ get_or-range_with_len 1 (c.len-past.result - 1) k 0 (omega (arith, lt, tops, len)) in
    omega (arith, at, lt, tops, len, c.len-past.ensures.len)

pub returns-clause-followed : goal.returns-clause-followed
returns-clause-followed c setting grown one =
    let a = c.args.arena.now in
    let tops : c.as_slice.result.now ≡ range_with_len 1 (length a.nodes - 1) = c.as_slice.ensures
    ∙ ap (λ (t : ReservedList ℕ). t.items) c.fill_tops.ensures
    ∙ ap (λ n. range_with_len 1 (n - 1)) c.len-past.ensures.len in
    begins_now setting.graph setting.positions a grown.holds grown.last grown.fits one c.begin.new.self
    c.as_slice.result.now tops c.begin.ensures.begun c.begin.ensures.followed c.begin.ensures.first
    c.begin.ensures.last c.begin.ensures.chosen
