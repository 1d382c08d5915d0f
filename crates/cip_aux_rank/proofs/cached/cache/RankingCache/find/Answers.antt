use Rattle.std.proofs.Common.{◌≡◌, ◌<◌, ◌∙◌, List, Some, get_or, length, slice_get, sym, ap, subst}
use Rattle.std.proofs.lemmas.List.{length-map}
use Rattle.std.proofs.lemmas.Option.{same_Some}
use Rattle.cip_aux_rank.specs.RankingCache.{Asks, LigandQuery, look_of}
use Rattle.cip_aux_rank.specs.declared.cached.cache.CachedRanking.{CachedRanking}
use Rattle.cip_aux_rank.proofs.lemmas.OpenAgain.{made_at}
use Rattle.cip_aux_rank.proofs.cached.cache.RankingCache.find.Goals as goal

pub returns-then-asks-clause-within : goal.returns-then-asks-clause-within
returns-then-asks-clause-within c =
    subst (λ (ls : List LigandQuery). c.loop-place.place < length ls) c.self.view_is
    (subst (λ n. c.loop-place.place < n)
    (ap (λ (ls : List CachedRanking). length ls) c.deref-entry-items.ensures.value
    ∙ sym (length-map c.self.inside.looks.items look_of)) c.loop-place-test.true)

pub returns-then-asks-clause-asks : goal.returns-then-asks-clause-asks
returns-then-asks-clause-asks c = λ entry at.
    let items = c.self.inside.looks.items in
    let place = c.loop-place.place in
    let one = c.entry-item.result in
    let is : slice_get c.args.self.now place ≡ Some (look_of one) =
    made_at look_of items c.args.self.now c.self.view_is place one (returns-then-asks-clause-within c)
    (c.entry-item.is ∙ ap (λ (ls : List CachedRanking). get_or ls place one) c.deref-entry-items.ensures.value) in
    subst (λ (l : LigandQuery). Asks l c.args.node c.args.ligands.now) (same_Some (look_of one) entry (sym is ∙ at))
    (c.asks.ensures c.if-asks.true)
