use Rattle.std.proofs.Common.{◌∙◌, ℕ, List, IfOk, sym, ap, subst}
use Rattle.std.specs.declared.option.Option.{Option}
use Rattle.cip_aux.specs.InnerContext.{Ready}
use Rattle.cip_aux.specs.DescriptorsInside.{AreSeenTurns}
use Rattle.cip_aux_rank.specs.RankingCache.{AreOpen}
use Rattle.cip_aux_rank.specs.Room.{Room}
use Rattle.cip_aux_rank.proofs.lemmas.OpenAgain.{some_at}
use Rattle.cip_aux_rank.proofs.ranker.AuxRankerLigandRanker.ligand_parity.Goals as goal

pub resume-requires-clause-ready : goal.resume-requires-clause-ready
resume-requires-clause-ready g c = λ entry at.
    subst (Ready c.args.inner.now)
    (sym (c.in-Some.ensures.asks entry at).0) c.requires.ready

pub returns-in-Some-clause-parities : goal.returns-in-Some-clause-parities
returns-in-Some-clause-parities g c =
    let found = some_at c.self.inside.kept c.in-Some.place c.in-Some.ensures.within in
    let entry = found.0 in
    let asks = c.in-Some.ensures.asks entry found.1 in
    subst (λ (n : ℕ). IfOk c.resume.result (AreSeenTurns c.args.inner.now n c.args.ligands.now)) asks.0
    (subst (λ (ls : List (Option ℕ)). IfOk c.resume.result (AreSeenTurns c.args.inner.now entry.node ls)) asks.1
    (c.resume.ensures.parities entry found.1))

pub resume-requires-clause-place : goal.resume-requires-clause-place
resume-requires-clause-place g c = c.in-Some.ensures.within

pub resume-requires-clause-open : goal.resume-requires-clause-open
resume-requires-clause-open g c =
    subst (λ (room : Room). AreOpen room.bound c.args.inner.now.sight room.looks) (sym c.self.view_is)
    c.requires.stands

pub returns-in-Some-clause-room : goal.returns-in-Some-clause-room
returns-in-Some-clause-room g c = c.resume.ensures.ligand_branches ∙ ap (λ (room : Room). room.bound) c.self.view_is

pub returns-in-Some-clause-stands : goal.returns-in-Some-clause-stands
returns-in-Some-clause-stands g c =
    subst (λ n. AreOpen n c.args.inner.now.sight c.resume.new.self) (sym c.resume.ensures.ligand_branches) c.resume.ensures.open

pub rank_uncached-requires-clause-ready : goal.rank_uncached-requires-clause-ready
rank_uncached-requires-clause-ready g c = c.requires.ready

pub rank_uncached-requires-clause-next : goal.rank_uncached-requires-clause-next
rank_uncached-requires-clause-next g c = c.requires.ligands

pub rank_uncached-requires-clause-open : goal.rank_uncached-requires-clause-open
rank_uncached-requires-clause-open g c =
    subst (λ (room : Room). AreOpen room.bound c.args.inner.now.sight room.looks) (sym c.self.view_is)
    c.requires.stands

pub returns-in-None-clause-room : goal.returns-in-None-clause-room
returns-in-None-clause-room g c = c.rank_uncached.ensures.ligand_branches ∙ ap (λ (room : Room). room.bound) c.self.view_is

pub returns-in-None-clause-stands : goal.returns-in-None-clause-stands
returns-in-None-clause-stands g c =
    subst (λ n. AreOpen n c.args.inner.now.sight c.rank_uncached.new.kept) (sym c.rank_uncached.ensures.ligand_branches)
    c.rank_uncached.ensures.open

pub returns-in-None-clause-parities : goal.returns-in-None-clause-parities
returns-in-None-clause-parities g c = c.rank_uncached.ensures.parities
