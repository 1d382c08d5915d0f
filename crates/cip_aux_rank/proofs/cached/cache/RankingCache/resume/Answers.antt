use Rattle.std.proofs.Common.{◌<◌, ◌∙◌, All, List, IfOk, length, map, sym, ap, subst, arith}
use Rattle.std.proofs.lemmas.Grind.{common_steps}
use Rattle.std.proofs.lemmas.List.{length-map, map-set}
use Rattle.std.proofs.lemmas.List.Elements.{All-set}
use Rattle.std.proofs.lemmas.Option.{same_Some}
use Rattle.cip_aux.specs.DescriptorsInside.{AreSeenTurns}
use Rattle.cip_aux_rank.specs.RankingCache.{IsOpen, LigandQuery, look_of}
use Rattle.cip_aux_rank.proofs.lemmas.OpenAgain.{at_place, made_at}
use Rattle.cip_aux_rank.proofs.cached.cache.RankingCache.resume.Goals as goal

pub resume-requires-clause-ready : goal.resume-requires-clause-ready
resume-requires-clause-ready g c =
    c.requires.ready (look_of c.index_mut.result.now)
    (made_at look_of c.self.inside.looks.items c.args.self.now c.self.view_is c.args.place c.index_mut.result.now
    c.requires.place c.index_mut.ensures.value)

pub resume-requires-clause-open : goal.resume-requires-clause-open
resume-requires-clause-open g c =
    at_place (IsOpen c.args.ligand_branches.now.bound c.args.inner.now.sight) c.args.self.now c.args.place
    (look_of c.index_mut.result.now) c.requires.open.each
    (made_at look_of c.self.inside.looks.items c.args.self.now c.self.view_is c.args.place c.index_mut.result.now
    c.requires.place c.index_mut.ensures.value)

pub returns-clause-parities : goal.returns-clause-parities
returns-clause-parities g c = λ entry at.
    subst (λ (l : LigandQuery). IfOk c.resume.result (AreSeenTurns c.args.inner.now l.node l.ligands))
    (same_Some (look_of c.index_mut.result.now) entry
    (sym (made_at look_of c.self.inside.looks.items c.args.self.now c.self.view_is c.args.place c.index_mut.result.now
    c.requires.place c.index_mut.ensures.value) ∙ at)) c.resume.ensures.parities

pub returns-clause-open : goal.returns-clause-open
returns-clause-open g c =
    let looks = c.self.inside.looks.items in
    let open_look = IsOpen c.args.ligand_branches.now.bound c.args.inner.now.sight in
    record {
      room = c.requires.open.room;
      each = subst (All open_look) (sym (map-set look_of looks c.args.place c.resume.new.entry))
          (All-set open_look (map look_of looks) c.args.place (look_of c.resume.new.entry) c.resume.ensures.open
          (subst (All open_look) (sym c.self.view_is) c.requires.open.each));
    }

pub returns-clause-ligand_branches : goal.returns-clause-ligand_branches
returns-clause-ligand_branches g c = c.resume.ensures.ligand_branches

pub index_mut-requires : goal.index_mut-requires
index_mut-requires g c =
    let within : c.args.place < length c.self.inside.looks.items =
    subst (λ n. c.args.place < n)
    (sym (ap (λ (ls : List LigandQuery). length ls) c.self.view_is) ∙ length-map c.self.inside.looks.items look_of)
    c.requires.place in
    grind (arith, common_steps)
