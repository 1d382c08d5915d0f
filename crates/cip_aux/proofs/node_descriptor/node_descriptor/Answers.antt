use Rattle.std.proofs.Common.{rules, ◌<◌, ◌∙◌, refl, subst, length, arith}
use Rattle.std.proofs.lemmas.Grind.{common_steps}
use Rattle.cip_aux.specs.DescriptorsInside.{IsUnitLetter}
use Rattle.cip_aux.specs.UnitIndex.{unit_at}
use Rattle.cip_digraph.proofs.lemmas.OddTurns.{all_rest}
use Rattle.cip_aux.proofs.lemmas.UnitLetters.{ends_leave, none_here}
use Rattle.cip_aux.proofs.node_descriptor.node_descriptor.Goals as goal

pub loop-rest-init : goal.loop-rest-init
loop-rest-init g c = record {
  room = refl;
  stands = c.requires.stands;
  kept = c.requires.kept;
  kept_room = refl;
  low = c.of-rest.ensures.low;
  left = ends_leave c.args.inner.now c.args.inner.now.from c.args.vertex c.args.units.now c.of-rest.result.now
      c.requires.ready c.requires.vertex c.of-rest.ensures;
}

pub loop-rest-preserved : goal.loop-rest-preserved
loop-rest-preserved g c =
    let inner = c.args.inner.now in
    let all = c.args.units.now in
    record {
      room = c.unit_letter.ensures.room ∙ c.loop-rest.invariant.room;
      stands = c.unit_letter.ensures.stands;
      kept = c.unit_letter.ensures.kept;
      kept_room = c.unit_letter.ensures.kept_room ∙ c.loop-rest.invariant.kept_room;
      low = all_rest (λ place. place < length all) c.loop-rest.rest.now (search rules) c.loop-rest.invariant.low;
      left = none_here inner inner.from all c.loop-rest.rest.now _ (search rules)
          (subst (IsUnitLetter inner inner.from (unit_at all _)) c.in-Ok-None.field-0-is
          c.in-Ok-None.ensures.letter)
          c.loop-rest.invariant.left;
    }

pub unit_letter-requires-clause-ready : goal.unit_letter-requires-clause-ready
unit_letter-requires-clause-ready g c = c.requires.ready

pub unit_letter-requires-clause-vertex : goal.unit_letter-requires-clause-vertex
unit_letter-requires-clause-vertex g c = c.requires.vertex

pub unit_letter-requires-clause-stands : goal.unit_letter-requires-clause-stands
unit_letter-requires-clause-stands g c = c.loop-rest.invariant.stands

pub unit_letter-requires-clause-kept : goal.unit_letter-requires-clause-kept
unit_letter-requires-clause-kept g c = c.loop-rest.invariant.kept

pub returns-in-Err-clause-room : goal.returns-in-Err-clause-room
returns-in-Err-clause-room g c = c.unit_letter.ensures.room ∙ c.loop-rest.invariant.room

pub returns-in-Err-clause-stands : goal.returns-in-Err-clause-stands
returns-in-Err-clause-stands g c = c.unit_letter.ensures.stands

pub returns-in-Err-clause-kept : goal.returns-in-Err-clause-kept
returns-in-Err-clause-kept g c = c.unit_letter.ensures.kept

pub returns-in-Err-clause-kept_room : goal.returns-in-Err-clause-kept_room
returns-in-Err-clause-kept_room g c =
    c.unit_letter.ensures.kept_room ∙ c.loop-rest.invariant.kept_room

pub returns-clause-room : goal.returns-clause-room
returns-clause-room g c = c.loop-rest.invariant.room

pub returns-clause-stands : goal.returns-clause-stands
returns-clause-stands g c = c.loop-rest.invariant.stands

pub returns-clause-kept : goal.returns-clause-kept
returns-clause-kept g c = c.loop-rest.invariant.kept

pub returns-clause-kept_room : goal.returns-clause-kept_room
returns-clause-kept_room g c = c.loop-rest.invariant.kept_room

pub returns-in-Ok-Some-clause-room : goal.returns-in-Ok-Some-clause-room
returns-in-Ok-Some-clause-room g c = c.unit_letter.ensures.room ∙ c.loop-rest.invariant.room

pub returns-in-Ok-Some-clause-stands : goal.returns-in-Ok-Some-clause-stands
returns-in-Ok-Some-clause-stands g c = c.unit_letter.ensures.stands

pub returns-in-Ok-Some-clause-kept : goal.returns-in-Ok-Some-clause-kept
returns-in-Ok-Some-clause-kept g c = c.unit_letter.ensures.kept

pub returns-in-Ok-Some-clause-kept_room : goal.returns-in-Ok-Some-clause-kept_room
returns-in-Ok-Some-clause-kept_room g c = c.unit_letter.ensures.kept_room ∙ c.loop-rest.invariant.kept_room

pub returns-clause-letter : goal.returns-clause-letter
returns-clause-letter g c = grind (arith, common_steps)
