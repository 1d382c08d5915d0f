use Rattle.std.proofs.Common.{rules, ◌≡◌, [], ◌∷◌}
use Rattle.cip_ctfile.proofs.lemmas.Turns.{over_next, over_refused, over_done}
use Rattle.cip_v3000.specs.Keys.{with_key}
use Rattle.cip_v3000.specs.Words.{words_of}
use Rattle.cip_v3000.proofs.values.keys.atom_keys.Goals as goal

pub returns-in-Err-clause-value : goal.returns-in-Err-clause-value
returns-in-Err-clause-value c =
    let next : words_of c.loop-word.rest.now ≡ c.in-Some.word.now ∷ words_of c.in-Some.behind.now = search rules in
    over_refused with_key c.loop-word.keys c.in-Err.cause _ _ _ _ next
    c.in-Err.ensures.value c.loop-word.invariant.so_far

pub loop-word-preserved : goal.loop-word-preserved
loop-word-preserved c =
    let next : words_of c.loop-word.rest.now ≡ c.in-Some.word.now ∷ words_of c.in-Some.behind.now = search rules in
    record {
      so_far = over_next with_key c.loop-word.keys c.in-Ok.next _ _ _ _ next
          c.in-Ok.ensures.value c.loop-word.invariant.so_far;
      range = c.in-Ok.ensures.range;
    }

pub returns-clause-value : goal.returns-clause-value
returns-clause-value c =
    let done : words_of c.loop-word.rest.now ≡ [] = search rules in
    over_done with_key c.loop-word.keys _ _ done c.loop-word.invariant.so_far
