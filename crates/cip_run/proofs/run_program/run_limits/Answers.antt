use Rattle.std.proofs.Common.{◌≡◌, ℕ, None, subst, sym}
use Rattle.std.specs.Prelude.{◌↔◌}
use Rattle.cip_words.specs.Settings.{settings_of}
use Rattle.cip_commands.specs.Endings.{status_of}
use Rattle.cip_commands.specs.ExitStatuses.{WORDS_REFUSED}
use Rattle.cip_commands.specs.Runs.{IsStatus}
use Rattle.cip_commands.proofs.lemmas.Answered.{ending_is_status}
use Rattle.cip_commands.proofs.lemmas.Meanings.{refused}
use Rattle.cip_run.proofs.run_program.run_limits.Goals as goal

pub returns-clause-status : goal.returns-clause-status
returns-clause-status g c = subst IsStatus (sym c.status.ensures) (ending_is_status c.run_command-ending.result)

pub returns-clause-refused : goal.returns-clause-refused
returns-clause-refused g c =
    let settings = settings_of c.args.words.now in
    subst (λ (status : ℕ). (status ≡ WORDS_REFUSED) ↔ (settings ≡ None)) (sym c.status.ensures)
    (refused settings c.args.limits (status_of c.run_command-ending.result) _ _ c.run_command-ending.ensures.meant)

pub returns-clause-unwritten : goal.returns-clause-unwritten
returns-clause-unwritten g c =
    let settings = settings_of c.args.words.now in
    let words : (status_of c.run_command-ending.result ≡ WORDS_REFUSED) ↔ (settings ≡ None) =
    refused settings c.args.limits (status_of c.run_command-ending.result) _ _ c.run_command-ending.ensures.meant in
    λ is. c.run_command-ending.ensures.unwritten (words.0 (subst (λ (status : ℕ). status ≡ WORDS_REFUSED) c.status.ensures is))
