-- A stream of which nothing was processed, for want of memory.
use Rattle.std.proofs.Common.{List, ℕ, rules}
use Rattle.std.specs.Prelude.{Some, None, Err, IfSome}
use Rattle.std.specs.declared.option.Option.{Option}
use Rattle.cip_batch.specs.Endings.{EndsAs}
use Rattle.cip_batch.specs.ExpectedOutput.{ExpectedOutput}
use Rattle.cip_batch.specs.declared.limits.Limits.{Limits}
use Rattle.cip_batch.specs.declared.error.StreamError.TheVariants as stops

pub nothing_told : {N : Type 0} (expected : ExpectedOutput N) (limits : Limits) (left old : Option (List ℕ))
    → IfSome left (EndsAs expected limits (Err stops.Memory) old old)
nothing_told expected limits None old = search rules
nothing_told expected limits (Some bytes) old = search rules
