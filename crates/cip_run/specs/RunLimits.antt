-- The limits of a run, in bytes: 16 MiB a record, and 1 TiB an input. Own.
use Rattle.cip_batch.specs.declared.limits.Limits.{Limits}

abbrev pub limits_of_run : Limits
limits_of_run = record { «record» = 16777216; input = 1099511627776 }
