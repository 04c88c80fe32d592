-- What a log store holds, and what is left of a walk through it.
use Rattle.std.specs.Prelude.{ℕ, List, take, drop, vec_items}
use Rattle.store.specs.Pairs.{Pair}
use Rattle.log_store.specs.Chain.{records, log_pairs, placed}
use Rattle.log_store.specs.declared.logs.LogStore.{LogStore}
use Rattle.log_store.specs.declared.records.Records.{Records}

-- the records in the area, live and dead, from the front to the end of the log
abbrev pub records_of : LogStore → List (List ℕ)
records_of s = records (take s.end (vec_items s.area))

-- the pairs of the live ones
abbrev pub pairs_of : LogStore → List Pair
pairs_of s = log_pairs (records_of s)

-- the records from a walk's place on, each with the place where it begins
abbrev pub records_left : Records → List (ℕ × List ℕ)
records_left r = placed r.at (records (drop r.at r.log.now))
