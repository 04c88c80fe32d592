-- The records in a cache's own memory.
use Rattle.std.specs.Prelude.{List, map, vec_items}
use Rattle.bounded.specs.Held.{held}
use Rattle.store.specs.Pairs.{Pair, pair}
use Rattle.cache.specs.declared.copies.Copied.{Copied}
use Rattle.cache.specs.declared.copies.Copies.{Copies}

-- the pair that a copy is of
abbrev pub copy_of : Copied → Pair
copy_of c = pair c.name.bytes (held c.content)

-- the pairs held, the latest first
abbrev pub kept : Copies → List Pair
kept c = map copy_of (vec_items c.latest)
