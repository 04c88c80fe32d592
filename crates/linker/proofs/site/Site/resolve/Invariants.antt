use Rattle.std.proofs.Common.{◌≡◌, map, take}
use Rattle.bounded.specs.Held.{held}
use Rattle.linker.specs.Place.{resolved_by}
use Rattle.linker.proofs.site.Site.resolve.Given as goal

abbrev pub invariant-loop-r : goal.invariant-loop-r
invariant-loop-r l = held l.targets ≡ map (resolved_by l.self.names.now l.self.place l.self.imports.now) (take l.r-index l.references)
